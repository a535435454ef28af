-- A finite map as a value that computes: the list of its entries, whose keys strictly rise. So two maps that answer alike
-- are equal.
use Rattle.std.specs.Prelude.{◌≡◌, Bool, true, false, not, T, List, [], ◌∷◌, map, Option}
use Rattle.std.proofs.Common.{refl, sym, subst}
use Rattle.std.specs.Ordering.{eq_by_cmp}
use Rattle.std.specs.declared.cmp.Ordering.{Ordering}
use Rattle.std.specs.FinMap.Entries.{find, put, is_sorted, where_key, is_sorted-where_key}

pub record Map {K : Type 0} (R : K → K → Ordering) (X : Type 0) : Type 0 where
  pub entries : List (K × X)
  pub sorted : T (is_sorted R entries)

module _ {K X : Type 0} {R : K → K → Ordering} where
  abbrev pub empty : Map R X
  empty = record { entries = []; sorted = tt }

  abbrev pub get : Map R X → K → Option X
  get m k = find R k m.entries

  -- these entries where their keys rise, as they do after each change below, and else the map as it was
  abbrev pub checked : (entries : List (K × X)) (b : Bool) → is_sorted R entries ≡ b → Map R X → Map R X
  checked entries true e m = record { entries = entries; sorted = subst T (sym e) tt }
  checked entries false e m = m

  abbrev pub insert : Map R X → K → X → Map R X
  insert m k v = checked (put R k v m.entries) (is_sorted R (put R k v m.entries)) refl m

  -- what stands at the keys that pass
  abbrev pub retain_keys : Map R X → (K → Bool) → Map R X
  retain_keys m passes = record { entries = where_key R passes m.entries; sorted = is_sorted-where_key R passes m.entries m.sorted }

  abbrev pub remove : Map R X → K → Map R X
  remove m k = retain_keys m (λ other. not (eq_by_cmp R k other))

  abbrev pub values : Map R X → List X
  values m = map (λ e. e.1) m.entries

  -- at a key that stands twice it has the first value
  abbrev pub from_entries : List (K × X) → Map R X
  from_entries [] = empty
  from_entries (e ∷ es) = insert (from_entries es) e.0 e.1
