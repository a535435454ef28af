-- Reading the elements of an array one after the other, as a loop does.
use Rattle.std.proofs.Common.{◌≡◌, ◌⊎◌, inl, inr, ◌<◌, ◌≤◌, ℕ, ◌+◌, List, [], ◌∷◌, ◌++◌, length, get_or, drop, Ok, Err, refl, sym, ◌∙◌, arith, length-drop}
use Rattle.std.proofs.lemmas.List.{nil_from_length}
use Rattle.toml.specs.Data.{Data}
use Rattle.toml.specs.View.{view, items_view}
use Rattle.toml.specs.declared.value.Value.{Value}
use Rattle.toml.proofs.Views.{items_view-drop}
use Rattle.toml_members.specs.declared.fault.SettingsFault.{SettingsFault}
use Rattle.toml_members.specs.declared.fault.SettingsFault.TheVariants.{NoMemory}
use Rattle.toml_members.specs.Fault.{Judged}
use Rattle.toml_members.specs.Key.{element_of}
use Rattle.toml_members.specs.Kind.{each}

-- one more element is read
pub goes_on : {X : Type 0} (judge : List X → List ℕ → Data → Judged X) (array : List ℕ) (values : List Value) (i : ℕ) (d value : Value) (before : List X) (x : X) → i < length values → value ≡ get_or values i d
    → judge before (element_of array (length before)) (view value) ≡ Ok x → each judge array before (items_view (drop i values)) ≡ each judge array (before ++ x ∷ []) (items_view (drop (i + 1) values))
unfolding each
goes_on judge array values i d value before x h at is = rw (items_view-drop values i d h, ← at, is) refl

-- a fault ends the whole
pub ends : {X : Type 0} (judge : List X → List ℕ → Data → Judged X) (array : List ℕ) (values : List Value) (i : ℕ) (d value : Value) (before : List X) (fault : SettingsFault) (total : Judged (List X)) → i < length values → value ≡ get_or values i d
    → (fault ≡ NoMemory) ⊎ (judge before (element_of array (length before)) (view value) ≡ Err fault) → each judge array before (items_view (drop i values)) ≡ total → (fault ≡ NoMemory) ⊎ (total ≡ Err fault)
unfolding each
ends {X} judge array values i d value before fault total h at (inl memory) so_far = inl memory
ends {X} judge array values i d value before fault total h at (inr is) so_far =
    let both : each judge array before (items_view (drop i values)) ≡ Err fault = rw (items_view-drop values i d h, ← at, is) refl in
    inr (sym so_far ∙ both)

pub is_done : {X : Type 0} (judge : List X → List ℕ → Data → Judged X) (array : List ℕ) (values : List Value) (i : ℕ) (before : List X) (total : Judged (List X)) → length values ≤ i → each judge array before (items_view (drop i values)) ≡ total → total ≡ Ok before
unfolding each
is_done {X} judge array values i before total h so_far =
    let rest : drop i values ≡ [] = nil_from_length (drop i values) (omega (arith, length-drop i values)) in
    let none = rw rest at so_far in
    sym none
