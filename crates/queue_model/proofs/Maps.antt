-- What a finite map answers after each change.
use Rattle.std.proofs.Common.{◌≡◌, ℕ, Bool, true, false, cond, not, List, Option, None, Some, Ordering, ap, sym, ◌∙◌, refl, T}
use Rattle.std.specs.declared.cmp.Ordering.TheVariants.{Less, Equal, Greater}
use Rattle.std.specs.Ordering.{is_eq, eq_by_cmp, nat_cmp}
use Rattle.std.specs.Cmp.{IsTotalOrder, nat_cmp_total, eq_by_cmp_equiv, alike_right, tied_itself}
use Rattle.std.specs.Cmp.Lexicographic.{nat_list_cmp_total}
use Rattle.std.proofs.lemmas.Cmp.{on_total, then_total}
use Rattle.std.proofs.lemmas.Map.Lookups.{exact_pairs, exact_unsigned}
use Rattle.std.specs.FinMap.{IsAntisymmetric, nat_cmp-IsAntisymmetric, slice_cmp-IsAntisymmetric}
use Rattle.std.specs.FinMap.Entries.{put, find, is_sorted, is_sorted-put, find-put, find-where_key, find_tied, same_entries}
use Rattle.queue_model.specs.Map.{Map, checked, get, insert, remove, retain_keys}
use Rattle.queue_model.specs.Sights.{set}
use Rattle.queue_model.specs.World.{text_cmp, run_cmp}
use mathlib.Core.HLevel.{Σ_prop_path}
use lib.Dec.{T_prop}

turned : {A : Type 0} (b : Bool) (x y : A) → cond (not b) x y ≡ cond b y x
turned true x y = refl
turned false x y = refl

module _ {K X : Type 0} {R : K → K → Ordering} where
  pub same_entries_map : (m n : Map R X) → m.entries ≡ n.entries → m ≡ n
  same_entries_map m n e =
      let pairs : ◌≡◌ {A = (es : List (K × X)) × T (is_sorted R es)} (m.entries, m.sorted) (n.entries, n.sorted) = Σ_prop_path (λ es. T_prop _) e in
      λ i. record { entries = (pairs i).0; sorted = (pairs i).1 }

  entries-checked : (es : List (K × X)) (b : Bool) (e : is_sorted R es ≡ b) (m : Map R X) → T b → (checked es b e m).entries ≡ es
  entries-checked es true e m h = refl
  entries-checked es false e m h = absurd h

  -- a test that answers alike at keys that tie
  pub get-retain_keys : (m : Map R X) (p : K → Bool) (q : K) → ((x : K) → R q x ≡ Equal → p x ≡ p q) → get (retain_keys m p) q ≡ cond (p q) (get m q) None
  get-retain_keys m p q alike = find-where_key R p q alike m.entries

module _ {K : Type 0} {R : K → K → Ordering} (exact : IsAntisymmetric R) where
  apart : (q k : K) → ¬ (k ≡ q) → (r : Ordering) → R q k ≡ r → is_eq r ≡ false
  apart q k ne Less e = refl
  apart q k ne Equal e = absurd (ne (sym (exact q k e)))
  apart q k ne Greater e = refl

module _ {K X : Type 0} {R : K → K → Ordering} (o : IsTotalOrder R) where
  pub entries-insert : (m : Map R X) (k : K) (v : X) → (insert m k v).entries ≡ put R k v m.entries
  entries-insert m k v = entries-checked (put R k v m.entries) (is_sorted R (put R k v m.entries)) refl m (is_sorted-put R o k v m.entries m.sorted)

  pub get-insert : (m : Map R X) (k : K) (v : X) (q : K) → get (insert m k v) q ≡ cond (eq_by_cmp R q k) (Some v) (get m q)
  get-insert m k v q = ap (find R q) (entries-insert m k v) ∙ find-put R o q k v m.entries

  pub get-remove : (m : Map R X) (k q : K) → get (remove m k) q ≡ cond (eq_by_cmp R q k) None (get m q)
  get-remove m k q = get-retain_keys m (λ x. not (eq_by_cmp R k x)) q (λ x t. ap (λ r. not (is_eq r)) (sym (alike_right o q x k t)))
      ∙ turned (eq_by_cmp R k q) (get m q) None ∙ ap (λ b. cond b None (get m q)) ((eq_by_cmp_equiv o).symm k q)

  pub get-set : (m : Map R X) (k : K) (x : Option X) (q : K) → get (set m (Some k) x) q ≡ cond (eq_by_cmp R q k) x (get m q)
  get-set m k None q = get-remove m k q
  get-set m k (Some v) q = get-insert m k v q

  pub get-set_same : (m : Map R X) (k : K) (x : Option X) → get (set m (Some k) x) k ≡ x
  get-set_same m k x = get-set m k x k ∙ ap (λ r. cond (is_eq r) x (get m k)) (tied_itself o k)

  -- what stands at a key is written there again
  pub get-set_itself : (m : Map R X) (k q : K) → get (set m (Some k) (get m k)) q ≡ get m q
  get-set_itself m k q = get-set m k (get m k) q ∙ step (R q k) refl
    where
      step : (r : Ordering) → R q k ≡ r → cond (is_eq r) (get m k) (get m q) ≡ get m q
      step Less e = refl
      step Equal e = find_tied R o q k e m.entries
      step Greater e = refl

  -- one change of two maps
  pub get-set_both : (m n : Map R X) (k : Option K) (x : Option X) (q : K) → get m q ≡ get n q → get (set m k x) q ≡ get (set n k x) q
  get-set_both m n None x q e = e
  get-set_both m n (Some k) x q e = get-set m k x q ∙ ap (cond (eq_by_cmp R q k) x) e ∙ sym (get-set n k x q)

  module _ (exact : IsAntisymmetric R) where
    pub same_map : (m n : Map R X) → ((q : K) → get m q ≡ get n q) → m ≡ n
    same_map m n is = same_entries_map m n (same_entries R o exact m.entries n.entries m.sorted n.sorted is)

    pub get-set_other : (m : Map R X) (k : Option K) (x : Option X) (q : K) → ¬ (k ≡ Some q) → get (set m k x) q ≡ get m q
    get-set_other m None x q ne = refl
    get-set_other m (Some k) x q ne = get-set m k x q ∙ ap (λ b. cond b x (get m q)) (apart exact q k (λ e. ne (ap Some e)) (R q k) refl)

-- ---- the orders

pub texts_total : IsTotalOrder text_cmp
texts_total = nat_list_cmp_total

pub exact_texts : IsAntisymmetric text_cmp
exact_texts = slice_cmp-IsAntisymmetric nat_cmp-IsAntisymmetric

pub runs_total : IsTotalOrder run_cmp
runs_total = then_total (on_total (λ (r : List ℕ × ℕ). r.0) nat_list_cmp_total) (on_total (λ (r : List ℕ × ℕ). r.1) nat_cmp_total)

pub exact_runs : IsAntisymmetric run_cmp
exact_runs = exact_pairs text_cmp nat_cmp exact_texts exact_unsigned
