-- What a command of many keeps, case by case.
use Rattle.std.proofs.Common.{◌≡◌, ℕ, Bool, true, false, cond, ◌+◌, nat_lt, List, [], ◌∷◌, Option, None, Some, map, fold, refl}
use Rattle.plan_model.specs.Drafts.{Draft, and_case}
use Rattle.plan_model.specs.Scenes.{Scene, are_free}
use Rattle.plan_model.proofs.Spending.{IsNotSpent, Rises, Holds, holds_next}

pub picked : {A : Type 0} (P : A → Type 0) (b : Bool) (x y : A) → P x → P y → P (cond b x y)
picked P true x y p q = p
picked P false x y p q = q

-- What holds of a draft where these items are left. An item that is left out leaves it, and so does one that is done.
module _ {A : Type 0} (s : Scene) (most : ℕ) (case : A → Draft → Option Draft) (P : List A → Draft → Type 0)
    (left_out : (x : A) (xs : List A) (d : Draft) → P (x ∷ xs) d → P xs d)
    (rises : (x : A) (d e : Draft) → case x d ≡ Some e → Rises d.given e.given)
    (done : (x : A) (xs : List A) (d e : Draft) → case x d ≡ Some e → P (x ∷ xs) d → IsNotSpent d.given e.given → P xs e) where
  one_more : (x : A) (xs : List A) (so_far : Draft × ℕ) → Holds s (P (x ∷ xs)) so_far.0 → Holds s (P xs) (and_case s most so_far (case x)).0
  one_more x xs so_far h = by (case x so_far.0) refl
    where
      out : Holds s (P xs) so_far.0
      out = record { rises = h.rises; holds = λ unspent. left_out x xs so_far.0 (h.holds unspent) }

      by : (o : Option Draft) → case x so_far.0 ≡ o → Holds s (P xs) (and_case s most so_far (λ d. o)).0
      by None e = picked (λ (r : Draft × ℕ). Holds s (P xs) r.0) (nat_lt so_far.1 most) so_far so_far out out
      by (Some d) e =
          let next : Holds s (P xs) d = holds_next s (P (x ∷ xs)) (P xs) so_far.0 d h (rises x so_far.0 d e) (done x xs so_far.0 d e) in
          picked (λ (r : Draft × ℕ). Holds s (P xs) r.0) (nat_lt so_far.1 most) (cond (are_free s.book d.rows) (d, so_far.1 + 1) so_far) so_far
          (picked (λ (r : Draft × ℕ). Holds s (P xs) r.0) (are_free s.book d.rows) (d, so_far.1 + 1) so_far next out) out

  pub each_kept : (xs : List A) (so_far : Draft × ℕ) → Holds s (P xs) so_far.0 → Holds s (P []) (fold (and_case s most) so_far (map case xs)).0
  each_kept [] so_far h = h
  each_kept (x ∷ xs) so_far h = each_kept xs (and_case s most so_far (case x)) (one_more x xs so_far h)
