-- At some seat nothing is open.
use Rattle.std.proofs.Common.{◌≡◌, ◌+◌, ◌<◌, ◌≤◌, ℕ, List, [], ◌∷◌, cond, None, Some, ap, ◌∙◌, refl, arith}
use Rattle.std.proofs.lemmas.Bool.{ne_eqb}
use Rattle.std.specs.Cmp.{unsigned_tied}
use Rattle.std.specs.FinMap.Entries.{find}
use Rattle.std.specs.Ordering.{nat_cmp}
use Rattle.queue_model.specs.Map.{Map, get}

passed_over : {X : Type 0} (k : ℕ) (e : ℕ × X) (es : List (ℕ × X)) → e.0 < k → find nat_cmp k es ≡ None → find nat_cmp k (e ∷ es) ≡ None
passed_over k e es above none = ap (λ b. cond b (Some e.1) (find nat_cmp k es)) (unsigned_tied k e.0 ∙ ne_eqb k e.0 (λ same. omega (arith, same, above))) ∙ none

above_all : {X : Type 0} (es : List (ℕ × X)) → (top : ℕ) × ((k : ℕ) → top ≤ k → find nat_cmp k es ≡ None)
above_all [] = (0, λ k le. refl)
above_all (e ∷ es) = let rest = above_all es in (rest.0 + e.0 + 1, λ k le. passed_over k e es (omega (arith, le)) (rest.1 k (omega (arith, le))))

pub vacant : {X : Type 0} (m : Map nat_cmp X) → (k : ℕ) × (get m k ≡ None)
vacant m = let top = above_all m.entries in (top.0, top.1 top.0 (omega arith))
