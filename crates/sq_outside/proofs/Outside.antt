-- Places outside of the ranges that were written.
use Rattle.std.proofs.Common.{◌≡◌, ◌⊎◌, ⊎_elim, ℕ, zero, suc, ◌+◌, ◌-◌, ◌<◌, ◌≤◌, List, [], ◌∷◌, length, get_or, ◌∙◌, ap, subst, arith}
use Rattle.std.specs.Prelude.{Any, reverse}
use Rattle.std.proofs.lemmas.List.{get_or-reverse, length-reverse}
use Rattle.sq_outside.specs.File.{IsOutside}
use Rattle.sq_outside.specs.declared.memory.range.Range.{Range}

outside_at : (ranges : List Range) (place k : ℕ) (d : Range) → IsOutside ranges place → k < length ranges → (place < (get_or ranges k d).at) ⊎ ((get_or ranges k d).at + (get_or ranges k d).count ≤ place)
outside_at [] place k d outside below = absurd (omega arith)
outside_at (range ∷ ranges) place zero d outside below = outside.0
outside_at (range ∷ ranges) place (suc k) d outside below = outside_at ranges place k d outside.1 (omega arith)

pub within_not_outside : (ranges : List Range) (place : ℕ) → Any (λ range. (range.at ≤ place) × (place < range.at + range.count)) ranges → IsOutside (reverse ranges) place → ⊥
within_not_outside ranges place any outside =
    let k = any.0 in
    let range = any.1 in
    let long = length-reverse ranges in
    let j = length ranges - 1 - k in
    let same : get_or (reverse ranges) j range ≡ range =
    get_or-reverse ranges j range (omega (arith, any.2)) ∙ ap (λ (i : ℕ). get_or ranges i range) (omega (arith, any.2)) ∙ any.3 in
    let apart = subst (λ (r : Range). (place < r.at) ⊎ (r.at + r.count ≤ place)) same (outside_at (reverse ranges) place j range outside (omega (arith, any.2))) in
    ⊎_elim (λ before. omega (arith, any.4)) (λ past. omega (arith, any.4)) apart
