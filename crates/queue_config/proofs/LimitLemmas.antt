-- The range of a limit's key.
use Rattle.std.proofs.Common.{◌≡◌, ◌<◌, ◌≤◌, ℕ, suc, ◌+◌, ◌^◌, ◌++◌, ℤ, pos, negsuc, List, length, codes, true, Some, arith, length-append}
use lib.Signed.{mag}
use Rattle.std.proofs.lemmas.Fmt.{length-decimal-le_wide, decimal_is_IsNumeral_wide}
use Rattle.std.specs.Fmt.{decimal, signed_decimal}
use Rattle.job_states.specs.Length.{IsName}
use Rattle.job_states.specs.Ranges.{is_limited}
use Rattle.queue_config.specs.declared.config.Limit.{Limit}
use Rattle.queue_config.specs.Limits.{limit_on}
use Rattle.queue_config.specs.Ranges.{IsLimit}

pub limit_range : (limit : Limit) (text : List ℕ) → IsLimit limit → IsName text → is_limited (limit_on limit (Some text)) ≡ true
limit_range limit text is name =
    let whole : length (limit.group ++ (codes "/" ++ text)) ≡ length limit.group + (1 + length text) = simp length-append in
    let group : IsName limit.group = is.group in
    let to : (1 ≤ limit.to) × (limit.to ≤ 65_535) = is.to in
    let duration : (1 ≤ limit.duration) × (limit.duration ≤ 31_536_000) = is.duration in
    rw whole (grind arith)

decimal_is_name : (n : ℕ) → n < 10 ^ 63 → (0 < length (decimal n)) × (length (decimal n) ≤ 63)
decimal_is_name n h = ((decimal_is_IsNumeral_wide n (omega arith)).0.0, length-decimal-le_wide 63 n (omega arith) h (omega arith))

pub whole_is_name : (z : ℤ) → mag z < 10 ^ 62 → IsName (signed_decimal z)
whole_is_name (pos n) h = let is = decimal_is_name n (omega arith) in omega arith
whole_is_name (negsuc n) h = let is = decimal_is_name (suc n) (omega arith) in omega arith
