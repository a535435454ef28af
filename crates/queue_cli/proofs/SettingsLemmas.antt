-- Settings are judged by so much of their text as is read.
use Rattle.std.proofs.Common.{◌≡◌, ◌<◌, ◌≤◌, ◌⊎◌, ◌↔◌, inl, inr, ℕ, List, [], ◌++◌, length, take, append-nil, Option, None, Some, IfSome, ap, sym, ◌∙◌, codes, arith, length-take}
use Rattle.std.proofs.lemmas.List.{take_all}
use Rattle.std.specs.Io.KnownBytes.{Consumes}
use Rattle.queue_config.specs.Fault.{too_long}
use Rattle.queue_config.specs.Settings.{config_of}
use Rattle.queue_cli.specs.Settings.{TakesPrefix}

long_judged : (text : List ℕ) → 1048576 < length text → config_of text ≡ too_long (codes "length")
unfolding config_of
long_judged text long = grind (arith, long)

cases : (text : List ℕ) → (length text ≤ 1048577) ⊎ (1048577 < length text)
cases text = grind arith

pub judged_prefix : (text : List ℕ) → config_of (take 1048577 text) ≡ config_of text
judged_prefix text = elim (cases text) [
  | inl short ↦ ap config_of (take_all 1048577 text short)
  | inr long ↦ long_judged (take 1048577 text) (omega (arith, length-take 1048577 text)) ∙ sym (long_judged text (omega arith))
]

-- a read that gave nothing found the end
pub at_end : (left : Option (List ℕ)) (room n : ℕ) → IfSome left (λ bytes. 0 < room → (n ≡ 0) ↔ (bytes ≡ [])) → 0 < room → n ≡ 0 → IfSome left (λ bytes. bytes ≡ [])
at_end None room n end some none = tt
at_end (Some bytes) room n end some none = (end some).0 none

-- nothing is left, so what was taken is all
pub prefix_at_end : (left mid new : Option (List ℕ)) (text last : List ℕ) (most : ℕ) → length text ≤ most → Consumes left mid text → Consumes mid new last → last ≡ [] → IfSome mid (λ bytes. bytes ≡ []) → TakesPrefix most left new text
prefix_at_end None mid new text last most short taken read none end = record { taken = tt; whole = tt }
prefix_at_end (Some bytes) None new text last most short taken read none end = absurd taken
prefix_at_end (Some bytes) (Some rest) None text last most short taken read none end = absurd read
prefix_at_end (Some bytes) (Some rest) (Some after) text last most short taken read none end =
    let all : bytes ≡ text = taken ∙ ap (λ w. text ++ w) end ∙ append-nil text in
    let same : rest ≡ after = read ∙ ap (λ w. w ++ after) none in
    record { taken = taken ∙ ap (λ w. text ++ w) same; whole = sym (ap (take most) all ∙ take_all most text short) }
