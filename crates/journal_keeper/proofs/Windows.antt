-- Bytes read ahead.
use Rattle.std.proofs.Common.{◌≡◌, ℕ, ◌+◌, ◌-◌, ◌≤◌, List, length, take, drop, sym, ◌∙◌, ap, arith, length-take}
use Rattle.std.proofs.lemmas.List.{drop-take, drop-drop}

pub passed : (items : List ℕ) (from to n : ℕ) (view : List ℕ) → take (to - from) (drop from items) ≡ view → n ≤ length view → take (to - (from + n)) (drop (from + n) items) ≡ drop n view
passed items from to n view is within =
    let long = ap length is in
    let t = length-take (to - from) (drop from items) in
    let whole : to - from ≡ n + (to - (from + n)) = omega (arith, long, t, within) in
    sym (ap (drop n) (sym is)
    ∙ ap (λ (k : ℕ). drop n (take k (drop from items))) whole
    ∙ drop-take n (to - (from + n)) (drop from items)
    ∙ ap (take (to - (from + n))) (drop-drop n from items))
