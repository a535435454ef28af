use Rattle.std.proofs.Common.{◌≡◌, ◌∙◌, List, ℕ, ◌++◌, ◌+◌, ◌-◌, length, take, drop, ap, arith, length-drop}
use Rattle.std.proofs.lemmas.List.{take-append-drop, take_all}
use Rattle.std.proofs.Math.Seq.{take-append_seam}
use Rattle.sq_outside.specs.File.{overwritten}
use Rattle.sq_outside.proofs.memory.file.copy_rest.Goals as goal

-- bytes that begin alike, after the rest was written over
rest_copied : (bytes other : List ℕ) (alike : ℕ) → take alike bytes ≡ take alike other → take (length other) (overwritten bytes alike (drop alike other)) ≡ other
rest_copied bytes other alike same =
    ap (λ (l : List ℕ). take (length other) (l ++ drop alike other ++ drop (alike + length (drop alike other)) bytes)) same
    ∙ ap (λ (l : List ℕ). take (length other) (l ++ drop (alike + length (drop alike other)) bytes)) (take-append-drop alike other)
    ∙ take-append_seam other (drop (alike + length (drop alike other)) bytes)

pub returns-clause-ok : goal.returns-clause-ok
returns-clause-ok c =
    let other = c.args.other.now in
    let piece = take_all (length other - c.args.alike) (drop c.args.alike other) (omega (arith, length-drop c.args.alike other)) in
    c.truncate.ensures.items
    ∙ ap (take (length other)) (c.in_ok-overwrite.ensures.ok ∙ ap (overwritten c.args.bytes.now.items c.args.alike) piece)
    ∙ rest_copied c.args.bytes.now.items other c.args.alike c.requires.alike
