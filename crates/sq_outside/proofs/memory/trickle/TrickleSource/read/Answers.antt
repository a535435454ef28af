use Rattle.std.proofs.Common.{◌≡◌, ℕ, ◌≤◌, List, ◌++◌, length, take, drop, Result, Ok, Err, IfOk, sym, ◌∙◌, ap, arith}
use Rattle.std.proofs.lemmas.List.{take-append-drop, drop-append-le}
use Rattle.sq_outside.specs.declared.failed.Failed.{Failed}
use Rattle.sq_outside.proofs.memory.trickle.TrickleSource.read.Goals as goal

-- after the bytes that were read the buffer is as it was, past the part that was lent too
whole_after : (result : Result ℕ Failed) (part buf : List ℕ) (room : ℕ) → length part ≡ length (take room buf) → IfOk result (λ n. n ≤ length (take room buf))
    → IfOk result (λ n. drop n part ≡ drop n (take room buf)) → IfOk result (λ n. drop n (part ++ drop room buf) ≡ drop n buf)
whole_after (Ok n) part buf room long within after =
    drop-append-le n part (drop room buf) (omega (arith, long, within))
    ∙ ap (λ (l : List ℕ). l ++ drop room buf) after
    ∙ sym (drop-append-le n (take room buf) (drop room buf) within)
    ∙ ap (drop n) (take-append-drop room buf)
whole_after (Err e) part buf room long within after = tt

pub returns-clause-after : goal.returns-clause-after
returns-clause-after g c = whole_after c.read.result c.read.new.buf c.args.buf.now c.min-room.result c.read.auto.buf c.read.ensures.within c.read.ensures.after
