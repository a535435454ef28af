use Rattle.std.proofs.Common.{inr, Option, None, Some, Result, Ok, Err, IfOk, IfNone, ◌⊎◌}
use Rattle.http_wire.proofs.carry.Carry.head_ahead.Goals as goal

none_or : (A B : Type 0) {T E : Type 0} (r : Result (Option T) E) → IfOk r (λ answer. IfNone answer B) → IfOk r (λ answer. IfNone answer (A ⊎ B))
none_or A B (Ok None) fact = inr fact
none_or A B (Ok (Some x)) fact = tt
none_or A B (Err e) fact = tt

pub returns-clause-none : goal.returns-clause-none
returns-clause-none c = none_or _ _ c.read_head_at.result (rw c.prefix-prefix.ensures.bytes at c.read_head_at.ensures.open)
