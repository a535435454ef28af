use Rattle.std.proofs.Common.{Option, None, Some, IfNone}
use Rattle.http_wire.specs.Stream.{input_of}
use Rattle.http_wire.proofs.StepLemmas.{next_over}
use Rattle.http_wire.proofs.carry.Carry.next.Goals as goal

if_none : {X : Type 0} (o : Option X) (P : Type 0) → P → IfNone o P
if_none None P holds = holds
if_none (Some x) P holds = tt

pub returns-clause-answer : goal.returns-clause-answer
returns-clause-answer g c =
    if_none c.args.self.now.over _ (next_over (input_of c.args.self.now (g.S.Source.source_state c.args.source.now)) c.read_on-answer.result (record { bytes = c.self-2.inside.ahead; at = c.self-2.inside.at; over = c.self-2.inside.over })
    c.ending_of-self-inside.result (g.S.Source.source_state c.read_on-answer.new.source) (rw c.self-2.view_is c.read_on-answer.ensures))
