use Rattle.std.proofs.Common.{refl, subst}
use Rattle.queue_model.specs.World.{World}
use Rattle.queue_cli.specs.Status.{Prints, counts_of, status_text}
use Rattle.queue_cli.proofs.command.perform_over.Goals as goal

pub returns-in-Status : goal.returns-in-Status
returns-in-Status g c =
    let P : World → Type 0 = λ w. Prints (g.K.Sink.sink_state c.args.output.now) (g.K.Sink.sink_state c.status.new.output) (status_text (counts_of w)) c.status.result in
    rw c.in-Status.is (λ config later before. record { prints = subst P c.view.ensures.same c.status.ensures; input = refl; moments = refl; disk = refl })

pub returns-in-Trace : goal.returns-in-Trace
returns-in-Trace g c = rw c.in-Trace.is (λ config later before. record { answers = c.trace.ensures (g.C.Clock.moments c.args.clock.now); moments = refl })
