use Rattle.queue_http.proofs.Served.{by_command, by_reply, lacks_memory}
use Rattle.queue_http.proofs.service.answer.Goals as goal
use Rattle.queue_http.proofs.service.answer.Goals.{in-Ok-Command, in-Ok-Known, in-Err}

pub returns-clause-serves : goal.returns-clause-serves
returns-clause-serves g c = elim c.match-asked_of.branch [
  | in-Ok-Command w ↦ rw (w.engine-is, w.disk-is, w.clock-is, w.reply-is) (
      by_command c.args.seat c.args.engine.now _ _ _ _ w.in-Ok-Command.command w.now.result _ _ _
      (rw w.in-Ok-Command.field-0-is at w.in-Ok-Command.ensures.exact)
      (record { first = w.now.ensures.first; rest = w.now.ensures.rest; bounded = w.now.ensures.bounded }) w.perform-reply.ensures.performs)
  | in-Ok-Known w ↦ rw (w.engine-is, w.disk-is, w.clock-is, w.reply-is) (
      by_reply c.args.seat c.args.engine.now _ _ _ _ (rw w.in-Ok-Known.field-0-is at w.in-Ok-Known.ensures.exact))
  | in-Err w ↦ rw (w.engine-is, w.disk-is, w.clock-is, w.reply-is) (lacks_memory c.args.seat c.args.engine.now _ _ _ _ w.reply_memory-reply.ensures)
]
