-- The steps of an answer.
use Rattle.std.proofs.Common.{ℕ, [], ◌∷◌, inl, inr}
use Rattle.job_states.specs.declared.answer.Answer.{Answer}
use Rattle.job_states.specs.declared.command.Command.{Command}
use Rattle.http_wire.specs.declared.reply.Reply.{Reply}
use Rattle.http_wire.specs.declared.request.Request.{Request}
use Rattle.situation_model.specs.Steps.{Begin, Commit, CommitFault}
use Rattle.queue_http.specs.Asked.{asked_of}
use Rattle.queue_http.specs.Service.{Answers, Commits, Does, Performs, Service}
use Rattle.queue_http.specs.Steps.{MayTakeSteps}
use Rattle.queue_http.specs.declared.asked.Asked.{Asked}
use Rattle.queue_http.specs.declared.asked.Asked.TheVariants as asked

module _ (seat : ℕ) (old new : Service) where
  by_commit : (command : Command) (now : ℕ) (answer : Answer) → Commits seat old command now answer new → MayTakeSteps old new
  by_commit command now answer commits =
      inr (record { steps = Begin seat command now ∷ Commit seat ∷ []; situation = commits.situation; tx = commits.plan.tx; writes = commits.writes })

  by_command : (command : Command) (now : ℕ) (reply : Reply) → Performs seat old command now reply new → MayTakeSteps old new
  by_command command now reply (inl told) = by_commit command now told.answer told.commits
  by_command command now reply (inr (inl refused)) = inl (record { running = refused.running; disk = refused.disk })
  by_command command now reply (inr (inr (inl fault))) =
      inr (record { steps = Begin seat command now ∷ CommitFault seat fault.left ∷ []; situation = fault.situation; tx = fault.plan.tx; writes = fault.writes })
  by_command command now reply (inr (inr (inr (inl none)))) = inl (record { running = none.running; disk = none.disk })
  by_command command now reply (inr (inr (inr (inr none)))) = by_commit command now none.answer none.commits

  by_asked : (what : Asked) (reply : Reply) → Does seat old what reply new → MayTakeSteps old new
  by_asked (asked.Command command) reply done = by_command command done.now reply done.performs
  by_asked (asked.Known known) reply replies = inl (record { running = replies.running; disk = replies.disk })

  pub answered : (request : Request) (reply : Reply) → Answers seat old request reply new → MayTakeSteps old new
  answered request reply (inl done) = by_asked (asked_of request) reply done
  answered request reply (inr replies) = inl (record { running = replies.running; disk = replies.disk })
