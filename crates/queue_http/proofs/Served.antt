-- A request is answered: by the command that it asks for, or by a reply that needs none.
use Rattle.std.proofs.Common.{◌≡◌, ℕ, List, Option, None, Some, inl, inr, refl, subst}
use Rattle.std.specs.Io.KnownBytes.{Keeps}
use Rattle.job_states.specs.declared.command.Command.{Command}
use Rattle.http_wire.specs.declared.reply.Reply.{Reply}
use Rattle.http_wire.specs.declared.request.Request.{Request}
use Rattle.situation_model.specs.Situations.{Doubt}
use Rattle.queue_engine.specs.Running.{Store, running}
use Rattle.queue_replies.specs.Faults.{no_memory}
use Rattle.queue_http.specs.Asked.{asked_of}
use Rattle.queue_http.specs.Ended.{PerformsFrom}
use Rattle.queue_http.specs.Service.{DiskState, Does, Replies, ServesFrom, TakesMoment, service}
use Rattle.queue_http.specs.declared.asked.Asked.TheVariants as asked

keeps : (moments : Option (List ℕ)) → Keeps moments moments
keeps None = tt
keeps (Some moments) = refl

module _ (seat : ℕ) (old : Store) (moments : Option (List ℕ)) (before : DiskState) (request : Request) (reply : Reply) where
  pub by_command : (command : Command) (now : ℕ) (new : Store) (later : Option (List ℕ)) (after : DiskState)
      → asked.Command command ≡ asked_of request → TakesMoment moments later now → PerformsFrom seat old before command now reply new after
      → ServesFrom seat old moments before request reply new later after
  by_command command now new later after asks takes performs doubt stands =
      let done = performs doubt stands in
      record {
        doubt = done.doubt;
        answers = inl (subst (λ a. Does seat (service (running old doubt) moments before) a reply (service (running new done.doubt) later after)) asks
            (record { now = now; moment = takes; performs = done.performs moments later }));
        stands = done.stands;
      }

  -- nothing changes
  abbrev Stays : Type 0
  Stays = ServesFrom seat old moments before request reply old moments before

  replies : (doubt : Doubt) (known : Reply) → reply ≡ known
      → Replies (service (running old doubt) moments before) known reply (service (running old doubt) moments before)
  replies doubt known is = record { reply_is = is; running = refl; moments = keeps moments; disk = refl }

  pub by_reply : asked.Known reply ≡ asked_of request → Stays
  by_reply asks doubt stands = record {
    doubt = doubt;
    answers = inl (subst (λ a. Does seat (service (running old doubt) moments before) a reply (service (running old doubt) moments before)) asks
        (replies doubt reply refl));
    stands = stands;
  }

  pub lacks_memory : reply ≡ no_memory → Stays
  lacks_memory is doubt stands = record { doubt = doubt; answers = inr (replies doubt no_memory is); stands = stands }
