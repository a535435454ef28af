-- What the calls of an engine come to for a line.
use Rattle.std.proofs.Common.{◌≡◌, ℕ, List, [], ◌∷◌, Option, None, Some, IfOk, Result, Ok, Err, is_some, ap, inl, inr, sym, refl, subst, ◌∙◌}
use Rattle.std.proofs.lemmas.Bool.{true≢false}
use Rattle.std.specs.Cmp.{nat_cmp_total}
use Rattle.std.specs.Result.{result_unwrap_or}
use Rattle.sq_outside.specs.Disk.{LeavesRising}
use Rattle.sq_outside.specs.Fault.{Rose}
use Rattle.job_states.specs.declared.answer.Answer.{Answer}
use Rattle.job_states.specs.declared.answer.Refused.{Refused}
use Rattle.job_states.specs.declared.command.Command.{Command}
use Rattle.job_states.specs.declared.no_memory.NoMemory.{NoMemory as OutOfMemory}
use Rattle.journal_keeper.specs.declared.fault.DiskFault.{DiskFault as Failed}
use Rattle.journal_replay.specs.Kept.{IsKeptFor}
use Rattle.queue_config.specs.declared.config.Config.{Config}
use Rattle.queue_model.specs.Chain.{◌>>=◌}
use Rattle.queue_model.proofs.Maps.{get-set_same}
use Rattle.queue_model.proofs.Steps.{same_Some}
use Rattle.plan_model.specs.Plans.{Plan}
use Rattle.situation_model.specs.Situations.{Doubt, Situation, begins, begun, open_at}
use Rattle.situation_model.specs.Steps.{Begin, Commit, CommitFault, Step, after_step, after_steps}
use Rattle.queue_engine.specs.Calls as calls
use Rattle.queue_engine.specs.Calls.{EndsPlan, IsRefusal, StaysStanding, Writes, doubt_at}
use Rattle.queue_engine.specs.Running.{Running, Store, running}
use Rattle.queue_replies.specs.Faults as reply
use Rattle.trace_lines.specs.Printed.{answer_text, not_built_text, printed_text, refused_text}
use Rattle.trace_lines.specs.declared.line.Line.{Line}
use Rattle.trace_lines.specs.declared.line.Line.TheVariants as line
use Rattle.trace_lines.specs.declared.printed.Printed.{Printed}
use Rattle.trace_lines.specs.declared.printed.Printed.TheVariants.{DiskFault, NoMemory}
use Rattle.queue_http.specs.Service as request
use Rattle.queue_http.specs.Service.{DiskState, Service, service}
use Rattle.queue_trace.specs.Begun.{BeginsOr}
use Rattle.queue_trace.specs.Traced.{Does, IsBegun, IsPrinted, IsTurnedDown, IsUnbuilt, MayBegin, PerformsFrom}

-- ---- what is printed

pub printed_or : (text : List ℕ) (made : Result Printed OutOfMemory) (printed : Printed)
    → printed ≡ result_unwrap_or made NoMemory → IfOk made (λ p. printed_text p ≡ text) → IsPrinted text (printed_text printed)
printed_or text (Ok made) printed is known = inl (ap printed_text is ∙ known)
printed_or text (Err none) printed is known = inr (ap printed_text is)

-- ---- calls that touch no disk

pub untouched : (old new : Store) (disk : DiskState) (l : Line) (printed : List ℕ) → StaysStanding old new
    → ((moments : Option (List ℕ)) (doubt : Doubt)
    → Does (service (running old doubt) moments disk) l printed (service (running new doubt) moments disk))
    → PerformsFrom old disk l printed new disk
untouched old new disk l printed stays does moments doubt stands =
    record { doubt = doubt; performs = record { does = does moments doubt; moments = refl }; stands = stays doubt disk.history stands }

-- a line that isn't built
pub unbuilt : (engine : Store) (disk : DiskState) (printed : List ℕ) → IsPrinted not_built_text printed → PerformsFrom engine disk line.Reopen printed engine disk
unbuilt engine disk printed is = untouched engine engine disk line.Reopen printed (λ doubt history stands. stands) (λ moments doubt. by is)
  where
    by : {s : Service} → IsPrinted not_built_text printed → IsUnbuilt s printed s
    by (inl text) = inl (record { printed_is = text; running = refl; disk = refl })
    by (inr memory) = inr (record { printed_is = memory; running = refl; disk = refl })

module _ (seat now : ℕ) (old new : Running) (command : Command) (refused : Refused) (printed : List ℕ) (moments : Option (List ℕ)) (disk : DiskState)
    (may : MayBegin seat old command) (stays : new ≡ old) where
  abbrev TurnsDown : Type 0
  TurnsDown = IsTurnedDown seat (service old moments disk) command now printed (service new moments disk)

  lacks_memory : printed ≡ printed_text NoMemory → TurnsDown
  lacks_memory is = inr (inr (inr (record { empty = may.empty; prints = record { printed_is = is; running = stays; disk = refl } })))

  -- a refusal, whose text is printed
  pub refuses : IsRefusal old command now refused → IsPrinted (refused_text refused) printed → TurnsDown
  refuses (inl none) (inl is) = lacks_memory (is ∙ ap refused_text none)
  refuses (inl none) (inr is) = lacks_memory is
  refuses (inr why) (inl is) =
      inr (inr (inl (record { may = may; refused = refused; begins = why; prints = record { printed_is = is; running = stays; disk = refl } })))
  refuses (inr why) (inr is) = lacks_memory is

-- ---- a begin and then an end

-- the plan that was opened is there
opened : (s mid : Situation) (seat : ℕ) (plan : Plan) → mid ≡ begun s seat (Ok plan) → open_at mid seat ≡ Some plan
opened s mid seat plan is = ap (λ m. open_at m seat) is ∙ get-set_same nat_cmp_total s.book.open_plans seat (Some plan)

-- both steps, from what each call of an engine says of its own
both_steps : (settings : Config) (s mid new : Situation) (seat now : ℕ) (c : Command) (plan : Plan) (end : Step)
    → open_at s seat ≡ None → begins settings s c now ≡ Ok plan → mid ≡ begun s seat (Ok plan) → after_step settings mid end ≡ Some new
    → after_steps settings s (Begin seat c now ∷ end ∷ []) ≡ Some new
both_steps settings s mid new seat now c plan end empty is begun_is ends =
    let both : after_step settings (begun s seat (Ok plan)) end ≡ Some new = subst (λ m. after_step settings m end ≡ Some new) begun_is ends in
    rw empty (rw is (ap (λ o. o >>= λ t. Some t) both))

module _ (seat now : ℕ) (old mid new : Running) (before after : DiskState) (command : Command) (start : IsBegun seat old command now mid) where
  abbrev plan : Plan
  plan = start.begins.plan

  there : open_at mid.situation seat ≡ Some plan
  there = opened old.situation mid.situation seat plan start.begins.situation

  -- the plan that ends is the one that was opened
  same : (other : Plan) → open_at mid.situation seat ≡ Some other → other ≡ plan
  same other is = same_Some other plan (sym is ∙ there)

  -- and what is written of it is written for the world and the doubt that were there before
  written : (other : Plan) → open_at mid.situation seat ≡ Some other → Writes mid other.tx before.history after.history
      → Writes old plan.tx before.history after.history
  written other is writes = subst (λ (p : Plan). Writes old p.tx before.history after.history) (same other is) (record {
    moments = subst (λ (s : Situation). LeavesRising (λ n image. IsKeptFor s.book.world (doubt_at s.doubt other.tx n) image.0) 0 1
        before.history after.history) start.begins.situation writes.moments;
    unwritten = writes.unwritten;
    other = writes.other;
  })

  ends_by : (end : Step) → after_step old.settings mid.situation end ≡ Some new.situation
      → after_steps old.settings old.situation (Begin seat command now ∷ end ∷ []) ≡ Some new.situation
  ends_by end = both_steps old.settings old.situation mid.situation new.situation seat now command plan end start.may.empty
      start.begins.begins start.begins.situation

  module _ (moments : Option (List ℕ)) where
    commits : (answer : Answer) → calls.Commits seat mid before.history answer new after.history
        → request.Commits seat (service old moments before) command now answer (service new moments after)
    commits answer is = record {
      plan = plan;
      begins = start.begins.begins;
      situation = ends_by (Commit seat) is.situation;
      answered = is.answered ∙ ap (λ (p : Plan). p.answer) (same is.plan is.opened);
      settings = is.settings ∙ start.settings;
      writes = written is.plan is.opened is.writes;
    }

    fails : calls.Faults seat mid before.history new after.history → Rose before.faults after.faults
        → request.MeetsFault seat (service old moments before) command now reply.disk_fault (service new moments after)
    fails is rose = record {
      plan = plan;
      begins = start.begins.begins;
      left = is.left;
      situation = ends_by (CommitFault seat is.left) is.situation;
      settings = is.settings ∙ start.settings;
      writes = written is.plan is.opened is.writes;
      reply_is = refl;
      rose = rose;
    }

    pub does_both : (printed : List ℕ) → Does (service mid moments before) (line.Commit seat) printed (service new moments after)
        → Does (service old moments before) (line.Do now seat command) printed (service new moments after)
    does_both printed (inl finds) = absurd (true≢false (ap is_some (sym there ∙ finds.empty)))
    does_both printed (inr (inl is)) =
        inr (inl (record { may = start.may; answer = is.answer; commits = commits is.answer is.commits; printed_is = is.printed_is }))
    does_both printed (inr (inr is)) = inr (inr (record { may = start.may; fault = fails is.faults is.rose; printed_is = is.printed_is }))

-- ---- over an engine that stands on a disk

module _ (seat now : ℕ) (old mid new : Store) (before after : DiskState) (command : Command) (printed : List ℕ) where
  pub done : BeginsOr seat old command now (Ok tt) mid → StaysStanding old mid → PerformsFrom mid before (line.Commit seat) printed new after
      → PerformsFrom old before (line.Do now seat command) printed new after
  done starts stays commits moments doubt stands =
      let e = commits moments doubt (stays doubt before.history stands) in
      record {
        doubt = e.doubt;
        performs = record {
          does = does_both seat now (running old doubt) (running mid doubt) (running new e.doubt) before after command (starts doubt) moments
              printed e.performs.does;
          moments = e.performs.moments;
        };
        stands = e.stands;
      }

module _ (seat : ℕ) (old new : Store) (before after : DiskState) (printed : List ℕ) where
  abbrev Commits : Type 0
  Commits = PerformsFrom old before (line.Commit seat) printed new after

  pub committed : (answer : Answer) → EndsPlan seat old before.history (Ok answer) new after.history → IsPrinted (answer_text answer) printed → Commits
  committed answer ends is moments doubt stands =
      let e = ends doubt stands in
      record {
        doubt = e.doubt;
        performs = record { does = inr (inl (record { answer = answer; commits = e.ends; printed_is = is })); moments = refl };
        stands = e.stands;
      }

  pub lost : (fault : Failed) → EndsPlan seat old before.history (Err fault) new after.history → Rose before.faults after.faults
      → printed ≡ printed_text DiskFault → Commits
  lost fault ends rose is moments doubt stands =
      let e = ends doubt stands in
      record {
        doubt = e.doubt;
        performs = record { does = inr (inr (record { faults = e.ends; rose = rose; printed_is = is })); moments = refl };
        stands = e.stands;
      }
