-- A command begins and ends at a seat, or is refused, and nothing is open before and after.
use Rattle.std.proofs.Common.{◌≡◌, ℕ, Bool, true, false, cond, List, [], ◌∷◌, Option, None, Some, IfSome, IsSome, Result, Ok, Err, ap, ◌⊎◌, inl, inr, sym, refl, subst, ◌∙◌, is_some}
use Rattle.std.proofs.lemmas.Bool.{true≢false}
use Rattle.std.specs.Cmp.{nat_cmp_total}
use Rattle.std.specs.Ordering.{eq_by_cmp, nat_cmp}
use Rattle.sq_outside.specs.Disk.{History, LeavesRising}
use Rattle.sq_outside.specs.Fault.{Rose}
use Rattle.job_states.specs.declared.answer.Answer.{Answer}
use Rattle.job_states.specs.declared.answer.Refused.{Refused}
use Rattle.job_states.specs.declared.command.Command.{Command}
use Rattle.http_wire.specs.declared.reply.Reply.{Reply}
use Rattle.journal_keeper.specs.declared.fault.DiskFault.{DiskFault}
use Rattle.journal_replay.specs.Kept.{IsKeptFor}
use Rattle.queue_config.specs.declared.config.Config.{Config}
use Rattle.queue_model.specs.Chain.{◌>>=◌}
use Rattle.queue_model.specs.Map as map
use Rattle.queue_model.specs.Replay as replay
use Rattle.queue_model.proofs.Maps.{get-insert, get-remove, get-set_same}
use Rattle.queue_model.proofs.Steps.{passed, same_Some, then}
use Rattle.plan_model.specs.Plans.{Plan}
use Rattle.situation_model.specs.Situations.{Doubt, Left, Situation, begins, begun, committed, faulted, is_written, open_at}
use Rattle.situation_model.specs.Steps.{Begin, Commit, CommitFault, Step, after_step, after_steps}
use Rattle.queue_engine.specs.Calls.{Begins, BeginsPlan, EndsPlan, IsRefusal, StaysStanding, Writes, doubt_at}
use Rattle.queue_engine.specs.Running.{Running, Store, running}
use Rattle.queue_engine.specs.Standing.{IsStanding}
use Rattle.queue_replies.specs.Answers.{reply_of}
use Rattle.queue_replies.specs.Faults.{disk_fault, no_memory}
use Rattle.queue_replies.specs.Refusals.{HasReply, refused_reply}
use Rattle.queue_http.specs.Ended.{EndsFrom, IsCommitted, IsFaulted, IsReply, PerformsFrom}
use Rattle.queue_http.specs.Service.{Commits, DiskState, IsIdle, Performs, service}
use Rattle.queue_http.proofs.Unlocked.{refusal_replies}

-- ---- what is open

-- the plan that was opened is there
opened : (s mid : Situation) (seat : ℕ) (plan : Plan) → mid ≡ begun s seat (Ok plan) → open_at mid seat ≡ Some plan
opened s mid seat plan is = ap (λ m. open_at m seat) is ∙ get-set_same nat_cmp_total s.book.open_plans seat (Some plan)

-- nothing is, after a plan was opened and ended at the seat
emptied : (m : map.Map nat_cmp Plan) (seat : ℕ) (plan : Plan) (q : ℕ) → map.get m q ≡ None → map.get (map.remove (map.insert m seat plan) seat) q ≡ None
emptied m seat plan q vacant = get-remove nat_cmp_total (map.insert m seat plan) seat q ∙ by (eq_by_cmp nat_cmp q seat) (get-insert nat_cmp_total m seat plan q)
  where
    by : (b : Bool) → map.get (map.insert m seat plan) q ≡ cond b (Some plan) (map.get m q) → cond b None (map.get (map.insert m seat plan) q) ≡ None
    by true e = refl
    by false e = e ∙ vacant

-- what ends a plan leaves open what other seats have
LeavesOthers : (seat : ℕ) → Situation → Situation → Type 0
LeavesOthers seat s new = new.book.open_plans ≡ map.remove s.book.open_plans seat

commit_leaves : (s new : Situation) (seat : ℕ) → committed s seat ≡ Some new → LeavesOthers seat s new
unfolding LeavesOthers
commit_leaves s new seat is =
    let opened = then (open_at s seat) _ new is in
    let applied = then (replay.after s.book.world opened.0.tx) _ new opened.2 in
    ap (λ (t : Situation). t.book.open_plans) (sym (same_Some _ new applied.2))

fault_leaves : (s new : Situation) (seat : ℕ) (left : Left) → faulted s seat left ≡ Some new → LeavesOthers seat s new
unfolding LeavesOthers
fault_leaves s new seat left is =
    let opened = then (open_at s seat) _ new is in
    ap (λ (t : Situation). t.book.open_plans) (sym (same_Some _ new (passed (is_written opened.0.tx) _ new opened.2).1))

idle_after : (s mid new : Situation) (seat : ℕ) (plan : Plan) → IsIdle s.book → mid ≡ begun s seat (Ok plan) → LeavesOthers seat mid new → IsIdle new.book
unfolding LeavesOthers
idle_after s mid new seat plan idle is gone q =
    let opened : mid.book.open_plans ≡ map.insert s.book.open_plans seat plan = ap (λ (t : Situation). t.book.open_plans) is in
    ap (λ m. map.get m q) (gone ∙ ap (λ m. map.remove m seat) opened) ∙ emptied s.book.open_plans seat plan q (idle q)

-- ---- a begin and then an end

-- both steps, from what each call of an engine says of its own
both_steps : (settings : Config) (s mid new : Situation) (seat now : ℕ) (c : Command) (plan : Plan) (end : Step)
    → open_at s seat ≡ None → begins settings s c now ≡ Ok plan → mid ≡ begun s seat (Ok plan) → after_step settings mid end ≡ Some new
    → after_steps settings s (Begin seat c now ∷ end ∷ []) ≡ Some new
both_steps settings s mid new seat now c plan end vacant is begun_is ends =
    let both : after_step settings (begun s seat (Ok plan)) end ≡ Some new = subst (λ m. after_step settings m end ≡ Some new) begun_is ends in
    rw vacant (rw is (ap (λ o. o >>= λ t. Some t) both))

module _ (seat now : ℕ) (old mid new : Running) (before after : DiskState) (command : Command) (reply : Reply) (idle : IsIdle old.situation.book)
    (kept : mid.settings ≡ old.settings) (opens : BeginsPlan old seat command now mid) where
  -- the plan that ends is the one that was opened
  same : (plan : Plan) → open_at mid.situation seat ≡ Some plan → plan ≡ opens.plan
  same plan found = same_Some plan opens.plan (sym found ∙ opened old.situation mid.situation seat opens.plan opens.situation)

  -- and what is written of it is written for the world and the doubt that were there before
  written : (plan : Plan) → open_at mid.situation seat ≡ Some plan → Writes mid plan.tx before.history after.history
      → Writes old opens.plan.tx before.history after.history
  written plan found writes = subst (λ (p : Plan). Writes old p.tx before.history after.history) (same plan found) (record {
    moments = subst (λ (s : Situation). LeavesRising (λ n image. IsKeptFor s.book.world (doubt_at s.doubt plan.tx n) image.0) 0 1
        before.history after.history) opens.situation writes.moments;
    unwritten = writes.unwritten;
    other = writes.other;
  })

  ends_by : (end : Step) → after_step old.settings mid.situation end ≡ Some new.situation
      → after_steps old.settings old.situation (Begin seat command now ∷ end ∷ []) ≡ Some new.situation
  ends_by end =
      both_steps old.settings old.situation mid.situation new.situation seat now command opens.plan end (idle seat) opens.begins opens.situation

  module _ (moments later : Option (List ℕ)) where
    commits : (is : IsCommitted seat mid before reply new after)
        → Commits seat (service old moments before) command now is.answer (service new later after)
    commits is = record {
      plan = opens.plan;
      begins = opens.begins;
      situation = ends_by (Commit seat) is.commits.situation;
      answered = is.commits.answered ∙ ap (λ (p : Plan). p.answer) (same is.commits.plan is.commits.opened);
      settings = is.commits.settings ∙ kept;
      writes = written is.commits.plan is.commits.opened is.commits.writes;
    }

    -- the command is performed
    pub told_or_failed : IsCommitted seat mid before reply new after ⊎ IsFaulted seat mid before reply new after
        → Performs seat (service old moments before) command now reply (service new later after)
    told_or_failed (inl is) = by is.reply_is
      where
        by : IsReply reply (reply_of is.answer) → Performs seat (service old moments before) command now reply (service new later after)
        by (inl said) = inl (record { answer = is.answer; commits = commits is; reply_is = said })
        by (inr none) = inr (inr (inr (inr (record { reply_is = none; answer = is.answer; commits = commits is }))))
    told_or_failed (inr is) = inr (inr (inl (record {
      plan = opens.plan;
      begins = opens.begins;
      left = is.faults.left;
      situation = ends_by (CommitFault seat is.faults.left) is.faults.situation;
      settings = is.faults.settings ∙ kept;
      writes = written is.faults.plan is.faults.opened is.faults.writes;
      reply_is = is.reply_is;
      rose = is.rose;
    })))

  -- and nothing is open
  pub closed : IsCommitted seat mid before reply new after ⊎ IsFaulted seat mid before reply new after → IsIdle new.situation.book
  closed ends = idle_after old.situation mid.situation new.situation seat opens.plan idle opens.situation (by ends)
    where
      by : IsCommitted seat mid before reply new after ⊎ IsFaulted seat mid before reply new after → LeavesOthers seat mid.situation new.situation
      by (inl is) = commit_leaves mid.situation new.situation seat is.commits.situation
      by (inr is) = fault_leaves mid.situation new.situation seat is.faults.left is.faults.situation

-- ---- the calls of an engine

module _ (seat : ℕ) (old new : Store) (before after : DiskState) (reply : Reply) where
  pub committed_with : (answer : Answer) → EndsPlan seat old before.history (Ok answer) new after.history → IsReply reply (reply_of answer)
      → EndsFrom seat old before reply new after
  committed_with answer ends replied doubt stands =
      let e = ends doubt stands in
      record { doubt = e.doubt; ends = inl (record { answer = answer; commits = e.ends; reply_is = replied }); stands = e.stands }

  pub failed_with : (fault : DiskFault) → EndsPlan seat old before.history (Err fault) new after.history → reply ≡ disk_fault
      → Rose before.faults after.faults → EndsFrom seat old before reply new after
  failed_with fault ends replied rose doubt stands =
      let e = ends doubt stands in
      record { doubt = e.doubt; ends = inr (record { faults = e.ends; reply_is = replied; rose = rose }); stands = e.stands }

abbrev BeginsFrom : (seat : ℕ) → Store → Command → (now : ℕ) → Result (Unit {0}) Refused → Store → Type 0
BeginsFrom seat old command now result new = (doubt : Doubt) → Begins (running old doubt) seat command now result (running new doubt)

-- a plan is open where a command has begun
pub is_open : (seat now : ℕ) (old mid : Store) (command : Command) → BeginsFrom seat old command now (Ok tt) mid
    → IsSome (map.get mid.book.open_plans seat)
is_open seat now old mid command starts =
    let opens = (starts None).opens in
    ap is_some (opened (running old None).situation (running mid None).situation seat opens.plan opens.situation)

pub still_standing : (old mid : Store) (history : Option History) → StaysStanding old mid → IsStanding old history → IsStanding mid history
still_standing old mid history stays standing = (standing.0, stays standing.0 history standing.1)

module _ (seat now : ℕ) (old mid new : Store) (before after : DiskState) (command : Command) (reply : Reply) (idle : IsIdle old.book)
    (starts : BeginsFrom seat old command now (Ok tt) mid) (stays : StaysStanding old mid) (ends : EndsFrom seat mid before reply new after) where
  pub performs : PerformsFrom seat old before command now reply new after
  performs doubt stands =
      let e = ends doubt (stays doubt before.history stands) in
      record {
        doubt = e.doubt;
        performs = λ moments later.
            told_or_failed seat now (running old doubt) (running mid doubt) (running new e.doubt) before after command reply idle
            (starts doubt).settings (starts doubt).opens moments later e.ends;
        stands = e.stands;
      }

  pub idle_again : IsStanding old before.history → IsIdle new.book
  idle_again (doubt, stands) =
      let e = ends doubt (stays doubt before.history stands) in
      closed seat now (running old doubt) (running mid doubt) (running new e.doubt) before after command reply idle
      (starts doubt).settings (starts doubt).opens e.ends

-- ---- a refusal

module _ (seat now : ℕ) (old new : Store) (command : Command) (refused : Refused) (idle : IsIdle old.book)
    (starts : BeginsFrom seat old command now (Err refused) new) where
  pub has_reply : HasReply refused
  has_reply = by (starts None).refused
    where
      by : IsRefusal (running old None) command now refused → HasReply refused
      by (inl memory) = subst HasReply (sym memory) refl
      by (inr is) = refusal_replies old.settings (running old None).situation command now refused idle is

  pub idle_still : IsIdle new.book
  idle_still = subst (λ (r : Running). IsIdle r.situation.book) (sym (starts None).kept) idle

  module _ (disk : DiskState) (reply : Reply) (replied : IfSome (refused_reply refused) (IsReply reply)) where
    module _ (doubt : Doubt) (moments later : Option (List ℕ)) where
      abbrev Refuses : Type 0
      Refuses = Performs seat (service (running old doubt) moments disk) command now reply (service (running new doubt) later disk)

      lacks_memory : reply ≡ no_memory → Refuses
      lacks_memory is = inr (inr (inr (inl (record { reply_is = is; running = (starts doubt).kept; disk = refl }))))

      either : IsReply reply no_memory → Refuses
      either (inl is) = lacks_memory is
      either (inr is) = lacks_memory is

      by_reply : begins old.settings (running old doubt).situation command now ≡ Err refused → (o : Option Reply) → refused_reply refused ≡ o
          → IsSome o → IfSome o (IsReply reply) → Refuses
      by_reply is None e has said = absurd (true≢false (sym has))
      by_reply is (Some known) e has (inl said) = inr (inl (record {
        refused = refused;
        begins = is;
        reply_is = e ∙ ap Some (sym said);
        running = (starts doubt).kept;
        disk = refl;
      }))
      by_reply is (Some known) e has (inr none) = lacks_memory none

      refuses : IsRefusal (running old doubt) command now refused → Refuses
      refuses (inl memory) = either (subst (λ r. IfSome (refused_reply r) (IsReply reply)) memory replied)
      refuses (inr is) = by_reply is (refused_reply refused) refl has_reply replied

    pub turned_down : StaysStanding old new → PerformsFrom seat old disk command now reply new disk
    turned_down stays doubt stands = record {
      doubt = doubt;
      performs = λ moments later. refuses doubt moments later (starts doubt).refused;
      stands = stays doubt disk.history stands;
    }
