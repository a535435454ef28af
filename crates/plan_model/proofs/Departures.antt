-- The plans of a process that leaves, and of one that is pruned, may be opened.
use Rattle.std.proofs.Common.{◌≡◌, ◌≢◌, ◌≤◌, ◌+◌, ℕ, suc, Bool, true, false, ◌&&◌, nat_le, List, [], ◌∷◌, length, map, Option, None, Some, Ok, is_some, codes, decimal, ap, sym, ◌∙◌, refl, subst, arith}
use Rattle.std.proofs.lemmas.Bool.{true≢false, and_from}
use Rattle.std.proofs.lemmas.Fmt.{length-decimal-le_wide}
use Rattle.std.proofs.lemmas.List.{length-append}
use Rattle.std.proofs.lemmas.List.Sums.{length-filter}
use Rattle.std.specs.Cmp.{nat_cmp_total}
use Rattle.std.specs.Prelude.{filter, Contains}
use Rattle.job_states.specs.Moment.{IsMoment}
use Rattle.job_states.specs.Ranges.{is_number, is_message}
use Rattle.job_states.specs.States.{stage_of, is_blocked, is_claimed}
use Rattle.job_states.specs.declared.command.Command.TheVariants as command
use Rattle.job_states.specs.declared.job.JobRow.{JobRow}
use Rattle.job_states.specs.declared.job.State.{State}
use Rattle.job_states.specs.declared.job.State.TheVariants as state
use Rattle.job_states.specs.declared.row.Mode.TheVariants.{Alone}
use Rattle.job_states.specs.declared.row.Row.TheVariants as row
use Rattle.job_states.specs.declared.transition.Transition.{Transition}
use Rattle.job_states.specs.declared.transition.Transition.TheVariants.{Fail, Release, Deregister}
use Rattle.queue_model.specs.Map as finite
use Rattle.queue_model.specs.World.{claims, is_claimed_by, job}
use Rattle.queue_model.specs.declared.Job.{Job}
use Rattle.queue_model.specs.declared.Process.{Process}
use Rattle.queue_model.proofs.Steps.{same_Some}
use Rattle.row_locks.proofs.Membership.{Contains-head, Contains-tail, Contains-from_filter, Contains-from_map}
use Rattle.plan_model.specs.Drafts.{Draft, begin, push, end}
use Rattle.plan_model.specs.GoodBook.{MayOpen}
use Rattle.plan_model.specs.GoodDraft.{IsAllowed, is_end}
use Rattle.plan_model.specs.GoodScene.{IsGoodScene}
use Rattle.plan_model.specs.Orders.{first_of}
use Rattle.plan_model.specs.Planned.{Drafted}
use Rattle.plan_model.specs.Plans.{Plan, jobs_named, jobs_handed}
use Rattle.plan_model.specs.Refusals.{no_such_process, numbers_spent}
use Rattle.plan_model.specs.Scenes.{Scene, are_free}
use Rattle.plan_model.specs.UpkeepCommands.{upkeep_plan, refusals, does, claimed_by, release_all, fail_all, pruned_message, prune, prune_first, or_nothing, is_silent}
use Rattle.plan_model.proofs.AllowedClaims.{claim_ends}
use Rattle.plan_model.proofs.AllowedMoves as allowed
use Rattle.plan_model.proofs.AllowedOthers.{others_stay, end_claims, end_processes}
use Rattle.plan_model.proofs.AllowedSeen.{some_there, job_there, processes_stay}
use Rattle.plan_model.proofs.Apart.{AreApart, filter_apart}
use Rattle.plan_model.proofs.DraftLemmas.{Brings, brings_none}
use Rattle.plan_model.proofs.Endings.{ended, end_brings, end_rises}
use Rattle.plan_model.proofs.GoodDrafts.{stepped}
use Rattle.plan_model.proofs.MapLemmas.{entry_found, filter_passes}
use Rattle.plan_model.proofs.Opening.{IsGoodFor, IsSound, base, from_base, held, moment_fits, sound_opens}
use Rattle.plan_model.proofs.OrderLemmas.{first_is, own_place, jobs_apart, same_job}
use Rattle.plan_model.proofs.PlanLemmas.{accepted, unmet, unrefused, is_there, begins_empty}
use Rattle.plan_model.proofs.Spending.{IsNotSpent, Holds, holds_next, noted_rises}

-- ---- claimed jobs

claimed_state : (pid : ℕ) (row : JobRow) (st : State) → is_claimed_by pid (job row st) ≡ true → is_claimed (Some (stage_of st)) ≡ true
claimed_state pid row (state.Claimed p permit) e = refl
claimed_state pid row (state.Scheduled at) e = absurd (true≢false (sym e))
claimed_state pid row (state.Ready permit) e = absurd (true≢false (sym e))
claimed_state pid row (state.Blocked until) e = absurd (true≢false (sym e))
claimed_state pid row (state.Failed error message) e = absurd (true≢false (sym e))
claimed_state pid row (state.Finished at) e = absurd (true≢false (sym e))

not_blocked : (st : State) → is_claimed (Some (stage_of st)) ≡ true → is_blocked (Some (stage_of st)) ≡ false
not_blocked (state.Claimed p permit) e = refl
not_blocked (state.Scheduled at) e = refl
not_blocked (state.Ready permit) e = refl
not_blocked (state.Blocked until) e = absurd (true≢false (sym e))
not_blocked (state.Failed error message) e = refl
not_blocked (state.Finished at) e = refl

message_fits : (p : Process) → IsMoment p.beat → is_message (pruned_message p) ≡ true
message_fits p moment =
    let total = length-append (codes "pruned: last beat ") (decimal p.beat) in
    let digits = length-decimal-le_wide 18 p.beat (omega arith) (omega (arith, moment)) (omega (arith, moment)) in
    short (length (pruned_message p)) (omega (arith, total, digits))
  where
    short : (n : ℕ) → n ≤ 1024 → nat_le n 1024 ≡ true
    short n le = grind (arith, le)

module _ (s : Scene) (good : IsGoodScene s) (pid : ℕ) where
  -- A draft in which the process has these claims and no others.
  record HasClaims (jobs : List Job) (d : Draft) : Type 0 where
    draft : IsGoodFor s d
    brings : Brings 0 0 d
    there : (j : Job) → Contains jobs j → finite.get d.world.jobs j.row.id ≡ Some j
    claimed : (j : Job) → Contains jobs j → is_claimed_by pid j ≡ true
    apart : AreApart jobs
    process : is_some (finite.get d.world.processes pid) ≡ true
    count : claims d.world pid ≡ length jobs

  other : (j : Job) (js : List Job) (d : Draft) → HasClaims (j ∷ js) d → (x : Job) → Contains js x → j.row.id ≢ x.row.id
  other j js d h x later same = h.apart.0 x later (same_job (finite.get d.world.jobs) x j (h.there x (Contains-tail j js x later)) (h.there j (Contains-head j js)) (sym same))

  one_less : (n k : ℕ) → n + 1 ≡ suc k → n ≡ k
  one_less n k e = omega (arith, e)

  state_of : (j : Job) (js : List Job) (d : Draft) → HasClaims (j ∷ js) d → (x : Job) → Contains (j ∷ js) x → is_claimed (Some (stage_of x.state)) ≡ true
  state_of j js d h x here = claimed_state pid x.row x.state (h.claimed x here)

  number : (j : Job) (js : List Job) (d : Draft) → HasClaims (j ∷ js) d → is_number j.row.id ≡ true
  number j js d h = (h.draft.good.jobs j.row.id j (h.there j (Contains-head j js))).number.0

  released : (j : Job) (js : List Job) (d : Draft) → HasClaims (j ∷ js) d → HasClaims js (push s.moment (Release j.row.id) d)
  released j js d h =
      let t : Transition = Release j.row.id in
      let found = h.there j (Contains-head j js) in
      let allows : IsAllowed s.moment d t = allowed.release s.moment j.row.id d j found (state_of j js d h j (Contains-head j js)) in
      record {
        draft = stepped s.book.world s.moment t d (moment_fits s good) (number j js d h) allows h.draft;
        brings = brings_none 0 0 s.moment t d refl refl h.brings;
        there = λ x later. job_there s.moment t d x.row.id (λ same. other j js d h x later (same_Some j.row.id x.row.id same)) ∙ h.there x (Contains-tail j js x later);
        claimed = λ x later. h.claimed x (Contains-tail j js x later);
        apart = h.apart.1;
        process = ap is_some (processes_stay s.moment t d refl pid) ∙ h.process;
        count = one_less (claims (push s.moment t d).world pid) (length js) (claim_ends s.moment t j.row.id pid d j allows refl refl found (h.claimed j (Contains-head j js)) ∙ h.count);
      }

  all_released : (jobs : List Job) (d : Draft) → Holds s (HasClaims jobs) d → Holds s (HasClaims []) (release_all s.moment jobs d)
  all_released [] d h = h
  all_released (j ∷ js) d h = all_released js (push s.moment (Release j.row.id) d)
      (holds_next s (HasClaims (j ∷ js)) (HasClaims js) d (push s.moment (Release j.row.id) d) h (noted_rises d.given s.moment (Release j.row.id)) (λ was unspent. released j js d was))

  module _ (message : List ℕ) (fits : is_message message ≡ true) where
    abbrev failing : Job → Transition
    failing j = Fail j.row.id (codes "ProcessPrunedError") message None

    failed : (j : Job) (js : List Job) (d : Draft) → HasClaims (j ∷ js) d → IsNotSpent d.given (end s.moment j.row.id (failing j) d).0.given → HasClaims js (end s.moment j.row.id (failing j) d).0
    failed j js d h unspent =
        let found = h.there j (Contains-head j js) in
        let ends : is_end (failing j) ≡ true = and_from (is_message message) true fits refl in
        let allows : IsAllowed s.moment d (failing j) = allowed.fail s.moment j.row.id d j found (codes "ProcessPrunedError") message None (state_of j js d h j (Contains-head j js)) in
        let range = and_from (is_number j.row.id && true && is_message message) true (and_from (is_number j.row.id && true) (is_message message) (and_from (is_number j.row.id) true (number j js d h) refl) fits) refl in
        record {
          draft = ended s.book.world s.moment j.row.id (failing j) d good.moment ends refl range allows h.draft unspent;
          brings = end_brings 0 0 s.moment j.row.id (failing j) d ends h.brings;
          there = λ x later. others_stay s.moment (failing j) d j.row.id h.draft.good good.moment ends refl allows x.row.id (other j js d h x later) x (h.there x (Contains-tail j js x later)) (not_blocked x.state (state_of j js d h x (Contains-tail j js x later)));
          claimed = λ x later. h.claimed x (Contains-tail j js x later);
          apart = h.apart.1;
          process = ap is_some (end_processes s.moment j.row.id (failing j) d ends pid) ∙ h.process;
          count = one_less (claims (end s.moment j.row.id (failing j) d).0.world pid) (length js) (end_claims s.moment (failing j) j.row.id pid d j allows refl refl found (h.claimed j (Contains-head j js)) ∙ h.count);
        }

    all_failed : (jobs : List Job) (d : Draft) → Holds s (HasClaims jobs) d → Holds s (HasClaims []) (fail_all s.moment message jobs d)
    all_failed [] d h = h
    all_failed (j ∷ js) d h = all_failed js (end s.moment j.row.id (failing j) d).0
        (holds_next s (HasClaims (j ∷ js)) (HasClaims js) d (end s.moment j.row.id (failing j) d).0 h (end_rises s.moment j.row.id (failing j) d) (failed j js d))

  -- a process without claims leaves
  leaves : (d : Draft) → Holds s (HasClaims []) d → Holds s (IsSound s 0) (push s.moment (Deregister pid) d)
  leaves d h = holds_next s (HasClaims []) (IsSound s 0) d (push s.moment (Deregister pid) d) h (noted_rises d.given s.moment (Deregister pid)) (λ was unspent.
      let process = some_there (finite.get d.world.processes pid) was.process in (
        stepped s.book.world s.moment (Deregister pid) d (moment_fits s good) (was.draft.good.processes pid process.0 process.1).number.0 (allowed.deregister s.moment pid d was.process was.count) was.draft,
        brings_none 0 0 s.moment (Deregister pid) d refl refl was.brings,
      ))

  at_first : is_some (finite.get s.book.world.processes pid) ≡ true → Holds s (HasClaims (claimed_by s.book.world pid)) (begin s)
  at_first registered = from_base s (HasClaims (claimed_by s.book.world pid)) (record {
    draft = base s good;
    brings = begins_empty s;
    there = λ j h. own_place s.book.world j good.book.world (Contains-from_filter (is_claimed_by pid) all j h);
    claimed = filter_passes (is_claimed_by pid) all;
    apart = filter_apart (is_claimed_by pid) all (jobs_apart s.book.world good.book.world);
    process = registered;
    count = sym (length-filter (is_claimed_by pid) all);
  })
    where
      all : List Job
      all = finite.values s.book.world.jobs

-- ---- pruning

record IsPruned (s : Scene) (made : Drafted) : Type 0 where
  draft : Holds s (IsSound s 0) made.draft
  named : jobs_named made.answer ≡ 0
  handed : jobs_handed made.answer ≡ 0

pruned : (s : Scene) → IsGoodScene s → (pid : ℕ) (p : Process) → finite.get s.book.world.processes pid ≡ Some p → IsPruned s (prune s pid p)
pruned s good pid p found =
    let fits = message_fits p (good.book.world.processes pid p found).beat in
    let failed : Draft = fail_all s.moment (pruned_message p) (claimed_by s.book.world pid) (begin s) in
    record {
      draft = held s 0 (row.Process pid) Alone (push s.moment (Deregister pid) failed) (leaves s good pid failed (all_failed s good pid (pruned_message p) fits (claimed_by s.book.world pid) (begin s) (at_first s good pid (ap is_some found))));
      named = refl;
      handed = refl;
    }

first_pruned : (s : Scene) → IsGoodScene s → IsPruned s (prune_first s)
first_pruned s good = by (first_of (filter free (map one silent))) refl
  where
    silent : List (ℕ × Process)
    silent = filter (λ e. is_silent s e.1) s.book.world.processes.entries

    one : ℕ × Process → Drafted
    one e = prune s e.0 e.1

    free : Drafted → Bool
    free made = are_free s.book made.draft.rows

    by : (o : Option Drafted) → first_of (filter free (map one silent)) ≡ o → IsPruned s (or_nothing s o)
    by None e = record { draft = from_base s (IsSound s 0) (base s good, begins_empty s); named = refl; handed = refl }
    by (Some made) e =
        let from = Contains-from_map one silent made (Contains-from_filter free (map one silent) made (first_is (filter free (map one silent)) made e)) in
        let entry = Contains-from_filter (λ (x : ℕ × Process). is_silent s x.1) s.book.world.processes.entries from.0 from.1 in
        subst (IsPruned s) from.2 (pruned s good from.0.0 from.0.1 (entry_found nat_cmp_total s.book.world.processes.entries from.0 s.book.world.processes.sorted entry))

-- ---- the commands

module _ (s : Scene) (seat : ℕ) (good : IsGoodScene s) (vacant : finite.get s.book.open_plans seat ≡ None) where
  pub deregister : (pid : ℕ) (plan : Plan) → upkeep_plan s (command.Deregister pid) ≡ Ok plan → MayOpen s.book seat plan
  deregister pid plan e =
      let made : Drafted = does s (command.Deregister pid) in
      let first = unmet (no_such_process s pid) (numbers_spent s made.draft ∷ []) (accepted s (refusals s (command.Deregister pid)) made plan e).0 in
      let registered = is_there (finite.get s.book.world.processes pid) (unrefused _ _ first.0) in
      let released : Draft = release_all s.moment (claimed_by s.book.world pid) (begin s) in
      sound_opens s seat good vacant (refusals s (command.Deregister pid)) made plan e
      (leaves s good pid released (all_released s good pid (claimed_by s.book.world pid) (begin s) (at_first s good pid registered))) refl

  pub prune_one : (plan : Plan) → upkeep_plan s command.Prune ≡ Ok plan → MayOpen s.book seat plan
  prune_one plan e =
      let h = first_pruned s good in
      sound_opens s seat good vacant (refusals s command.Prune) (does s command.Prune) plan e
      (subst (λ n. Holds s (IsSound s n) (prune_first s).draft) (sym h.named) h.draft) h.handed
