-- The plan of a command about a job that raised an error, or that is retried, may be opened.
use Rattle.std.proofs.Common.{◌≡◌, ◌≤◌, ◌+◌, ℕ, zero, suc, Bool, true, false, ◌&&◌, not, min, cond, nat_le, List, [], ◌∷◌, length, take, Option, None, Some, Ok, ap, sym, refl, subst, zero-add, arith}
use Rattle.std.proofs.lemmas.Bool.{and_from, and_parts}
use Rattle.std.proofs.lemmas.List.{length-take}
use Rattle.std.specs.Prelude.{nat_lt, slice_index_or}
use Rattle.job_states.specs.Length.{is_name}
use Rattle.job_states.specs.Moment.{IsMoment, later_moment}
use Rattle.job_states.specs.Ranges.{is_number, is_message, is_count, are_counts, are_counters, is_limited, is_priority, is_envelope, is_row, is_in_range, is_put, is_away}
use Rattle.job_states.specs.Ranges as ranges
use Rattle.job_states.specs.States.{stage_of, is_claimed, is_failed}
use Rattle.job_states.specs.declared.answer.Answer.TheVariants as answer
use Rattle.job_states.specs.declared.answer.Refused.{Refused}
use Rattle.job_states.specs.declared.answer.Refused.TheVariants.{SemaphoreClosed}
use Rattle.job_states.specs.declared.command.Command.TheVariants as command
use Rattle.job_states.specs.declared.job.Counted.{Counted}
use Rattle.job_states.specs.declared.job.JobRow.{JobRow}
use Rattle.job_states.specs.declared.job.Limited.{Limited}
use Rattle.job_states.specs.declared.transition.Counters.{Counters}
use Rattle.job_states.specs.declared.transition.Put.{Put}
use Rattle.job_states.specs.declared.transition.Transition.{Transition}
use Rattle.job_states.specs.declared.transition.Transition.TheVariants.{Done, Fail, Retry}
use Rattle.queue_config.specs.Retry.{decision_of}
use Rattle.queue_config.specs.declared.retry.Act.{Act}
use Rattle.queue_config.specs.declared.retry.Act.TheVariants as act
use Rattle.queue_model.specs.Chain.{◌>>=◌}
use Rattle.queue_model.specs.Map as finite
use Rattle.queue_model.specs.declared.Job.{Job}
use Rattle.queue_model.proofs.Steps.{same_Some}
use Rattle.plan_model.specs.Drafts.{Draft, begin, end, meets, outcome_of}
use Rattle.plan_model.specs.GoodBook.{MayOpen}
use Rattle.plan_model.specs.GoodScene.{IsGoodScene}
use Rattle.plan_model.specs.JobCommands.{job_plan, refusals, does, of_claim, raise, raise_by, row_after, failing, message_of, cut_at, retry, with_job}
use Rattle.plan_model.specs.Planned.{Drafted, drafted, planned}
use Rattle.plan_model.specs.Plans.{Plan, jobs_named, jobs_handed}
use Rattle.plan_model.specs.Refusals.{no_such_job, wrong_state, semaphore_closed, is_shut_out, refuse, numbers_spent}
use Rattle.plan_model.specs.Scenes.{Scene}
use Rattle.plan_model.proofs.AllowedMoves as allowed
use Rattle.plan_model.proofs.Claims.{IsClaim, claim_there}
use Rattle.plan_model.proofs.CountLemmas.{counts_fit, count_small}
use Rattle.plan_model.proofs.DraftLemmas.{brings_none}
use Rattle.plan_model.proofs.GoodDrafts.{stepped, fresh}
use Rattle.plan_model.proofs.Opening.{IsGoodFor, IsSound, base, moment_fits, one_end, one_job, sound_opens}
use Rattle.plan_model.proofs.Places.{numbered}
use Rattle.plan_model.proofs.PlanLemmas.{accepted, unmet, unrefused, job_there, right_state, begins_empty}
use Rattle.plan_model.proofs.Ranged.{meets_fits, meets_now, meets_here}
use Rattle.plan_model.proofs.Spending.{IsNotSpent, Holds, noted_rises}

-- ---- a job that is there

abbrev pub job_then : Scene → (Job → Drafted) → Option Job → Drafted
job_then s f None = drafted (begin s) answer.NotDue
job_then s f (Some j) = f j

pub with_job_found : (s : Scene) (id : ℕ) (f : Job → Drafted) (j : Job) → finite.get s.book.world.jobs id ≡ Some j → with_job s id f ≡ f j
with_job_found s id f j found = ap (job_then s f) found

-- ---- what is reported of an error

cut_le : (n : ℕ) (text : List ℕ) → cut_at n text ≤ n
cut_le zero text = omega arith
cut_le (suc n) text = by (nat_le 128 (slice_index_or text (suc n) 0) && nat_lt (slice_index_or text (suc n) 0) 192) (cut_le n text)
  where
    by : (b : Bool) → cut_at n text ≤ n → cond b (cut_at n text) (suc n) ≤ suc n
    by true rest = omega (arith, rest)
    by false rest = omega arith

cut_fits : (most n : ℕ) (text : List ℕ) → n ≤ most → nat_le (length (take n text)) most ≡ true
cut_fits most n text le = let short = length-take n text in is_le (length (take n text)) (omega (arith, short, le))
  where
    is_le : (k : ℕ) → k ≤ most → nat_le k most ≡ true
    is_le k le = grind (arith, le)

message_fits : (text : List ℕ) → is_message (message_of text) ≡ true
message_fits text = by (nat_le (length text) 1024) refl (cut_at 1024 text) (cut_le 1024 text)
  where
    by : (b : Bool) → nat_le (length text) 1024 ≡ b → (n : ℕ) → n ≤ 1024 → is_message (cond b text (take n text)) ≡ true
    by true e n le = e
    by false e n le = cut_fits 1024 n text le

-- ---- the row of the next execution

abbrev fixed_parts : JobRow → Bool
fixed_parts row = is_number row.id && is_name row.class && is_name row.queue && is_priority row.priority && is_name row.active_id && is_envelope row.envelope

row_again : (row : JobRow) (executions : ℕ) (counts : List Counted) → is_row row ≡ true → is_count executions ≡ true → are_counts counts ≡ true → is_row (record row { executions = executions; counts = counts }) ≡ true
row_again row executions counts h a b =
    let limit = and_parts (fixed_parts row && is_count row.executions && are_counts row.counts) (is_limited row.limited) h in
    let old = and_parts (fixed_parts row && is_count row.executions) (are_counts row.counts) limit.0 in
    let front = and_parts (fixed_parts row) (is_count row.executions) old.0 in
    and_from (fixed_parts row && is_count executions && are_counts counts) (is_limited row.limited)
    (and_from (fixed_parts row && is_count executions) (are_counts counts) (and_from (fixed_parts row) (is_count executions) front.0 a) b) limit.1

first_number : (row : JobRow) → is_row row ≡ true → is_row (numbered row 1) ≡ true
first_number row h = grind (arith, h)

row_fits : (row : JobRow) (executions : ℕ) (counts : List Counted) → is_row row ≡ true → is_count executions ≡ true → are_counts counts ≡ true → is_row (numbered (record row { executions = executions; counts = counts }) 1) ≡ true
row_fits row executions counts h a b = first_number (record row { executions = executions; counts = counts }) (row_again row executions counts h a b)

row_counts : (row : JobRow) → is_row row ≡ true → are_counts row.counts ≡ true
row_counts row h = grind (arith, h)

later_is : (m d : ℕ) → IsMoment (later_moment m d)
later_is m d = omega arith

-- a draft that is sound, and whose answer names its new jobs
pub record IsAnswered (s : Scene) (made : Drafted) : Type 0 where
  pub draft : Holds s (IsSound s (jobs_named made.answer)) made.draft
  pub handed : jobs_handed made.answer ≡ 0

module _ (s : Scene) (good : IsGoodScene s) (error message : List ℕ) (name : is_name error ≡ true) (j : Job) (found : finite.get s.book.world.jobs j.row.id ≡ Some j) (claimed : is_claimed (Some (stage_of j.state)) ≡ true) where
  abbrev again : JobRow
  again = row_after s error j

  abbrev done : Draft
  done = (end s.moment j.row.id (Done j.row.id) (begin s)).0

  number : is_number j.row.id ≡ true
  number = (good.book.world.jobs j.row.id j found).number.0

  row : is_row j.row ≡ true
  row = (good.book.world.jobs j.row.id j found).row

  counts : are_counts again.counts ≡ true
  counts = counts_fit s.settings good.settings j.row.class error j.row.counts (row_counts j.row row)

  finished : Holds s (IsSound s 0) done
  finished = one_end s good j.row.id (Done j.row.id) refl refl number (allowed.done s.moment j.row.id (begin s) j found claimed)

  abbrev counters : Option Counters
  counters = Some (record { executions = again.executions; counts = again.counts })

  counters_fit : are_counters counters ≡ true
  counters_fit = and_from (is_count again.executions) (are_counts again.counts) (count_small (j.row.executions + 1)) counts

  report : (is_name error && is_message (message_of message)) ≡ true
  report = and_from (is_name error) (is_message (message_of message)) name (message_fits message)

  failing_fits : is_in_range (failing s error message j) ≡ true
  failing_fits = and_from (is_number j.row.id && is_name error && is_message (message_of message)) (are_counters counters)
      (and_from (is_number j.row.id && is_name error) (is_message (message_of message)) (and_from (is_number j.row.id) (is_name error) number name) (message_fits message)) counters_fit

  acted : (a : Act) → IsAnswered s (raise_by s error message j (begin s) a)
  acted act.Fail = record {
    draft = one_end s good j.row.id (failing s error message j) (and_from (is_name error && is_message (message_of message)) (are_counters counters) report counters_fit) refl failing_fits
        (allowed.fail s.moment j.row.id (begin s) j found error (message_of message) counters claimed);
    handed = refl;
  }
  acted act.Discard = record { draft = finished; handed = refl }
  acted (act.Retry wait) = record {
    draft = subst (λ n. Holds s (IsSound s n) (raise_by s error message j (begin s) (act.Retry wait)).draft) (zero-add (jobs_named (raise_by s error message j (begin s) (act.Retry wait)).answer))
        (one_job s good 0 again (Some (later_moment s.moment wait)) done
        (row_fits j.row (min 65_535 (j.row.executions + 1)) again.counts row (count_small (j.row.executions + 1)) counts)
        (λ t e. subst IsMoment (same_Some (later_moment s.moment wait) t e) (later_is s.moment wait)) finished);
    handed = refl;
  }

  pub raised : IsAnswered s (raise s error message j (begin s))
  raised = acted (decision_of s.settings j.row.class error j.row.counts).act

-- ---- a job that is retried

here : (s : Scene) (l : Option Limited) → (l >>= λ limited. refuse (is_shut_out s.book.world (Some limited)) (SemaphoreClosed limited.key)) ≡ None → is_shut_out s.book.world l ≡ false
here s None e = refl
here s (Some limited) e = unrefused _ _ e

pub retried : (s : Scene) (j : Job) (d : Draft) → IsGoodScene s → IsGoodFor s d → finite.get d.world.jobs j.row.id ≡ Some j → is_failed (Some (stage_of j.state)) ≡ true → is_shut_out d.world j.row.limited ≡ false → IsNotSpent d.given (retry s.moment j d).given → IsGoodFor s (retry s.moment j d)
retried s j d good h found failed open_key unspent =
    let put : Put = meets d s.moment j.row.limited in
    let t : Transition = Retry j.row.id put in
    let number : is_number j.row.id ≡ true = (h.good.jobs j.row.id j found).number.0 in
    let place : is_put put ≡ true = meets_fits s.book.world s.moment d h t unspent j.row.limited refl in
    let range : is_in_range t ≡ true = and_from (is_number j.row.id && is_put put && not (ranges.is_scheduled put)) (not (is_away put))
    (and_from (is_number j.row.id && is_put put) (not (ranges.is_scheduled put)) (and_from (is_number j.row.id) (is_put put) number place) (ap not (meets_now d s.moment j.row.limited)))
    (ap not (meets_here d s.moment j.row.limited open_key)) in
    stepped s.book.world s.moment t d (moment_fits s good) range (allowed.retry s.moment j.row.id d j put (fresh s.book.world s.moment d h) found failed open_key refl) h

-- ---- the commands

module _ (s : Scene) (seat : ℕ) (good : IsGoodScene s) (vacant : finite.get s.book.open_plans seat ≡ None) where
  own_place : (id : ℕ) (j : Job) → finite.get s.book.world.jobs id ≡ Some j → finite.get s.book.world.jobs j.row.id ≡ Some j
  own_place id j found = subst (λ n. finite.get s.book.world.jobs n ≡ Some j) (sym (good.book.world.jobs id j found).own_number) found

  opens : (causes : List (Option Refused)) (made : Drafted) (plan : Plan) → planned s causes made ≡ Ok plan → IsAnswered s made → MayOpen s.book seat plan
  opens causes made plan e h = sound_opens s seat good vacant causes made plan e h.draft h.handed

  pub raised_error : (pid id : ℕ) (error message : List ℕ) (plan : Plan) → is_name error ≡ true → job_plan s (command.Raised pid id error message) ≡ Ok plan → MayOpen s.book seat plan
  raised_error pid id error message plan name e =
      let made : Drafted = does s (command.Raised pid id error message) in
      let c : IsClaim s id = claim_there s pid id made plan e in
      opens (of_claim s pid id) made plan e
      (subst (IsAnswered s) (sym (with_job_found s id (λ j. raise s error message j (begin s)) c.job c.found))
      (raised s good error message name c.job (own_place id c.job c.found) c.claimed))

  pub retry_one : (id : ℕ) (plan : Plan) → job_plan s (command.Retry id) ≡ Ok plan → MayOpen s.book seat plan
  retry_one id plan e =
      let made : Drafted = does s (command.Retry id) in
      let causes = accepted s (refusals s (command.Retry id)) made plan e in
      let first = unmet (no_such_job s id) (wrong_state s id is_failed ∷ semaphore_closed s id ∷ numbers_spent s made.draft ∷ []) causes.0 in
      let second = unmet (wrong_state s id is_failed) (semaphore_closed s id ∷ numbers_spent s made.draft ∷ []) first.1 in
      let third = unmet (semaphore_closed s id) (numbers_spent s made.draft ∷ []) second.1 in
      let j = job_there s id first.0 in
      let open_key : is_shut_out s.book.world j.0.row.limited ≡ false = here s j.0.row.limited (subst (λ o. (o >>= λ (x : Job). x.row.limited >>= λ limited. refuse (is_shut_out s.book.world (Some limited)) (SemaphoreClosed limited.key)) ≡ None) j.1 third.0) in
      let t : Transition = Retry j.0.row.id (meets (begin s) s.moment j.0.row.limited) in
      opens (refusals s (command.Retry id)) made plan e
      (subst (IsAnswered s) (sym (with_job_found s id (λ j. drafted (retry s.moment j (begin s)) (answer.Retried id (outcome_of (meets (begin s) s.moment j.row.limited)))) j.0 j.1)) (record {
        draft = record {
          rises = noted_rises s.book.given s.moment t;
          holds = λ unspent. (
            retried s j.0 (begin s) good (base s good) (own_place id j.0 j.1) (right_state s id is_failed j.0 j.1 second.0) open_key unspent,
            brings_none 0 0 s.moment t (begin s) refl refl (begins_empty s),
          );
        };
        handed = refl;
      }))
