-- From what holds of a command's draft to its plan, which may be opened.
use Rattle.std.proofs.Common.{◌≡◌, ◌≤◌, ◌+◌, ℕ, true, false, List, Option, None, Some, Ok}
use Rattle.std.specs.Option.{ForSome}
use Rattle.job_states.specs.Moment.{IsMoment, is_moment}
use Rattle.job_states.specs.Ranges.{is_in_range, is_row}
use Rattle.job_states.specs.declared.answer.Refused.{Refused}
use Rattle.job_states.specs.declared.job.JobRow.{JobRow}
use Rattle.job_states.specs.declared.row.Mode.{Mode}
use Rattle.job_states.specs.declared.row.Row.{Row}
use Rattle.job_states.specs.declared.transition.Transition.{Transition}
use Rattle.queue_model.specs.Footprints.{new_claims}
use Rattle.queue_model.specs.Map as map
use Rattle.queue_model.specs.Named.{job_named}
use Rattle.plan_model.specs.Books.{claims_kept}
use Rattle.plan_model.specs.Drafts.{Draft, begin, push, holding, end, enqueue}
use Rattle.plan_model.specs.GoodBook.{MayOpen}
use Rattle.plan_model.specs.GoodDraft.{IsAllowed, is_end}
use Rattle.plan_model.specs.GoodScene.{IsGoodScene}
use Rattle.plan_model.specs.Planned.{Drafted, planned}
use Rattle.plan_model.specs.Plans.{Plan, is_enqueue, is_claim, jobs_named, jobs_handed, one}
use Rattle.plan_model.specs.Refusals.{numbers_spent}
use Rattle.plan_model.specs.Scenes.{Scene}
use Rattle.plan_model.proofs.DraftLemmas.{Brings, brings_none, brings_held}
use Rattle.plan_model.proofs.Endings.{ended, end_brings, end_rises}
use Rattle.plan_model.proofs.GoodDrafts.{IsGoodDraft, stepped, holding_good}
use Rattle.plan_model.proofs.Places.{numbered, enqueued, enqueue_rises, enqueue_brings}
use Rattle.plan_model.proofs.PlanLemmas.{accepted, begun, begins_empty, moment_is, opens, opens_unclaimed}
use Rattle.plan_model.proofs.Spending.{Holds, holds_next, none_spent, last_unmet, stays, noted_rises}

abbrev pub IsGoodFor : Scene → Draft → Type 0
IsGoodFor s d = IsGoodDraft s.book.world s.moment d

-- it is good, without claims, and with so many new jobs
abbrev pub IsSound : Scene → (made : ℕ) → Draft → Type 0
IsSound s made d = IsGoodFor s d × Brings made 0 d

pub moment_fits : (s : Scene) → IsGoodScene s → is_moment s.moment ≡ true
moment_fits s good = moment_is s.moment good.moment

-- ---- drafts

pub base : (s : Scene) → IsGoodScene s → IsGoodFor s (begin s)
base s good = record { draft = begun s; good = good.book.world; above = good.book.given }

pub from_base : (s : Scene) (P : Draft → Type 0) → P (begin s) → Holds s P (begin s)
from_base s P h = record { rises = stays s.book.given; holds = λ unspent. h }

pub held : (s : Scene) (made : ℕ) (r : Row) (mode : Mode) (d : Draft) → Holds s (IsSound s made) d → Holds s (IsSound s made) (holding r mode d)
held s made r mode d h = record {
  rises = h.rises;
  holds = λ unspent. let was = h.holds unspent in (holding_good s.book.world s.moment r mode d was.0, brings_held made 0 r mode d was.1);
}

module _ (s : Scene) (good : IsGoodScene s) where
  -- one transition alone
  pub one_step : (t : Transition) → is_in_range t ≡ true → IsAllowed s.moment (begin s) t → is_enqueue t ≡ false → is_claim t ≡ false → Holds s (IsSound s 0) (push s.moment t (begin s))
  one_step t range allows no_job no_claim = record {
    rises = noted_rises s.book.given s.moment t;
    holds = λ unspent. (stepped s.book.world s.moment t (begin s) (moment_fits s good) range allows (base s good), brings_none 0 0 s.moment t (begin s) no_job no_claim (begins_empty s));
  }

  -- the end of a job
  pub one_end : (id : ℕ) (t : Transition) → is_end t ≡ true → job_named t ≡ Some id → is_in_range t ≡ true → IsAllowed s.moment (begin s) t → Holds s (IsSound s 0) (end s.moment id t (begin s)).0
  one_end id t ends named range allows = record {
    rises = end_rises s.moment id t (begin s);
    holds = λ unspent. (ended s.book.world s.moment id t (begin s) good.moment ends named range allows (base s good) unspent, end_brings 0 0 s.moment id t (begin s) ends (begins_empty s));
  }

  -- one new job more
  pub one_job : (made : ℕ) (row : JobRow) (at : Option ℕ) (d : Draft) → is_row (numbered row 1) ≡ true → ForSome at IsMoment → Holds s (IsSound s made) d → Holds s (IsSound s (made + one (enqueue s.moment row at d).1.id)) (enqueue s.moment row at d).0
  one_job made row at d fits at_fits h = holds_next s (IsSound s made) (IsSound s (made + one (enqueue s.moment row at d).1.id)) d (enqueue s.moment row at d).0 h (enqueue_rises s.moment row at d)
      (λ was unspent. (enqueued s.book.world s.moment row at d (moment_fits s good) fits at_fits was.0 unspent, enqueue_brings made 0 s.moment row at d was.1))

-- ---- plans

module _ (s : Scene) (seat : ℕ) (good : IsGoodScene s) (vacant : map.get s.book.open_plans seat ≡ None) (causes : List (Option Refused)) (made : Drafted) (plan : Plan) (e : planned s causes made ≡ Ok plan) where
  -- numbers aren't spent where a command isn't refused
  unspent : (P : Draft → Type 0) → Holds s P made.draft → P made.draft
  unspent P h = h.holds (none_spent s made.draft (last_unmet causes (numbers_spent s made.draft) (accepted s causes made plan e).0))

  pub may_open : IsGoodFor s made.draft → Brings (jobs_named made.answer) (jobs_handed made.answer) made.draft → ((pid : ℕ) → claims_kept s.book pid + new_claims pid made.draft.steps ≤ 500) → MayOpen s.book seat plan
  may_open d told few = opens s seat good vacant made plan (accepted s causes made plan e).1 d.draft told few

  pub sound_opens : Holds s (IsSound s (jobs_named made.answer)) made.draft → jobs_handed made.answer ≡ 0 → MayOpen s.book seat plan
  sound_opens h none =
      let d = unspent (IsSound s (jobs_named made.answer)) h in
      opens_unclaimed s seat good vacant made plan (accepted s causes made plan e).1 d.0.draft d.1 none
