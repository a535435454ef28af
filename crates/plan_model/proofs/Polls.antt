-- The plan of a poll may be opened.
use Rattle.std.proofs.Common.{◌≡◌, ◌≢◌, ◌≤◌, ◌<◌, ◌+◌, ℕ, zero, suc, Bool, true, false, cond, nat_lt, List, [], ◌∷◌, ◌++◌, length, take, None, Some, Ok, is_some, ap, sym, ◌∙◌, refl, subst, zero-add, arith}
use Rattle.std.proofs.lemmas.Bool.{and_from, eqb-true}
use Rattle.std.proofs.lemmas.List.{length-map}
use Rattle.std.specs.Prelude.{◌==◌, Contains}
use Rattle.job_states.specs.Ranges.{is_number}
use Rattle.job_states.specs.declared.command.Command.TheVariants as command
use Rattle.job_states.specs.declared.row.Mode.TheVariants.{Shared}
use Rattle.job_states.specs.declared.row.Row.TheVariants as row
use Rattle.job_states.specs.declared.transition.Transition.{Transition}
use Rattle.job_states.specs.declared.transition.Transition.TheVariants.{Claim}
use Rattle.queue_model.specs.Footprints.{claims_by, new_claims}
use Rattle.queue_model.specs.Held.{holds}
use Rattle.queue_model.specs.Map as finite
use Rattle.queue_model.specs.Sights.{sees}
use Rattle.queue_model.specs.World.{claims}
use Rattle.queue_model.specs.declared.Job.{Job}
use Rattle.queue_model.proofs.Cases.{shared_stays}
use Rattle.queue_model.proofs.Steps.{same_Some}
use Rattle.row_locks.proofs.Membership.{Contains-head, Contains-tail}
use Rattle.plan_model.specs.Books.{claims_kept}
use Rattle.plan_model.specs.Drafts.{Draft, begin, push, holding}
use Rattle.plan_model.specs.GoodBook.{MayOpen}
use Rattle.plan_model.specs.GoodDraft.{IsAllowed}
use Rattle.plan_model.specs.GoodScene.{IsGoodScene}
use Rattle.plan_model.specs.JobCommands.{job_plan, refusals, does, claim_all, polled}
use Rattle.plan_model.specs.Orders.{on_offer}
use Rattle.plan_model.specs.Planned.{Drafted, plan_with}
use Rattle.plan_model.specs.Plans.{Plan}
use Rattle.plan_model.specs.Refusals.{first_met, no_such_process, claim_limit, numbers_spent}
use Rattle.plan_model.specs.Scenes.{Scene}
use Rattle.plan_model.proofs.AllowedClaims.{claim_counts}
use Rattle.plan_model.proofs.AllowedMoves as allowed
use Rattle.plan_model.proofs.AllowedSeen.{some_there, rows_of, job_there, process_here}
use Rattle.plan_model.proofs.Apart.{AreApart, take_there, take_apart}
use Rattle.plan_model.proofs.DraftLemmas.{Brings, brings_claim, brings_held, claims_counted, claims_more}
use Rattle.plan_model.proofs.GoodDrafts.{stepped, holding_good}
use Rattle.plan_model.proofs.Offers.{IsReady, offers_apart, offers_ready}
use Rattle.plan_model.proofs.Opening.{IsGoodFor, base, moment_fits, may_open}
use Rattle.plan_model.proofs.OrderLemmas.{same_job}
use Rattle.plan_model.proofs.PlanLemmas.{accepted, unmet, unrefused, is_there, begins_empty}

-- ---- claims, one after another

module _ (s : Scene) (good : IsGoodScene s) (pid : ℕ) where
  -- a draft in which these jobs can be claimed
  record CanClaim (jobs : List Job) (d : Draft) : Type 0 where
    draft : IsGoodFor s d
    ready : (j : Job) → Contains jobs j → IsReady d.world j
    process : is_some (finite.get d.world.processes pid) ≡ true
    few : claims d.world pid + length jobs ≤ 500

  still_there : (id : ℕ) (d : Draft) → IsAllowed s.moment d (Claim id pid) → finite.get (push s.moment (Claim id pid) d).world.processes pid ≡ finite.get d.world.processes pid
  still_there id d h =
      let t : Transition = Claim id pid in
      let c = rows_of s.moment t d h in
      process_here s.moment t d c.0 c.1 pid refl ∙ shared_stays s.moment (sees d.world (holds d.world t)) t c.0 pid c.1 refl

  claimed_one : (j : Job) (jobs : List Job) (d : Draft) → AreApart (j ∷ jobs) → CanClaim (j ∷ jobs) d → CanClaim jobs (push s.moment (Claim j.row.id pid) d)
  claimed_one j jobs d apart h =
      let t : Transition = Claim j.row.id pid in
      let here : IsReady d.world j = h.ready j (Contains-head j jobs) in
      let less : claims d.world pid < 500 = let few = h.few in omega (arith, few) in
      let a : IsAllowed s.moment d t = allowed.claim s.moment j.row.id d j here.found pid here.ready h.process less in
      let process = some_there (finite.get d.world.processes pid) h.process in
      let number : is_number pid ≡ true = (h.draft.good.processes pid process.0 process.1).number.0 in
      record {
        draft = stepped s.book.world s.moment t d (moment_fits s good) (and_from (is_number j.row.id) (is_number pid) (h.draft.good.jobs j.row.id j here.found).number.0 number) a h.draft;
        ready = λ x later.
            let was : IsReady d.world x = h.ready x (Contains-tail j jobs x later) in
            let other : Some j.row.id ≢ Some x.row.id = λ same. apart.0 x later (same_job (finite.get d.world.jobs) x j was.found here.found (sym (same_Some j.row.id x.row.id same))) in
            record { found = job_there s.moment t d x.row.id other ∙ was.found; ready = was.ready };
        process = ap is_some (still_there j.row.id d a) ∙ h.process;
        few = let more = claim_counts s.moment j.row.id pid d a in let few = h.few in omega (arith, more, few);
      }

  claimed_all : (jobs : List Job) (d : Draft) → AreApart jobs → CanClaim jobs d → IsGoodFor s (claim_all s.moment pid jobs d)
  claimed_all [] d apart h = h.draft
  claimed_all (j ∷ jobs) d apart h = claimed_all jobs (push s.moment (Claim j.row.id pid) d) apart.1 (claimed_one j jobs d apart h)

-- ---- how many there are

all_brings : (claimed m pid : ℕ) (jobs : List Job) (d : Draft) → Brings 0 claimed d → Brings 0 (claimed + length jobs) (claim_all m pid jobs d)
all_brings claimed m pid [] d h = subst (λ n. Brings 0 n d) (still claimed) h
  where
    still : (n : ℕ) → n ≡ n + 0
    still n = omega arith
all_brings claimed m pid (j ∷ jobs) d h = subst (λ n. Brings 0 n (claim_all m pid (j ∷ jobs) d)) (next claimed (length jobs)) (all_brings (claimed + 1) m pid jobs (push m (Claim j.row.id pid) d) (brings_claim 0 claimed m j.row.id pid d h))
  where
    next : (n k : ℕ) → (n + 1) + k ≡ n + suc k
    next n k = omega arith

others_none : (m pid other : ℕ) (jobs : List Job) (d : Draft) → (pid == other) ≡ false → new_claims other (claim_all m pid jobs d).steps ≡ new_claims other d.steps
others_none m pid other [] d e = refl
others_none m pid other (j ∷ jobs) d e =
    let rest = others_none m pid other jobs (push m (Claim j.row.id pid) d) e in
    let one : new_claims other (push m (Claim j.row.id pid) d).steps ≡ new_claims other d.steps + claims_by other (Claim j.row.id pid) = claims_more other d.steps (Claim j.row.id pid) in
    let none : claims_by other (Claim j.row.id pid) ≡ 0 = ap (λ b. cond b 1 0) e in
    omega (arith, rest, one, none)

-- ---- the poll

within : (n : ℕ) → nat_lt 500 n ≡ false → n ≤ 500
within n e = grind (arith, e)

pub taken : {A : Type 0} (n : ℕ) (xs : List A) → length (take n xs) ≤ n
taken zero xs = omega arith
taken (suc n) [] = omega arith
taken (suc n) (x ∷ xs) = let rest = taken n xs in omega (arith, rest)

module _ (s : Scene) (seat : ℕ) (good : IsGoodScene s) (vacant : finite.get s.book.open_plans seat ≡ None) where
  pub poll : (pid : ℕ) (items : List (List ℕ)) (limit : ℕ) (plan : Plan) → job_plan s (command.Poll pid items limit) ≡ Ok plan → MayOpen s.book seat plan
  poll pid items limit plan e = may_open s seat good vacant (refusals s (command.Poll pid items limit)) made plan e
      (claimed_all s good pid jobs first_draft (take_apart limit (on_offer s.book items) (offers_apart s.book items)) (record {
        draft = holding_good s.book.world s.moment (row.Process pid) Shared (begin s) (base s good);
        ready = λ j h. offers_ready s.book items j good.book.world (take_there limit (on_offer s.book items) j h);
        process = is_there (finite.get s.book.world.processes pid) (unrefused _ _ first.0);
        few = let most = limits in let short = few_jobs in omega (arith, most, short);
      }))
      (subst (λ n. Brings 0 n made.draft) (sym (length-map jobs polled)) all)
      few
    where
      made : Drafted
      made = does s (command.Poll pid items limit)

      jobs : List Job
      jobs = take limit (on_offer s.book items)

      first_draft : Draft
      first_draft = holding (row.Process pid) Shared (begin s)

      causes : (first_met (refusals s (command.Poll pid items limit) ++ numbers_spent s made.draft ∷ []) ≡ None) × (plan_with s made ≡ plan)
      causes = accepted s (refusals s (command.Poll pid items limit)) made plan e

      first : (no_such_process s pid ≡ None) × (first_met (claim_limit s pid limit ∷ numbers_spent s made.draft ∷ []) ≡ None)
      first = unmet (no_such_process s pid) (claim_limit s pid limit ∷ numbers_spent s made.draft ∷ []) causes.0

      limits : claims_kept s.book pid + limit ≤ 500
      limits = within (claims_kept s.book pid + limit) (unrefused _ _ (unmet (claim_limit s pid limit) (numbers_spent s made.draft ∷ []) first.1).0)

      few_jobs : length jobs ≤ limit
      few_jobs = taken limit (on_offer s.book items)

      all : Brings 0 (length jobs) made.draft
      all = subst (λ n. Brings 0 n made.draft) (zero-add (length jobs)) (all_brings 0 s.moment pid jobs first_draft (brings_held 0 0 (row.Process pid) Shared (begin s) (begins_empty s)))

      few : (other : ℕ) → claims_kept s.book other + new_claims other made.draft.steps ≤ 500
      few other = by (pid == other) refl
        where
          by : (b : Bool) → (pid == other) ≡ b → claims_kept s.book other + new_claims other made.draft.steps ≤ 500
          by true is =
              let own = all.claimed_is in
              subst (λ p. claims_kept s.book p + new_claims p made.draft.steps ≤ 500) (eqb-true pid other is) (let counted = claims_counted pid made.draft.steps in omega (arith, counted, own, few_jobs, limits))
          by false is = let none = others_none s.moment pid other jobs first_draft is in let kept = good.book.few_claims other in omega (arith, none, kept)
