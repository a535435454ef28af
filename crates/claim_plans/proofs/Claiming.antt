-- A process claims jobs, one after another.
use Rattle.std.proofs.Common.{◌≡◌, ◌≢◌, ◌≤◌, ◌<◌, ◌+◌, ℕ, Bool, true, false, nat_lt, List, [], ◌∷◌, length, take, Option, None, Some, is_some, is_none, ap, sym, ◌∙◌, refl, subst, All, arith}
use Rattle.std.proofs.lemmas.Bool.{true≢false}
use Rattle.std.proofs.lemmas.List.Elements.{All-contains, All-contains_itself, All-head, All-tail, All-weaker}
use Rattle.std.proofs.lemmas.Str.{IsUtf8-from_is_utf8}
use Rattle.std.specs.Prelude.{Contains, IsUtf8}
use Rattle.std.specs.Str.{is_utf8}
use Rattle.job_states.specs.Ranges.{is_row}
use Rattle.job_states.specs.declared.answer.Refused.{Refused}
use Rattle.job_states.specs.declared.job.JobRow.{JobRow}
use Rattle.job_states.specs.declared.row.Mode.TheVariants.{Shared}
use Rattle.job_states.specs.declared.row.Row.TheVariants as row
use Rattle.job_states.specs.declared.transition.Transition.{Transition}
use Rattle.job_states.specs.declared.transition.Transition.TheVariants.{Claim}
use Rattle.queue_model.specs.Map as finite
use Rattle.queue_model.specs.World.{claims}
use Rattle.queue_model.specs.declared.Job.{Job}
use Rattle.queue_model.proofs.Steps.{same_Some}
use Rattle.plan_model.specs.Books.{claims_kept}
use Rattle.plan_model.specs.Drafts.{begin, push, holding}
use Rattle.plan_model.specs.GoodDraft.{IsAllowed}
use Rattle.plan_model.specs.GoodScene.{IsGoodScene}
use Rattle.plan_model.specs.JobCommands.{claim_all}
use Rattle.plan_model.specs.Orders.{on_offer}
use Rattle.plan_model.specs.Refusals.{claim_limit, no_such_process, refuse}
use Rattle.plan_model.specs.Scenes.{Scene}
use Rattle.plan_model.proofs.AllowedClaims.{claim_counts}
use Rattle.plan_model.proofs.AllowedSeen.{job_there, processes_stay}
use Rattle.plan_model.proofs.Apart as apart
use Rattle.plan_model.proofs.Offers.{offers_apart, offers_ready}
use Rattle.plan_model.proofs.OrderLemmas.{same_job}
use Rattle.plan_model.proofs.Polls.{taken}
use Rattle.plan_drafts.specs.Drafting.{Drafting, with_draft}
use Rattle.plan_scenes.specs.Begun.{begun}
use Rattle.claim_plans.specs.Polls.{AreApart, CanClaim, IsReadyIn}

-- ---- a claim

module _ (d : Drafting) (pid : ℕ) (j : Job) (jobs : List Job) (can : CanClaim d pid (j ∷ jobs)) where
  pub first_ready : IsReadyIn d j
  first_ready = All-head (IsReadyIn d) j jobs can.ready

  pub has_room : claims d.draft.world pid < 500
  has_room = let few = can.few in omega (arith, few)

  abbrev step : Transition
  step = Claim j.row.id pid

  abbrev after : Drafting
  after = with_draft d (push d.moment step d.draft)

  other_job : (k : Job) → k.row.id ≢ j.row.id → IsReadyIn d k → IsReadyIn after k
  other_job k apart was = record {
    known = was.known;
    found = job_there d.moment step d.draft k.row.id (λ same. apart (sym (same_Some j.row.id k.row.id same))) ∙ was.found;
    ready = was.ready;
  }

  others : All (IsReadyIn after) jobs
  others = All-weaker (Contains jobs) (IsReadyIn after)
      (λ k h. other_job k (All-contains (λ (x : Job). x.row.id ≢ j.row.id) jobs k can.apart.0 h) (All-contains (IsReadyIn d) jobs k (All-tail (IsReadyIn d) j jobs can.ready) h))
      jobs (All-contains_itself jobs)

  pub can_still : IsAllowed d.moment d.draft step → CanClaim after pid jobs
  can_still allowed = record {
    ready = others;
    apart = can.apart.1;
    process = ap is_some (processes_stay d.moment step d.draft refl pid) ∙ can.process;
    few = let more = claim_counts d.moment j.row.id pid d.draft allowed in let few = can.few in omega (arith, more, few);
  }

-- in a draft that a claim has left
module _ (d v : Drafting) (pid : ℕ) (j : Job) (all rest : List Job) (first : all ≡ j ∷ rest) (can : CanClaim d pid all) where
  can_first : CanClaim d pid (j ∷ rest)
  can_first = subst (CanClaim d pid) first can

  pub ready_first : IsReadyIn d j
  ready_first = first_ready d pid j rest can_first

  pub room_first : claims d.draft.world pid < 500
  room_first = has_room d pid j rest can_first

  module _ (claimed : v ≡ with_draft d (push d.moment (Claim j.row.id pid) d.draft)) where
    pub can_rest : IsAllowed d.moment d.draft (Claim j.row.id pid) → CanClaim v pid rest
    can_rest allowed = subst (λ x. CanClaim x pid rest) (sym claimed) (can_still d pid j rest can_first allowed)

    pub all_claimed : with_draft v (claim_all v.moment pid rest v.draft) ≡ with_draft d (claim_all d.moment pid all d.draft)
    all_claimed = ap (λ x. with_draft x (claim_all x.moment pid rest x.draft)) claimed ∙ ap (λ jobs. with_draft d (claim_all d.moment pid jobs d.draft)) (sym first)

-- ---- the jobs on offer

unrefused : (b : Bool) (refused : Refused) → refuse b refused ≡ None → b ≡ false
unrefused true refused e = absurd (true≢false (ap is_some e))
unrefused false refused e = refl

is_there : {A : Type 0} (o : Option A) → is_none o ≡ false → is_some o ≡ true
is_there None e = absurd (true≢false e)
is_there (Some x) e = refl

within : (n : ℕ) → nat_lt 500 n ≡ false → n ≤ 500
within n e = grind (arith, e)

-- those that stand in one world have numbers of their own
numbers_apart : (d : Drafting) (jobs : List Job) → apart.AreApart jobs → All (IsReadyIn d) jobs → AreApart jobs
numbers_apart d [] h ready = tt
numbers_apart d (j ∷ jobs) h ready =
    let rest = All-tail (IsReadyIn d) j jobs ready in (
      All-weaker (Contains jobs) (λ (k : Job). k.row.id ≢ j.row.id)
          (λ k there same. h.0 k there (same_job (finite.get d.draft.world.jobs) k j (All-contains (IsReadyIn d) jobs k rest there).found (All-head (IsReadyIn d) j jobs ready).found same))
          jobs (All-contains_itself jobs),
      numbers_apart d jobs h.1 rest,
    )

envelope_text : (row : JobRow) → is_row row ≡ true → is_utf8 row.envelope ≡ true
envelope_text row h = grind arith

module _ (s : Scene) (good : IsGoodScene s) (pid limit : ℕ) (items : List (List ℕ)) where
  abbrev offered : List Job
  offered = take limit (on_offer s.book items)

  ready_there : (d : Drafting) → d ≡ with_draft (begun s) (holding (row.Process pid) Shared (begin s)) → (j : Job) → Contains offered j → IsReadyIn d j
  ready_there d is j h =
      let ready = offers_ready s.book items j good.book.world (apart.take_there limit (on_offer s.book items) j h) in
      subst (λ (v : Drafting). IsReadyIn v j) (sym is) (record { known = ap is_some ready.found; found = ready.found; ready = ready.ready })

  pub can_claim : no_such_process s pid ≡ None → claim_limit s pid limit ≡ None → (d : Drafting) → d ≡ with_draft (begun s) (holding (row.Process pid) Shared (begin s)) → CanClaim d pid offered
  can_claim there room d is = record {
    ready = ready;
    apart = numbers_apart d offered (apart.take_apart limit (on_offer s.book items) (offers_apart s.book items)) ready;
    process = subst (λ (v : Drafting). is_some (finite.get v.draft.world.processes pid) ≡ true) (sym is) (is_there (finite.get s.book.world.processes pid) (unrefused _ _ there));
    few = subst (λ (v : Drafting). claims v.draft.world pid + length offered ≤ 500) (sym is)
        (let most = within (claims_kept s.book pid + limit) (unrefused _ _ room) in let short = taken limit (on_offer s.book items) in omega (arith, most, short));
  }
    where
      ready : All (IsReadyIn d) offered
      ready = All-weaker (Contains offered) (IsReadyIn d) (ready_there d is) offered (All-contains_itself offered)

  -- their envelopes are texts
  pub have_texts : All (λ j. IsUtf8 j.row.envelope) offered
  have_texts = All-weaker (Contains offered) (λ (j : Job). IsUtf8 j.row.envelope)
      (λ j h.
      let ready = offers_ready s.book items j good.book.world (apart.take_there limit (on_offer s.book items) j h) in
      IsUtf8-from_is_utf8 j.row.envelope (envelope_text j.row (good.book.world.jobs j.row.id j ready.found).row))
      offered (All-contains_itself offered)
