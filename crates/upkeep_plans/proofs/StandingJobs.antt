-- What stands in a draft of what is left, when its first item was passed.
use Rattle.std.proofs.Common.{◌≡◌, ◌≢◌, ◌≤◌, ◌+◌, ℕ, suc, Bool, true, false, List, [], ◌∷◌, filter, length, Option, None, Some, is_some, arith, ap, sym, ◌∙◌, refl, subst}
use Rattle.std.proofs.lemmas.Bool.{true≢false, and_from}
use Rattle.std.proofs.lemmas.List.Sums.{length-filter}
use Rattle.std.specs.Prelude.{Contains, codes}
use Rattle.job_states.specs.Ranges.{is_message}
use Rattle.job_states.specs.States.{stage_of, is_blocked, is_claimed, is_finished}
use Rattle.job_states.specs.declared.job.JobRow.{JobRow}
use Rattle.job_states.specs.declared.job.State.{State}
use Rattle.job_states.specs.declared.job.State.TheVariants as state
use Rattle.job_states.specs.declared.transition.Transition.{Transition}
use Rattle.job_states.specs.declared.transition.Transition.TheVariants.{Clear, Deregister, Dispatch, Expire, Fail, Release}
use Rattle.job_states.specs.declared.transition.Put.{Put}
use Rattle.queue_model.specs.GoodWorld.{IsGood}
use Rattle.queue_model.specs.Map as finite
use Rattle.queue_model.specs.Map.{get}
use Rattle.queue_model.specs.Named.{generation_named, job_named, put_named}
use Rattle.queue_model.specs.World.{claims, is_claimed_by, job}
use Rattle.queue_model.specs.declared.Job.{Job}
use Rattle.queue_model.proofs.Maps.{texts_total}
use Rattle.queue_model.proofs.Steps.{same_Some}
use Rattle.row_locks.proofs.Membership.{Contains-head, Contains-tail, Contains-from_filter, Contains-from_map}
use Rattle.semaphores.specs.Semaphore.{Semaphore, is_expired}
use Rattle.queue_model.specs.declared.Numbers.{Numbers}
use Rattle.plan_drafts.specs.Pushes.{NamesNext, job_made, process_made}
use Rattle.plan_drafts.specs.Drafting.{Drafting, with_draft}
use Rattle.plan_scenes.specs.Begun.{begun}
use Rattle.plan_model.specs.GoodDraft.{IsAllowed, IsFresh, is_end}
use Rattle.plan_model.specs.Drafts.{Draft, begin, meets, push}
use Rattle.plan_model.specs.Scenes.{Scene}
use Rattle.plan_model.specs.UpkeepCommands.{claimed_by, due_jobs, expired_keys, is_over}
use Rattle.plan_model.proofs.AllowedSeen.{job_there, processes_stay, semaphore_there}
use Rattle.plan_model.proofs.AllowedClaims.{claim_ends}
use Rattle.plan_model.proofs.AllowedMoves as allowed
use Rattle.plan_model.proofs.Apart as apart
use Rattle.plan_model.proofs.Apart.{filter_apart, keys_apart_where}
use Rattle.plan_model.proofs.DueJobs.{due_apart, due_is}
use Rattle.plan_model.proofs.MapLemmas.{entry_found, filter_passes}
use Rattle.plan_model.proofs.OrderLemmas.{jobs_apart, own_place, same_job}
use Rattle.upkeep_plans.specs.Taking.{IsTaking, MayTake, Taking}
use Rattle.std.specs.Option.{ForSome}
use Rattle.upkeep_plans.specs.Standing.{AreApart, AreExpired, HasClaims, StandJobs, is_due_at, itself}

-- ---- jobs

module _ {A : Type 0} (job_of : A → Job) (passes : A → Bool) (s : Scene) where
  pub jobs_pass : (x : A) (xs : List A) (d : Draft) → StandJobs job_of passes s (x ∷ xs) d → StandJobs job_of passes s xs d
  jobs_pass x xs d h = record {
    was = λ y later. h.was y (Contains-tail x xs y later);
    there = λ y later. h.there y (Contains-tail x xs y later);
    pass = λ y later. h.pass y (Contains-tail x xs y later);
    one = λ y z p q. h.one y z (Contains-tail x xs y p) (Contains-tail x xs z q);
    apart = h.apart.1;
  }

  pub jobs_move : (x : A) (xs : List A) (d : Draft) (step : Transition) → job_named step ≡ Some (job_of x).row.id → StandJobs job_of passes s (x ∷ xs) d → StandJobs job_of passes s xs (push s.moment step d)
  jobs_move x xs d step named h =
      let rest = jobs_pass x xs d h in record {
        was = rest.was;
        there = λ y later. job_there s.moment step d (job_of y).row.id (λ same. other y later (same_Some (job_of x).row.id (job_of y).row.id (sym named ∙ same))) ∙ rest.there y later;
        pass = rest.pass;
        one = rest.one;
        apart = rest.apart;
      }
    where
      other : (y : A) → Contains xs y → (job_of x).row.id ≢ (job_of y).row.id
      other y later same =
          let here = h.there x (Contains-head x xs) in
          let there = h.there y (Contains-tail x xs y later) in
          h.apart.0 y later (h.one y x (Contains-tail x xs y later) (Contains-head x xs) (same_job (get d.world.jobs) (job_of y) (job_of x) there here (sym same)))

-- ---- as a draft begins

pub apart_too : {A : Type 0} (xs : List A) → apart.AreApart xs → AreApart xs
apart_too [] h = tt
apart_too (x ∷ xs) h = (h.0, apart_too xs h.1)

module _ (s : Scene) (good : IsGood s.book.world) where
  abbrev all : List Job
  all = finite.values s.book.world.jobs

  jobs_begin : (passes : Job → Bool) (items : List Job) → ((j : Job) → Contains items j → Contains all j) → ((j : Job) → Contains items j → passes j ≡ true) → apart.AreApart items → StandJobs itself passes s items (begin s)
  jobs_begin passes items there pass apart = record {
    was = λ j h. ap is_some (own_place s.book.world j good (there j h));
    there = λ j h. own_place s.book.world j good (there j h);
    pass = pass;
    one = λ x y p q e. e;
    apart = apart_too items apart;
  }

  pub filtered_begin : (passes : Job → Bool) → StandJobs itself passes s (filter passes all) (begin s)
  filtered_begin passes = jobs_begin passes (filter passes all) (Contains-from_filter passes all) (filter_passes passes all) (filter_apart passes all (jobs_apart s.book.world good))

  pub due_begin : StandJobs itself (is_due_at s.moment) s (due_jobs s.book.world s.moment) (begin s)
  due_begin = jobs_begin (is_due_at s.moment) (due_jobs s.book.world s.moment) (λ j h. (due_is s.book.world s.moment j h).there) (λ j h. (due_is s.book.world s.moment j h).due) (due_apart s.book.world s.moment)

  -- the claims of a process that is registered
  pub claims_begin : (pid : ℕ) → is_some (get s.book.world.processes pid) ≡ true → HasClaims pid (claimed_by s.book.world pid) (begun s)
  claims_begin pid registered =
      let stand = filtered_begin (is_claimed_by pid) in
      let count = sym (length-filter (is_claimed_by pid) all) in record {
        was = stand.was;
        there = stand.there;
        claimed = stand.pass;
        apart = stand.apart;
        process = registered;
        count = count;
        few = subst (λ n. n ≤ 500) count (good.few_claims pid);
      }

-- ---- claims

module _ (pid : ℕ) (j : Job) (js : List Job) (d : Drafting) (h : HasClaims pid (j ∷ js) d) where
  abbrev release : Transition
  release = Release j.row.id

  state_claimed : (row : JobRow) (st : State) → is_claimed_by pid (job row st) ≡ true → is_claimed (Some (stage_of st)) ≡ true
  state_claimed row (state.Claimed p permit) e = refl
  state_claimed row (state.Scheduled at) e = absurd (true≢false (sym e))
  state_claimed row (state.Ready permit) e = absurd (true≢false (sym e))
  state_claimed row (state.Blocked until) e = absurd (true≢false (sym e))
  state_claimed row (state.Failed error message) e = absurd (true≢false (sym e))
  state_claimed row (state.Finished at) e = absurd (true≢false (sym e))

  pub here : get d.draft.world.jobs j.row.id ≡ Some j
  here = h.there j (Contains-head j js)

  pub is_claim : is_claimed (Some (stage_of j.state)) ≡ true
  is_claim = state_claimed j.row j.state (h.claimed j (Contains-head j js))

  pub may_release : IsAllowed d.moment d.draft release
  may_release = allowed.release d.moment j.row.id d.draft j here is_claim

  other : (x : Job) → Contains js x → j.row.id ≢ x.row.id
  other x later same = h.apart.0 x later (same_job (get d.draft.world.jobs) x j (h.there x (Contains-tail j js x later)) here (sym same))

  one_less : (n k : ℕ) → n + 1 ≡ suc k → n ≡ k
  one_less n k e = omega (arith, e)

  pub released : HasClaims pid js (with_draft d (push d.moment release d.draft))
  released = record {
    was = λ x later. h.was x (Contains-tail j js x later);
    there = λ x later. job_there d.moment release d.draft x.row.id (λ same. other x later (same_Some j.row.id x.row.id same)) ∙ h.there x (Contains-tail j js x later);
    claimed = λ x later. h.claimed x (Contains-tail j js x later);
    apart = h.apart.1;
    process = ap is_some (processes_stay d.moment release d.draft refl pid) ∙ h.process;
    count = one_less (claims (push d.moment release d.draft).world pid) (length js)
        (claim_ends d.moment release j.row.id pid d.draft j may_release refl refl here (h.claimed j (Contains-head j js)) ∙ h.count);
    few = omega (arith, h.few);
  }

  -- ---- the claim fails

  abbrev pub failing : (message : List ℕ) → Transition
  failing message = Fail j.row.id (codes "ProcessPrunedError") message None

  pub failing_ends : (message : List ℕ) → is_message message ≡ true → is_end (failing message) ≡ true
  failing_ends message fits = and_from (is_message message) true fits refl

  pub may_fail : (message : List ℕ) → IsAllowed d.moment d.draft (failing message)
  may_fail message = allowed.fail d.moment j.row.id d.draft j here (codes "ProcessPrunedError") message None is_claim

  not_blocked : (st : State) → is_claimed (Some (stage_of st)) ≡ true → is_blocked (Some (stage_of st)) ≡ false
  not_blocked (state.Claimed p permit) e = refl
  not_blocked (state.Scheduled at) e = refl
  not_blocked (state.Ready permit) e = refl
  not_blocked (state.Blocked until) e = absurd (true≢false (sym e))
  not_blocked (state.Failed error message) e = refl
  not_blocked (state.Finished at) e = refl

  -- where this is what stands after the failure, the process has the other claims
  pub failed : (e : Drafting) → e.begun ≡ d.begun
      → ((x : Job) → j.row.id ≢ x.row.id → get d.draft.world.jobs x.row.id ≡ Some x → is_blocked (Some (stage_of x.state)) ≡ false → get e.draft.world.jobs x.row.id ≡ Some x)
      → get e.draft.world.processes pid ≡ get d.draft.world.processes pid → claims e.draft.world pid + 1 ≡ claims d.draft.world pid → HasClaims pid js e
  failed e begins others process counts = record {
    was = λ x later. subst (λ (b : Draft). is_some (get b.world.jobs x.row.id) ≡ true) (sym begins) (h.was x (Contains-tail j js x later));
    there = λ x later. others x (other x later) (h.there x (Contains-tail j js x later)) (not_blocked x.state (state_claimed x.row x.state (h.claimed x (Contains-tail j js x later))));
    claimed = λ x later. h.claimed x (Contains-tail j js x later);
    apart = h.apart.1;
    process = ap is_some process ∙ h.process;
    count = one_less (claims e.draft.world pid) (length js) (counts ∙ h.count);
    few = omega (arith, h.few);
  }

pub may_leave : (pid : ℕ) (d : Drafting) → HasClaims pid [] d → IsAllowed d.moment d.draft (Deregister pid)
may_leave pid d h = allowed.deregister d.moment pid d.draft h.process h.count

-- ---- keys

module _ (s : Scene) where
  pub keys_pass : (key : List ℕ) (keys : List (List ℕ)) (d : Draft) → AreExpired s (key ∷ keys) d → AreExpired s keys d
  keys_pass key keys d h = record { there = λ k later. h.there k (Contains-tail key keys k later); apart = h.apart.1 }

  pub keys_move : (key : List ℕ) (keys : List (List ℕ)) (d : Draft) → AreExpired s (key ∷ keys) d → AreExpired s keys (push s.moment (Expire key) d)
  keys_move key keys d h = record {
    there = λ k later.
        let was = h.there k (Contains-tail key keys k later) in
        (was.0, semaphore_there s.moment (Expire key) d k (λ same. h.apart.0 k later (sym (same_Some key k same))) ∙ was.1, was.2);
    apart = h.apart.1;
  }

  pub keys_begin : AreExpired s (expired_keys s.book.world s.moment) (begin s)
  keys_begin = record {
    there = λ key h.
        let x = Contains-from_map (λ (e : List ℕ × Semaphore). e.0) (filter over entries) key h in (
          x.0.1,
          subst (λ k. get s.book.world.semaphores k ≡ Some x.0.1) x.2 (entry_found texts_total entries x.0 s.book.world.semaphores.sorted (Contains-from_filter over entries x.0 x.1)),
          filter_passes over entries x.0 x.1,
        );
    apart = apart_too (expired_keys s.book.world s.moment) (keys_apart_where texts_total over entries s.book.world.semaphores.sorted);
  }
    where
      entries : List (List ℕ × Semaphore)
      entries = s.book.world.semaphores.entries

      over : List ℕ × Semaphore → Bool
      over e = is_expired e.1 s.moment

-- ---- what the draft of a command asks of the next transition

for_none : {A : Type 0} (P : A → Type 0) → ForSome None P
for_none P x e = absurd (true≢false (sym (ap is_some e)))

pub for_this : {A : Type 0} (P : A → Type 0) (x : A) → P x → ForSome (Some x) P
for_this P x p y e = subst P (same_Some x y e) p

-- a transition that makes nothing and names no generation
pub names_none : (given : Numbers) (t : Transition) → job_made t ≡ None → process_made t ≡ None → ForSome (generation_named t) (λ generation. generation ≤ given.generation) → NamesNext given t
names_none given t no_job no_process generation = record {
  job = subst (λ (o : Option ℕ). ForSome o (λ id. id ≡ given.job)) (sym no_job) (for_none (λ id. id ≡ given.job));
  pid = subst (λ (o : Option ℕ). ForSome o (λ pid. pid ≡ given.pid)) (sym no_process) (for_none (λ pid. pid ≡ given.pid));
  generation = generation;
}

module _ (t : Taking) (taking : IsTaking t) where
  pub may_expire : (key : List ℕ) (keys : List (List ℕ)) → AreExpired t.scene (key ∷ keys) t.drafting.draft → MayTake t (Expire key)
  may_expire key keys h =
      let here = h.there key (Contains-head key keys) in record {
        taking = taking;
        allowed = allowed.expire t.scene.moment key t.drafting.draft here.0 here.1 here.2;
        known = for_none (λ id. is_some (get t.scene.book.world.jobs id) ≡ true);
        next = names_none t.drafting.draft.given (Expire key) refl refl (for_none (λ generation. generation ≤ t.drafting.draft.given.generation));
        fit = tt;
      }

  module _ (j : Job) (js : List Job) where
    over_finished : (row : JobRow) (st : State) → is_over t.scene (job row st) ≡ true → is_finished (Some (stage_of st)) ≡ true
    over_finished row (state.Finished at) e = refl
    over_finished row (state.Scheduled at) e = absurd (true≢false (sym e))
    over_finished row (state.Ready permit) e = absurd (true≢false (sym e))
    over_finished row (state.Blocked until) e = absurd (true≢false (sym e))
    over_finished row (state.Claimed pid permit) e = absurd (true≢false (sym e))
    over_finished row (state.Failed error message) e = absurd (true≢false (sym e))

    pub may_clear : StandJobs itself (is_over t.scene) t.scene (j ∷ js) t.drafting.draft → MayTake t (Clear j.row.id)
    may_clear h = record {
      taking = taking;
      allowed = allowed.clear t.scene.moment j.row.id t.drafting.draft j (h.there j (Contains-head j js)) (over_finished j.row j.state (h.pass j (Contains-head j js)));
      known = for_this (λ id. is_some (get t.scene.book.world.jobs id) ≡ true) j.row.id (h.was j (Contains-head j js));
      next = names_none t.drafting.draft.given (Clear j.row.id) refl refl (for_none (λ generation. generation ≤ t.drafting.draft.given.generation));
      fit = tt;
    }

    pub may_dispatch : StandJobs itself (is_due_at t.scene.moment) t.scene (j ∷ js) t.drafting.draft → IsFresh t.drafting.draft.world t.drafting.draft.given
        → (put : Put) → put ≡ meets t.drafting.draft t.scene.moment j.row.limited → ForSome (put_named put) (λ generation. generation ≤ t.drafting.draft.given.generation) → MayTake t (Dispatch j.row.id put)
    may_dispatch h fresh put met given = record {
      taking = taking;
      allowed = allowed.dispatch t.scene.moment j.row.id t.drafting.draft j put fresh (h.there j (Contains-head j js)) (h.pass j (Contains-head j js)) met;
      known = for_this (λ id. is_some (get t.scene.book.world.jobs id) ≡ true) j.row.id (h.was j (Contains-head j js));
      next = names_none t.drafting.draft.given (Dispatch j.row.id put) refl refl given;
      fit = tt;
    }
