-- What the end of a job, with the job that it lets go, leaves of other jobs and of processes.
use Rattle.std.proofs.Common.{◌≡◌, ◌≢◌, ◌+◌, ℕ, true, false, List, Some, ap, sym, ◌∙◌, refl, ⊎_elim, arith}
use Rattle.std.proofs.lemmas.Bool.{true≢false, cases_eq}
use Rattle.job_states.specs.Moment.{IsMoment}
use Rattle.job_states.specs.States.{stage_of, is_blocked}
use Rattle.job_states.specs.declared.transition.Transition.{Transition}
use Rattle.job_states.specs.declared.transition.Transition.TheVariants.{Unblock}
use Rattle.queue_model.specs.GoodWorld.{IsGood}
use Rattle.queue_model.specs.Map as map
use Rattle.queue_model.specs.Named.{job_named}
use Rattle.queue_model.specs.Sights.{Rows, Sight, sees}
use Rattle.queue_model.specs.Held.{holds}
use Rattle.queue_model.specs.Transitions.{changes}
use Rattle.queue_model.specs.World.{claims, is_claimed_by}
use Rattle.queue_model.specs.declared.Job.{Job}
use Rattle.queue_model.proofs.Steps.{same_Some}
use Rattle.plan_model.specs.Drafts.{Draft, push, end, key_given, generation_at}
use Rattle.plan_model.specs.GoodDraft.{IsAllowed, may_go, is_end, ends_claim, moves_process}
use Rattle.plan_model.specs.Orders.{first_blocked}
use Rattle.plan_model.proofs.AllowedAfter.{let_go, after_end}
use Rattle.plan_model.proofs.AllowedClaims.{claim_ends}
use Rattle.plan_model.proofs.AllowedEnds.{after_good, unblocks}
use Rattle.plan_model.proofs.AllowedSeen.{rows_of, job_here, job_there, processes_stay, claims_kept}
use Rattle.plan_model.proofs.OrderLemmas.{first_is_blocked}

-- ---- processes

no_process : (t : Transition) → is_end t ≡ true → moves_process t ≡ false
no_process t ends = grind arith

pub end_processes : (m id : ℕ) (t : Transition) (d : Draft) → is_end t ≡ true → (pid : ℕ) → map.get (end m id t d).0.world.processes pid ≡ map.get d.world.processes pid
end_processes m id t d ends pid =
    let first = processes_stay m t d (no_process t ends) pid in
    after_end (λ e. map.get e.world.processes pid ≡ map.get d.world.processes pid) m id t d first
    (λ key j given e. processes_stay m (Unblock j.row.id (generation_at (push m t d) key)) (push m t d) refl pid ∙ first)

pub end_claims : (m : ℕ) (t : Transition) (id pid : ℕ) (d : Draft) (j : Job) → IsAllowed m d t → ends_claim t ≡ true → job_named t ≡ Some id → map.get d.world.jobs id ≡ Some j → is_claimed_by pid j ≡ true → claims (end m id t d).0.world pid + 1 ≡ claims d.world pid
end_claims m t id pid d j h ends named found claimed =
    let both = after_end (λ e. claims e.world pid ≡ claims (push m t d).world pid) m id t d refl
    (λ key j given e. claims_kept m (Unblock j.row.id (generation_at (push m t d) key)) (push m t d) pid (λ none. cc)) in
    ap (λ n. n + 1) both ∙ claim_ends m t id pid d j h ends named found claimed

-- ---- other jobs

-- a job that is let go may be discarded
goes : (m : ℕ) (s : Sight) (id generation : ℕ) (c : Rows) → changes m s (Unblock id generation) ≡ Some c → may_go c.job ≡ true
goes m s id generation c h = grind arith

gone_ahead : (m id generation : ℕ) (d : Draft) → IsAllowed m d (Unblock id generation) → may_go (map.get (push m (Unblock id generation) d).world.jobs id) ≡ true
gone_ahead m id generation d h =
    let t : Transition = Unblock id generation in
    let c = rows_of m t d h in
    ap may_go (job_here m t d c.0 c.1 id refl) ∙ goes m (sees d.world (holds d.world t)) id generation c.0 c.1

module _ (m : ℕ) (t : Transition) (d : Draft) (id : ℕ) (good : IsGood d.world) (moment : IsMoment m) (ends : is_end t ≡ true) (named : job_named t ≡ Some id) (h : IsAllowed m d t) (other : ℕ) (apart : id ≢ other) where
  first_leaves : map.get (push m t d).world.jobs other ≡ map.get d.world.jobs other
  first_leaves = job_there m t d other (λ e. apart (same_Some id other (sym named ∙ e)))

  pub others_stay : (o : Job) → map.get d.world.jobs other ≡ Some o → is_blocked (Some (stage_of o.state)) ≡ false → map.get (end m id t d).0.world.jobs other ≡ Some o
  others_stay o found still = after_end (λ e. map.get e.world.jobs other ≡ Some o) m id t d (first_leaves ∙ found) second
    where
      second : (key : List ℕ) (j : Job) → key_given d.world id ≡ Some key → first_blocked (push m t d).world key ≡ Some j → map.get (let_go m key (push m t d) j).world.jobs other ≡ Some o
      second key j given e =
          let b = first_is_blocked (push m t d).world key j (after_good m t d id good moment ends named h) e in
          job_there m (Unblock j.row.id (generation_at (push m t d) key)) (push m t d) other (λ same. true≢false (
          sym b.blocked ∙ ap (λ x. is_blocked (Some (stage_of x.state))) (same_Some j o (sym b.found ∙ ap (map.get (push m t d).world.jobs) (same_Some j.row.id other same) ∙ first_leaves ∙ found)) ∙ still
          )) ∙ first_leaves ∙ found

  pub others_may_go : may_go (map.get d.world.jobs other) ≡ true → may_go (map.get (end m id t d).0.world.jobs other) ≡ true
  others_may_go may = after_end (λ e. may_go (map.get e.world.jobs other) ≡ true) m id t d (ap may_go first_leaves ∙ may) second
    where
      second : (key : List ℕ) (j : Job) → key_given d.world id ≡ Some key → first_blocked (push m t d).world key ≡ Some j → may_go (map.get (let_go m key (push m t d) j).world.jobs other) ≡ true
      second key j given e = ⊎_elim here there (cases_eq j.row.id other)
        where
          here : j.row.id ≡ other → may_go (map.get (let_go m key (push m t d) j).world.jobs other) ≡ true
          here same = ap (λ k. may_go (map.get (let_go m key (push m t d) j).world.jobs k)) (sym same) ∙ gone_ahead m j.row.id (generation_at (push m t d) key) (push m t d) (unblocks m t d id good moment ends named h key j (generation_at (push m t d) key) given e refl)

          there : j.row.id ≢ other → may_go (map.get (let_go m key (push m t d) j).world.jobs other) ≡ true
          there ne = ap may_go (job_there m (Unblock j.row.id (generation_at (push m t d) key)) (push m t d) other (λ e. ne (same_Some j.row.id other e)) ∙ first_leaves) ∙ may
