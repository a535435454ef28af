-- How many claims a process has in a draft after a transition.
use Rattle.std.proofs.Common.{◌≡◌, ◌+◌, ℕ, true, cond, Some, ap, ◌∙◌, refl, arith}
use Rattle.std.proofs.lemmas.Bool.{eq-eqb}
use Rattle.job_states.specs.declared.transition.Transition.{Transition}
use Rattle.job_states.specs.declared.transition.Transition.TheVariants.{Claim}
use Rattle.queue_model.specs.Chain.{◌>>=◌}
use Rattle.queue_model.specs.Held.{holds}
use Rattle.queue_model.specs.Map as map
use Rattle.queue_model.specs.Named.{job_named}
use Rattle.queue_model.specs.Sights.{Rows, Sight, sees}
use Rattle.queue_model.specs.Transitions.{changes}
use Rattle.queue_model.specs.World.{claims, is_claimed_by}
use Rattle.queue_model.specs.declared.Job.{Job}
use Rattle.queue_model.proofs.Frames.{one}
use Rattle.plan_model.specs.Drafts.{Draft, push}
use Rattle.plan_model.specs.GoodDraft.{IsAllowed, ends_claim}
use Rattle.plan_model.proofs.AllowedSeen.{rows_of, counted}

claim_before : (m : ℕ) (s : Sight) (id pid : ℕ) (c : Rows) → changes m s (Claim id pid) ≡ Some c → one (is_claimed_by pid) s.rows.job ≡ 0
claim_before m s id pid c h = grind arith

claim_after : (m : ℕ) (s : Sight) (id pid : ℕ) (c : Rows) → changes m s (Claim id pid) ≡ Some c → one (is_claimed_by pid) c.job ≡ 1
claim_after m s id pid c h = let same = eq-eqb pid pid refl in grind arith

pub claim_counts : (m id pid : ℕ) (d : Draft) → IsAllowed m d (Claim id pid) → claims (push m (Claim id pid) d).world pid ≡ claims d.world pid + 1
claim_counts m id pid d h =
    let t : Transition = Claim id pid in
    let c = rows_of m t d h in
    let total = counted m t d c.0 c.1 (is_claimed_by pid) in
    let before = claim_before m (sees d.world (holds d.world t)) id pid c.0 c.1 in
    let after = claim_after m (sees d.world (holds d.world t)) id pid c.0 c.1 in
    omega (arith, total, before, after)

claim_gone : (m : ℕ) (s : Sight) (t : Transition) (pid : ℕ) (c : Rows) → changes m s t ≡ Some c → ends_claim t ≡ true → one (is_claimed_by pid) c.job ≡ 0
claim_gone m s t pid c h ends = grind arith

pub claim_ends : (m : ℕ) (t : Transition) (id pid : ℕ) (d : Draft) (j : Job) → IsAllowed m d t → ends_claim t ≡ true → job_named t ≡ Some id → map.get d.world.jobs id ≡ Some j → is_claimed_by pid j ≡ true → claims (push m t d).world pid + 1 ≡ claims d.world pid
claim_ends m t id pid d j h ends named found claimed =
    let c = rows_of m t d h in
    let total = counted m t d c.0 c.1 (is_claimed_by pid) in
    let before : one (is_claimed_by pid) (sees d.world (holds d.world t)).rows.job ≡ 1 = ap (one (is_claimed_by pid)) (ap (λ k. k >>= map.get d.world.jobs) named ∙ found) ∙ ap (λ b. cond b 1 0) claimed in
    let after = claim_gone m (sees d.world (holds d.world t)) t pid c.0 c.1 ends in
    omega (arith, total, before, after)
