use Rattle.std.proofs.Common.{◌≡◌, Some, ap, sym, refl, subst}
use Rattle.queue_model.specs.Held.{holds}
use Rattle.queue_model.specs.Sights.{sees}
use Rattle.queue_model.specs.Transitions.{changes}
use Rattle.plan_drafts.specs.Pushes.{IsRead}
use Rattle.plan_drafts.proofs.draft.Draft.push.Goals as goal

pub add-requires-clause-left : goal.add-requires-clause-left
add-requires-clause-left c =
    let w = c.hold_read.new.self.draft.world in
    let t = c.args.step in
    let read = subst (λ w. IsRead w t c.job_read-job.result) (sym (ap (λ v. v.draft.world) c.in_ok-hold_read.ensures)) c.job_read-job.ensures in
    record {
      step = refl;
      job = λ rows legal. c.left_job-left.ensures w rows read (subst (λ m. changes m (sees w (holds w t)) t ≡ Some rows) (sym (ap (λ v. v.moment) c.self.view_is)) legal);
      semaphore = c.in_ok-semaphore.ensures;
    }
