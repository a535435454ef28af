use Rattle.std.proofs.Common.{◌≡◌, Some, is_some, ap, sym, ◌∙◌, subst}
use Rattle.std.proofs.lemmas.Bool.{true≢false}
use Rattle.std.specs.Option.{option_copied}
use Rattle.queue_model.specs.Chain.{◌>>=◌}
use Rattle.queue_model.specs.Held.{holds}
use Rattle.queue_model.specs.Map as map
use Rattle.queue_model.specs.Sights.{sees}
use Rattle.queue_model.specs.Transitions.{changes}
use Rattle.plan_drafts.proofs.Reading.{held_by, moved_key, semaphore_left}
use Rattle.plan_drafts.proofs.draft.Draft.left_semaphore.Goals as goal

pub returns : goal.returns
returns c = λ rows legal.
    let w = c.args.self.now.draft.world in
    let t = c.args.step.now in
    let held = ap (λ h. h.key) (c.held.view_is ∙ held_by w t c.args.job.now c.of-held.result c.requires.read c.of-held.ensures.held) in
    let same : Some c.in-Some.key.now ≡ (holds w t).key = sym (ap option_copied c.in-Some.is) ∙ held in
    let now = subst (λ m. changes m (sees w (holds w t)) t ≡ Some rows) (sym (ap (λ v. v.moment) c.self.view_is)) legal in
    semaphore_left w t c.args.job.now c.requires.read rows.semaphore (Some c.in-Some.key.now) _ same
    (λ seen. moved_key c.in-Some.key.now c.in_ok-copy.field-0 c.semaphore_then-semaphore.result rows.semaphore c.in_ok-copy.ensures
    (c.semaphore_then-semaphore.ensures (sees w (holds w t)) rows now seen (c.semaphore.ensures ∙ ap (λ k. k >>= map.get w.semaphores) same)))
    (λ none. absurd (true≢false (ap is_some none)))
