use Rattle.std.proofs.Common.{◌≡◌, ap, rules, sym, ◌∙◌, subst}
use Rattle.std.specs.Prelude.{IfOk}
use Rattle.plan_model.specs.Drafts.{begin}
use Rattle.plan_model.specs.JobCommands.{raise_by}
use Rattle.plan_scenes.specs.Begun.{ComesTo}
use Rattle.queue_config.specs.Retry.{decision_of}
use Rattle.queue_config.specs.declared.retry.Act.{Act}
use Rattle.claim_plans.specs.Left.{counters_left}
use Rattle.claim_plans.proofs.raised.raise.Goals as goal

pub returns-in-Discard : goal.returns-in-Discard
returns-in-Discard c =
    let s = c.args.scene.now in
    let j = c.args.job.now in
    let decided : c.decide-decision.result ≡ decision_of s.settings j.row.class c.args.error j.row.counts = search rules in
    subst (λ (a : Act). IfOk c.discard.result (λ made. ComesTo s (raise_by s c.args.error c.args.message j (begin s) a) made.0 made.1)) (sym c.in-Discard.is ∙ ap (λ d. d.act) decided) (c.discard.ensures c.args.error c.args.message)

pub returns : goal.returns
returns c =
    let s = c.args.scene.now in
    let j = c.args.job.now in
    let decided : c.decide-decision.result ≡ decision_of s.settings j.row.class c.args.error j.row.counts = search rules in
    let left : c.in_ok-after.after ≡ counters_left s c.args.error j = search rules in
    subst (λ (a : Act). IfOk c.retry.result (λ made. ComesTo s (raise_by s c.args.error c.args.message j (begin s) a) made.0 made.1)) (sym c.in-Retry.is ∙ ap (λ d. d.act) decided) (c.retry.ensures c.args.error c.args.message left)
