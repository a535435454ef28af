use Rattle.std.proofs.Common.{All, subst}
use Rattle.std.proofs.lemmas.List.{take_all}
use Rattle.std.proofs.lemmas.List.Elements.{All-more}
use Rattle.plan_model.specs.GoodScene.{IsNewJob}
use Rattle.queue_http.specs.Ranges.{scene_by}
use Rattle.queue_http.proofs.ranges.jobs_are_in_range.Goals as goal

pub loop-job-preserved : goal.loop-job-preserved
loop-job-preserved c =
    let job = c.job-item.result in
    All-more (IsNewJob (scene_by c.args.config.now)) c.args.jobs.now c.loop-job.job-index job c.loop-job-test.true c.loop-job.invariant
    (subst (IsNewJob (scene_by c.args.config.now)) c.job-item.is c.job_is_in_range.ensures)

pub returns : goal.returns
returns c =
    subst (All (IsNewJob (scene_by c.args.config.now))) (take_all c.loop-job.job-index c.args.jobs.now c.loop-job-test.false) c.loop-job.invariant
