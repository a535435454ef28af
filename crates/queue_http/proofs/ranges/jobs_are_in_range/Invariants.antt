use Rattle.std.proofs.Common.{All, take}
use Rattle.plan_model.specs.GoodScene.{IsNewJob}
use Rattle.queue_http.specs.Ranges.{scene_by}
use Rattle.queue_http.proofs.ranges.jobs_are_in_range.Given as goal

abbrev pub invariant-loop-job : goal.invariant-loop-job
invariant-loop-job l = All (IsNewJob (scene_by l.config)) (take l.job-index l.jobs)
