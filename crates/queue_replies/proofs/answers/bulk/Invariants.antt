use Rattle.std.proofs.Common.{◌≡◌, map, take}
use Rattle.serde_json.specs.View.{view}
use Rattle.queue_replies.specs.Answers.{made_job}
use Rattle.queue_replies.proofs.answers.bulk.Given as goal

abbrev pub invariant-loop-job : goal.invariant-loop-job
invariant-loop-job l = map view l.made.items ≡ map made_job (take l.job-index l.jobs)
