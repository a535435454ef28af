use Rattle.std.proofs.Common.{◌≡◌, map, take}
use Rattle.serde_json.specs.View.{view}
use Rattle.queue_replies.specs.Answers.{polled_job}
use Rattle.queue_replies.proofs.answers.polled.Given as goal

abbrev pub invariant-loop-job : goal.invariant-loop-job
invariant-loop-job l = map view l.claimed.items ≡ map polled_job (take l.job-index l.jobs)
