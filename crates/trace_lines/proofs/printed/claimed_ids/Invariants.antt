use Rattle.std.proofs.Common.{◌≡◌, map, take}
use Rattle.serde_json.specs.View.{view}
use Rattle.queue_replies.specs.Json.{whole}
use Rattle.trace_lines.proofs.printed.claimed_ids.Given as goal

abbrev pub invariant-loop-job : goal.invariant-loop-job
invariant-loop-job l = map view l.ids.items ≡ map (λ job. whole job.id) (take l.job-index l.jobs)
