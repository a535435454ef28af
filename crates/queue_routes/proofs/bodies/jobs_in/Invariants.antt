use Rattle.std.proofs.Common.{◌≡◌, length, drop, All}
use Rattle.serde_json.specs.View.{items_view}
use Rattle.job_envelope.specs.Ranges.{IsInRange}
use Rattle.queue_routes.specs.Bodies.{each_from, job_in}
use Rattle.queue_routes.proofs.EachLemmas.{with_prefix}
use Rattle.queue_routes.proofs.bodies.jobs_in.Given as goal

abbrev pub invariant-loop-index : goal.invariant-loop-index
invariant-loop-index l =
    (with_prefix l.jobs.items (each_from job_in l.index (items_view (drop l.index l.items))) ≡ each_from job_in 0 (items_view l.items))
    × (length l.jobs.items ≡ l.index)
    × All IsInRange l.jobs.items
