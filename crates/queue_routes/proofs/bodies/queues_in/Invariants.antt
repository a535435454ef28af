use Rattle.std.proofs.Common.{◌≡◌, length, drop, All}
use Rattle.serde_json.specs.View.{items_view}
use Rattle.job_states.specs.Length.{IsName}
use Rattle.queue_routes.specs.Bodies.{each_from, queue_in}
use Rattle.queue_routes.proofs.EachLemmas.{with_prefix}
use Rattle.queue_routes.proofs.bodies.queues_in.Given as goal

abbrev pub invariant-loop-item : goal.invariant-loop-item
invariant-loop-item l =
    (with_prefix l.queues.items (each_from queue_in l.item-index (items_view (drop l.item-index l.items))) ≡ each_from queue_in 0 (items_view l.items))
    × (length l.queues.items ≡ l.item-index)
    × All IsName l.queues.items
