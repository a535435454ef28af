use Rattle.std.proofs.Common.{◌≡◌, take}
use Rattle.queue_model.specs.Map as map
use Rattle.transition_table.specs.Seen.{job_seen}
use Rattle.transaction_judge.proofs.Trail.{Then}
use Rattle.transaction_judge.proofs.after.found_after.Given as goal

abbrev pub invariant-loop-at : goal.invariant-loop-at
invariant-loop-at l = Then l.tables.world l.moment (take l.at l.done) (λ v. l.job ≡ job_seen (map.get v.jobs l.id))
