use Rattle.std.proofs.Common.{◌≡◌, ℕ, length, Some}
use Rattle.std.specs.Prelude.{Contains}
use Rattle.queue_model.specs.Map as map
use Rattle.queue_model.specs.declared.Process.{Process}
use Rattle.upkeep_plans.proofs.Pruning.{first_pruned}
use Rattle.upkeep_plans.proofs.prune.prune_first.Given as goal

abbrev pub invariant-loop-pid : goal.invariant-loop-pid
invariant-loop-pid l = record {
  same : first_pruned l.scene l.silent ≡ first_pruned l.scene l.initial.silent;
  there : (e : ℕ × Process) → Contains l.silent e → map.get l.scene.book.world.processes e.0 ≡ Some e.1;
}

abbrev pub decreases-loop-pid : goal.decreases-loop-pid
decreases-loop-pid l = length l.silent
