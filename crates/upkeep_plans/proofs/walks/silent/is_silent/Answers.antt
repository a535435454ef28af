use Rattle.std.proofs.Common.{◌≤◌, arith, sym, subst}
use Rattle.queue_config.specs.declared.config.Config.{Config}
use Rattle.upkeep_plans.proofs.walks.silent.is_silent.Goals as goal

pub micros-requires : goal.micros-requires
micros-requires c = subst (λ (k : Config). k.processes.alive_threshold ≤ 31_536_000) (sym c.config.ensures) (omega (arith, c.is_good.ensures.settings.ranges.processes.alive_threshold.1))
