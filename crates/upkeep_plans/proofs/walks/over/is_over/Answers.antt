use Rattle.std.proofs.Common.{◌≤◌, sym, subst}
use Rattle.queue_config.specs.declared.config.Config.{Config}
use Rattle.upkeep_plans.proofs.walks.over.is_over.Goals as goal

pub micros-requires : goal.micros-requires
micros-requires c = subst (λ (k : Config). k.jobs.clear_after ≤ 31_536_000) (sym c.config.ensures) c.is_good.ensures.settings.ranges.jobs.clear_after
