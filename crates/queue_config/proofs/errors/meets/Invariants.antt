use Rattle.std.proofs.Common.{◌≡◌, ◌-◌}
use Rattle.queue_config.specs.Errors.{meets}
use Rattle.queue_config.proofs.errors.meets.Given as goal

abbrev pub invariant-loop : goal.invariant-loop
invariant-loop l = meets l.errors l.names (l.parents - l.counter) l.kind ≡ meets l.errors l.names l.parents l.error
