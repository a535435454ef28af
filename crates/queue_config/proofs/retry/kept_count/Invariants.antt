use Rattle.std.proofs.Common.{◌≡◌, drop}
use Rattle.queue_config.specs.Retry.{kept_count}
use Rattle.queue_config.proofs.retry.kept_count.Given as goal

abbrev pub invariant-loop-counted : goal.invariant-loop-counted
invariant-loop-counted l = kept_count (drop l.counted-index l.counts) l.list ≡ kept_count l.counts l.list
