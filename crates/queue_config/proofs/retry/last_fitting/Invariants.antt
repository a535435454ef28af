use Rattle.std.proofs.Common.{◌≡◌, drop, option_map}
use Rattle.std.specs.Option.{option_or}
use Rattle.queue_config.specs.Retry.{fits, last_from}
use Rattle.queue_config.proofs.retry.last_fitting.Given as goal

abbrev pub invariant-loop-i : goal.invariant-loop-i
invariant-loop-i l = option_or (last_from (fits l.errors l.error) l.i (drop l.i l.rules)) (option_map (λ at. (at.0, at.1.now)) l.last) ≡ last_from (fits l.errors l.error) 0 l.rules
