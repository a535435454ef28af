use Rattle.std.proofs.Common.{◌≡◌, map, take}
use Rattle.serde_json.specs.View.{view}
use Rattle.queue_config.specs.Ranges.{arg_data}
use Rattle.queue_config.proofs.task.args_text.Given as goal

abbrev pub invariant-loop-arg : goal.invariant-loop-arg
invariant-loop-arg l = map view l.values.items ≡ map arg_data (take l.arg-index l.args)
