use Rattle.std.proofs.Common.{◌≡◌, ◌++◌, drop, string_bytes}
use Rattle.queue_config.specs.ListText.{followed, joined}
use Rattle.queue_config.proofs.error_list.joined.Given as goal

abbrev pub invariant-loop-name : goal.invariant-loop-name
invariant-loop-name l = string_bytes l.text ++ followed (drop l.name-index l.others) ≡ joined l.names
