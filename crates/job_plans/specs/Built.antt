-- Which commands are planned so far.
use Rattle.std.specs.Prelude.{Bool, true, false}
use Rattle.job_states.specs.declared.command.Command.{Command}
use Rattle.job_states.specs.declared.command.Command.TheVariants as command

abbrev pub is_built : Command → Bool
is_built (command.Enqueue new) = true
is_built (command.Bulk news) = true
is_built (command.Poll pid items limit) = true
is_built (command.Done pid id) = true
is_built (command.Raised pid id error message) = true
is_built (command.Release pid id) = true
is_built (command.Retry id) = true
is_built (command.Discard id) = true
is_built (command.Pause queue) = true
is_built (command.Resume queue) = true
is_built c = false
