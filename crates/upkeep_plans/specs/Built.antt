-- Which commands are planned so far.
use Rattle.std.specs.Prelude.{Bool, true, false}
use Rattle.job_states.specs.declared.command.Command.{Command}
use Rattle.job_states.specs.declared.command.Command.TheVariants as command

abbrev pub is_built : Command → Bool
is_built (command.Register kind name) = true
is_built (command.Beat pid) = true
is_built (command.Deregister pid) = true
is_built command.Dispatch = true
is_built command.Expire = true
is_built command.Unblock = true
is_built command.Prune = true
is_built command.ClearFinished = true
is_built c = false
