-- The commands that words name.
use Rattle.std.specs.Prelude.{ℕ, List, [], ◌∷◌, if◌then◌else◌, codes, Option, None, Some}
use Rattle.std.specs.Str.{bytes_eq}
use Rattle.queue_cli.specs.declared.command.Command.{Command}
use Rattle.queue_cli.specs.declared.command.Command.TheVariants.{Exec, Status, Trace}

abbrev pub command_of : List (List ℕ) → Option Command
command_of (word ∷ []) =
    if bytes_eq word (codes "exec") then Some Exec else if bytes_eq word (codes "status") then Some Status else if bytes_eq word (codes "trace") then Some Trace else None
command_of words = None
