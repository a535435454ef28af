-- A job's arguments, as far as a concurrency key can be made of them.
use Rattle.std.specs.Prelude.{ℤ, List, [], ◌∷◌, take, Option, Some, None}
use Rattle.serde_json.specs.Data.{Data, null, boolean, number, string, array, object, Items, no_items, item}
use Rattle.serde_json.specs.Find.{as_integer}
use Rattle.job_states.specs.declared.command.Arg.{Arg}
use Rattle.job_states.specs.declared.command.Arg.TheVariants.{Null, Text, Whole, Other}

abbrev pub number_arg : Option ℤ → Arg
number_arg (Some n) = Whole n
number_arg None = Other

abbrev pub arg_of : Data → Arg
arg_of null = Null
arg_of (boolean b) = Other
arg_of (number n) = number_arg (as_integer n)
arg_of (string s) = Text s
arg_of (array ds) = Other
arg_of (object ms) = Other

abbrev pub args_of : Items → List Arg
args_of no_items = []
args_of (item d ds) = arg_of d ∷ args_of ds

abbrev pub first_args : Items → List Arg
first_args ds = take 16 (args_of ds)
