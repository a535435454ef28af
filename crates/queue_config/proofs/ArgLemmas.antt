-- The JSON of arguments.
use Rattle.std.proofs.Common.{◌≡◌, ℤ, pos, negsuc, false, List, [], ◌∷◌, map, refl}
use Rattle.serde_json.specs.Find.{of_integer, is_float}
use Rattle.serde_json.specs.View.{items_of}
use Rattle.serde_json.specs.Written.{has_float, items_have_float}
use Rattle.queue_config.specs.declared.config.TaskArg.{TaskArg}
use Rattle.queue_config.specs.declared.config.TaskArg.TheVariants.{Text, Whole, Truth}
use Rattle.queue_config.specs.Ranges.{arg_data}

whole_is_no_float : (n : ℤ) → is_float (of_integer n) ≡ false
whole_is_no_float (pos n) = refl
whole_is_no_float (negsuc n) = refl

arg_has_no_float : (arg : TaskArg) → has_float (arg_data arg) ≡ false
arg_has_no_float (Text text) = refl
arg_has_no_float (Whole n) = whole_is_no_float n
arg_has_no_float (Truth b) = refl

pub args_have_no_float : (args : List TaskArg) → items_have_float (items_of (map arg_data args)) ≡ false
args_have_no_float [] = refl
args_have_no_float (arg ∷ args) = rw (arg_has_no_float arg) (args_have_no_float args)
