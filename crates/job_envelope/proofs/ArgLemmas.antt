-- The first arguments, as a list of values gives them.
use Rattle.std.proofs.Common.{arith, ◌≡◌, ◌≤◌, List, [], ◌∷◌, length, take, map, min, refl, ap}
use Rattle.std.proofs.lemmas.List.{take_min, take-map, length-take}
use Rattle.serde_json.specs.Data.{Items}
use Rattle.serde_json.specs.View.{view, items_view}
use Rattle.serde_json.specs.declared.value.Value.{Value}
use Rattle.job_states.specs.declared.command.Arg.{Arg}
use Rattle.job_envelope.specs.Arguments.{arg_of, args_of, first_args}

args_of-items_view : (vs : List Value) → args_of (items_view vs) ≡ map (λ v. arg_of (view v)) vs
args_of-items_view [] = refl
args_of-items_view (v ∷ vs) = ap (λ (others : List Arg). arg_of (view v) ∷ others) (args_of-items_view vs)

pub first_args-items_view : (vs : List Value) → first_args (items_view vs) ≡ map (λ v. arg_of (view v)) (take (min 16 (length vs)) vs)
first_args-items_view vs = rw (args_of-items_view vs, take_min 16 vs) (take-map (λ v. arg_of (view v)) 16 vs)

pub length-first_args : (ds : Items) → length (first_args ds) ≤ 16
length-first_args ds = omega (arith, length-take 16 (args_of ds))
