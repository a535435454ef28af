use Rattle.std.proofs.Common.{◌≡◌, map, take}
use Rattle.serde_json.specs.View.{view}
use Rattle.job_envelope.specs.Arguments.{arg_of}
use Rattle.job_envelope.proofs.arguments.first_args.Given as goal

abbrev pub invariant-loop-item : goal.invariant-loop-item
invariant-loop-item l = l.args.items ≡ map (λ value. arg_of (view value)) (take l.item-index l.item-items)
