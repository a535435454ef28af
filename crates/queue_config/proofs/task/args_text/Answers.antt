use Rattle.std.proofs.Common.{◌≡◌, false, map, ap, ◌∙◌}
use Rattle.std.proofs.lemmas.List.{take_all}
use Rattle.serde_json.specs.Data.{array}
use Rattle.serde_json.specs.View.{view, items_of}
use Rattle.serde_json.specs.Written.{has_float, compact_text}
use Rattle.serde_json.specs.declared.value.Value.{Array}
use Rattle.serde_json.proofs.Views.{view-Array}
use Rattle.queue_config.specs.Ranges.{arg_data}
use Rattle.queue_config.proofs.ArgLemmas.{args_have_no_float}
use Rattle.queue_config.proofs.task.args_text.Goals as goal

pub returns : goal.returns
returns c =
    let args = c.args.args.now in
    let values = c.loop-arg.values in
    let all : map view values.items ≡ map arg_data args = c.loop-arg.invariant ∙ ap (map arg_data) (take_all c.loop-arg.arg-index args c.loop-arg-test.false) in
    let seen : view (Array values) ≡ array (items_of (map arg_data args)) = view-Array values ∙ ap (λ ds. array (items_of ds)) all in
    let none : has_float (view (Array values)) ≡ false = rw seen (args_have_no_float args) in
    c.in_ok-to_string.ensures.text none ∙ ap compact_text seen
