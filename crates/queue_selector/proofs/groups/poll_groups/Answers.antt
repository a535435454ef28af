use Rattle.std.proofs.Common.{◌≡◌, ◌+◌, ◌++◌, ◌∷◌, [], ap, drop, filter, map, subst, sym, take, ◌∙◌, arith}
use Rattle.std.proofs.lemmas.List.{get_or_default}
use Rattle.std.specs.Prelude.{Some}
use Rattle.std.proofs.lemmas.Result.{IfOk-weaker}
use Rattle.queue_selector.specs.Groups.{groups_of, selected, selects, unpaused_names}
use Rattle.queue_selector.specs.Places.{is_left, names_at}
use Rattle.queue_selector.proofs.Left.{all_selected, groups_of-selected, ones_at, selected_more}
use Rattle.queue_selector.proofs.groups.poll_groups.Goals as goal

pub loop-index-preserved : goal.loop-index-preserved
loop-index-preserved c =
    let items = c.args.items.now in
    let names = c.args.names.now in
    let paused = c.args.paused.now in
    let i = c.loop-index.index in
    let before = names_at names c.loop-index.places.items in
    let left = is_left (take i items) paused in
    let item_is = c.as_bytes.ensures ∙ c.index-items-index.is ∙ sym (get_or_default items i [] c.index-items-index.result c.loop-index-test.true) in
    let added = c.in_ok-add_left-2.ensures ∙ ap (λ run. before ++ map Some (filter left run)) (c.selected_run-run.ensures.run ∙ ap (λ item. filter (selects item) names) item_is) in
    subst (λ found. found ++ map Some (selected (drop (i + 1) items) (filter (is_left (take (i + 1) items) paused) names)) ≡ map Some (selected items (unpaused_names names paused))) (sym added)
    (selected_more items paused names before i c.loop-index-test.true c.loop-index.invariant)

pub returns : goal.returns
returns c =
    let items = c.args.items.now in
    let names = c.args.names.now in
    let paused = c.args.paused.now in
    let chosen = selected items (unpaused_names names paused) in
    IfOk-weaker c.groups_of_one.result (λ groups. map (λ group. group.items) groups.items ≡ map (λ place. place ∷ []) c.deref.result.now)
    (λ groups. map (λ group. names_at names group.items) groups.items ≡ map (map Some) (groups_of items names paused))
    (λ groups e. ones_at (λ group. group.items) names groups.items c.deref.result.now chosen e
    (ap (names_at names) c.deref.ensures.value ∙ all_selected items paused names (names_at names c.loop-index.places.items) c.loop-index.index (omega (arith, c.loop-index-test.false)) c.loop-index.invariant)
    ∙ ap (map (map Some)) (sym (groups_of-selected items names paused (sym c.polls_all.ensures ∙ c.if-polls_all.false))))
    c.groups_of_one.ensures
