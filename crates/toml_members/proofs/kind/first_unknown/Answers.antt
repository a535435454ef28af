use Rattle.std.proofs.Common.{◌≡◌, List, ℕ, true, false, string_bytes, map, Some, sym, ap, ◌∙◌}
use Rattle.toml.specs.View.{view, members_view}
use Rattle.job_states.specs.Texts.{is_among}
use Rattle.toml_members.proofs.KeyLemmas.{goes_on, stops, is_done}
use Rattle.toml_members.proofs.kind.first_unknown.Goals as goal

pub returns-then-not-is_known : goal.returns-then-not-is_known
returns-then-not-is_known c =
    let so_far = rw c.in-Some.ensures.steps at c.loop-key.invariant.2 in
    let unknown : is_among (map (λ k. k.now) c.args.keys.now) (string_bytes c.in-Some.key.now) ≡ false = rw (← c.as_str.ensures.value) (sym c.is_known.ensures ∙ c.if-not-is_known.true) in
    ap (λ (key : List ℕ). Some key) c.as_str-then-not-is_known.ensures.value ∙ (sym (stops (map (λ k. k.now) c.args.keys.now) _ (view c.in-Some.field-0-1.now) (members_view c.next.new.self) unknown) ∙ so_far)

pub loop-key-preserved : goal.loop-key-preserved
loop-key-preserved c =
    let so_far = rw c.in-Some.ensures.steps at c.loop-key.invariant.2 in
    let known : is_among (map (λ k. k.now) c.args.keys.now) (string_bytes c.in-Some.key.now) ≡ true = rw (← c.as_str.ensures.value) (sym c.is_known.ensures ∙ c.if-not-is_known.false) in
    (tt, tt, sym (goes_on (map (λ k. k.now) c.args.keys.now) _ (view c.in-Some.field-0-1.now) (members_view c.next.new.self) known) ∙ so_far)

pub returns : goal.returns
returns c =
    let so_far = rw c.in-None.ensures.steps.0 at c.loop-key.invariant.2 in
    sym (is_done (map (λ k. k.now) c.args.keys.now)) ∙ so_far
