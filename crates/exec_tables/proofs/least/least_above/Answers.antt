use Rattle.std.proofs.Common.{Contains, Some, sym, ◌∙◌, subst, ◌++◌, ◌∷◌, []}
use Rattle.std.proofs.lemmas.List.Elements.{Contains-append_left, Contains-push}
use Rattle.exec_tables.proofs.NextLemmas.{both, found_before, found_now, push_split}
use Rattle.exec_tables.proofs.least.least_above.Goals as goal

pub loop-listed-preserved-then-comes_first : goal.loop-listed-preserved-then-comes_first
loop-listed-preserved-then-comes_first g c =
    let xs = c.loop-listed.yielded in
    let x = c.in-Some-listed.place in
    let first = both _ _ (sym c.comes_first.ensures ∙ c.if-comes_first.true) in
    found_now g.met.X.Ord.total (λ y. Contains xs (Some y)) _ c.args.past x (push_split xs c.in-Some.listed x c.in-Some-listed.is) (λ y p. Contains-append_left xs _ (Some y) p)
    (subst (λ o. Contains (xs ++ c.in-Some.listed ∷ []) o) c.in-Some-listed.is (Contains-push xs c.in-Some.listed)) c.loop-listed.least c.loop-listed.invariant first.0 first.1

pub loop-listed-preserved : goal.loop-listed-preserved
loop-listed-preserved g c =
    let xs = c.loop-listed.yielded in
    let x = c.in-Some-listed.place in
    found_before g.met.X.Ord.total (λ y. Contains xs (Some y)) _ c.args.past x (push_split xs c.in-Some.listed x c.in-Some-listed.is) (λ y p. Contains-append_left xs _ (Some y) p)
    (subst (λ o. Contains (xs ++ c.in-Some.listed ∷ []) o) c.in-Some-listed.is (Contains-push xs c.in-Some.listed)) c.loop-listed.least c.loop-listed.invariant (sym c.comes_first.ensures ∙ c.if-comes_first.false)
