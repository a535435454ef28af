use Rattle.std.proofs.Common.{sym, ◌∙◌, subst}
use Rattle.std.specs.Iterator.{Yields}
use Rattle.std.specs.BTreeSet.{contains}
use Rattle.queue_model.specs.World.{text_cmp}
use Rattle.exec_tables.proofs.NameLemmas.{added, are_sorted, if_ok, there}
use Rattle.exec_tables.proofs.names.sorted_names.Goals as goal

pub loop-listed-preserved-in_ok-insert : goal.loop-listed-preserved-in_ok-insert
loop-listed-preserved-in_ok-insert g c =
    added c.loop-listed.yielded c.in-Some.listed c.in-Some-listed.name c.in_ok-copy.field-0 (contains text_cmp c.loop-listed.found) (contains text_cmp c.insert.new.self) c.in-Some-listed.is c.in_ok-copy.ensures c.loop-listed.invariant c.in_ok-insert.ensures.updates.0

pub loop-listed-preserved : goal.loop-listed-preserved
loop-listed-preserved g c =
    there c.loop-listed.yielded c.in-Some.listed c.in-Some-listed.name (contains text_cmp c.loop-listed.found) c.in-Some-listed.is c.loop-listed.invariant (sym c.contains.ensures ∙ c.if-not-contains.false)

pub returns : goal.returns
returns g c = if_ok c.listed_in.result (λ sorted is. (
  c.loop-listed.yielded,
  (
    c.next.new.self,
    (
      c.loop-listed.listed-iterator,
      subst (λ s. Yields g.I.Iterator.next_gives s c.loop-listed.yielded c.loop-listed.listed-iterator) c.into_iter-listed-iterator.ensures.into_iter_gives c.loop-listed.yielded_by,
      subst (λ o. g.I.Iterator.next_gives c.loop-listed.listed-iterator o c.next.new.self) c.in-None.is c.next.ensures.steps,
    ),
  ),
  are_sorted c.loop-listed.yielded c.loop-listed.found sorted.items c.loop-listed.invariant is c.listed_in.ensures.sorted,
)) c.listed_in.ensures.same
