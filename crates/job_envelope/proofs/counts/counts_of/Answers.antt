use Rattle.std.proofs.Common.{map, string_bytes, IsTrue, sym, ◌∙◌}
use Rattle.std.proofs.lemmas.List.{append-nil}
use Rattle.std.proofs.lemmas.List.Elements.{All-push}
use Rattle.std.proofs.lemmas.Result.{err_from_is_err_and}
use Rattle.std.specs.Map.{keys_of}
use Rattle.serde_json.specs.View.{view, members_view}
use Rattle.job_envelope.specs.Kind.{counts_of}
use Rattle.job_states.specs.Ranges.{is_counted, texts_of_counts}
use Rattle.job_envelope.proofs.CountLemmas.{goes_on, ends, is_done, texts_of_counts-push}
use Rattle.job_envelope.proofs.counts.counts_of.Goals as goal

pub returns-in_err-counted-clause-exact : goal.returns-in_err-counted-clause-exact
returns-in_err-counted-clause-exact c =
    let p = err_from_is_err_and c.from_residual.result c.from_residual.ensures.1 in
    let fault = rw c.as_str.ensures.value at c.in_err-counted.ensures.exact in
    let so_far = rw c.in-Some.ensures.steps at c.loop-list.invariant.2 in
    rw (p.1, p.2) (ends c.args.member c.loop-list.counts.items _ (view c.in-Some.value.now) (members_view c.next.new.self) c.in_err-counted.field-0.0 (counts_of c.args.member (members_view c.args.lists.now.entries)) fault so_far)

pub loop-list-preserved : goal.loop-list-preserved
loop-list-preserved c =
    let read = rw c.as_str.ensures.value at c.in_ok-counted.ensures.exact in
    let so_far = rw c.in-Some.ensures.steps at c.loop-list.invariant.2 in
    let lists = rw c.in-Some.ensures.steps at c.loop-list.invariant.4 in
    let counted = c.in_ok-counted.field-0 in
    let prefix = c.loop-list.counts.items in (
      tt,
      tt,
      rw c.in_ok-push.ensures.items (goes_on c.args.member prefix _ (view c.in-Some.value.now) (members_view c.next.new.self) counted (counts_of c.args.member (members_view c.args.lists.now.entries)) read so_far),
      rw c.in_ok-push.ensures.items (All-push (λ c. IsTrue (is_counted c)) prefix counted c.loop-list.invariant.3 c.in_ok-counted.ensures.range),
      rw c.in_ok-push.ensures.items (texts_of_counts-push prefix counted _ (map string_bytes (keys_of c.next.new.self)) (map string_bytes (keys_of c.args.lists.now.entries)) (c.in_ok-counted.ensures.list ∙ c.as_str.ensures.value) lists),
    )

pub returns-clause-exact : goal.returns-clause-exact
returns-clause-exact c =
    let so_far = rw c.in-None.ensures.steps.0 at c.loop-list.invariant.2 in
    rw c.of.ensures (is_done c.args.member c.loop-list.counts.items (counts_of c.args.member (members_view c.args.lists.now.entries)) so_far)

pub returns-clause-each : goal.returns-clause-each
returns-clause-each c = rw c.of.ensures c.loop-list.invariant.3

pub returns-clause-lists : goal.returns-clause-lists
returns-clause-lists c =
    let lists = rw c.in-None.ensures.steps.0 at c.loop-list.invariant.4 in
    rw c.of.ensures (sym (append-nil (texts_of_counts c.loop-list.counts.items)) ∙ lists)
