use Rattle.std.proofs.Common.{◌||◌, sym, ap, ◌∙◌, arith}
use Rattle.cron_lines.specs.Field.{holds}
use Rattle.cron_lines.proofs.ValuesLemmas.{is_in, set-done, set-kept, skip-done, values_where_same, has-values_where}
use Rattle.cron_lines.proofs.values.Values.with.Goals as goal
use Rattle.cron_lines.proofs.values.Values.with.Goals.{then-holds, else-holds}

pub loop-value-preserved : goal.loop-value-preserved
loop-value-preserved c =
    let bits = c.self.inside.bits in
    let value = c.loop-value.value in
    let all = c.loop-value.bits in
    elim c.if-holds.branch [
      | then-holds w ↦
          rw w.bits-is (record {
            done = set-done bits all value c.args.item (omega arith) (sym c.holds.ensures ∙ w.if-holds.true) c.loop-value.invariant.done;
            kept = set-kept bits all value (omega arith) c.loop-value.invariant.kept;
          })
      | else-holds w ↦
          rw w.bits-is (record {
            done = skip-done bits all value c.args.item (sym c.holds.ensures ∙ w.if-holds.false) (c.loop-value.invariant.kept value (omega arith)) c.loop-value.invariant.done;
            kept = λ k h. c.loop-value.invariant.kept k (omega arith);
          })
    ]

pub returns : goal.returns
returns c =
    rw (← c.self.view_is) (values_where_same _ _ (λ k h.
    c.loop-value.invariant.done k (omega arith)
    ∙ ap (λ b. b || holds c.args.item k) (sym (has-values_where (is_in c.self.inside.bits) k h))))
