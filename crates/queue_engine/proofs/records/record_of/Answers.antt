use Rattle.std.proofs.Common.{List, length, sym, ◌∙◌, subst, arith}
use Rattle.std.specs.Prelude.{IsTrue}
use Rattle.std.proofs.lemmas.Bool.{eqb-false}
use Rattle.job_states.specs.declared.transition.Transaction.{Transaction}
use Rattle.journal_format.specs.Payload.{are_in_range}
use Rattle.queue_engine.proofs.Recording.{in_range}
use Rattle.queue_engine.proofs.records.record_of.Goals as goal

pub write_tx-requires : goal.write_tx-requires
write_tx-requires c =
    let n = length c.args.tx.now.steps in
    let some = eqb-false n 0 (sym c.is_empty.ensures ∙ c.if-is_empty.false) in
    subst (λ (txs : List Transaction). IsTrue (are_in_range txs)) (sym c.from_ref.ensures.value) (in_range c.args.tx.now (omega arith) c.requires.short c.requires.legal.0 c.requires.legal.1)
