use Rattle.journal_keeper.proofs.Adding.{gate_within, failed_first, both_put, is_added}
use Rattle.journal_keeper.proofs.gate.add.Goals as goal

pub put-requires-2 : goal.put-requires-2
put-requires-2 g c = gate_within c.args.gate c.args.record_text.now _ _ c.in_ok-put.ensures.other c.requires.within c.in_ok-put.ensures.put

pub returns-in_err-put-clause-moments : goal.returns-in_err-put-clause-moments
returns-in_err-put-clause-moments g c = λ text payload long fits written. failed_first c.args.gate c.args.record_text.now _ _ c.requires.settled text payload long written fits c.in_err-put.ensures.any_moment

pub returns-in_err-put-2-clause-moments : goal.returns-in_err-put-2-clause-moments
returns-in_err-put-2-clause-moments g c = λ text payload long fits written.
    both_put c.args.gate c.args.record_text.now _ _ c.requires.settled text payload long written fits _ c.in_ok-put.ensures.any_moment c.in_ok-put.ensures.put c.in_err-put-2.ensures.any_moment

pub returns-clause-moments : goal.returns-clause-moments
returns-clause-moments g c = λ text payload long fits written.
    both_put c.args.gate c.args.record_text.now _ _ c.requires.settled text payload long written fits _ c.in_ok-put.ensures.any_moment c.in_ok-put.ensures.put c.in_ok-put-2.ensures.any_moment

pub returns-clause-added : goal.returns-clause-added
returns-clause-added g c = λ text payload long fits written.
    is_added c.args.gate c.args.record_text.now _ _ c.requires.settled text payload long written fits _ c.in_ok-put.ensures.other c.in_ok-put.ensures.put c.in_ok-put-2.ensures.put
