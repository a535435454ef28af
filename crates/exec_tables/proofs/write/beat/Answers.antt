use Rattle.exec_tables.proofs.RowLemmas.{number_changed, number_missing, number_there}
use Rattle.exec_tables.proofs.write.beat.Goals as goal

pub returns-in-Some-clause-beaten : goal.returns-in-Some-clause-beaten
returns-in-Some-clause-beaten c = λ process there.
    let now = c.in-Some.process.now in
    number_changed c.args.processes.now.entries (c.get_mut.follows.lender (record now { beat = c.args.moment })).entries c.args.pid now process (λ p. record p { beat = c.args.moment })
    c.in-Some.ensures.value (λ is. ((c.get_mut.follows.holds (record now { beat = c.args.moment })).3 is).0) there

pub returns-in-Some-clause-absent : goal.returns-in-Some-clause-absent
returns-in-Some-clause-absent c = λ gone. absurd (number_there c.args.processes.now.entries c.args.pid c.in-Some.process.now c.in-Some.ensures.value gone)

pub returns-in_default-clause-beaten : goal.returns-in_default-clause-beaten
returns-in_default-clause-beaten c = λ process there. absurd (number_missing c.args.processes.now.entries c.args.pid process c.in_default.ensures.value there)
