use Rattle.std.proofs.Common.{◌≡◌, arith, rules}
use Rattle.trace_lines.specs.Words.{items_of}
use Rattle.trace_lines.proofs.WordLemmas.{queues_of-read, IsFitList-read}
use Rattle.trace_lines.proofs.words.queues_in.Goals as goal

pub returns-clause-exact : goal.returns-clause-exact
returns-clause-exact c =
    let is : c.in_ok-queues.queues ≡ items_of c.args.word.now = search rules in
    queues_of-read c.args.word.now c.in_ok-queues.queues is (omega arith) (search rules)

pub returns-clause-fit : goal.returns-clause-fit
returns-clause-fit c =
    let is : c.in_ok-queues.queues ≡ items_of c.args.word.now = search rules in
    IsFitList-read c.args.word.now c.in_ok-queues.queues is (omega arith) (search rules)
