use Rattle.std.proofs.Common.{◌≤◌, length, inr, arith}
use Rattle.std.proofs.lemmas.List.{length-map}
use Rattle.std.specs.BTreeMap.{keys}
use Rattle.job_envelope.proofs.CountLemmas.{AreEnvelopeCounts-if_read, counts_from-few, counts_from-many}
use Rattle.job_envelope.proofs.counts.counts_from.Goals as goal

pub returns-then-len-gt-MOST-clause-exact : goal.returns-then-len-gt-MOST-clause-exact
returns-then-len-gt-MOST-clause-exact c = inr (counts_from-many c.args.member c.args.lists.now.entries (omega arith))

pub returns-clause-exact : goal.returns-clause-exact
returns-clause-exact c = rw (counts_from-few c.args.member c.args.lists.now.entries (omega arith)) c.counts_of.ensures.exact

pub returns-clause-ranges : goal.returns-clause-ranges
returns-clause-ranges c =
    let few : length (keys c.args.lists.now) ≤ 16 = rw length-map (omega arith) in
    AreEnvelopeCounts-if_read c.counts_of.result (keys c.args.lists.now) few c.counts_of.ensures.each c.counts_of.ensures.lists c.counts_of.ensures.ordered
