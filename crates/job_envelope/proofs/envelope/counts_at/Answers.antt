use Rattle.job_envelope.proofs.CountLemmas.{AreEnvelopeCounts-none}
use Rattle.job_envelope.proofs.envelope.counts_at.Goals as goal

pub returns-in-None-clause-ranges : goal.returns-in-None-clause-ranges
returns-in-None-clause-ranges c = rw (c.of.ensures, c.new.ensures.items) AreEnvelopeCounts-none
