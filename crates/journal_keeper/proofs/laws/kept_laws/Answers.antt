use Rattle.std.proofs.Common.{[], None, refl}
use Rattle.journal_keeper.proofs.KeptLaws.{weaker, accepted}
use Rattle.journal_keeper.proofs.Opening.{zero_kept}
use Rattle.journal_keeper.proofs.laws.kept_laws.Goals as goal

pub returns-clause-recovers : goal.returns-clause-recovers
returns-clause-recovers c = λ payloads doubt file kept. kept [] file refl

pub returns-clause-weaker : goal.returns-clause-weaker
returns-clause-weaker c = weaker

pub returns-clause-accepted : goal.returns-clause-accepted
returns-clause-accepted c = accepted

pub returns-clause-empty : goal.returns-clause-empty
returns-clause-empty c = zero_kept None [] refl
