use Rattle.journal_replay.proofs.KeptFor.{recovers_either}
use Rattle.journal_replay.proofs.kept.kept_recovers.Goals as goal

pub returns : goal.returns
returns c = recovers_either c.kept_laws.ensures.recovers
