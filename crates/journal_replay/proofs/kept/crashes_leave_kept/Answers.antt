use Rattle.journal_replay.proofs.KeptFor.{disk_kept, first_kept, image_kept, weaker_for}
use Rattle.journal_replay.proofs.kept.crashes_leave_kept.Goals as goal

pub returns-clause-image : goal.returns-clause-image
returns-clause-image c = image_kept

pub returns-clause-disk : goal.returns-clause-disk
returns-clause-disk c = disk_kept

pub returns-clause-first : goal.returns-clause-first
returns-clause-first c = first_kept c.kept_laws.ensures.empty

pub returns-clause-weaker : goal.returns-clause-weaker
returns-clause-weaker c = weaker_for c.kept_laws.ensures.weaker
