use Rattle.journal_keeper.proofs.Opening.{keeps_making}
use Rattle.journal_keeper.proofs.journal.make_kept.Goals as goal

pub returns-clause-any_moment : goal.returns-clause-any_moment
returns-clause-any_moment g c = keeps_making c.one_list_of_records.ensures _ _ (g.met.D.Disk.sound c.args.disk.now) c.requires c.make.ensures.any_moment
