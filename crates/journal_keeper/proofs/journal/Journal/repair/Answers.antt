use Rattle.journal_keeper.specs.declared.journal.Stage.TheVariants.{Unsynced, Reading, Ready}
use Rattle.journal_keeper.proofs.Repairing.{repaired_standing, at_stage, not_unsynced, not_reading, ready_no_doubt}
use Rattle.journal_keeper.proofs.journal.Journal.repair.Goals as goal

pub returns-in-Ready-clause-repaired : goal.returns-in-Ready-clause-repaired
returns-in-Ready-clause-repaired g c = at_stage c.one_list_of_records.ensures _ _ Ready _ _ _ c.self.view_is c.in-Ready.is ready_no_doubt c.requires.read

pub returns-in-Unsynced-clause-repaired : goal.returns-in-Unsynced-clause-repaired
returns-in-Unsynced-clause-repaired g c = at_stage c.one_list_of_records.ensures _ _ Unsynced _ _ _ c.self.view_is c.in-Unsynced.is not_unsynced c.requires.read

pub returns-in-Reading-clause-repaired : goal.returns-in-Reading-clause-repaired
returns-in-Reading-clause-repaired g c = at_stage c.one_list_of_records.ensures _ _ Reading _ _ _ c.self.view_is c.in-Reading.is not_reading c.requires.read

pub returns-in-InDoubt-clause-standing : goal.returns-in-InDoubt-clause-standing
returns-in-InDoubt-clause-standing g c = repaired_standing _ _ _ _ _ c.requires.standing c.close_gate.ensures.repaired
