use Rattle.journal_replay.proofs.Verdicts.{not_foreign, not_refused, not_version, one_place, same_world}
use Rattle.journal_replay.proofs.laws.one_verdict.Goals as goal

pub returns-clause-world : goal.returns-clause-world
returns-clause-world c = same_world c.one_text.ensures c.one_recovery.ensures

pub returns-clause-refused : goal.returns-clause-refused
returns-clause-refused c = not_refused c.one_text.ensures c.one_recovery.ensures

pub returns-clause-place : goal.returns-clause-place
returns-clause-place c = one_place c.one_text.ensures c.one_recovery.ensures

pub returns-clause-foreign : goal.returns-clause-foreign
returns-clause-foreign c = not_foreign

pub returns-clause-version : goal.returns-clause-version
returns-clause-version c = not_version
