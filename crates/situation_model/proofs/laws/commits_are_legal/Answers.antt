use Rattle.situation_model.proofs.Stands.{commits, stands, stands_there}
use Rattle.situation_model.proofs.laws.commits_are_legal.Goals as goal

pub returns-clause-opened : goal.returns-clause-opened
returns-clause-opened c = stands_there

pub returns-clause-stands : goal.returns-clause-stands
returns-clause-stands c settings s end steps seat plan = stands seat plan settings s end steps

pub returns-clause-legal : goal.returns-clause-legal
returns-clause-legal c s seat plan good found = let legal = (good.book.plans seat plan found).legal in (_, commits s seat plan legal.0 found legal.1.legal, legal.1.legal)
