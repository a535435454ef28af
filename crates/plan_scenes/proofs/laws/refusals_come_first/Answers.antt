use Rattle.plan_scenes.proofs.Causes as causes
use Rattle.plan_scenes.proofs.laws.refusals_come_first.Goals as goal

pub returns-clause-met : goal.returns-clause-met
returns-clause-met c = causes.met

pub returns-clause-finished : goal.returns-clause-finished
returns-clause-finished c = λ s list made d answer result none comes gives. causes.finished s made d answer comes list result none gives
