use Rattle.plan_model.specs.JobCommands as job
use Rattle.plan_model.specs.Planned.{plan_with}
use Rattle.plan_model.specs.UpkeepCommands as upkeep
use Rattle.plan_scenes.proofs.Causes.{accepted, still_unspent, told_there}
use Rattle.plan_scenes.proofs.Vacant.{vacant}
use Rattle.plan_scenes.proofs.laws.plans_are_told.Goals as goal

pub returns-clause-jobs : goal.returns-clause-jobs
returns-clause-jobs c = λ s command d answer good fits none comes t is unspent.
    let made = job.does s command in
    let seat = vacant s.book.open_plans in
    told_there s made d answer comes t is
    (c.plans_may_open.ensures.jobs s command (plan_with s made) seat.0 good fits seat.1 (accepted s (job.refusals s command) made none (still_unspent s made d answer comes t is unspent))).told

pub returns-clause-upkeep : goal.returns-clause-upkeep
returns-clause-upkeep c = λ s command d answer good fits none comes t is unspent.
    let made = upkeep.does s command in
    let seat = vacant s.book.open_plans in
    told_there s made d answer comes t is
    (c.plans_may_open.ensures.upkeep s command (plan_with s made) seat.0 good fits seat.1 (accepted s (upkeep.refusals s command) made none (still_unspent s made d answer comes t is unspent))).told
