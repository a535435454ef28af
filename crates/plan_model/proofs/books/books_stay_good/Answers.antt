use Rattle.queue_model.specs.Footprints.{IsPlanned}
use Rattle.plan_model.proofs.BooksFree.{free_goes_together, free_where_not_locked, not_locked_where_free}
use Rattle.plan_model.proofs.BooksGood.{nothing_open, plan_applied, plan_gone, plan_opened, room}
use Rattle.plan_model.proofs.books.books_stay_good.Goals as goal

pub returns-clause-opened : goal.returns-clause-opened
returns-clause-opened c = nothing_open

pub returns-clause-with_plan : goal.returns-clause-with_plan
returns-clause-with_plan c b seat plan good may unlocked = plan_opened b seat plan good may (λ other theirs there. free_goes_together b plan.rows other theirs (free_where_not_locked b plan.rows unlocked) there)

pub returns-clause-applied : goal.returns-clause-applied
returns-clause-applied c b seat plan end good found is =
    let mine : IsPlanned b.world plan.tx plan.rows end = record { legal = is; covered = (good.plans seat plan found).legal.1.covered } in
    plan_applied b seat good plan found end is
    (c.worlds_stay_good.ensures.transaction b.world end plan.tx good.world is)
    (λ pid. c.plans_stay_legal.ensures.claims b.world end plan.tx plan.rows pid mine)
    (λ other theirs ne there.
    let legal = (good.plans other theirs there).legal in
    let law = c.plans_stay_legal.ensures.legal b.world end legal.0 plan.tx theirs.tx plan.rows theirs.rows mine legal.1 (good.compatible seat other plan theirs ne found there) (room b seat good plan found other theirs ne there) in
    (law.0, law.1))

pub returns-clause-without_plan : goal.returns-clause-without_plan
returns-clause-without_plan c = plan_gone

pub returns-clause-free : goal.returns-clause-free
returns-clause-free c b rows = (free_where_not_locked b rows, not_locked_where_free b rows)
