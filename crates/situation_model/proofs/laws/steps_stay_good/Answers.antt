use Rattle.situation_model.proofs.Ended.{over_good}
use Rattle.situation_model.proofs.Stays.{step_good, steps_good}
use Rattle.situation_model.proofs.laws.steps_stay_good.Goals as goal

pub returns-clause-first : goal.returns-clause-first
returns-clause-first c = over_good c.books_stay_good.ensures.opened

pub returns-clause-step : goal.returns-clause-step
returns-clause-step c = step_good (record {
  jobs = c.plans_may_open.ensures.jobs;
  upkeep = c.plans_may_open.ensures.upkeep;
  with_plan = c.books_stay_good.ensures.with_plan;
  opened = c.books_stay_good.ensures.opened;
  applied = c.books_stay_good.ensures.applied;
  without = c.books_stay_good.ensures.without_plan;
  replayed = c.worlds_stay_good.ensures.replay;
  untouched = c.plans_stay_legal.ensures.untouched;
})

pub returns-clause-steps : goal.returns-clause-steps
returns-clause-steps c settings config = steps_good settings (returns-clause-step c settings config)
