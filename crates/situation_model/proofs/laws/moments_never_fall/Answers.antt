use Rattle.std.proofs.Common.{arith}
use Rattle.situation_model.specs.Situations.{command_plan, scene_at}
use Rattle.situation_model.proofs.Begun.{unlocked}
use Rattle.situation_model.proofs.Moments.{given_at, plan_at}
use Rattle.situation_model.proofs.laws.moments_never_fall.Goals as goal

pub returns-clause-moment : goal.returns-clause-moment
returns-clause-moment c settings s now command plan e = plan_at (scene_at settings s now) command plan (unlocked s.book (command_plan (scene_at settings s now) command) plan e).0

pub returns-clause-given : goal.returns-clause-given
returns-clause-given c settings s seat now command plan e =
    let at = returns-clause-moment c settings s now command plan e in
    let given = given_at plan.tx s.book.given in
    omega (arith, at, given)
