use Rattle.std.proofs.Common.{refl, inr, rules}
use Rattle.queue_routes.proofs.ShapeLemmas.{process_none}
use Rattle.queue_routes.proofs.routes.process_place.Goals as goal

pub returns-in_default : goal.returns-in_default
returns-in_default c =
    inr (refl, process_none c.args.pid.now c.args.rest.now (search rules) (search rules) (search rules) (search rules) (search rules))
