use Rattle.std.proofs.Common.{inr, ap, rules}
use Rattle.queue_routes.specs.Routes.{needed}
use Rattle.queue_routes.proofs.NumberLemmas.{number_of-unparsed}
use Rattle.queue_routes.proofs.routes.number_in.Goals as goal

pub returns-in-Err : goal.returns-in-Err
returns-in-Err c = inr (ap needed (number_of-unparsed c.args.segment.now c.in-Err.field-0 c.in-Err.ensures.value.0 (search rules)))
