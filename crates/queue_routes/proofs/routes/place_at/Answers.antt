use Rattle.std.proofs.Common.{refl, inr, rules}
use Rattle.queue_routes.proofs.ShapeLemmas.{place_none, texts-process}
use Rattle.queue_routes.proofs.routes.place_at.Goals as goal

pub returns-in-empty-4 : goal.returns-in-empty-4
returns-in-empty-4 c = rw (texts-process c.args.segments.now (search rules) (search rules) (search rules)) c.process_place.ensures

pub returns-in_default : goal.returns-in_default
returns-in_default c =
    inr (refl, place_none c.args.segments.now (search rules) (search rules) (search rules) (search rules) (search rules))
