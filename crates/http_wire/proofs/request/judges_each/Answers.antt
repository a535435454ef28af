use Rattle.http_wire.proofs.Judged.{judged, refused_once}
use Rattle.http_wire.proofs.request.judges_each.Goals as goal

pub returns-clause-judged : goal.returns-clause-judged
returns-clause-judged c = judged

pub returns-clause-once : goal.returns-clause-once
returns-clause-once c = refused_once
