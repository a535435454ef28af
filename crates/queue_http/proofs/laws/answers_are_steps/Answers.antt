use Rattle.queue_http.proofs.Stepped.{answered}
use Rattle.queue_http.proofs.laws.answers_are_steps.Goals as goal

pub returns : goal.returns
returns c = answered
