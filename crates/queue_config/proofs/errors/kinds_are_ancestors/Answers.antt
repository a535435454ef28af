use Rattle.queue_config.proofs.KindLemmas.{kinds}
use Rattle.queue_config.proofs.errors.kinds_are_ancestors.Goals as goal

pub returns : goal.returns
returns c config names error is =
    let both = kinds config.errors is.ranges.errors is.rounds names error in
    (both.0, λ found. both.1 found.0 found.1 found.2)
