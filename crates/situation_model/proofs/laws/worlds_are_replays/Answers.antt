use Rattle.situation_model.proofs.Replays.{all_steps}
use Rattle.situation_model.proofs.laws.worlds_are_replays.Goals as goal

pub returns : goal.returns
returns c = all_steps
