use Rattle.std.proofs.Common.{◌∙◌}
use Rattle.queue_selector.proofs.Sorted.{searched_among}
use Rattle.queue_selector.proofs.groups.is_paused.Goals as goal

pub returns : goal.returns
returns c = c.is_ok.ensures.value ∙ searched_among _ _ _ c.requires c.binary_search.ensures.bound c.binary_search.ensures.position
