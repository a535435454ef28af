use Rattle.std.proofs.lemmas.List.Elements.{All-push}
use Rattle.queue_config.specs.Ranges.{IsRule}
use Rattle.queue_config.proofs.class.RuleElementUnit.read.Goals as goal

pub returns-clause-holds : goal.returns-clause-holds
returns-clause-holds c = All-push IsRule _ _ c.requires (record { list = c.in_ok-list.ensures.range; act = c.act_of.ensures.range })
