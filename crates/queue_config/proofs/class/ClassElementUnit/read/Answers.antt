use Rattle.std.proofs.lemmas.List.Elements.{All-push}
use Rattle.queue_config.specs.Ranges.{IsClass}
use Rattle.queue_config.proofs.class.ClassElementUnit.read.Goals as goal

pub returns-clause-holds : goal.returns-clause-holds
returns-clause-holds c = All-push IsClass _ _ c.requires (record { name = c.in_ok-name.ensures.name; limit = c.in_ok-limit.ensures.range; rule_count = c.in_ok-rules.ensures.count; rules = c.in_ok-rules.ensures.holds })
