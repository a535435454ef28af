use Rattle.std.proofs.Common.{◌==◌, not, rules}
use Rattle.std.proofs.lemmas.Map.Made.{filter_same_pairs}
use Rattle.exec_tables.proofs.runs.drop_of.Goals as goal

pub returns-clause-left : goal.returns-clause-left
returns-clause-left c = filter_same_pairs _ (λ e. not (e.1 == c.args.id)) _ (λ k v b w f' t. search rules) _ _ c.retain.ensures.filtered
