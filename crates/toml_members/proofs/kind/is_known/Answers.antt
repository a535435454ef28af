use Rattle.std.proofs.Common.{sym, ◌∙◌}
use Rattle.std.specs.Str.{bytes_eq}
use Rattle.toml_members.proofs.NameLemmas.{list_any-map}
use Rattle.toml_members.proofs.kind.is_known.Goals as goal

pub returns : goal.returns
returns c = c.contains.ensures.value ∙ sym (list_any-map (λ k. k.now) (λ known. bytes_eq known c.args.key.now) c.args.keys.now)
