use Rattle.std.proofs.Common.{take, ap, ◌∙◌}
use Rattle.std.proofs.lemmas.List.{take_min}
use Rattle.http_wire.proofs.carry.Carry.prefix.Goals as goal

pub returns-clause-bytes : goal.returns-clause-bytes
returns-clause-bytes c =
    ap (λ k. take k c.as_slice-ahead.result.now) c.min.ensures ∙ take_min 16384 c.as_slice-ahead.result.now ∙ ap (take 16384) (c.as_slice-ahead.ensures ∙ ap (λ ahead. ahead.bytes) c.self.view_is)
