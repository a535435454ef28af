use Rattle.std.proofs.Common.{ap, ◌∙◌, Err}
use Rattle.http_wire.proofs.Token.{token_of_head}
use Rattle.http_wire.proofs.head.method_of.Goals as goal

pub unreachable-requires : goal.unreachable-requires
unreachable-requires c =
    c.from_bytes.ensures.invalid.0 (c.in-Err-Invalid.is ∙ ap Err c.in-Err-Invalid.field-0-is) (token_of_head c.args.token.now c.requires)
