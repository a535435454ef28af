use Rattle.std.proofs.Common.{◌≡◌, [], rules}
use Rattle.std.specs.Prelude.{unwrap_or}
use Rattle.http.specs.StatusCode.{reason_phrase}
use Rattle.http_wire.proofs.Reasons.{short_reason}
use Rattle.http_wire.proofs.reply.reason.Goals as goal

pub returns-clause-short : goal.returns-clause-short
returns-clause-short c =
    let phrase : c.unwrap_or.result.now ≡ unwrap_or (reason_phrase c.args.status) [] = search rules in
    rw phrase (short_reason c.args.status c.requires)
