use Rattle.std.proofs.Common.{◌≡◌, ◌<◌, ◌^◌, rules, arith}
use lib.Signed.{mag}
use Rattle.std.specs.Fmt.{signed_decimal}
use Rattle.queue_config.proofs.LimitLemmas.{whole_is_name}
use Rattle.queue_config.proofs.limited.decimal.Goals as goal

pub returns-clause-name : goal.returns-clause-name
returns-clause-name c =
    let small : mag c.args.n < 10 ^ 62 = omega (arith, c.ranges.n.sfits) in
    let text : c.of.result ≡ signed_decimal c.args.n = search rules in
    rw text (whole_is_name c.args.n small)
