use Rattle.std.proofs.Common.{◌<◌, ◌^◌, arith}
use lib.Signed.{mag}
use Rattle.queue_config.proofs.LimitLemmas.{whole_is_name}
use Rattle.queue_http.proofs.ranges.whole_is_in_range.Goals as goal

pub returns : goal.returns
returns c =
    let small : mag c.args.n < 10 ^ 62 = omega (arith, c.ranges.n.sfits) in
    whole_is_name c.args.n small
