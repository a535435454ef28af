use Rattle.std.proofs.Common.{◌≡◌, ◌≤◌, refl, ap, ◌∙◌, pos, ◌*◌, Ok, arith}
use Rattle.std.proofs.lemmas.Int.{ints}
use Rattle.std.proofs.lemmas.Result.{IfOk-at_ok}
use Rattle.jiff_fmt.proofs.RoundTrip.{parse_timestamp-printed}
use Rattle.job_envelope.proofs.written.moment_text.Goals as goal

pub returns : goal.returns
returns c =
    let text = c.timestamp_text-text.ensures in
    let bound : c.min.result ≤ 253370764799999999 = omega arith in
    let value = IfOk-at_ok _ c.unwrap-instant.ensures c.from_nanosecond.ensures.value in
    let nanos : c.unwrap-instant.result.nanosecond ≡ pos (c.min.result * 1000) = omega (arith, ints, value) in
    let lower : c.new.result.lowercase ≡ _ = ap (λ x. x.0) c.new.ensures in
    let separator : c.new.result.separator ≡ _ = ap (λ x. x.1) c.new.ensures in
    let precision : c.new.result.precision ≡ _ = ap (λ x. x.2) c.new.ensures in
    let instant = nanos ∙ rw c.min.ensures refl in
    let printed = c.in_ok-from_str.ensures.ok ∙ c.as_str.ensures.value in
    record {
      utc = text.0;
      instant = text.1 ∙ instant;
      printed = printed ∙ text.2 ∙ rw (lower, separator, precision) refl;
      reads = rw printed (parse_timestamp-printed c.new.result c.unwrap-instant.result c.timestamp_text-text.result.bytes c.new.ensures text) ∙ ap Ok instant;
    }
