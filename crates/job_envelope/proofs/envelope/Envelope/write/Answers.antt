use Rattle.std.proofs.Common.{◌≡◌, ◌≤◌, Some, true, ◌∙◌}
use Rattle.std.proofs.lemmas.Str.{is_utf8-from_IsUtf8}
use Rattle.std.specs.Str.{is_utf8}
use Rattle.serde_json.specs.Data.{depth}
use Rattle.serde_json.specs.Read.{read}
use Rattle.serde_json.specs.View.{view}
use Rattle.job_envelope.specs.Written.{envelope_data}
use Rattle.job_envelope.proofs.WrittenLemmas.{has_float-IsEnvelopeOf, depth-IsEnvelopeOf}
use Rattle.job_envelope.proofs.RoundTrip.{job_of-envelope_data, envelope_of-read}
use Rattle.job_envelope.proofs.envelope.Envelope.write.Goals as goal

pub returns-clause-compact : goal.returns-clause-compact
returns-clause-compact c = λ whole.
    let is = c.in_ok-envelope.ensures.value in
    (view c.in_ok-envelope.envelope, is, c.of.ensures ∙ c.in_ok-to_vec.ensures.text (has_float-IsEnvelopeOf c.args.job.now (view c.args.args.now) _ is whole))

pub returns-clause-json : goal.returns-clause-json
returns-clause-json c = λ nested.
    let is = c.in_ok-envelope.ensures.value in
    rw (c.of.ensures, c.in_ok-to_vec.ensures.reads_back (depth-IsEnvelopeOf c.args.job.now (view c.args.args.now) _ is nested)) is

pub returns-clause-reads_back : goal.returns-clause-reads_back
returns-clause-reads_back c = λ items is_array can.
    let args = view c.args.args.now in
    let is = c.in_ok-envelope.ensures.value in
    let nested : depth args ≤ 126 = rw is_array can.nested in
    let read_again : read c.of.result ≡ Some (envelope_data c.args.job.now args is.at) = rw (c.of.ensures, ← is.members) (c.in_ok-to_vec.ensures.reads_back (depth-IsEnvelopeOf c.args.job.now args _ is nested)) in
    let utf8 : is_utf8 c.of.result ≡ true = rw c.of.ensures (is_utf8-from_IsUtf8 c.in_ok-to_vec.field-0.items c.in_ok-to_vec.ensures.utf8) in
    envelope_of-read c.of.result c.args.job.now args is.at can.short utf8 read_again
    ∙ rw is_array (job_of-envelope_data c.args.job.now items is.at c.of.result c.in_ok-envelope.ensures.ranges can is.moment)
