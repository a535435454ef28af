use Rattle.std.proofs.Common.{◌≤◌, length, IsTrue}
use Rattle.std.specs.Option.{option_map}
use Rattle.std.proofs.lemmas.Result.{IfOk-weaker}
use Rattle.serde_json.specs.View.{view}
use Rattle.job_states.specs.Ranges.{is_envelope}
use Rattle.job_envelope.specs.Written.{ReadsBack}
use Rattle.trace_lines.proofs.JobLemmas.{is_envelope-written}
use Rattle.trace_lines.proofs.job.envelope_for.Goals as goal

pub returns-clause-range : goal.returns-clause-range
returns-clause-range c =
    IfOk-weaker c.write.result (ReadsBack c.args.job.now (view c.in_ok-arguments_value.field-0)) (λ text. length text ≤ 8192 → IsTrue (is_envelope text))
    (λ text reads. is_envelope-written c.args.job.now (option_map (λ s. s.now) c.args.argument) text c.requires (rw c.in_ok-arguments_value.ensures at reads)) c.write.ensures.reads_back
