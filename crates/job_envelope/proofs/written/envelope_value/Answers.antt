use Rattle.std.proofs.Common.{◌≡◌, refl, ap, ◌∙◌, codes}
use Rattle.serde_json.specs.Data.{null, object, no_members}
use Rattle.serde_json.specs.View.{view, members_view}
use Rattle.serde_json.specs.declared.value.Value.{Null, the_lemmas}
use Rattle.serde_json.proofs.Views.{view-Object}
use Rattle.job_envelope.specs.Written.{with_counts}
use Rattle.job_envelope.proofs.WrittenLemmas.{with_put}
use Rattle.job_envelope.proofs.written.envelope_value.Goals as goal

pub returns-clause-value : goal.returns-clause-value
returns-clause-value c =
    let empty : members_view c.new-members.result.entries ≡ no_members = rw c.new-members.ensures.empty refl in
    let counts : view c.in_ok-counts.counts ≡ object (with_counts c.args.job.now.counts no_members) = rw (← c.as_slice.ensures) c.in_ok-counts.ensures in
    let nothing : view Null ≡ null = search the_lemmas in
    let arguments = with_put (codes "arguments") _ _ _ _ _ c.in_ok-put.ensures.ok c.in_ok-clone.ensures.cases empty in
    let enqueued_at = with_put (codes "enqueued_at") _ _ _ _ _ c.in_ok-put-2.ensures.ok nothing arguments in
    let exception_executions = with_put (codes "exception_executions") _ _ _ _ _ c.in_ok-put-3.ensures.ok counts enqueued_at in
    let executions = with_put (codes "executions") _ _ _ _ _ c.in_ok-put-4.ensures.ok c.from.ensures exception_executions in
    let job_class = with_put (codes "job_class") _ _ _ _ _ c.in_ok-put-5.ensures.ok c.in_ok-name_value.ensures.value executions in
    let job_id = with_put (codes "job_id") _ _ _ _ _ c.in_ok-put-6.ensures.ok c.in_ok-name_value-2.ensures.value job_class in
    let locale = with_put (codes "locale") _ _ _ _ _ c.in_ok-put-7.ensures.ok nothing job_id in
    let priority = with_put (codes "priority") _ _ _ _ _ c.in_ok-put-8.ensures.ok c.priority_value.ensures.value locale in
    let provider_job_id = with_put (codes "provider_job_id") _ _ _ _ _ c.in_ok-put-9.ensures.ok nothing priority in
    let queue_name = with_put (codes "queue_name") _ _ _ _ _ c.in_ok-put-10.ensures.ok c.in_ok-name_value-3.ensures.value provider_job_id in
    let scheduled_at = with_put (codes "scheduled_at") _ _ _ _ _ c.in_ok-put-11.ensures.ok refl queue_name in
    let timezone = with_put (codes "timezone") _ _ _ _ _ c.in_ok-put-12.ensures.ok nothing scheduled_at in
    record { at = view c.in_ok-moment_value.field-0; moment = c.in_ok-moment_value.ensures; members = view-Object c.put-12.new.map ∙ ap object timezone }

pub returns-clause-ranges : goal.returns-clause-ranges
returns-clause-ranges c = record {
  class = c.in_ok-name_value.ensures.name;
  active_id = c.in_ok-name_value-2.ensures.name;
  queue = c.in_ok-name_value-3.ensures.name;
  priority = c.priority_value.ensures.fits;
}
