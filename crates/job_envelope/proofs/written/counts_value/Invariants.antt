use Rattle.std.proofs.Common.{◌≡◌, drop}
use Rattle.serde_json.specs.Data.{no_members}
use Rattle.serde_json.specs.View.{members_view}
use Rattle.job_envelope.specs.Written.{with_counts}
use Rattle.job_envelope.proofs.written.counts_value.Given as goal

abbrev pub invariant-loop-counted : goal.invariant-loop-counted
invariant-loop-counted l = with_counts (drop l.counted-index l.counts) (members_view l.members.entries) ≡ with_counts l.counts no_members
