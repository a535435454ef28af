use Rattle.std.proofs.Common.{rules}
use Rattle.trace_lines.proofs.JobLemmas.{IsFitJob-plain}
use Rattle.trace_lines.proofs.job.job_in.Goals as goal

pub whole_job-requires-clause-fit : goal.whole_job-requires-clause-fit
whole_job-requires-clause-fit c = IsFitJob-plain _ _ _ _ c.in_ok-plain_job.ensures.job (search rules) (search rules) (search rules)
