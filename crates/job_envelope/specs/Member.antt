-- The names of the members that are read.
use Rattle.std.specs.Prelude.{ℕ, List, codes}
use Rattle.job_envelope.specs.declared.member.Member.{Member}
use Rattle.job_envelope.specs.declared.member.Member.TheVariants.{JobClass, JobId, QueueName, Priority, Arguments, Executions, ExceptionExecutions, ScheduledAt}

abbrev pub member_name : Member → List ℕ
member_name JobClass = codes "job_class"
member_name JobId = codes "job_id"
member_name QueueName = codes "queue_name"
member_name Priority = codes "priority"
member_name Arguments = codes "arguments"
member_name Executions = codes "executions"
member_name ExceptionExecutions = codes "exception_executions"
member_name ScheduledAt = codes "scheduled_at"
