-- The examples, by computing.
use Rattle.std.proofs.Common.{refl}
use Rattle.std.specs.Fmt.{digits}
use Rattle.std.specs.Str.{is_utf8, chars}
use Rattle.queue_config.specs.Errors.{line}
use Rattle.queue_config.specs.Retry.{last_from}
use Rattle.plan_model.proofs.examples.worked_examples.Goals as goal

pub returns-clause-order : goal.returns-clause-order
unfolding is_utf8 chars lib.Utf8.encode
returns-clause-order c = refl

pub returns-clause-paused : goal.returns-clause-paused
unfolding is_utf8 chars lib.Utf8.encode
returns-clause-paused c = refl

pub returns-clause-process : goal.returns-clause-process
unfolding is_utf8 chars lib.Utf8.encode
returns-clause-process c = refl

pub returns-clause-stranger : goal.returns-clause-stranger
unfolding is_utf8 chars lib.Utf8.encode
returns-clause-stranger c = refl

pub returns-clause-no_job : goal.returns-clause-no_job
unfolding is_utf8 chars lib.Utf8.encode
returns-clause-no_job c = refl

pub returns-clause-once : goal.returns-clause-once
unfolding is_utf8 chars lib.Utf8.encode
returns-clause-once c = refl

pub returns-clause-kept : goal.returns-clause-kept
unfolding is_utf8 chars lib.Utf8.encode
returns-clause-kept c = (refl, refl)

pub returns-clause-classes : goal.returns-clause-classes
unfolding is_utf8 chars lib.Utf8.encode
returns-clause-classes c = refl

pub returns-clause-first : goal.returns-clause-first
unfolding is_utf8 chars lib.Utf8.encode
returns-clause-first c = refl

pub returns-clause-second : goal.returns-clause-second
unfolding is_utf8 chars lib.Utf8.encode
returns-clause-second c = refl

pub returns-clause-unblocks : goal.returns-clause-unblocks
unfolding is_utf8 chars lib.Utf8.encode
returns-clause-unblocks c = refl

pub returns-clause-generations : goal.returns-clause-generations
unfolding is_utf8 chars lib.Utf8.encode
returns-clause-generations c = refl

pub returns-clause-discarded : goal.returns-clause-discarded
unfolding is_utf8 chars lib.Utf8.encode
returns-clause-discarded c = refl

pub returns-clause-retry : goal.returns-clause-retry
unfolding is_utf8 chars lib.Utf8.encode
returns-clause-retry c = refl

pub returns-clause-wait : goal.returns-clause-wait
unfolding is_utf8 chars lib.Utf8.encode line last_from
returns-clause-wait c = refl

pub returns-clause-attempts : goal.returns-clause-attempts
unfolding is_utf8 chars lib.Utf8.encode line last_from
returns-clause-attempts c = refl

pub returns-clause-prune : goal.returns-clause-prune
unfolding is_utf8 chars lib.Utf8.encode digits
returns-clause-prune c = (refl, refl)

pub returns-clause-dispatch : goal.returns-clause-dispatch
unfolding is_utf8 chars lib.Utf8.encode
returns-clause-dispatch c = refl

pub returns-clause-lapsed : goal.returns-clause-lapsed
unfolding is_utf8 chars lib.Utf8.encode
returns-clause-lapsed c = (refl, refl)

pub returns-clause-job_cases : goal.returns-clause-job_cases
unfolding is_utf8 chars lib.Utf8.encode digits line last_from
returns-clause-job_cases c = (refl, (refl, (refl, (refl, (refl, (refl, (refl, (refl, (refl, (refl, (refl, (refl, (refl, (refl, (refl, (refl, (refl, (refl, (refl, (refl, (refl, (refl, (refl, (refl, (refl, (refl, (refl, (refl, (refl, (refl, (refl, (refl, (refl, (refl, (refl, (refl, (refl, (refl, (refl, tt)))))))))))))))))))))))))))))))))))))))

pub returns-clause-upkeep_cases : goal.returns-clause-upkeep_cases
unfolding is_utf8 chars lib.Utf8.encode digits line last_from
returns-clause-upkeep_cases c = (refl, (refl, (refl, (refl, (refl, (refl, (refl, (refl, (refl, (refl, (refl, (refl, (refl, (refl, (refl, (refl, (refl, (refl, (refl, (refl, (refl, (refl, (refl, tt)))))))))))))))))))))))
