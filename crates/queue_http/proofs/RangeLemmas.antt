-- The ranges of a row, one by one.
use Rattle.std.proofs.Common.{◌≡◌, ◌&&◌, ℕ, Bool, true, List, IfSome, IfOk, Option, None, Some, Result, Ok, Err, is_some, ap, sym, subst, arith, refl}
use Rattle.std.proofs.lemmas.Bool.{true≢false}
use Rattle.std.specs.Option.{ForSome}
use Rattle.job_envelope.specs.Ranges.{IsInRange}
use Rattle.job_states.specs.Length.{IsName, is_name}
use Rattle.job_states.specs.Moment.{IsMoment}
use Rattle.job_states.specs.Ranges.{are_counts, is_count, is_envelope, is_limited, is_number, is_priority}
use Rattle.job_states.specs.declared.command.NewJob.{NewJob}
use Rattle.job_states.specs.declared.job.Limited.{Limited}
use Rattle.queue_model.proofs.Steps.{same_Some}
use Rattle.plan_model.specs.GoodScene.{IsNewJob}
use Rattle.plan_model.specs.JobCommands.{limit_or_none}
use Rattle.plan_model.specs.Scenes.{Scene}
use Rattle.queue_config.specs.Limits.{limited_of}
use Rattle.queue_config.specs.declared.limited.KeyFault.{KeyFault}
use Rattle.queue_http.specs.Ranges.{IsFitLimit}

pub name_fits : (text : List ℕ) → IsName text → is_name text ≡ true
name_fits text name = grind (arith, name.0, name.1)

limit_fits : (o : Result (Option Limited) KeyFault) → IfOk o IsFitLimit → is_limited (limit_or_none o) ≡ true
limit_fits (Ok limited) fit = fit
limit_fits (Err fault) fit = refl

all_fit : (a b c d e f g h i : Bool) → a ≡ true → b ≡ true → c ≡ true → d ≡ true → e ≡ true → f ≡ true → g ≡ true → h ≡ true → i ≡ true
    → (a && b && c && d && e && f && g && h && i) ≡ true
all_fit a b c d e f g h i pa pb pc pd pe pf pg ph pi = rw pa (rw pb (rw pc (rw pd (rw pe (rw pf (rw pg (rw ph pi)))))))

moment_fits : (at : Option ℕ) → IfSome at IsMoment → ForSome at IsMoment
moment_fits None h = λ m e. absurd (true≢false (ap is_some (sym e)))
moment_fits (Some at) h = λ m e. subst IsMoment (same_Some at m e) h

pub new_job_fits : (s : Scene) (new : NewJob) → IsInRange new → IsName new.class → IsName new.queue → IsName new.active_id → is_priority new.priority ≡ true
    → IfOk (limited_of s.settings new.class new.args) IsFitLimit → IsNewJob s new
new_job_fits s new range class queue active priority limit = record {
  row = all_fit (is_number 1) (is_name new.class) (is_name new.queue) (is_priority new.priority) (is_name new.active_id) (is_envelope new.envelope)
      (is_count new.executions) (are_counts new.counts) _ refl (name_fits new.class class) (name_fits new.queue queue) priority (name_fits new.active_id active)
      range.envelope range.executions range.counts.row (limit_fits (limited_of s.settings new.class new.args) limit);
  at = moment_fits new.at range.at;
}
