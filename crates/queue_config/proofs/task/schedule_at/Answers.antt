use Rattle.std.proofs.Common.{◌≡◌, List, ℕ, Result, Ok, Err, sym, ap, ◌∙◌}
use Rattle.cron_lines.specs.Text.{schedule_of}
use Rattle.cron_lines.specs.declared.times.Schedule.{Schedule}
use Rattle.cron_lines.specs.declared.times.ScheduleFault.{ScheduleFault}
use Rattle.queue_config.specs.Settings.{schedule_in}
use Rattle.queue_config.proofs.task.schedule_at.Goals as goal

spelled : (key : List ℕ) (read : Result Schedule ScheduleFault) (schedule : Schedule) → schedule_in key read ≡ Ok schedule → read ≡ Ok schedule
spelled key (Ok s) schedule is =
    let same : s ≡ schedule = cc in
    ap (λ (x : Schedule). Ok x) same
spelled key (Err fault) schedule is = absurd (cc)

pub returns-clause-read : goal.returns-clause-read
returns-clause-read c = ap schedule_of (sym c.as_str.ensures.same) ∙ spelled _ (schedule_of c.as_str.result.now) c.in_ok-schedule.schedule c.in_ok-schedule.ensures
