use Rattle.std.proofs.Common.{◌≤◌, ◌-◌, ◌/◌, arith}
use Rattle.cron_lines.specs.RunTime.{one_day}
use Rattle.cron_lines.proofs.RunTimeLemmas.{last_today, last_earlier, none_recent, none_on_days, none_in_day}
use Rattle.cron_lines.proofs.times.Line.last_at_or_before.Goals as goal

pub returns-in-Some-clause-found : goal.returns-in-Some-clause-found
returns-in-Some-clause-found c =
    let last = c.in-Some.ensures in
    last_today c.args.self.now c.args.now c.in-Some.minute last.1 last.2.0 last.2.1 last.3

pub returns-in_err-minute-clause-none : goal.returns-in_err-minute-clause-none
returns-in_err-minute-clause-none c =
    rw c.from_residual.ensures (λ t due _. absurd (none_in_day c.args.self.now c.in_err-minute.ensures t due))

pub returns-in_err-day-clause-none : goal.returns-in_err-day-clause-none
returns-in_err-day-clause-none c =
    let first : c.saturating_sub.result ≤ c.args.now / one_day - 2922 = omega arith in
    rw c.from_residual-in_err-day.ensures (none_on_days c.args.self.now c.args.now c.in_default.ensures (λ k low. c.in_err-day.ensures k (omega arith)))

pub returns-then-at-now-clause-none : goal.returns-then-at-now-clause-none
returns-then-at-now-clause-none c =
    none_recent c.args.self.now c.args.now c.in_ok-day.day c.in_ok-minute.minute c.in_default.ensures c.in_ok-day.ensures.3 c.in_ok-minute.ensures.3 c.if-at-now.true

pub returns-clause-found : goal.returns-clause-found
returns-clause-found c =
    let day = c.in_ok-day.ensures in
    let minute = c.in_ok-minute.ensures in
    last_earlier c.args.self.now c.args.now c.in_ok-day.day c.in_ok-minute.minute c.in_default.ensures day.1 minute.1 day.2 minute.2 day.3 minute.3 c.if-at-now.false
