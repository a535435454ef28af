use Rattle.std.proofs.Common.{ℕ, ◌<◌, ◌≤◌}
use Rattle.cron_lines.specs.RunTime.{FitsDay}
use Rattle.cron_lines.proofs.times.Line.last_day.Given as goal

abbrev pub invariant-loop-day : goal.invariant-loop-day
invariant-loop-day l = (k : ℕ) → l.day ≤ k → k < l.end → ¬ (FitsDay l.self k)
