use Rattle.std.proofs.Common.{ℕ, ◌<◌, ◌≤◌, IsTrue}
use Rattle.cron_lines.specs.RunTime.{fits_minute}
use Rattle.cron_lines.proofs.times.Line.last_minute.Given as goal

abbrev pub invariant-loop-minute : goal.invariant-loop-minute
invariant-loop-minute l = (k : ℕ) → l.minute ≤ k → k < l.end → ¬ (IsTrue (fits_minute l.self k))
