use Rattle.std.proofs.Common.{◌≡◌, ap, refl, rules, arith, pos, ◌*ℤ◌}
use Rattle.jiff_core.proofs.SignedLemmas.{signed_arith}
use Rattle.jiff_core.specs.Calendar.{days_from_civil}
use Rattle.jiff_core.proofs.CalendarLemmas.{days_from_civil-day_count, day_count-end, day_count-next_year}
use Rattle.cron_lines.specs.RunTime.{one_day}
use Rattle.cron_lines.proofs.times.moments_end_with_a_day.Goals as goal

first_day : days_from_civil (pos 9999) 1 1 ≡ pos 2_932_532
first_day =
    omega (arith, signed_arith, days_from_civil-day_count, day_count-end, day_count-next_year (pos 9999) (pos 10000) (search rules) refl)

pub returns : goal.returns
returns c date year month day = rw (year, month, day) (ap (λ n. n *ℤ pos one_day) first_day)
