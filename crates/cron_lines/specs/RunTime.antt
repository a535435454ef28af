-- The times at which a schedule is due, in microseconds since 1970 in UTC.
use Rattle.std.specs.Prelude.{◌≡◌, ℕ, ◌+◌, ◌*◌, ◌/◌, ◌%◌, ◌<◌, ◌≤◌, Bool, ◌&&◌, ◌||◌, ◌==◌, if◌then◌else◌, IsTrue, Option, Some, None, pos, ◌*ℤ◌}
use Rattle.jiff_core.specs.declared.civil.date.Date.{Date}
use Rattle.jiff_core.specs.Date.{epoch_day, weekday_of}
use Rattle.job_states.specs.Moment.{last_moment}
use Rattle.cron_lines.specs.declared.fields.Field.{Field}
use Rattle.cron_lines.specs.declared.times.Line.{Line}
use Rattle.cron_lines.specs.declared.times.Schedule.{Schedule}
use Rattle.cron_lines.specs.declared.times.Schedule.TheVariants.{EverySecond, Minutes}
use Rattle.cron_lines.specs.Values.{has}

abbrev pub one_second : ℕ
one_second = 1_000_000

abbrev pub one_minute : ℕ
one_minute = 60_000_000

abbrev pub one_hour : ℕ
one_hour = 3_600_000_000

abbrev pub one_day : ℕ
one_day = 86_400_000_000

-- how far back a run time is looked for: eight years
abbrev pub window : ℕ
window = 2922 * one_day

-- the day after the last moment is 1 January 9999
abbrev pub MomentsEndWithADay : Type 0
MomentsEndWithADay =
    (date : Date) → date.year ≡ pos 9999 → date.month ≡ 1 → date.day ≡ 1
    → epoch_day date *ℤ pos one_day ≡ pos (last_moment + 1)

-- whether a field has a day of the week, as many days after Monday: Monday is 1, and Sunday 7 or 0
abbrev pub has_weekday : Field → ℕ → Bool
has_weekday field weekday = has field.values (weekday + 1) || ((weekday == 6) && has field.values 0)

-- whether a date fits: where day and weekday are both restricted, a day that fits one of them is enough
abbrev pub fits_date : Line → Date → Bool
fits_date line date =
    has line.month.values date.month
    && (if line.day.restricted && line.weekday.restricted
    then has line.day.values date.day || has_weekday line.weekday (weekday_of date)
    else has line.day.values date.day && has_weekday line.weekday (weekday_of date))

-- the date of that day fits
pub record FitsDay (line : Line) (day : ℕ) : Type 0 where
  pub date : Date
  pub is_date : epoch_day date ≡ pos day
  pub fits : IsTrue (fits_date line date)

-- a whole minute whose minute, hour and date fit
pub record FitsLine (line : Line) (t : ℕ) : Type 0 where
  pub whole : t % one_minute ≡ 0
  pub minute : IsTrue (has line.minute.values (t / one_minute % 60))
  pub hour : IsTrue (has line.hour.values (t / one_hour % 24))
  pub day : FitsDay line (t / one_day)

-- the greatest number from low up to end, end not included, of which P holds
abbrev pub LastOf : (ℕ → Type 0) → ℕ → ℕ → Option ℕ → Type 0
LastOf P low end None = (k : ℕ) → low ≤ k → k < end → ¬ P k
LastOf P low end (Some n) =
    (low ≤ n) × (n < end) × P n × ((k : ℕ) → n < k → k < end → ¬ P k)

-- whether a minute of the day fits
abbrev pub fits_minute : Line → ℕ → Bool
fits_minute line m = has line.hour.values (m / 60) && has line.minute.values (m % 60)

-- the schedule is due at t
abbrev pub IsRunTime : Schedule → ℕ → Type 0
IsRunTime EverySecond t = t % one_second ≡ 0
IsRunTime (Minutes line) t = FitsLine line t

-- t is the greatest run time that is at most now, and later than the window's start
pub record IsLastRunTime (schedule : Schedule) (now t : ℕ) : Type 0 where
  pub due : IsRunTime schedule t
  pub reached : t ≤ now
  pub recent : now < t + window
  pub greatest : (other : ℕ) → IsRunTime schedule other → other ≤ now → other ≤ t
