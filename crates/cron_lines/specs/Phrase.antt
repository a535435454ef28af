-- The phrases, and the schedules that they stand for.
use Rattle.std.specs.Prelude.{ℕ, ◌+◌, ◌-◌, ◌%◌, true, false, ◌&&◌, nat_le, if◌then◌else◌, List, [], ◌∷◌, length, take, drop, codes, Option, Some, None}
use Rattle.std.specs.Str.{bytes_eq}
use Rattle.cron_lines.specs.declared.fields.Field.{Field}
use Rattle.cron_lines.specs.declared.fields.FieldKind.{FieldKind}
use Rattle.cron_lines.specs.declared.fields.FieldKind.TheVariants as kinds
use Rattle.cron_lines.specs.declared.times.Schedule.{Schedule}
use Rattle.cron_lines.specs.declared.times.Schedule.TheVariants.{EverySecond, Minutes}
use Rattle.cron_lines.specs.Field.{field_with, all_of, number_of, ◌>>=◌}

-- the field that `*` spells
abbrev pub any : FieldKind → Field
any kind = field_with false (all_of kind ∷ [])

-- the field that a number spells
abbrev pub only : ℕ → Field
only value = field_with true (record { first = value; last = value; step = 1 } ∷ [])

-- every day, at the minutes and hours of these fields
abbrev pub daily : Field → Field → Schedule
daily minute hour = Minutes (record {
  minute = minute;
  hour = hour;
  day = any kinds.Day;
  month = any kinds.Month;
  weekday = any kinds.Weekday;
})

-- what stands after this prefix of the text
abbrev pub after_prefix : List ℕ → List ℕ → Option (List ℕ)
after_prefix prefix text =
    if bytes_eq (take (length prefix) text) prefix then Some (drop (length prefix) text) else None

-- what stands before this suffix of the text
abbrev pub before_suffix : List ℕ → List ℕ → Option (List ℕ)
before_suffix suffix text =
    let rest = length text - length suffix in
    if bytes_eq (drop rest text) suffix then Some (take rest text) else None

-- a minute of each hour
unfoldable pub hourly_of : List ℕ → Option Schedule
hourly_of text =
    after_prefix (codes "every hour at minute ") text >>= number_of
    >>= λ minute. if nat_le minute 59 then Some (daily (only minute) (any kinds.Hour)) else None

-- an hour of each day, in the half of the day that begins with the hour `noon`: 12 is its first hour
unfoldable pub daily_of : List ℕ → ℕ → List ℕ → Option Schedule
daily_of half noon text =
    after_prefix (codes "at ") text >>= before_suffix half >>= number_of
    >>= λ hour. if nat_le 1 hour && nat_le hour 12 then Some (daily (only 0) (only (hour % 12 + noon))) else None

abbrev pub or_else : Option Schedule → Option Schedule → Option Schedule
or_else (Some schedule) other = Some schedule
or_else None other = other

unfoldable pub phrase_of : List ℕ → Option Schedule
phrase_of text =
    if bytes_eq text (codes "every second") then Some EverySecond
    else (if bytes_eq text (codes "every minute") then Some (daily (any kinds.Minute) (any kinds.Hour))
    else (if bytes_eq text (codes "every hour") then Some (daily (only 0) (any kinds.Hour))
    else (if bytes_eq text (codes "every day") then Some (daily (only 0) (only 0))
    else or_else (hourly_of text)
    (or_else (daily_of (codes "am every day") 0 text) (daily_of (codes "pm every day") 12 text)))))
