-- Run times by their day and the minute in it.
use Rattle.std.proofs.Common.{◌≡◌, ℕ, ◌+◌, ◌-◌, ◌*◌, ◌/◌, ◌%◌, ◌<◌, ◌≤◌, Bool, ◌&&◌, IsTrue, pos, ℤ, if◌then◌else◌, ◌||◌, refl, ap, sym, subst, inl, inr, ◌∙◌, arith}
use Rattle.std.proofs.lemmas.Bool.{cases_lt, and_parts, and_from}
use Rattle.jiff_core.specs.declared.civil.date.Date.{Date}
use Rattle.jiff_core.specs.Calendar.{weekday_number}
use Rattle.jiff_core.specs.Date.{epoch_day}
use Rattle.jiff_core.proofs.DateLemmas.{epoch_day_injective}
use Rattle.cron_lines.specs.declared.times.Line.{Line}
use Rattle.cron_lines.specs.declared.times.Schedule.TheVariants.{Minutes}
use Rattle.cron_lines.specs.Values.{has}
use Rattle.cron_lines.specs.RunTime.{fits_minute, fits_date, has_weekday, one_minute, one_hour, one_day, window, FitsDay, FitsLine, IsLastRunTime}

-- a minute of a day
abbrev pub minute_of : ℕ → ℕ → ℕ
minute_of d m = d * one_day + m * one_minute

minute_of-parts : (d m : ℕ) → m < 1440 → (minute_of d m % one_minute ≡ 0) × (minute_of d m / one_minute % 60 ≡ m % 60) × (minute_of d m / one_hour % 24 ≡ m / 60) × (minute_of d m / one_day ≡ d)
minute_of-parts d m h = (omega arith, omega arith, omega arith, omega arith)

parts-minute_of : (t : ℕ) → t % one_minute ≡ 0 → (t ≡ minute_of (t / one_day) (t % one_day / one_minute)) × (t % one_day / one_minute % 60 ≡ t / one_minute % 60) × (t % one_day / one_minute / 60 ≡ t / one_hour % 24) × (t % one_day / one_minute < 1440)
parts-minute_of t h = (omega arith, omega arith, omega arith, omega arith)

-- a run time is a minute of a day
pub record IsMinuteOf (line : Line) (t d m : ℕ) : Type 0 where
  pub is : t ≡ minute_of d m
  pub in_day : m < 1440
  pub day : FitsDay line d
  pub minute : IsTrue (fits_minute line m)

pub IsMinuteOf-run_time : (line : Line) (t : ℕ) → FitsLine line t → IsMinuteOf line t (t / one_day) (t % one_day / one_minute)
IsMinuteOf-run_time line t fits =
    let parts = parts-minute_of t fits.whole in
    record {
      is = parts.0;
      in_day = parts.3;
      day = fits.day;
      minute = and_from _ _ (ap (has line.hour.values) parts.2 ∙ fits.hour) (ap (has line.minute.values) parts.1 ∙ fits.minute);
    }

pub FitsLine-minute_of : (line : Line) (d m : ℕ) → m < 1440 → FitsDay line d → IsTrue (fits_minute line m) → FitsLine line (minute_of d m)
FitsLine-minute_of line d m short day minute =
    let parts = minute_of-parts d m short in
    record {
      whole = parts.0;
      minute = ap (has line.minute.values) parts.1 ∙ (and_parts (has line.hour.values (m / 60)) (has line.minute.values (m % 60)) minute).1;
      hour = ap (has line.hour.values) parts.2 ∙ (and_parts (has line.hour.values (m / 60)) (has line.minute.values (m % 60)) minute).0;
      day = let P : ℕ → Type 0 = λ n. FitsDay line n in subst P (sym parts.3) day;
    }

-- ---- the greatest run time

-- no minute of the day of `now` fits, up to `now`
abbrev pub NoneToday : Line → ℕ → Type 0
NoneToday line now =
    (k : ℕ) → 0 ≤ k → k < now % one_day / one_minute + 1 → ¬ (FitsDay line (now / one_day) × IsTrue (fits_minute line k))

-- the day of now, and its minutes up to now
today_at : (now t d m : ℕ) → t ≡ minute_of d m → m < 1440 → t ≤ now → now / one_day ≤ d → (d ≡ now / one_day) × (m < now % one_day / one_minute + 1)
today_at now t d m is short reached late = (omega arith, omega arith)

pub last_today : (line : Line) (now m : ℕ) → m < now % one_day / one_minute + 1 → FitsDay line (now / one_day) → IsTrue (fits_minute line m) → ((k : ℕ) → m < k → k < now % one_day / one_minute + 1 → ¬ (FitsDay line (now / one_day) × IsTrue (fits_minute line k))) → IsLastRunTime (Minutes line) now (minute_of (now / one_day) m)
last_today line now m high day minute none = record {
  due = FitsLine-minute_of line (now / one_day) m (omega arith) day minute;
  reached = omega arith;
  recent = omega arith;
  greatest = λ other due reached. elim (cases_lt (minute_of (now / one_day) m) other) [
    | inl above ↦
        let p = IsMinuteOf-run_time line other due in
        let at = today_at now other (other / one_day) (other % one_day / one_minute) p.is p.in_day reached (omega arith) in
        let P : ℕ → Type 0 = λ n. FitsDay line n in
        absurd (none (other % one_day / one_minute) (omega arith) at.1 (subst P at.0 p.day, p.minute))
    | inr below ↦ below
  ];
}

-- a run time is on an earlier day then
before_today : (line : Line) (now t : ℕ) → NoneToday line now → FitsLine line t → t ≤ now → t / one_day < now / one_day
before_today line now t none due reached =
    elim (cases_lt (t / one_day) (now / one_day)) [
      | inl before ↦ before
      | inr late ↦
          let p = IsMinuteOf-run_time line t due in
          let at = today_at now t (t / one_day) (t % one_day / one_minute) p.is p.in_day reached late in
          let P : ℕ → Type 0 = λ n. FitsDay line n in
          absurd (none (t % one_day / one_minute) (omega arith) at.1 (subst P at.0 p.day, p.minute))
    ]

-- the last minute of the last day that fits is at least as late
earlier_day : (line : Line) (now d m : ℕ) → NoneToday line now → ((k : ℕ) → d < k → k < now / one_day → ¬ FitsDay line k) → ((k : ℕ) → m < k → k < 1440 → ¬ IsTrue (fits_minute line k)) → (t : ℕ) → FitsLine line t → t ≤ now → t ≤ minute_of d m
earlier_day line now d m none no_day no_minute t due reached =
    let p = IsMinuteOf-run_time line t due in
    let before = before_today line now t none due reached in
    elim (cases_lt (minute_of d m) t) [
      | inl above ↦
          elim (cases_lt d (t / one_day)) [
            | inl later ↦ absurd (no_day (t / one_day) later before p.day)
            | inr same ↦ absurd (no_minute (t % one_day / one_minute) (omega arith) p.in_day p.minute)
          ]
      | inr below ↦ below
    ]

pub last_earlier : (line : Line) (now d m : ℕ) → NoneToday line now → d < now / one_day → m < 1440 → FitsDay line d → IsTrue (fits_minute line m) → ((k : ℕ) → d < k → k < now / one_day → ¬ FitsDay line k) → ((k : ℕ) → m < k → k < 1440 → ¬ IsTrue (fits_minute line k)) → now < minute_of d m + window → IsLastRunTime (Minutes line) now (minute_of d m)
last_earlier line now d m none before short day minute no_day no_minute recent = record {
  due = FitsLine-minute_of line d m short day minute;
  reached = omega arith;
  recent = recent;
  greatest = earlier_day line now d m none no_day no_minute;
}

pub none_recent : (line : Line) (now d m : ℕ) → NoneToday line now → ((k : ℕ) → d < k → k < now / one_day → ¬ FitsDay line k) → ((k : ℕ) → m < k → k < 1440 → ¬ IsTrue (fits_minute line k)) → minute_of d m + window ≤ now → (t : ℕ) → FitsLine line t → t ≤ now → t + window ≤ now
none_recent line now d m none no_day no_minute old t due reached =
    let below : t ≤ minute_of d m = earlier_day line now d m none no_day no_minute t due reached in omega arith

pub none_on_days : (line : Line) (now : ℕ) → NoneToday line now → ((k : ℕ) → now / one_day - 2922 ≤ k → k < now / one_day → ¬ FitsDay line k) → (t : ℕ) → FitsLine line t → t ≤ now → t + window ≤ now
none_on_days line now none no_day t due reached =
    let p = IsMinuteOf-run_time line t due in
    let before = before_today line now t none due reached in
    elim (cases_lt (t / one_day) (now / one_day - 2922)) [
      | inl old ↦ omega (arith, p.is, p.in_day)
      | inr recent ↦ absurd (no_day (t / one_day) recent before p.day)
    ]

pub none_in_day : (line : Line) → ((k : ℕ) → 0 ≤ k → k < 1440 → ¬ IsTrue (fits_minute line k)) → (t : ℕ) → ¬ FitsLine line t
none_in_day line none t due =
    let p = IsMinuteOf-run_time line t due in none _ (omega arith) p.in_day p.minute

-- a date fits by its month, its day and its day number alone
fits_parts : Line → ℕ → ℕ → ℤ → Bool
fits_parts line month day number =
    has line.month.values month
    && (if line.day.restricted && line.weekday.restricted
    then has line.day.values day || has_weekday line.weekday (weekday_number number)
    else has line.day.values day && has_weekday line.weekday (weekday_number number))

fits_date-parts : (line : Line) (date : Date) → fits_date line date ≡ fits_parts line date.month date.day (epoch_day date)
unfolding fits_parts
fits_date-parts line date = refl

same_fits_date : (line : Line) (a b : Date) → epoch_day a ≡ epoch_day b → fits_date line a ≡ fits_date line b
same_fits_date line a b same =
    let parts = epoch_day_injective a b same in
    fits_date-parts line a
    ∙ ap (λ n. fits_parts line n a.day (epoch_day a)) parts.1
    ∙ ap (λ n. fits_parts line b.month n (epoch_day a)) parts.2
    ∙ ap (fits_parts line b.month b.day) same
    ∙ sym (fits_date-parts line b)

-- a day has one date
pub FitsDay-date : (line : Line) (n : ℕ) (date : Date) → epoch_day date ≡ pos n → FitsDay line n → IsTrue (fits_date line date)
FitsDay-date line n date is_date fit = same_fits_date line date fit.date (is_date ∙ sym fit.is_date) ∙ fit.fits

-- ---- a search from the end down

pub none_from : (P : ℕ → Type 0) (n end : ℕ) → ((k : ℕ) → n ≤ k → k < end → ¬ P k) → ¬ P (n - 1) → (k : ℕ) → n - 1 ≤ k → k < end → ¬ P k
none_from P n end above here k low high p =
    elim (cases_lt k n) [
      | inl below ↦ let e : k ≡ n - 1 = omega arith in here (subst P e p)
      | inr at ↦ above k at high p
    ]
