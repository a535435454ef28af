-- Which texts are schedules, which schedule each is, and where each other text is refused.
use Rattle.std.specs.Prelude.{ℕ, Bool, false, ◌||◌, if◌then◌else◌, List, [], ◌∷◌, length, codes, Option, Some, None, Result, Ok, Err}
use Rattle.std.specs.Str.{bytes_eq}
use Rattle.job_states.specs.Judged.{◌>>=◌}
use Rattle.cron_lines.specs.declared.fields.Field.{Field}
use Rattle.cron_lines.specs.declared.fields.FieldKind.{FieldKind}
use Rattle.cron_lines.specs.declared.fields.FieldKind.TheVariants as kinds
use Rattle.cron_lines.specs.declared.times.Schedule.{Schedule}
use Rattle.cron_lines.specs.declared.times.Schedule.TheVariants.{Minutes}
use Rattle.cron_lines.specs.declared.times.ScheduleFault.{ScheduleFault}
use Rattle.cron_lines.specs.declared.times.ScheduleFault.TheVariants.{Refused}
use Rattle.cron_lines.specs.Field.{field_of}
use Rattle.cron_lines.specs.Phrase.{phrase_of}
use Rattle.cron_lines.specs.Words.{Word, words_of}

-- what there is, or the refusal at this place
abbrev pub refused_unless : {A : Type 0} → ℕ → Option A → Result A ScheduleFault
refused_unless at (Some x) = Ok x
refused_unless at None = Err (Refused at)

-- the first word as a field, and the words after it; a missing field is refused at the text's end
abbrev pub next_field : FieldKind → ℕ → List Word → Result (Field × List Word) ScheduleFault
next_field kind end [] = Err (Refused end)
next_field kind end (word ∷ words) =
    refused_unless word.at (field_of kind word.bytes) >>= λ field. Ok (field, words)

-- there is no sixth field
abbrev pub if_last : List Word → Schedule → Result Schedule ScheduleFault
if_last [] schedule = Ok schedule
if_last (word ∷ words) schedule = Err (Refused word.at)

-- five fields
unfoldable pub read_line : ℕ → List Word → Result Schedule ScheduleFault
read_line end words = do
  minute ← next_field kinds.Minute end words
  hour ← next_field kinds.Hour end minute.1
  day ← next_field kinds.Day end hour.1
  month ← next_field kinds.Month end day.1
  weekday ← next_field kinds.Weekday end month.1
  if_last weekday.1 (Minutes (record { minute = minute.0; hour = hour.0; day = day.0; month = month.0; weekday = weekday.0 }))

-- whether the first word is one that phrases begin with
abbrev pub begins_phrase : List Word → Bool
begins_phrase [] = false
begins_phrase (word ∷ words) =
    bytes_eq word.bytes (codes "every") || bytes_eq word.bytes (codes "at")

-- a phrase is refused at 0, and has no blanks round it
abbrev pub schedule_of : List ℕ → Result Schedule ScheduleFault
schedule_of text =
    if begins_phrase (words_of text) then refused_unless 0 (phrase_of text)
    else read_line (length text) (words_of text)
