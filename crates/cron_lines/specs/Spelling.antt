-- How items, fields, lines and phrases are spelled, form by form.
use Rattle.std.specs.Prelude.{◌≡◌, ℕ, ◌+◌, ◌%◌, ◌<◌, ◌≤◌, ◌↔◌, false, not, ◌==◌, List, [], ◌∷◌, ◌++◌, length, codes, slice_index, Some, Ok, Err}
use Rattle.std.specs.List.{slice_split}
use Rattle.cron_lines.specs.declared.fields.Field.{Field}
use Rattle.cron_lines.specs.declared.fields.Item.{Item}
use Rattle.cron_lines.specs.declared.fields.FieldKind.{FieldKind}
use Rattle.cron_lines.specs.declared.fields.FieldKind.TheVariants as kinds
use Rattle.cron_lines.specs.declared.times.Schedule.{Schedule}
use Rattle.cron_lines.specs.declared.times.Schedule.TheVariants.{EverySecond, Minutes}
use Rattle.cron_lines.specs.declared.times.ScheduleFault.TheVariants.{Refused}
use Rattle.cron_lines.specs.Field.{all_of, number_of, value_of, item_of, items_of, some_holds, field_with, field_of}
use Rattle.cron_lines.specs.Phrase.{any, only, daily, phrase_of}
use Rattle.cron_lines.specs.Text.{begins_phrase, schedule_of}
use Rattle.cron_lines.specs.Values.{has}
use Rattle.cron_lines.specs.Words.{Word, words_of}

-- `*` and `A-B`
pub data IsRange (kind : FieldKind) : List ℕ → Item → Type 0 where
  star : IsRange kind (codes "*") (all_of kind)
  interval : (low high : List ℕ) (first last : ℕ) → value_of kind low ≡ Some first → value_of kind high ≡ Some last → first ≤ last → IsRange kind (low ++ (codes "-" ++ high)) (record { first = first; last = last; step = 1 })

-- these, `A`, and `*/N` and `A-B/N`
pub data IsItem (kind : FieldKind) : List ℕ → Item → Type 0 where
  whole : {text : List ℕ} {item : Item} → IsRange kind text item → IsItem kind text item
  single : {text : List ℕ} {value : ℕ} → value_of kind text ≡ Some value → IsItem kind text (record { first = value; last = value; step = 1 })
  every_nth : (range count : List ℕ) (item : Item) (step : ℕ) → IsRange kind range item → number_of count ≡ Some step → 1 ≤ step → IsItem kind (range ++ (codes "/" ++ count)) (record item { step = step })

-- these texts spell these items
pub data AreItems (kind : FieldKind) : List (List ℕ) → List Item → Type 0 where
  no_items : AreItems kind [] []
  one_item : {text : List ℕ} {item : Item} {texts : List (List ℕ)} {items : List Item} → IsItem kind text item → AreItems kind texts items → AreItems kind (text ∷ texts) (item ∷ items)

-- a field: its parts between commas are items, and it is restricted where it doesn't begin with `*`
pub data IsField (kind : FieldKind) (text : List ℕ) : Field → Type 0 where
  of_items : {items : List Item} → AreItems kind (slice_split (λ b. b == 44) text) items → IsField kind text (field_with (not (slice_index text 0 == 42)) items)

-- the fields of a line, in order
abbrev pub line_kinds : List FieldKind
line_kinds = kinds.Minute ∷ kinds.Hour ∷ kinds.Day ∷ kinds.Month ∷ kinds.Weekday ∷ []

-- as many words as kinds, and each spells a field of its kind
pub data AreFields : List FieldKind → List Word → List Field → Type 0 where
  no_fields : AreFields [] [] []
  one_field : {kind : FieldKind} {word : Word} {field : Field} {kinds : List FieldKind} {words : List Word} {fields : List Field} → IsField kind word.bytes field → AreFields kinds words fields → AreFields (kind ∷ kinds) (word ∷ words) (field ∷ fields)

-- a line: its words are five fields
pub data IsLine (text : List ℕ) : Schedule → Type 0 where
  five_fields : {minute hour day month weekday : Field} → AreFields line_kinds (words_of text) (minute ∷ hour ∷ day ∷ month ∷ weekday ∷ []) → IsLine text (Minutes (record { minute = minute; hour = hour; day = day; month = month; weekday = weekday }))

-- where words aren't fields of these kinds, in a text of this length: at the text's end where one is missing, at a
-- word too many, and at a word that spells no field of its kind; what stands before that place is well spelled
pub data IsBadAt (end : ℕ) : List FieldKind → List Word → ℕ → Type 0 where
  missing : {kind : FieldKind} {kinds : List FieldKind} → IsBadAt end (kind ∷ kinds) [] end
  too_many : {word : Word} {words : List Word} → IsBadAt end [] (word ∷ words) word.at
  no_field : {kind : FieldKind} {word : Word} {kinds : List FieldKind} {words : List Word} → ((field : Field) → ¬ IsField kind word.bytes field) → IsBadAt end (kind ∷ kinds) (word ∷ words) word.at
  later : {kind : FieldKind} {word : Word} {field : Field} {kinds : List FieldKind} {words : List Word} {at : ℕ} → IsField kind word.bytes field → IsBadAt end kinds words at → IsBadAt end (kind ∷ kinds) (word ∷ words) at

-- the phrases
pub data IsPhrase : List ℕ → Schedule → Type 0 where
  every_second : IsPhrase (codes "every second") EverySecond
  every_minute : IsPhrase (codes "every minute") (daily (any kinds.Minute) (any kinds.Hour))
  every_hour : IsPhrase (codes "every hour") (daily (only 0) (any kinds.Hour))
  every_day : IsPhrase (codes "every day") (daily (only 0) (only 0))
  hourly : (digits : List ℕ) (minute : ℕ) → number_of digits ≡ Some minute → minute ≤ 59 → IsPhrase (codes "every hour at minute " ++ digits) (daily (only minute) (any kinds.Hour))
  morning : (digits : List ℕ) (hour : ℕ) → number_of digits ≡ Some hour → 1 ≤ hour → hour ≤ 12 → IsPhrase (codes "at " ++ (digits ++ codes "am every day")) (daily (only 0) (only (hour % 12)))
  afternoon : (digits : List ℕ) (hour : ℕ) → number_of digits ≡ Some hour → 1 ≤ hour → hour ≤ 12 → IsPhrase (codes "at " ++ (digits ++ codes "pm every day")) (daily (only 0) (only (hour % 12 + 12)))

-- what is read as a field: its comma parts are items, and it has the values that one of them has
pub record HoldsItems (kind : FieldKind) (text : List ℕ) (field : Field) : Type 0 where
  pub items : List Item
  pub are_items : items_of kind (slice_split (λ b. b == 44) text) ≡ Some items
  pub values : (v : ℕ) → v < 60 → has field.values v ≡ some_holds items v
  pub restricted : field.restricted ≡ not (slice_index text 0 == 42)

abbrev pub FieldsHoldItems : Type 0
FieldsHoldItems =
    (kind : FieldKind) (text : List ℕ) (field : Field) → field_of kind text ≡ Some field → HoldsItems kind text field

-- the items that are read are those that are spelled so
abbrev pub ItemsAreSpelled : Type 0
ItemsAreSpelled =
    (kind : FieldKind) (text : List ℕ) (item : Item) → (item_of kind text ≡ Some item) ↔ IsItem kind text item

-- and so are the fields
abbrev pub FieldsAreSpelled : Type 0
FieldsAreSpelled =
    (kind : FieldKind) (text : List ℕ) (field : Field) → (field_of kind text ≡ Some field) ↔ IsField kind text field

-- the phrases
abbrev pub PhrasesAreSpelled : Type 0
PhrasesAreSpelled =
    (text : List ℕ) (schedule : Schedule) → (phrase_of text ≡ Some schedule) ↔ IsPhrase text schedule

-- a text is accepted where it is a line, and refused where its words aren't the five fields
pub record IsJudgedAsLine (text : List ℕ) : Type 0 where
  pub accepted : (schedule : Schedule) → (schedule_of text ≡ Ok schedule) ↔ IsLine text schedule
  pub refused : (at : ℕ) → (schedule_of text ≡ Err (Refused at)) ↔ IsBadAt (length text) line_kinds (words_of text) at

-- and the lines, with the places where other texts are refused
abbrev pub LinesAreSpelled : Type 0
LinesAreSpelled =
    (text : List ℕ) → begins_phrase (words_of text) ≡ false → IsJudgedAsLine text
