-- A field of a cron line: which values are in it, and the grammar that spells it.
use Rattle.std.specs.Prelude.{ℕ, ◌+◌, ◌-◌, ◌*◌, ◌%◌, Bool, not, ◌&&◌, ◌==◌, nat_lt, nat_le, if◌then◌else◌, List, [], ◌∷◌, length, codes, Option, Some, None, option_and_then, option_map, slice_index}
use Rattle.std.specs.List.{list_any, position_or_len, before_first, after_first, slice_split}
use Rattle.std.specs.Str.{bytes_eq, str_eq_ignore_ascii_case}
use Rattle.cron_lines.specs.declared.fields.Field.{Field}
use Rattle.cron_lines.specs.declared.fields.Item.{Item}
use Rattle.cron_lines.specs.declared.fields.FieldKind.{FieldKind}
use Rattle.cron_lines.specs.declared.fields.FieldKind.TheVariants.{Minute, Hour, Day, Month, Weekday}
use Rattle.cron_lines.specs.Values.{values_where}

infixl 10 ◌>>=◌
abbrev pub ◌>>=◌ : {A B : Type 0} → Option A → (A → Option B) → Option B
o >>= f = option_and_then f o

-- the least value that may be written
abbrev pub least : FieldKind → ℕ
least Minute = 0
least Hour = 0
least Day = 1
least Month = 1
least Weekday = 0

-- the greatest value that may be written
abbrev pub greatest : FieldKind → ℕ
greatest Minute = 59
greatest Hour = 23
greatest Day = 31
greatest Month = 12
greatest Weekday = 7

-- all values: those of a week are 0 to 6, so that Sunday is there once
abbrev pub all_of : FieldKind → Item
all_of Weekday = record { first = 0; last = 6; step = 1 }
all_of kind = record { first = least kind; last = greatest kind; step = 1 }

-- a decimal digit
abbrev pub digit_of : ℕ → Option ℕ
digit_of c = if nat_le 48 c && nat_le c 57 then Some (c - 48) else None

-- one or two digits
abbrev pub number_of : List ℕ → Option ℕ
number_of (a ∷ []) = digit_of a
number_of (a ∷ b ∷ []) = digit_of a >>= λ tens. digit_of b >>= λ ones. Some (10 * tens + ones)
number_of text = None

abbrev pub month_names : List (List ℕ)
month_names =
    codes "jan" ∷ codes "feb" ∷ codes "mar" ∷ codes "apr" ∷ codes "may" ∷ codes "jun"
    ∷ codes "jul" ∷ codes "aug" ∷ codes "sep" ∷ codes "oct" ∷ codes "nov" ∷ codes "dec" ∷ []

abbrev pub weekday_names : List (List ℕ)
weekday_names =
    codes "sun" ∷ codes "mon" ∷ codes "tue" ∷ codes "wed" ∷ codes "thu" ∷ codes "fri"
    ∷ codes "sat" ∷ []

-- the number of a name, in either case, in a list of names whose first has the number n
abbrev pub place_from : ℕ → List (List ℕ) → List ℕ → Option ℕ
place_from n [] text = None
place_from n (name ∷ names) text =
    if str_eq_ignore_ascii_case text name then Some n else place_from (n + 1) names text

-- the value that a name stands for
abbrev pub name_of : FieldKind → List ℕ → Option ℕ
name_of Month text = place_from 1 month_names text
name_of Weekday text = place_from 0 weekday_names text
name_of kind text = None

-- a number, if it is one of the field's
abbrev pub in_range : FieldKind → ℕ → Option ℕ
in_range kind n = if nat_le (least kind) n && nat_le n (greatest kind) then Some n else None

-- what A and B may be: a number or a name
abbrev pub value_or_name : FieldKind → List ℕ → Option ℕ → Option ℕ
value_or_name kind text (Some n) = in_range kind n
value_or_name kind text None = name_of kind text

abbrev pub value_of : FieldKind → List ℕ → Option ℕ
value_of kind text = value_or_name kind text (number_of text)

-- what stands before the first such byte and what stands after it
abbrev pub cut : ℕ → List ℕ → Option (List ℕ × List ℕ)
cut mark text =
    if nat_lt (position_or_len (λ b. b == mark) text) (length text)
    then Some (before_first (λ b. b == mark) text, after_first (λ b. b == mark) text)
    else None

-- `A-B`, cut at the first `-`
abbrev pub between : FieldKind → List ℕ × List ℕ → Option Item
between kind ends =
    value_of kind ends.0 >>= λ first. value_of kind ends.1 >>= λ last.
    if nat_le first last then Some (record { first = first; last = last; step = 1 }) else None

-- `*` or `A-B`
unfoldable pub range_of : FieldKind → List ℕ → Option Item
range_of kind text =
    if bytes_eq text (codes "*") then Some (all_of kind)
    else cut 45 text >>= between kind

-- `*`, `A-B` or `A`
abbrev pub plain : FieldKind → List ℕ → Option Item → Option Item
plain kind text (Some range) = Some range
plain kind text None =
    value_of kind text >>= λ value. Some (record { first = value; last = value; step = 1 })

-- `*/N` or `A-B/N`, cut at the first `/`
abbrev pub stepped : FieldKind → List ℕ × List ℕ → Option Item
stepped kind parts =
    range_of kind parts.0 >>= λ range. number_of parts.1 >>= λ step.
    if nat_le 1 step then Some (record range { step = step }) else None

abbrev pub item_from : FieldKind → List ℕ → Option (List ℕ × List ℕ) → Option Item
item_from kind text (Some parts) = stepped kind parts
item_from kind text None = plain kind text (range_of kind text)

unfoldable pub item_of : FieldKind → List ℕ → Option Item
item_of kind text = item_from kind text (cut 47 text)

-- whether a value is one of the item's: every step-th from the first on
abbrev pub holds : Item → ℕ → Bool
holds item value =
    nat_le item.first value && nat_le value item.last && ((value - item.first) % item.step == 0)

-- each text is an item
abbrev pub items_of : FieldKind → List (List ℕ) → Option (List Item)
items_of kind [] = Some []
items_of kind (text ∷ texts) =
    item_of kind text >>= λ item. items_of kind texts >>= λ items. Some (item ∷ items)

-- whether a value is one of some item's
abbrev pub some_holds : List Item → ℕ → Bool
some_holds items value = list_any (λ item. holds item value) items

-- the field whose values are those of the items
abbrev pub field_with : Bool → List Item → Field
field_with restricted items =
    record { values = values_where (some_holds items); restricted = restricted }

-- items separated by commas: a field, restricted where it doesn't begin with `*`
unfoldable pub field_of : FieldKind → List ℕ → Option Field
field_of kind text =
    option_map (field_with (not (slice_index text 0 == 42)))
    (items_of kind (slice_split (λ b. b == 44) text))
