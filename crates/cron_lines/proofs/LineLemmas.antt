-- A line is accepted or refused as its words spell the five fields.
use Rattle.std.proofs.Common.{◌≡◌, ℕ, false, cond, List, [], ◌∷◌, length, Option, Some, None, Result, Ok, Err, ap, sym, refl, subst, ◌∙◌}
use Rattle.std.proofs.lemmas.Option.{none-some}
use Rattle.job_states.specs.Judged.{◌>>=◌}
use Rattle.cron_lines.specs.declared.fields.Field.{Field}
use Rattle.cron_lines.specs.declared.fields.FieldKind.{FieldKind}
use Rattle.cron_lines.specs.declared.times.Schedule.{Schedule}
use Rattle.cron_lines.specs.declared.times.Schedule.TheVariants.{Minutes}
use Rattle.cron_lines.specs.declared.times.ScheduleFault.{ScheduleFault}
use Rattle.cron_lines.specs.declared.times.ScheduleFault.TheVariants.{Refused}
use Rattle.cron_lines.specs.Field.{field_of}
use Rattle.cron_lines.specs.Phrase.{phrase_of}
use Rattle.cron_lines.specs.Spelling.{AreFields, no_fields, one_field, IsLine, five_fields, IsBadAt, missing, too_many, no_field, later, line_kinds, LinesAreSpelled}
use Rattle.cron_lines.specs.Text.{next_field, if_last, read_line, refused_unless, begins_phrase, schedule_of}
use Rattle.cron_lines.specs.Words.{Word, words_of}
use Rattle.cron_lines.proofs.SpellingLemmas.{fields_are_spelled}

abbrev Read : Type 0 → Type 0
Read X = Result X ScheduleFault

-- ---- the words as a list of fields

read_fields : List FieldKind → ℕ → List Word → Read (List Field)
read_fields [] end [] = Ok []
read_fields [] end (word ∷ words) = Err (Refused word.at)
read_fields (kind ∷ kinds) end words =
    next_field kind end words >>= λ first. read_fields kinds end first.1 >>= λ fields. Ok (first.0 ∷ fields)

-- the line of five fields
five : List Field → Read Schedule
five (minute ∷ hour ∷ day ∷ month ∷ weekday ∷ []) = Ok (Minutes (record { minute = minute; hour = hour; day = day; month = month; weekday = weekday }))
five fields = Err (Refused 0)

-- a word that is read as this field, and the words after it
read_word : Option Field → Word → List Word → Read (Field × List Word)
read_word field word words = refused_unless word.at field >>= λ first. Ok (first, words)

-- a field that was read, and those that are read after it
field_first : Option Field → List FieldKind → ℕ → Word → List Word → Read (List Field)
field_first field kinds end word words =
    read_word field word words >>= λ first. read_fields kinds end first.1 >>= λ fields. Ok (first.0 ∷ fields)

fields-spelled : (kinds : List FieldKind) (end : ℕ) (words : List Word) (fields : List Field) → read_fields kinds end words ≡ Ok fields → AreFields kinds words fields
unfolding read_fields read_word field_first
fields-spelled [] end [] fields h =
    let P : List Field → Type 0 = λ fs. AreFields [] [] fs in
    let none : [] ≡ fields = cc in
    subst P none no_fields
fields-spelled [] end (word ∷ words) fields h = absurd (cc)
fields-spelled (kind ∷ kinds) end [] fields h = absurd (cc)
fields-spelled (kind ∷ kinds) end (word ∷ words) fields h =
    read (fields-spelled kinds end words) (field_of kind word.bytes) refl h
  where
    more : ((others : List Field) → read_fields kinds end words ≡ Ok others → AreFields kinds words others) → (field : Field) (rest : Read (List Field)) → field_of kind word.bytes ≡ Some field → read_fields kinds end words ≡ rest → (rest >>= λ others. Ok (field ∷ others)) ≡ Ok fields → AreFields (kind ∷ kinds) (word ∷ words) fields
    more spelled field (Err fault) e rest_is h = absurd (cc)
    more spelled field (Ok others) e rest_is h =
        let P : List Field → Type 0 = λ fs. AreFields (kind ∷ kinds) (word ∷ words) fs in
        let all : field ∷ others ≡ fields = cc in
        subst P all (one_field ((fields_are_spelled kind word.bytes field).0 e) (spelled others rest_is))

    read : ((others : List Field) → read_fields kinds end words ≡ Ok others → AreFields kinds words others) → (o : Option Field) → field_of kind word.bytes ≡ o → field_first o kinds end word words ≡ Ok fields → AreFields (kind ∷ kinds) (word ∷ words) fields
    read spelled None e h = absurd (cc)
    read spelled (Some field) e h = more spelled field (read_fields kinds end words) e refl h

fields-refused : (kinds : List FieldKind) (end : ℕ) (words : List Word) (at : ℕ) → read_fields kinds end words ≡ Err (Refused at) → IsBadAt end kinds words at
unfolding read_fields read_word field_first
fields-refused [] end [] at h = absurd (cc)
fields-refused [] end (word ∷ words) at h =
    let P : ℕ → Type 0 = λ n. IsBadAt end [] (word ∷ words) n in
    let place : word.at ≡ at = cc in
    subst P place too_many
fields-refused (kind ∷ kinds) end [] at h =
    let P : ℕ → Type 0 = λ n. IsBadAt end (kind ∷ kinds) [] n in
    let place : end ≡ at = cc in
    subst P place missing
fields-refused (kind ∷ kinds) end (word ∷ words) at h =
    read (fields-refused kinds end words at) (field_of kind word.bytes) refl h
  where
    more : (read_fields kinds end words ≡ Err (Refused at) → IsBadAt end kinds words at) → (field : Field) (rest : Read (List Field)) → field_of kind word.bytes ≡ Some field → read_fields kinds end words ≡ rest → (rest >>= λ others. Ok (field ∷ others)) ≡ Err (Refused at) → IsBadAt end (kind ∷ kinds) (word ∷ words) at
    more refused field (Ok others) e rest_is h = absurd (cc)
    more refused field (Err fault) e rest_is h =
        let same : fault ≡ Refused at = cc in
        later ((fields_are_spelled kind word.bytes field).0 e) (refused (rest_is ∙ ap (λ x. Err x) same))

    read : (read_fields kinds end words ≡ Err (Refused at) → IsBadAt end kinds words at) → (o : Option Field) → field_of kind word.bytes ≡ o → field_first o kinds end word words ≡ Err (Refused at) → IsBadAt end (kind ∷ kinds) (word ∷ words) at
    read refused None e h =
        let P : ℕ → Type 0 = λ n. IsBadAt end (kind ∷ kinds) (word ∷ words) n in
        let place : word.at ≡ at = cc in
        subst P place (no_field (λ field is. none-some field (sym e ∙ (fields_are_spelled kind word.bytes field).1 is)))
    read refused (Some field) e h = more refused field (read_fields kinds end words) e refl h

fields-read : (kinds : List FieldKind) (end : ℕ) (words : List Word) (fields : List Field) → AreFields kinds words fields → read_fields kinds end words ≡ Ok fields
unfolding read_fields read_word field_first
fields-read kinds end words fields no_fields = refl
fields-read kinds end words fields (one_field {kind = kind} {word = word} {field = field} {kinds = others} {words = rest} {fields = more} first are) =
    ap (λ o. field_first o others end word rest) ((fields_are_spelled kind word.bytes field).1 first)
    ∙ ap (λ r. r >>= λ fs. Ok (field ∷ fs)) (fields-read others end rest more are)

bad-read : (end : ℕ) (kinds : List FieldKind) (words : List Word) (at : ℕ) → IsBadAt end kinds words at → read_fields kinds end words ≡ Err (Refused at)
unfolding read_fields read_word field_first
bad-read end kinds words at missing = refl
bad-read end kinds words at too_many = refl
bad-read end kinds words at (no_field {kind = kind} {word = word} {kinds = others} {words = rest} none) = read (field_of kind word.bytes) refl
  where
    read : (o : Option Field) → field_of kind word.bytes ≡ o → field_first (field_of kind word.bytes) others end word rest ≡ Err (Refused word.at)
    read None e = ap (λ o. field_first o others end word rest) e
    read (Some field) e = absurd (none field ((fields_are_spelled kind word.bytes field).0 e))
bad-read end kinds words at (later {kind = kind} {word = word} {field = field} {kinds = others} {words = rest} first bad) =
    ap (λ o. field_first o others end word rest) ((fields_are_spelled kind word.bytes field).1 first)
    ∙ ap (λ r. r >>= λ fs. Ok (field ∷ fs)) (bad-read end others rest at bad)

-- ---- the line that the list makes

bind_same : {X Y : Type 0} (m : Read X) (f g : X → Read Y) → ((x : X) → f x ≡ g x) → (m >>= f) ≡ (m >>= g)
bind_same (Ok x) f g same = same x
bind_same (Err fault) f g same = refl

-- the first field taken off
peel : (kind : FieldKind) (kinds : List FieldKind) (end : ℕ) (words : List Word) (g : List Field → Read Schedule) → (next_field kind end words >>= λ first. read_fields kinds end first.1 >>= λ fields. g (first.0 ∷ fields)) ≡ (read_fields (kind ∷ kinds) end words >>= g)
unfolding read_fields
peel kind kinds end words g = one (next_field kind end words)
  where
    two : (field : Field) (rest : Read (List Field)) → (rest >>= λ fields. g (field ∷ fields)) ≡ ((rest >>= λ fields. Ok (field ∷ fields)) >>= g)
    two field (Ok fields) = refl
    two field (Err fault) = refl

    one : (m : Read (Field × List Word)) → (m >>= λ first. read_fields kinds end first.1 >>= λ fields. g (first.0 ∷ fields)) ≡ ((m >>= λ first. read_fields kinds end first.1 >>= λ fields. Ok (first.0 ∷ fields)) >>= g)
    one (Ok first) = two first.0 (read_fields kinds end first.1)
    one (Err fault) = refl

none_left : (end : ℕ) (words : List Word) (g : List Field → Read Schedule) (schedule : Schedule) → g [] ≡ Ok schedule → if_last words schedule ≡ (read_fields [] end words >>= g)
unfolding read_fields
none_left end [] g schedule is = sym is
none_left end (word ∷ words) g schedule is = refl

read_line-fields : (end : ℕ) (words : List Word) → read_line end words ≡ (read_fields line_kinds end words >>= five)
unfolding read_line five
read_line-fields end words =
    bind_same _ _ _ (λ (minute : Field × List Word).
    bind_same _ _ _ (λ (hour : Field × List Word).
    bind_same _ _ _ (λ (day : Field × List Word).
    bind_same _ _ _ (λ (month : Field × List Word).
    bind_same _ _ _ (λ (weekday : Field × List Word). none_left end weekday.1 (λ fields. five (minute.0 ∷ hour.0 ∷ day.0 ∷ month.0 ∷ weekday.0 ∷ fields)) _ refl)
    ∙ peel _ _ end month.1 (λ fields. five (minute.0 ∷ hour.0 ∷ day.0 ∷ month.0 ∷ fields)))
    ∙ peel _ _ end day.1 (λ fields. five (minute.0 ∷ hour.0 ∷ day.0 ∷ fields)))
    ∙ peel _ _ end hour.1 (λ fields. five (minute.0 ∷ hour.0 ∷ fields)))
    ∙ peel _ _ end minute.1 (λ fields. five (minute.0 ∷ fields)))
    ∙ peel _ _ end words five

-- ---- a text that is no phrase

five-line : (text : List ℕ) (fields : List Field) (schedule : Schedule) → five fields ≡ Ok schedule → AreFields line_kinds (words_of text) fields → IsLine text schedule
unfolding five
five-line text (minute ∷ hour ∷ day ∷ month ∷ weekday ∷ []) schedule h are =
    let P : Schedule → Type 0 = λ s. IsLine text s in
    let same : Minutes (record { minute = minute; hour = hour; day = day; month = month; weekday = weekday }) ≡ schedule = cc in
    subst P same (five_fields are)
five-line text fields schedule h are = absurd (cc)

five-made : (words : List Word) (fields : List Field) → AreFields line_kinds words fields → (schedule : Schedule) × (five fields ≡ Ok schedule)
unfolding five
five-made words fields (one_field {field = minute} _ (one_field {field = hour} _ (one_field {field = day} _ (one_field {field = month} _ (one_field {field = weekday} _ no_fields))))) = (_, refl)

read_as_line : (text : List ℕ) → begins_phrase (words_of text) ≡ false → schedule_of text ≡ (read_fields line_kinds (length text) (words_of text) >>= five)
read_as_line text no_phrase =
    ap (λ phrase. cond phrase (refused_unless 0 (phrase_of text)) (read_line (length text) (words_of text))) no_phrase
    ∙ read_line-fields (length text) (words_of text)

line-spelled : (text : List ℕ) (schedule : Schedule) (r : Read (List Field)) → read_fields line_kinds (length text) (words_of text) ≡ r → (r >>= five) ≡ Ok schedule → IsLine text schedule
line-spelled text schedule (Err fault) e h = absurd (cc)
line-spelled text schedule (Ok fields) e h =
    five-line text fields schedule h (fields-spelled line_kinds (length text) (words_of text) fields e)

line-read : (text : List ℕ) (schedule : Schedule) → IsLine text schedule → (read_fields line_kinds (length text) (words_of text) >>= five) ≡ Ok schedule
unfolding five
line-read text schedule (five_fields are) = ap (λ r. r >>= five) (fields-read line_kinds (length text) (words_of text) _ are)

line-refused : (text : List ℕ) (at : ℕ) (r : Read (List Field)) → read_fields line_kinds (length text) (words_of text) ≡ r → (r >>= five) ≡ Err (Refused at) → IsBadAt (length text) line_kinds (words_of text) at
line-refused text at (Err fault) e h =
    let same : fault ≡ Refused at = cc in
    fields-refused line_kinds (length text) (words_of text) at (e ∙ ap (λ x. Err x) same)
line-refused text at (Ok fields) e h =
    let made = five-made (words_of text) fields (fields-spelled line_kinds (length text) (words_of text) fields e) in
    let both : Ok made.0 ≡ Err (Refused at) = sym made.1 ∙ h in
    absurd (cc)

pub lines_are_spelled : LinesAreSpelled
lines_are_spelled text no_phrase =
    let words = words_of text in
    let read = read_fields line_kinds (length text) words in
    record {
      accepted = λ schedule. (
        λ h. line-spelled text schedule read refl (sym (read_as_line text no_phrase) ∙ h),
        λ line. read_as_line text no_phrase ∙ line-read text schedule line,
      );
      refused = λ at. (
        λ h. line-refused text at read refl (sym (read_as_line text no_phrase) ∙ h),
        λ bad. read_as_line text no_phrase ∙ ap (λ r. r >>= five) (bad-read (length text) line_kinds words at bad),
      );
    }
