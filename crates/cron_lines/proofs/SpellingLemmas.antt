-- What is read as an item or a field is spelled as one, and the other way round.
use Rattle.std.proofs.Common.{◌≡◌, ℕ, ◌+◌, ◌-◌, ◌<◌, Bool, true, false, not, cond, ◌&&◌, ◌==◌, nat_lt, nat_le, List, [], ◌∷◌, ◌++◌, length, take, drop, get_or, codes, slice_index, Option, Some, None, option_map, option_and_then, ap, sym, refl, subst, ◌∙◌, lit<, arith, length-append}
use Rattle.std.specs.List.{slice_split, list_all, position_or_len, before_first, after_first}
use Rattle.std.specs.Char.{to_ascii_lowercase}
use Rattle.std.specs.Str.{bytes_eq, str_eq_ignore_ascii_case}
use Rattle.std.proofs.Math.Bool.{and-false}
use Rattle.std.proofs.Math.Seq.{get_or-append_seam, take-append_seam, drop-append-add}
use Rattle.std.proofs.lemmas.Bool.{and_parts, and_from, not-true, ltb-true, leb-true, le-leb, lt-ltb, eqb-true, eq-eqb, false≢true}
use Rattle.std.proofs.lemmas.Bool.Decides.{nat_tests}
use Rattle.std.proofs.lemmas.List.{get_or_append_left}
use Rattle.std.proofs.lemmas.List.Sums.{AllPass-from_list_all, split_at_first, passes_at_first, position_or_len_is}
use Rattle.std.proofs.lemmas.Option.{cond_some, none-some, option_and_then_some}
use Rattle.std.proofs.lemmas.Slice.Eq.{bytes_eq-Decides}
use Rattle.cron_lines.specs.declared.fields.Field.{Field}
use Rattle.cron_lines.specs.declared.fields.Item.{Item}
use Rattle.cron_lines.specs.declared.fields.FieldKind.{FieldKind}
use Rattle.cron_lines.specs.declared.fields.FieldKind.TheVariants.{Minute, Hour, Day, Month, Weekday}
use Rattle.cron_lines.specs.Field.{digit_of, number_of, place_from, name_of, month_names, weekday_names, value_or_name, value_of, cut, between, range_of, plain, item_from, item_of, all_of, items_of, some_holds, field_of, field_with}
use Rattle.cron_lines.proofs.ValuesLemmas.{has-values_where}
use Rattle.cron_lines.specs.Spelling.{HoldsItems, FieldsHoldItems, IsRange, star, interval, IsItem, whole, single, every_nth, ItemsAreSpelled, AreItems, no_items, one_item, IsField, of_items, FieldsAreSpelled}

-- ---- a value has no `*`, `-` or `/`: each of its bytes is 48 or more

abbrev is_high : ℕ → Bool
is_high c = nat_le 48 c

digit-high : (c n : ℕ) → digit_of c ≡ Some n → is_high c ≡ true
digit-high c n h =
    (and_parts (nat_le 48 c) (nat_le c 57) (cond_some (nat_le 48 c && nat_le c 57) (c - 48) n h).0).0

number-high : (text : List ℕ) (n : ℕ) → number_of text ≡ Some n → list_all is_high text ≡ true
number-high [] n h = absurd (none-some n h)
number-high (a ∷ []) n h = and_from (is_high a) true (digit-high a n h) refl
number-high (a ∷ b ∷ []) n h =
    option_and_then_some _ (digit_of a) n h (λ tens read_a rest.
    option_and_then_some _ (digit_of b) n rest (λ ones read_b last.
    and_from (is_high a) _ (digit-high a tens read_a) (and_from (is_high b) true (digit-high b ones read_b) refl)))
number-high (a ∷ b ∷ c ∷ cs) n h = absurd (none-some n h)

-- a letter's small form is 97 or more only where it is 65 or more itself
abbrev is_letter : ℕ → Bool
is_letter c = nat_le 97 (to_ascii_lowercase c)

letter-high : (c : ℕ) → is_letter c ≡ true → is_high c ≡ true
letter-high c h = grind (arith, nat_tests)

same-high : (text name : List ℕ) → str_eq_ignore_ascii_case text name ≡ true → list_all is_letter name ≡ true → list_all is_high text ≡ true
same-high [] name same letters = refl
same-high (x ∷ xs) [] same letters = absurd (false≢true same)
same-high (x ∷ xs) (y ∷ ys) same letters =
    let here = eqb-true (to_ascii_lowercase x) (to_ascii_lowercase y) ((and_parts _ (str_eq_ignore_ascii_case xs ys) same).0) in
    and_from (is_high x) _ (letter-high x (ap (nat_le 97) here ∙ (and_parts (is_letter y) (list_all is_letter ys) letters).0))
    (same-high xs ys ((and_parts (to_ascii_lowercase x == to_ascii_lowercase y) _ same).1) ((and_parts (is_letter y) (list_all is_letter ys) letters).1))

place-high : (n : ℕ) (names : List (List ℕ)) (text : List ℕ) (v : ℕ) → list_all (list_all is_letter) names ≡ true → place_from n names text ≡ Some v → list_all is_high text ≡ true
place-high n [] text v letters h = absurd (none-some v h)
place-high n (name ∷ names) text v letters h =
    let later = λ (e : place_from (n + 1) names text ≡ Some v). place-high (n + 1) names text v ((and_parts (list_all is_letter name) (list_all (list_all is_letter) names) letters).1) e in
    found (str_eq_ignore_ascii_case text name) refl later h
  where
    found : (test : Bool) → str_eq_ignore_ascii_case text name ≡ test → (place_from (n + 1) names text ≡ Some v → list_all is_high text ≡ true) → cond test (Some n) (place_from (n + 1) names text) ≡ Some v → list_all is_high text ≡ true
    found true same later e = same-high text name same ((and_parts (list_all is_letter name) (list_all (list_all is_letter) names) letters).0)
    found false same later e = later e

name-high : (kind : FieldKind) (text : List ℕ) (v : ℕ) → name_of kind text ≡ Some v → list_all is_high text ≡ true
name-high Month text v h = place-high 1 month_names text v refl h
name-high Weekday text v h = place-high 0 weekday_names text v refl h
name-high Minute text v h = absurd (none-some v h)
name-high Hour text v h = absurd (none-some v h)
name-high Day text v h = absurd (none-some v h)

value-high : (kind : FieldKind) (text : List ℕ) (v : ℕ) → value_of kind text ≡ Some v → list_all is_high text ≡ true
value-high kind text v h = read (number_of text) refl h
  where
    read : (o : Option ℕ) → number_of text ≡ o → value_or_name kind text o ≡ Some v → list_all is_high text ≡ true
    read (Some n) e h = number-high text n e
    read None e h = name-high kind text v h

-- ---- cutting at the first mark

abbrev is_free : ℕ → ℕ → Bool
is_free mark c = not (c == mark)

high-free : (mark c : ℕ) → mark < 48 → is_high c ≡ true → is_free mark c ≡ true
high-free mark c low h = grind (arith, nat_tests)

free-high : (mark : ℕ) → mark < 48 → (text : List ℕ) → list_all is_high text ≡ true → list_all (is_free mark) text ≡ true
free-high mark low [] h = refl
free-high mark low (c ∷ cs) h =
    and_from (is_free mark c) _ (high-free mark c low ((and_parts (is_high c) (list_all is_high cs) h).0))
    (free-high mark low cs ((and_parts (is_high c) (list_all is_high cs) h).1))

free-append : (mark : ℕ) (a b : List ℕ) → list_all (is_free mark) a ≡ true → list_all (is_free mark) b ≡ true → list_all (is_free mark) (a ++ b) ≡ true
free-append mark [] b p q = q
free-append mark (c ∷ cs) b p q =
    and_from (is_free mark c) _ ((and_parts (is_free mark c) (list_all (is_free mark) cs) p).0)
    (free-append mark cs b ((and_parts (is_free mark c) (list_all (is_free mark) cs) p).1) q)

no_mark : (mark : ℕ) (text : List ℕ) → list_all (is_free mark) text ≡ true → (k : ℕ) → k < length text → (get_or text k 0 == mark) ≡ false
no_mark mark text free k h = not-true (get_or text k 0 == mark) (AllPass-from_list_all (is_free mark) text free k 0 h)

-- what cut gives where the first mark stands at a place
cut_to : ℕ → List ℕ → Option (List ℕ × List ℕ)
cut_to n text = cond (nat_lt n (length text)) (Some (take n text, drop (n + 1) text)) None

cut-at : (mark : ℕ) (a b : List ℕ) → list_all (is_free mark) a ≡ true → cut mark (a ++ mark ∷ b) ≡ Some (a, b)
unfolding cut_to
cut-at mark a b free =
    let text = a ++ mark ∷ b in
    let p : ℕ → Bool = λ c. c == mark in
    let long : length a < length text = omega (arith, length-append a (mark ∷ b)) in
    let place : position_or_len p text ≡ length a =
    position_or_len_is p text (length a) 0 (omega arith)
    (λ k h. ap p (get_or_append_left a (mark ∷ b) 0 k h) ∙ no_mark mark a free k h)
    (λ _. ap p (get_or-append_seam a mark b 0) ∙ eq-eqb mark mark refl) in
    ap (λ n. cut_to n text) place
    ∙ ap (λ t. cond t (Some (take (length a) text, drop (length a + 1) text)) None) (lt-ltb (length a) (length text) long)
    ∙ ap (λ x. Some (x, drop (length a + 1) text)) (take-append_seam a (mark ∷ b))
    ∙ ap (λ x. Some (a, x)) (drop-append-add a (mark ∷ b) 1)

cut-none : (mark : ℕ) (text : List ℕ) → list_all (is_free mark) text ≡ true → cut mark text ≡ None
unfolding cut_to
cut-none mark text free =
    let p : ℕ → Bool = λ c. c == mark in
    let place : position_or_len p text ≡ length text =
    position_or_len_is p text (length text) 0 (omega arith) (no_mark mark text free) (λ h. absurd (omega arith)) in
    ap (λ n. cut_to n text) place
    ∙ ap (λ t. cond t (Some (take (length text) text, drop (length text + 1) text)) None) (not_below (length text))
  where
    not_below : (n : ℕ) → nat_lt n n ≡ false
    not_below n = grind (arith, nat_tests)

cut-spelled : (mark : ℕ) (text : List ℕ) (parts : List ℕ × List ℕ) → cut mark text ≡ Some parts → text ≡ parts.0 ++ mark ∷ parts.1
cut-spelled mark text parts h =
    let p : ℕ → Bool = λ c. c == mark in
    let found = cond_some (nat_lt (position_or_len p text) (length text)) (before_first p text, after_first p text) parts h in
    let inside = ltb-true (position_or_len p text) (length text) found.0 in
    let at = eqb-true (get_or text (position_or_len p text) 0) mark (passes_at_first p text 0 inside) in
    split_at_first p text 0 inside
    ∙ ap (λ c. before_first p text ++ c ∷ after_first p text) at
    ∙ ap (λ (x : List ℕ × List ℕ). x.0 ++ mark ∷ x.1) found.1

-- ---- what is read is spelled

between-spelled : (kind : FieldKind) (ends : List ℕ × List ℕ) (item : Item) → between kind ends ≡ Some item → IsRange kind (ends.0 ++ 45 ∷ ends.1) item
between-spelled kind ends item h =
    option_and_then_some _ (value_of kind ends.0) item h (λ first read_first rest.
    option_and_then_some _ (value_of kind ends.1) item rest (λ last read_last made.
    let got = cond_some (nat_le first last) (record { first = first; last = last; step = 1 }) item made in
    let P : Item → Type 0 = λ i. IsRange kind (ends.0 ++ 45 ∷ ends.1) i in
    subst P got.1 (interval ends.0 ends.1 first last read_first read_last (leb-true first last got.0))))

range-spelled : (kind : FieldKind) (text : List ℕ) (item : Item) → range_of kind text ≡ Some item → IsRange kind text item
unfolding range_of
range-spelled kind text item h = at_star (bytes_eq text (codes "*")) refl h
  where
    at_star : (test : Bool) → bytes_eq text (codes "*") ≡ test → cond test (Some (all_of kind)) (option_and_then (between kind) (cut 45 text)) ≡ Some item → IsRange kind text item
    at_star true same e =
        let P : List ℕ → Type 0 = λ t. IsRange kind t item in
        let Q : Item → Type 0 = λ i. IsRange kind (codes "*") i in
        let got : all_of kind ≡ item = cc in
        subst P (sym ((bytes_eq-Decides text (codes "*")).0 same)) (subst Q got star)
    at_star false same e =
        option_and_then_some (between kind) (cut 45 text) item e (λ ends found read.
        let P : List ℕ → Type 0 = λ t. IsRange kind t item in
        subst P (sym (cut-spelled 45 text ends found)) (between-spelled kind ends item read))

item-spelled : (kind : FieldKind) (text : List ℕ) (item : Item) → item_of kind text ≡ Some item → IsItem kind text item
unfolding item_of
item-spelled kind text item h = by_slash (cut 47 text) refl h
  where
    uncut : (o : Option Item) → range_of kind text ≡ o → plain kind text o ≡ Some item → IsItem kind text item
    uncut (Some found) e h = whole (range-spelled kind text item (e ∙ h))
    uncut None e h =
        option_and_then_some _ (value_of kind text) item h (λ value read made.
        let P : Item → Type 0 = λ i. IsItem kind text i in
        let got : record { first = value; last = value; step = 1 } ≡ item = cc in
        subst P got (single read))

    by_slash : (o : Option (List ℕ × List ℕ)) → cut 47 text ≡ o → item_from kind text o ≡ Some item → IsItem kind text item
    by_slash None e h = uncut (range_of kind text) refl h
    by_slash (Some parts) e h =
        option_and_then_some _ (range_of kind parts.0) item h (λ found read_range rest.
        option_and_then_some _ (number_of parts.1) item rest (λ step read_step made.
        let got = cond_some (nat_le 1 step) (record found { step = step }) item made in
        let P : Item → Type 0 = λ i. IsItem kind text i in
        let Q : List ℕ → Type 0 = λ t. IsItem kind t (record found { step = step }) in
        subst P got.1 (subst Q (sym (cut-spelled 47 text parts e)) (every_nth parts.0 parts.1 found step (range-spelled kind parts.0 found read_range) read_step (leb-true 1 step got.0)))))

-- ---- what is spelled is read

value-free : (mark : ℕ) → mark < 48 → (kind : FieldKind) (text : List ℕ) (v : ℕ) → value_of kind text ≡ Some v → list_all (is_free mark) text ≡ true
value-free mark low kind text v h = free-high mark low text (value-high kind text v h)

-- the only mark of a range is `*` or `-`
range-free : (kind : FieldKind) (text : List ℕ) (item : Item) → IsRange kind text item → list_all (is_free 47) text ≡ true
range-free kind text item star = refl
range-free kind text item (interval low high first last read_low read_high ordered) =
    free-append 47 low (45 ∷ high) (value-free 47 (lit< tt) kind low first read_low) (value-free 47 (lit< tt) kind high last read_high)

interval-no_star : (low high : List ℕ) → bytes_eq (low ++ 45 ∷ high) (codes "*") ≡ false
interval-no_star [] high = refl
interval-no_star (x ∷ []) high = and-false (x == 42)
interval-no_star (x ∷ y ∷ ys) high = and-false (x == 42)

value-no_star : (text : List ℕ) → list_all is_high text ≡ true → bytes_eq text (codes "*") ≡ false
value-no_star [] high = refl
value-no_star (x ∷ xs) high =
    let other : (x == 42) ≡ false = not-true (x == 42) (high-free 42 x (lit< tt) ((and_parts (is_high x) (list_all is_high xs) high).0)) in
    ap (λ t. t && bytes_eq xs []) other

range-read : (kind : FieldKind) (text : List ℕ) (item : Item) → IsRange kind text item → range_of kind text ≡ Some item
unfolding range_of
range-read kind text item star = refl
range-read kind text item (interval low high first last read_low read_high ordered) =
    let made : ℕ → ℕ → Option Item = λ a b. cond (nat_le a b) (Some (record { first = a; last = b; step = 1 })) None in
    ap (λ t. cond t (Some (all_of kind)) (option_and_then (between kind) (cut 45 (low ++ 45 ∷ high)))) (interval-no_star low high)
    ∙ ap (option_and_then (between kind)) (cut-at 45 low high (value-free 45 (lit< tt) kind low first read_low))
    ∙ ap (option_and_then (λ a. option_and_then (made a) (value_of kind high))) read_low
    ∙ ap (option_and_then (made first)) read_high
    ∙ ap (λ t. cond t (Some (record { first = first; last = last; step = 1 })) None) (le-leb first last ordered)

value-no_range : (kind : FieldKind) (text : List ℕ) (v : ℕ) → value_of kind text ≡ Some v → range_of kind text ≡ None
unfolding range_of
value-no_range kind text v h =
    ap (λ t. cond t (Some (all_of kind)) (option_and_then (between kind) (cut 45 text))) (value-no_star text (value-high kind text v h))
    ∙ ap (option_and_then (between kind)) (cut-none 45 text (value-free 45 (lit< tt) kind text v h))

item-read : (kind : FieldKind) (text : List ℕ) (item : Item) → IsItem kind text item → item_of kind text ≡ Some item
unfolding item_of
item-read kind text item (whole h) =
    ap (item_from kind text) (cut-none 47 text (range-free kind text item h))
    ∙ ap (plain kind text) (range-read kind text item h)
item-read kind text item (single {value = value} h) =
    let only_one : ℕ → Option Item = λ v. Some (record { first = v; last = v; step = 1 }) in
    ap (item_from kind text) (cut-none 47 text (value-free 47 (lit< tt) kind text value h))
    ∙ ap (plain kind text) (value-no_range kind text value h)
    ∙ ap (option_and_then only_one) h
item-read kind text item (every_nth range count found step h read some) =
    let every : Item → ℕ → Option Item = λ i n. cond (nat_le 1 n) (Some (record i { step = n })) None in
    ap (item_from kind (range ++ 47 ∷ count)) (cut-at 47 range count (range-free kind range found h))
    ∙ ap (option_and_then (λ i. option_and_then (every i) (number_of count))) (range-read kind range found h)
    ∙ ap (option_and_then (every found)) read
    ∙ ap (λ t. cond t (Some (record found { step = step })) None) (le-leb 1 step some)

pub items_are_spelled : ItemsAreSpelled
items_are_spelled kind text item = (item-spelled kind text item, item-read kind text item)

-- ---- items one by one, and the field that they make

items-spelled : (kind : FieldKind) (texts : List (List ℕ)) (items : List Item) → items_of kind texts ≡ Some items → AreItems kind texts items
items-spelled kind [] items h =
    let P : List Item → Type 0 = λ is. AreItems kind [] is in
    let got : [] ≡ items = cc in
    subst P got no_items
items-spelled kind (text ∷ texts) items h =
    option_and_then_some _ (item_of kind text) items h (λ item read rest.
    option_and_then_some _ (items_of kind texts) items rest (λ others read_others made.
    let P : List Item → Type 0 = λ is. AreItems kind (text ∷ texts) is in
    let got : item ∷ others ≡ items = cc in
    subst P got (one_item (item-spelled kind text item read) (items-spelled kind texts others read_others))))

items-read : (kind : FieldKind) (texts : List (List ℕ)) (items : List Item) → AreItems kind texts items → items_of kind texts ≡ Some items
items-read kind texts items no_items = refl
items-read kind texts items (one_item {text = text} {item = item} {texts = rest} {items = others} first more) =
    ap (option_and_then (λ i. option_and_then (λ is. Some (i ∷ is)) (items_of kind rest))) (item-read kind text item first)
    ∙ ap (option_and_then (λ is. Some (item ∷ is))) (items-read kind rest others more)

field-spelled : (kind : FieldKind) (text : List ℕ) (field : Field) → field_of kind text ≡ Some field → IsField kind text field
unfolding field_of
field-spelled kind text field h = read (items_of kind (slice_split (λ b. b == 44) text)) refl h
  where
    read : (o : Option (List Item)) → items_of kind (slice_split (λ b. b == 44) text) ≡ o → option_map (field_with (not (slice_index text 0 == 42))) o ≡ Some field → IsField kind text field
    read None e h = absurd (none-some field h)
    read (Some items) e h =
        let P : Field → Type 0 = λ f. IsField kind text f in
        let same : field_with (not (slice_index text 0 == 42)) items ≡ field = cc in
        subst P same (of_items (items-spelled kind (slice_split (λ b. b == 44) text) items e))

field-read : (kind : FieldKind) (text : List ℕ) (field : Field) → IsField kind text field → field_of kind text ≡ Some field
unfolding field_of
field-read kind text field (of_items {items = items} are) =
    ap (option_map (field_with (not (slice_index text 0 == 42)))) (items-read kind (slice_split (λ b. b == 44) text) items are)

pub fields_are_spelled : FieldsAreSpelled
fields_are_spelled kind text field = (field-spelled kind text field, field-read kind text field)

pub fields_hold_items : FieldsHoldItems
unfolding field_of
fields_hold_items kind text field h = read (items_of kind (slice_split (λ b. b == 44) text)) refl h
  where
    read : (o : Option (List Item)) → items_of kind (slice_split (λ b. b == 44) text) ≡ o → option_map (field_with (not (slice_index text 0 == 42))) o ≡ Some field → HoldsItems kind text field
    read None e h = absurd (none-some field h)
    read (Some items) e h =
        let P : Field → Type 0 = λ f. HoldsItems kind text f in
        let same : field_with (not (slice_index text 0 == 42)) items ≡ field = cc in
        subst P same (record {
          items = items;
          are_items = e;
          values = has-values_where (some_holds items);
          restricted = refl;
        })
