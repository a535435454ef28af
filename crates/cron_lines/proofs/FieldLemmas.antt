-- Lists that a loop goes over.
use Rattle.std.proofs.Common.{◌≡◌, ℕ, ◌+◌, ◌<◌, ◌≤◌, Bool, true, false, not, cond, ◌||◌, ◌==◌, List, [], ◌∷◌, length, take, drop, nat_lt, Option, Some, None, option_map, option_and_then, get_or, slice_index, ap, sym, refl, ◌∙◌, arith}
use Rattle.std.specs.Str.{str_eq_ignore_ascii_case}
use Rattle.std.specs.List.{slice_split, position, position_or_len}
use Rattle.std.proofs.Math.Bool.{or_assoc, or-false}
use Rattle.std.proofs.lemmas.List.{at_drop_more}
use Rattle.std.proofs.lemmas.List.Sums.{fails_before_first}
use Rattle.std.proofs.lemmas.List.Splits.{slice_split_none, slice_split_first}
use Rattle.std.proofs.lemmas.Bool.{ltb-true, ltb-false}
use Rattle.std.proofs.lemmas.Option.{cond_some, none-some}
use Rattle.cron_lines.specs.declared.fields.Field.{Field}
use Rattle.cron_lines.specs.declared.fields.Item.{Item}
use Rattle.cron_lines.specs.declared.fields.FieldKind.{FieldKind}
use Rattle.cron_lines.specs.Field.{place_from, holds, some_holds, items_of, item_of, field_of, field_with}
use Rattle.cron_lines.specs.Values.{values_where, has}
use Rattle.cron_lines.proofs.ValuesLemmas.{has-values_where, values_where_same}

-- the test at a name decides
place_from-drop : (n i : ℕ) (names : List (List ℕ)) (text : List ℕ) (test : Bool) → i < length names → str_eq_ignore_ascii_case text (get_or names i []) ≡ test → place_from n (drop i names) text ≡ cond test (Some n) (place_from (n + 1) (drop (i + 1) names) text)
place_from-drop n i names text test h same =
    at_drop_more (λ xs. place_from n xs text) names i [] h
    ∙ ap (λ b. cond b (Some n) (place_from (n + 1) (drop (i + 1) names) text)) same

pub place_from_found : (n i : ℕ) (names : List (List ℕ)) (text : List ℕ) → i < length names → str_eq_ignore_ascii_case text (get_or names i []) ≡ true → place_from n (drop i names) text ≡ Some n
place_from_found n i names text = place_from-drop n i names text true

pub place_from_more : (n i : ℕ) (names : List (List ℕ)) (text : List ℕ) → i < length names → str_eq_ignore_ascii_case text (get_or names i []) ≡ false → place_from n (drop i names) text ≡ place_from (n + 1) (drop (i + 1) names) text
place_from_more n i names text = place_from-drop n i names text false

-- ---- a text that is cut at a byte

pub slice_split_whole : (mark : ℕ) (text : List ℕ) → position (λ b. b == mark) text ≡ None → slice_split (λ b. b == mark) text ≡ text ∷ []
slice_split_whole mark text absent =
    let p : ℕ → Bool = λ b. b == mark in
    let past : length text ≤ position_or_len p text =
    ltb-false (position_or_len p text) (length text) (not_some (nat_lt (position_or_len p text) (length text)) (position_or_len p text) absent) in
    slice_split_none p text (λ k d h. fails_before_first p text k d (omega arith))
  where
    not_some : (test : Bool) (x : ℕ) → cond test (Some x) None ≡ None → test ≡ false
    not_some false x e = refl
    not_some true x e = absurd (none-some x (sym e))

pub slice_split_at_first : (mark : ℕ) (text : List ℕ) (at : ℕ) → position (λ b. b == mark) text ≡ Some at → slice_split (λ b. b == mark) text ≡ take at text ∷ slice_split (λ b. b == mark) (drop (at + 1) text)
slice_split_at_first mark text at found =
    let p : ℕ → Bool = λ b. b == mark in
    let h = cond_some (nat_lt (position_or_len p text) (length text)) (position_or_len p text) at found in
    slice_split_first p text 0 (ltb-true (position_or_len p text) (length text) h.0)
    ∙ ap (λ n. take n text ∷ slice_split p (drop (n + 1) text)) h.1

-- ---- items that are added one by one

-- the values with those of an item
abbrev pub with_item : List ℕ → Item → List ℕ
with_item values item = values_where (λ v. has values v || holds item v)

-- the values with those of items
abbrev pub with_items : List ℕ → List Item → List ℕ
with_items values items = values_where (λ v. has values v || some_holds items v)

-- the field that comes of it once the items of the other parts are added
abbrev pub field_from : Bool → List ℕ → Option (List Item) → Option Field
field_from restricted values items =
    option_map (λ rest. record { values = with_items values rest; restricted = restricted }) items

with_items-cons : (values : List ℕ) (item : Item) (items : List Item) → with_items values (item ∷ items) ≡ with_items (with_item values item) items
with_items-cons values item items =
    values_where_same _ _ (λ k h. sym (or_assoc (has values k) (holds item k) (some_holds items k)) ∙ ap (λ b. b || some_holds items k) (sym (has-values_where (λ v. has values v || holds item v) k h)))

pub field_from-cons : (restricted : Bool) (values : List ℕ) (item : Item) (items : Option (List Item)) → field_from restricted values (option_and_then (λ rest. Some (item ∷ rest)) items) ≡ field_from restricted (with_item values item) items
field_from-cons restricted values item None = refl
field_from-cons restricted values item (Some items) =
    ap (λ all. Some (record { values = all; restricted = restricted })) (with_items-cons values item items)

from_none : (restricted : Bool) (items : Option (List Item)) → option_map (field_with restricted) items ≡ field_from restricted [] items
from_none restricted None = refl
from_none restricted (Some items) = refl

pub with_item-none : (item : Item) → with_item [] item ≡ values_where (some_holds (item ∷ []))
with_item-none item = values_where_same _ _ (λ k h. sym (or-false (holds item k)))

pub field_of-field_from : (kind : FieldKind) (text : List ℕ) → field_of kind text ≡ field_from (not (slice_index text 0 == 42)) [] (items_of kind (slice_split (λ b. b == 44) text))
unfolding field_of
field_of-field_from kind text =
    from_none (not (slice_index text 0 == 42)) (items_of kind (slice_split (λ b. b == 44) text))

-- one part more
pub field_from_part : (restricted : Bool) (values : List ℕ) (kind : FieldKind) (parts : List (List ℕ)) (part : List ℕ) (rest : List (List ℕ)) (item : Item) → parts ≡ part ∷ rest → Some item ≡ item_of kind part → field_from restricted values (items_of kind parts) ≡ field_from restricted (with_item values item) (items_of kind rest)
field_from_part restricted values kind parts part rest item begin read =
    ap (λ texts. field_from restricted values (items_of kind texts)) begin
    ∙ ap (λ first. field_from restricted values (option_and_then (λ i. option_and_then (λ is. Some (i ∷ is)) (items_of kind rest)) first)) (sym read)
    ∙ field_from-cons restricted values item (items_of kind rest)
