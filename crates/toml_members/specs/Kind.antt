-- What is read of a value, by its kind. Members come in byte order of their keys.
use Rattle.std.specs.Prelude.{ℕ, suc, ◌+◌, ◌&&◌, Bool, true, false, ℤ, pos, int_le, unsigned_abs, List, [], ◌∷◌, ◌++◌, length, Option, Some, None, ok_or, Ok, Err, if◌then◌else◌}
use Rattle.std.specs.List.{list_all}
use Rattle.std.specs.Str.{bytes_eq}
use Rattle.toml.specs.Data.{Data, table, Items, no_items, item, Members, no_members, member, get_member, as_integer, as_str, as_array, as_table}
use Rattle.job_states.specs.Judged.{◌>>=◌}
use Rattle.job_states.specs.Length.{is_name, is_within}
use Rattle.job_states.specs.Texts.{is_among}
use Rattle.toml_members.specs.declared.fault.SettingsFault.TheVariants.{Refused}
use Rattle.toml_members.specs.Fault.{Judged, unknown, wrong_kind, not_allowed}
use Rattle.toml_members.specs.Key.{key_in, element_of}

-- ---- the value at a key

-- what an absent key stands for, or what is read of a value
abbrev pub or_default : {X : Type 0} → Option Data → X → (Data → Judged X) → Judged X
or_default None default judge = Ok default
or_default (Some d) default judge = judge d

abbrev pub needed : List ℕ → List ℕ → Members → Judged Data
needed place key ms = ok_or (get_member key ms) (Refused 3 (key_in place key))

-- an absent table is an empty one
abbrev pub or_empty : Option Data → Data
or_empty None = table no_members
or_empty (Some d) = d

-- ---- tables

abbrev pub members_in : List ℕ → Option Members → Judged Members
members_in key None = wrong_kind key
members_in key (Some ms) = Ok ms

-- the first key that is none of these
unfoldable pub first_unknown : List (List ℕ) → Members → Option (List ℕ)
first_unknown keys no_members = None
first_unknown keys (member key d ms) = if is_among keys key then first_unknown keys ms else Some key

abbrev pub unless_unknown : List ℕ → Members → Option (List ℕ) → Judged Members
unless_unknown place ms None = Ok ms
unless_unknown place ms (Some key) = unknown (key_in place key)

abbrev pub known : List ℕ → List (List ℕ) → Members → Judged Members
known place keys ms = unless_unknown place ms (first_unknown keys ms)

-- a table with none but these keys
unfoldable pub section : List ℕ → List (List ℕ) → Data → Judged Members
section place keys d = members_in place (as_table d) >>= known place keys

-- ---- whole numbers

abbrev pub within : List ℕ → ℤ → ℤ → ℤ → Judged ℤ
within key least most n = if int_le least n && int_le n most then Ok n else not_allowed key

abbrev pub whole_from : List ℕ → ℤ → ℤ → Option ℤ → Judged ℤ
whole_from key least most None = wrong_kind key
whole_from key least most (Some n) = within key least most n

abbrev pub whole_in : List ℕ → ℤ → ℤ → Data → Judged ℤ
whole_in key least most d = whole_from key least most (as_integer d)

-- from a least number to a greatest one, and what an absent key stands for
unfoldable pub whole_at : (place key : List ℕ) → (least most default : ℤ) → Members → Judged ℤ
whole_at place key least most default ms =
    or_default (get_member key ms) default (whole_in (key_in place key) least most)

abbrev pub counted : Judged ℤ → Judged ℕ
counted (Ok n) = Ok (unsigned_abs n)
counted (Err fault) = Err fault

-- the same where no number is negative
abbrev pub count_at : (place key : List ℕ) → (least most default : ℕ) → Members → Judged ℕ
count_at place key least most default ms =
    counted (whole_at place key (pos least) (pos most) (pos default) ms)

abbrev pub some_count : Judged ℕ → Judged (Option ℕ)
some_count (Ok n) = Ok (Some n)
some_count (Err fault) = Err fault

abbrev pub count_or_word_from : (key word : List ℕ) → (least most : ℤ) → Option ℤ → Option (List ℕ) → Judged (Option ℕ)
count_or_word_from key word least most (Some n) text = some_count (counted (within key least most n))
count_or_word_from key word least most None (Some text) = if bytes_eq text word then Ok None else not_allowed key
count_or_word_from key word least most None None = wrong_kind key

-- a number that isn't negative, or a word that stands for none
abbrev pub count_or_word : (key word : List ℕ) → (least most : ℤ) → Data → Judged (Option ℕ)
count_or_word key word least most d = count_or_word_from key word least most (as_integer d) (as_str d)

-- ---- texts

abbrev pub text_in : List ℕ → Data → Judged (List ℕ)
text_in key d = ok_or (as_str d) (Refused 4 key)

abbrev pub name_from : List ℕ → List ℕ → Judged (List ℕ)
name_from key text = if is_name text then Ok text else not_allowed key

-- a text of 1 to 128 bytes
abbrev pub name_in : List ℕ → Data → Judged (List ℕ)
name_in key d = text_in key d >>= name_from key

unfoldable pub name_at : List ℕ → List ℕ → Members → Judged (List ℕ)
name_at place key ms = needed place key ms >>= name_in (key_in place key)

unfoldable pub name_or : List ℕ → List ℕ → List ℕ → Members → Judged (List ℕ)
name_or place key default ms = or_default (get_member key ms) default (name_in (key_in place key))

abbrev pub flag_from : (key off on text : List ℕ) → Judged Bool
flag_from key off on text = if bytes_eq text off then Ok false else if bytes_eq text on then Ok true else not_allowed key

-- one of two words, and whether it is the second
abbrev pub flag_in : (key off on : List ℕ) → Data → Judged Bool
flag_in key off on d = text_in key d >>= flag_from key off on

-- ---- arrays

abbrev pub items_len : Items → ℕ
items_len no_items = 0
items_len (item d ds) = suc (items_len ds)

abbrev pub items_from : List ℕ → Option Items → Judged Items
items_from key None = wrong_kind key
items_from key (Some ds) = Ok ds

abbrev pub items_in : List ℕ → Data → Judged Items
items_in key d = items_from key (as_array d)

-- from a least number of items to a greatest one
abbrev pub sized : List ℕ → ℕ → ℕ → Items → Judged Items
sized key least most ds = if is_within least most (items_len ds) then Ok ds else not_allowed key

-- the items of an array; an absent one has none
unfoldable pub items_at : List ℕ → List ℕ → Members → Judged Items
items_at place key ms = or_default (get_member key ms) no_items (items_in (key_in place key))

-- Each element of an array as it is judged at its place, after those that were read before.
unfoldable pub each : {X : Type 0} → (List X → List ℕ → Data → Judged X) → List ℕ → List X → Items → Judged (List X)
each judge array before no_items = Ok before
each judge array before (item d ds) = judge before (element_of array (length before)) d >>= λ x. each judge array (before ++ x ∷ []) ds

-- the elements of an array of at most so many; an absent one has none
unfoldable pub array_at : {X : Type 0} → (List X → List ℕ → Data → Judged X) → (place key : List ℕ) → ℕ → Members → Judged (List X)
array_at judge place key most ms = do
  items ← items_at place key ms
  few ← sized (key_in place key) 0 most items
  each judge (key_in place key) [] few

-- a text of an array whose elements are refused at its own key
abbrev pub text_of_array : List ℕ → List (List ℕ) → List ℕ → Data → Judged (List ℕ)
text_of_array array before place d = text_in array d

abbrev pub names_from : List ℕ → List (List ℕ) → Judged (List (List ℕ))
names_from key texts = if list_all is_name texts then Ok texts else not_allowed key

-- an array of 1 to so many texts of 1 to 128 bytes each, whose elements are refused at its own key
unfoldable pub names_in : List ℕ → ℕ → Data → Judged (List (List ℕ))
names_in key most d = do
  items ← items_in key d
  few ← sized key 1 most items
  texts ← each (text_of_array key) key [] few
  names_from key texts
