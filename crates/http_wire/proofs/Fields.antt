-- The fields of a name, one after another.
use Rattle.std.proofs.Common.{◌≡◌, ◌≢◌, ◌<◌, ◌+◌, ℕ, List, ◌∷◌, length, map, filter, get_or, drop, Bool, true, false, cond, refl, ◌∙◌}
use Rattle.std.proofs.lemmas.List.{at_drop_more}
use Rattle.std.specs.Char.{to_ascii_lowercase}
use Rattle.std.specs.Cmp.Lexicographic.{told_text}
use Rattle.httparse.specs.declared.spans.HeaderSpan.{HeaderSpan}
use Rattle.httparse.specs.Spans.{header_bytes, span_bytes}
use Rattle.http_wire.specs.Head.{is_named, values_of}

-- the values of a field and those behind it
values-cons : (name other value : List ℕ) (fields : List (List ℕ × List ℕ)) → values_of name ((other, value) ∷ fields) ≡ cond (is_named name other) (value ∷ values_of name fields) (values_of name fields)
values-cons name other value fields =
    elim (is_named name other) as (λ b. map (λ field. field.1) (cond b ((other, value) ∷ filter (λ field. is_named name field.0) fields) (filter (λ field. is_named name field.0) fields)) ≡ cond b (value ∷ values_of name fields) (values_of name fields))
    [ true ↦ refl | false ↦ refl ]

chosen : (name other : List ℕ) (b : Bool) → b ≡ is_named name other → {Y : Type 0} (x y : Y) → map to_ascii_lowercase other ≡ map to_ascii_lowercase name → cond b x y ≡ x
chosen name other true is x y same = refl
chosen name other false is x y same = absurd (told_text _ _ false is same)

passed : (name other : List ℕ) (b : Bool) → b ≡ is_named name other → {Y : Type 0} (x y : Y) → map to_ascii_lowercase other ≢ map to_ascii_lowercase name → cond b x y ≡ y
passed name other true is x y differs = absurd (differs (told_text _ _ true is))
passed name other false is x y differs = refl

-- at a field of the name
pub values_here : (name head : List ℕ) (fields : List HeaderSpan) (i : ℕ) (d : HeaderSpan) → i < length fields
    → map to_ascii_lowercase (span_bytes head (get_or fields i d).name) ≡ map to_ascii_lowercase name
    → values_of name (map (header_bytes head) (drop i fields)) ≡ span_bytes head (get_or fields i d).value ∷ values_of name (map (header_bytes head) (drop (i + 1) fields))
values_here name head fields i d within same =
    at_drop_more (λ rest. values_of name (map (header_bytes head) rest)) fields i d within
    ∙ values-cons name _ _ _ ∙ chosen name _ (is_named name (span_bytes head (get_or fields i d).name)) refl _ _ same

-- at a field of another name
pub values_past : (name head : List ℕ) (fields : List HeaderSpan) (i : ℕ) (d : HeaderSpan) → i < length fields
    → map to_ascii_lowercase (span_bytes head (get_or fields i d).name) ≢ map to_ascii_lowercase name
    → values_of name (map (header_bytes head) (drop i fields)) ≡ values_of name (map (header_bytes head) (drop (i + 1) fields))
values_past name head fields i d within differs =
    at_drop_more (λ rest. values_of name (map (header_bytes head) rest)) fields i d within
    ∙ values-cons name _ _ _ ∙ passed name _ (is_named name (span_bytes head (get_or fields i d).name)) refl _ _ differs
