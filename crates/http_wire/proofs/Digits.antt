-- What a text of digits is.
use Rattle.std.proofs.Common.{◌≡◌, ◌<◌, ◌≤◌, ℕ, zero, suc, List, [], ◌∷◌, length, true, refl, lit<, rules, arith, Result, Ok, Err, Some}
use Rattle.std.proofs.lemmas.Bool.{lt-ltb, le-leb}
use Rattle.http_wire.specs.Head.{number_of}
use Rattle.std.specs.Char.{is_ascii_digit}
use Rattle.std.specs.List.{list_all}
use Rattle.std.specs.Str.{IsUtf8, IsAscii}
use Rattle.std.specs.Str.Parse.{ParsesUnsigned, digits_value}
use Rattle.std.specs.Result.{IsOk, MatchResult}
use Rattle.std.proofs.lemmas.Str.{IsUtf8-from_ascii}
use Rattle.std.proofs.lemmas.Str.Parse.{IsDigitsTest, IsNumeralModel, numerals_by_value, parse_gives, digits_value_short}

tests : IsDigitsTest (λ text. list_all is_ascii_digit text ≡ true)
tests = search rules

own : IsNumeralModel (λ text. list_all is_ascii_digit text ≡ true) (digits_value 10)
own = numerals_by_value _ tests

ascii_digits : (text : List ℕ) → list_all is_ascii_digit text ≡ true → IsAscii text
ascii_digits [] digits i = lit< tt
ascii_digits (c ∷ text) digits zero = let parts = tests.parts c text digits in omega (arith, parts.0)
ascii_digits (c ∷ text) digits (suc i) = ascii_digits text (tests.parts c text digits).1 i

utf8_digits : (text : List ℕ) → list_all is_ascii_digit text ≡ true → IsUtf8 text
utf8_digits text digits = IsUtf8-from_ascii text (ascii_digits text digits)

-- they are read as a text
pub read_digits : {S E : Type 0} (text : List ℕ) (r : Result S E) (P : S → Type 0) (Q : E → Type 0) → MatchResult r P (λ e. ¬ (IsUtf8 text) × Q e) → list_all is_ascii_digit text ≡ true → IsOk r
read_digits text (Ok s) P Q cases digits = refl
read_digits text (Err e) P Q cases digits = absurd (cases.0 (utf8_digits text digits))

-- up to 19 digits are parsed
pub parsed_digits : {E : Type 0} → (text : List ℕ) (r : Result ℕ E) → ParsesUnsigned 64 10 text r → list_all is_ascii_digit text ≡ true → 0 < length text → length text ≤ 19 → r ≡ Ok (digits_value 10 text)
parsed_digits text r parses digits some few = parse_gives own 64 text r parses digits some (omega (arith, digits_value_short own text 19 digits few))

pub number_of-digits : (text : List ℕ) → list_all is_ascii_digit text ≡ true → 0 < length text → length text ≤ 19 → number_of text ≡ Some (digits_value 10 text)
number_of-digits text digits some few = rw (lt-ltb 0 (length text) some, le-leb (length text) 19 few, digits)
