-- Numbers in paths.
use Rattle.std.proofs.Common.{◌≡◌, ℕ, List, true, arith, rules, Err, None}
use Rattle.std.proofs.lemmas.Bool.Decides.{nat_tests}
use Rattle.std.proofs.lemmas.Str.Parse.{IsDigitsTest, IsNumeralModel, numerals_by_value, parse_digits}
use Rattle.std.specs.Char.{is_ascii_digit}
use Rattle.std.specs.List.{list_all}
use Rattle.std.specs.Str.Parse.{ParsesUnsigned, digits_value}
use Rattle.queue_routes.specs.Routes.{number_of}

tests : IsDigitsTest (λ text. list_all is_ascii_digit text ≡ true)
tests = search rules

own : IsNumeralModel (λ text. list_all is_ascii_digit text ≡ true) (digits_value 10)
own = numerals_by_value _ tests

-- digits that aren't parsed are none, or too large
pub number_of-unparsed : {E : Type 0} (text : List ℕ) (e : E) → ParsesUnsigned 64 10 text (Err e) → list_all is_ascii_digit text ≡ true → number_of text ≡ None
number_of-unparsed text e unparsed digits =
    let large = parse_digits own 64 text (Err e) unparsed digits in grind (arith, nat_tests, large)
