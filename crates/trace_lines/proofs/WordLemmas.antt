-- Signs, numbers and names.
use Rattle.std.proofs.Common.{◌≡◌, ◌≢◌, ◌≤◌, ℕ, List, [], ◌∷◌, length, true, refl, sym, ap, inl, inr, Option, None, Some, Ok, Err, All, arith, rules, eqb}
use Rattle.std.specs.Borrow.{Bor}
use Rattle.std.specs.Char.{is_ascii_digit}
use Rattle.std.specs.List.{list_all}
use Rattle.std.specs.Option.{MatchOption, option_map}
use Rattle.std.specs.Str.Parse.{ParsesUnsigned, digits_value}
use Rattle.std.proofs.lemmas.Bool.{cases_Bool, eq-eqb}
use Rattle.std.proofs.lemmas.Bool.Decides.{nat_tests}
use Rattle.std.proofs.lemmas.Str.Parse.{IsDigitsTest, IsNumeralModel, numerals_by_value, parse_digits}
use Rattle.std.proofs.lemmas.List.Splits.{length-slice_split}
use Rattle.std.proofs.lemmas.List.Sums.{AllPass-from_list_all}
use Rattle.job_states.specs.Length.{IsName, is_name}
use Rattle.trace_lines.specs.declared.line.LineFault.TheVariants.{NotALine}
use Rattle.trace_lines.specs.Words.{after_sign, number_of, items_of, queues_of}
use Rattle.trace_lines.specs.Ranges.{IsFitList}

-- ---- signs

not_stripped : (sign : ℕ) (word : List ℕ) → ((rest : List ℕ) → word ≢ sign ∷ rest) → after_sign sign word ≡ None
not_stripped sign [] other = refl
not_stripped sign (first ∷ others) other =
    elim (cases_Bool (eqb first sign)) [
      | inl same ↦ absurd (other others (ap (λ b. b ∷ others) (grind (arith, nat_tests, same))))
      | inr apart ↦ rw apart refl
    ]

pub after_sign-stripped : (sign : ℕ) (word : List ℕ) (r : Option (Bor (List ℕ))) → MatchOption r ((rest : List ℕ) → word ≢ sign ∷ rest) (λ x. word ≡ sign ∷ x.now) → option_map (λ s. s.now) r ≡ after_sign sign word
after_sign-stripped sign word None other = sym (not_stripped sign word other)
after_sign-stripped sign word (Some x) is = rw (is, eq-eqb sign sign refl) refl

-- ---- numbers

tests : IsDigitsTest (λ text. list_all is_ascii_digit text ≡ true)
tests = search rules

own : IsNumeralModel (λ text. list_all is_ascii_digit text ≡ true) (digits_value 10)
own = numerals_by_value _ tests

-- digits that aren't parsed are too large
pub number_of-unparsed : {E : Type 0} (text : List ℕ) (e : E) → ParsesUnsigned 64 10 text (Err e) → list_all is_ascii_digit text ≡ true → 1 ≤ length text → number_of text ≡ Err NotALine
number_of-unparsed text e unparsed digits some =
    let large = parse_digits own 64 text (Err e) unparsed digits in grind (arith, nat_tests, large)

-- ---- names

pub IsName-from_test : (name : List ℕ) → is_name name ≡ true → IsName name
IsName-from_test name test = (grind (arith, nat_tests, test), grind (arith, nat_tests, test))

pub names_from_test : (items : List (List ℕ)) → list_all is_name items ≡ true → All IsName items
names_from_test items test k d within = IsName-from_test _ (AllPass-from_list_all is_name items test k d within)

-- ---- queue lists

some_items : (word : List ℕ) → 1 ≤ length (items_of word)
some_items word = rw (length-slice_split (λ b. eqb b 44) word) (omega arith)

module _ (word : List ℕ) (queues : List (List ℕ)) (is : queues ≡ items_of word) (few : length queues ≤ 64) (names : list_all is_name queues ≡ true) where
  pub queues_of-read : queues_of word ≡ Ok queues
  queues_of-read =
      let some = some_items word in
      let most = rw is at few in
      let each = rw is at names in
      rw is (grind (arith, nat_tests, some, most, each))

  pub IsFitList-read : IsFitList queues
  IsFitList-read = record { some = rw is (some_items word); few = few; names = names_from_test queues names }
