use Rattle.std.proofs.Common.{◌≡◌, ◌<◌, true, length, arith, Ok, rules, ap, ◌∙◌, sym}
use Rattle.std.specs.Char.{is_ascii_digit}
use Rattle.std.specs.List.{list_all}
use Rattle.std.specs.Str.Parse.{digits_value}
use Rattle.std.specs.Result.{result_ok}
use Rattle.std.proofs.lemmas.Result.{MatchResult-at_ok}
use Rattle.http_wire.proofs.Digits.{read_digits, parsed_digits, number_of-digits}
use Rattle.http_wire.proofs.head.number_of.Goals as goal

pub unwrap-requires : goal.unwrap-requires
unwrap-requires c = read_digits c.args.text.now c.from_utf8.result _ _ c.from_utf8.ensures.cases (search rules)

pub returns : goal.returns
returns c =
    let text = c.args.text.now in
    let digits : list_all is_ascii_digit text ≡ true = search rules in
    let some : 0 < length text = grind arith in
    let same : c.unwrap.result.now ≡ text = (MatchResult-at_ok _ _ _ c.unwrap.ensures c.from_utf8.ensures.cases).0 in
    let parsed : c.parse.result ≡ Ok (digits_value 10 text) = parsed_digits text _ (rw same at c.parse.ensures.value.0) digits some c.if-text-gt19.false in
    c.ok.ensures.value ∙ ap result_ok parsed ∙ sym (number_of-digits text digits some c.if-text-gt19.false)
