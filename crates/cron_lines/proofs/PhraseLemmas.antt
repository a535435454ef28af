-- What is read as a phrase is spelled as one, and the other way round.
use Rattle.std.proofs.Common.{◌≡◌, ℕ, ◌+◌, ◌-◌, ◌%◌, ◌≤◌, ◌⊎◌, inl, inr, Bool, true, false, cond, ◌&&◌, nat_le, List, ◌++◌, length, take, drop, codes, Option, Some, None, option_and_then, ap, sym, refl, subst, ◌∙◌, arith, length-append}
use Rattle.std.specs.Str.{bytes_eq}
use Rattle.std.proofs.Math.Seq.{take-append_seam, drop-append_seam}
use Rattle.std.proofs.lemmas.List.{take-append-drop}
use Rattle.std.proofs.lemmas.Bool.{and_parts, and_from, leb-true, le-leb}
use Rattle.std.proofs.lemmas.Option.{cond_some, option_and_then_some}
use Rattle.std.proofs.lemmas.Slice.Eq.{bytes_eq-Decides}
use Rattle.cron_lines.specs.declared.fields.FieldKind.TheVariants as kinds
use Rattle.cron_lines.specs.declared.times.Schedule.{Schedule}
use Rattle.cron_lines.specs.declared.times.Schedule.TheVariants.{EverySecond}
use Rattle.cron_lines.specs.Field.{number_of}
use Rattle.cron_lines.specs.Phrase.{any, only, daily, after_prefix, before_suffix, hourly_of, daily_of, or_else, phrase_of}
use Rattle.cron_lines.specs.Spelling.{IsPhrase, every_second, every_minute, every_hour, every_day, hourly, morning, afternoon, PhrasesAreSpelled}

-- ---- the bytes after a prefix and before a suffix

same_bytes : (a : List ℕ) → bytes_eq a a ≡ true
same_bytes a = (bytes_eq-Decides a a).1 refl

after_prefix-spelled : (prefix text rest : List ℕ) → after_prefix prefix text ≡ Some rest → text ≡ prefix ++ rest
after_prefix-spelled prefix text rest h =
    let got = cond_some (bytes_eq (take (length prefix) text) prefix) (drop (length prefix) text) rest h in
    sym (take-append-drop (length prefix) text)
    ∙ ap (λ x. x ++ drop (length prefix) text) ((bytes_eq-Decides (take (length prefix) text) prefix).0 got.0)
    ∙ ap (λ x. prefix ++ x) got.1

after_prefix-read : (prefix rest : List ℕ) → after_prefix prefix (prefix ++ rest) ≡ Some rest
after_prefix-read prefix rest =
    ap (λ x. cond (bytes_eq x prefix) (Some (drop (length prefix) (prefix ++ rest))) None) (take-append_seam prefix rest)
    ∙ ap (λ t. cond t (Some (drop (length prefix) (prefix ++ rest))) None) (same_bytes prefix)
    ∙ ap (λ x. Some x) (drop-append_seam prefix rest)

before_suffix-spelled : (suffix text rest : List ℕ) → before_suffix suffix text ≡ Some rest → text ≡ rest ++ suffix
before_suffix-spelled suffix text rest h =
    let n = length text - length suffix in
    let got = cond_some (bytes_eq (drop n text) suffix) (take n text) rest h in
    sym (take-append-drop n text)
    ∙ ap (λ x. take n text ++ x) ((bytes_eq-Decides (drop n text) suffix).0 got.0)
    ∙ ap (λ x. x ++ suffix) got.1

-- bytes that are as many as those that are looked for
before_suffix-at : (suffix rest tail : List ℕ) → length tail ≡ length suffix → before_suffix suffix (rest ++ tail) ≡ cond (bytes_eq tail suffix) (Some rest) None
before_suffix-at suffix rest tail long =
    let text = rest ++ tail in
    let place : length text - length suffix ≡ length rest = omega (arith, length-append rest tail) in
    ap (λ n. cond (bytes_eq (drop n text) suffix) (Some (take n text)) None) place
    ∙ ap (λ x. cond (bytes_eq x suffix) (Some (take (length rest) text)) None) (drop-append_seam rest tail)
    ∙ ap (λ x. cond (bytes_eq tail suffix) (Some x) None) (take-append_seam rest tail)

-- ---- what is read is spelled

hourly-spelled : (text : List ℕ) (s : Schedule) → hourly_of text ≡ Some s → IsPhrase text s
unfolding hourly_of
hourly-spelled text s h =
    option_and_then_some _ (option_and_then number_of (after_prefix (codes "every hour at minute ") text)) s h (λ minute read_all made.
    option_and_then_some number_of (after_prefix (codes "every hour at minute ") text) minute read_all (λ digits found read.
    let got = cond_some (nat_le minute 59) (daily (only minute) (any kinds.Hour)) s made in
    let P : Schedule → Type 0 = λ x. IsPhrase text x in
    let Q : List ℕ → Type 0 = λ t. IsPhrase t (daily (only minute) (any kinds.Hour)) in
    subst P got.1 (subst Q (sym (after_prefix-spelled (codes "every hour at minute ") text digits found)) (hourly digits minute read (leb-true minute 59 got.0)))))

record IsDaily (half : List ℕ) (noon : ℕ) (text : List ℕ) (s : Schedule) : Type 0 where
  digits : List ℕ
  hour : ℕ
  spelled : text ≡ codes "at " ++ (digits ++ half)
  read : number_of digits ≡ Some hour
  low : 1 ≤ hour
  high : hour ≤ 12
  made : daily (only 0) (only (hour % 12 + noon)) ≡ s

daily-spelled : (half : List ℕ) (noon : ℕ) (text : List ℕ) (s : Schedule) → daily_of half noon text ≡ Some s → IsDaily half noon text s
unfolding daily_of
daily-spelled half noon text s h =
    let prefix = after_prefix (codes "at ") text in
    option_and_then_some _ (option_and_then number_of (option_and_then (before_suffix half) prefix)) s h (λ hour read_all made.
    option_and_then_some number_of (option_and_then (before_suffix half) prefix) hour read_all (λ digits found read.
    option_and_then_some (before_suffix half) prefix digits found (λ rest first second.
    let got = cond_some (nat_le 1 hour && nat_le hour 12) (daily (only 0) (only (hour % 12 + noon))) s made in
    record {
      digits = digits;
      hour = hour;
      spelled = after_prefix-spelled (codes "at ") text rest first ∙ ap (λ x. codes "at " ++ x) (before_suffix-spelled half rest digits second);
      read = read;
      low = leb-true 1 hour ((and_parts (nat_le 1 hour) (nat_le hour 12) got.0).0);
      high = leb-true hour 12 ((and_parts (nat_le 1 hour) (nat_le hour 12) got.0).1);
      made = got.1;
    })))

chosen : (test : Bool) (x y : Option Schedule) (s : Schedule) → cond test x y ≡ Some s → ((test ≡ true) × (x ≡ Some s)) ⊎ (y ≡ Some s)
chosen true x y s h = inl (refl, h)
chosen false x y s h = inr h

either : (a b : Option Schedule) (s : Schedule) → or_else a b ≡ Some s → (a ≡ Some s) ⊎ (b ≡ Some s)
either (Some x) b s h = inl h
either None b s h = inr h

phrase-spelled : (text : List ℕ) (s : Schedule) → phrase_of text ≡ Some s → IsPhrase text s
unfolding phrase_of
phrase-spelled text s h =
    elim (chosen (bytes_eq text (codes "every second")) _ _ s h) [
      | inl got ↦ fixed (codes "every second") EverySecond every_second got
      | inr h ↦ elim (chosen (bytes_eq text (codes "every minute")) _ _ s h) [
        | inl got ↦ fixed (codes "every minute") (daily (any kinds.Minute) (any kinds.Hour)) every_minute got
        | inr h ↦ elim (chosen (bytes_eq text (codes "every hour")) _ _ s h) [
          | inl got ↦ fixed (codes "every hour") (daily (only 0) (any kinds.Hour)) every_hour got
          | inr h ↦ elim (chosen (bytes_eq text (codes "every day")) _ _ s h) [
            | inl got ↦ fixed (codes "every day") (daily (only 0) (only 0)) every_day got
            | inr h ↦ elim (either (hourly_of text) _ s h) [
              | inl got ↦ hourly-spelled text s got
              | inr h ↦ elim (either (daily_of (codes "am every day") 0 text) _ s h) [
                | inl got ↦ before_noon (daily-spelled (codes "am every day") 0 text s got)
                | inr got ↦ after_noon (daily-spelled (codes "pm every day") 12 text s got)
              ]
            ]
          ]
        ]
      ]
    ]
  where
    fixed : (words : List ℕ) (x : Schedule) → IsPhrase words x → (bytes_eq text words ≡ true) × (Some x ≡ Some s) → IsPhrase text s
    fixed words x is got =
        let P : List ℕ → Type 0 = λ t. IsPhrase t s in
        let Q : Schedule → Type 0 = λ y. IsPhrase words y in
        let same : x ≡ s = let e = got.1 in cc in
        subst P (sym ((bytes_eq-Decides text words).0 got.0)) (subst Q same is)

    before_noon : IsDaily (codes "am every day") 0 text s → IsPhrase text s
    before_noon d =
        let P : List ℕ → Type 0 = λ t. IsPhrase t s in
        let Q : Schedule → Type 0 = λ y. IsPhrase (codes "at " ++ (d.digits ++ codes "am every day")) y in
        let whole : d.hour % 12 ≡ d.hour % 12 + 0 = omega arith in
        subst P (sym d.spelled) (subst Q (ap (λ n. daily (only 0) (only n)) whole ∙ d.made) (morning d.digits d.hour d.read d.low d.high))

    after_noon : IsDaily (codes "pm every day") 12 text s → IsPhrase text s
    after_noon d =
        let P : List ℕ → Type 0 = λ t. IsPhrase t s in
        let Q : Schedule → Type 0 = λ y. IsPhrase (codes "at " ++ (d.digits ++ codes "pm every day")) y in
        subst P (sym d.spelled) (subst Q d.made (afternoon d.digits d.hour d.read d.low d.high))

-- ---- what is spelled is read

hourly-read : (digits : List ℕ) (minute : ℕ) → number_of digits ≡ Some minute → minute ≤ 59 → hourly_of (codes "every hour at minute " ++ digits) ≡ Some (daily (only minute) (any kinds.Hour))
unfolding hourly_of
hourly-read digits minute read small =
    let at : ℕ → Option Schedule = λ m. cond (nat_le m 59) (Some (daily (only m) (any kinds.Hour))) None in
    ap (λ o. option_and_then at (option_and_then number_of o)) (after_prefix-read (codes "every hour at minute ") digits)
    ∙ ap (option_and_then at) read
    ∙ ap (λ t. cond t (Some (daily (only minute) (any kinds.Hour))) None) (le-leb minute 59 small)

hourly-none : (text : List ℕ) → hourly_of (codes "at " ++ text) ≡ None
unfolding hourly_of
hourly-none text = refl

daily-read : (half : List ℕ) (noon : ℕ) (digits : List ℕ) (hour : ℕ) → number_of digits ≡ Some hour → 1 ≤ hour → hour ≤ 12 → daily_of half noon (codes "at " ++ (digits ++ half)) ≡ Some (daily (only 0) (only (hour % 12 + noon)))
unfolding daily_of
daily-read half noon digits hour read low high =
    let at : ℕ → Option Schedule = λ h. cond (nat_le 1 h && nat_le h 12) (Some (daily (only 0) (only (h % 12 + noon)))) None in
    ap (λ o. option_and_then at (option_and_then number_of (option_and_then (before_suffix half) o))) (after_prefix-read (codes "at ") (digits ++ half))
    ∙ ap (λ o. option_and_then at (option_and_then number_of o)) (before_suffix-at half digits half refl)
    ∙ ap (λ t. option_and_then at (option_and_then number_of (cond t (Some digits) None))) (same_bytes half)
    ∙ ap (option_and_then at) read
    ∙ ap (λ t. cond t (Some (daily (only 0) (only (hour % 12 + noon)))) None) (and_from (nat_le 1 hour) (nat_le hour 12) (le-leb 1 hour low) (le-leb hour 12 high))

daily-none : (digits : List ℕ) → daily_of (codes "am every day") 0 (codes "at " ++ (digits ++ codes "pm every day")) ≡ None
unfolding daily_of
daily-none digits =
    let at : ℕ → Option Schedule = λ h. cond (nat_le 1 h && nat_le h 12) (Some (daily (only 0) (only (h % 12 + 0)))) None in
    ap (λ o. option_and_then at (option_and_then number_of (option_and_then (before_suffix (codes "am every day")) o))) (after_prefix-read (codes "at ") (digits ++ codes "pm every day"))
    ∙ ap (λ o. option_and_then at (option_and_then number_of o)) (before_suffix-at (codes "am every day") digits (codes "pm every day") refl)

-- the phrases that name an hour
abbrev at_hour : List ℕ → Option Schedule
at_hour text = or_else (daily_of (codes "am every day") 0 text) (daily_of (codes "pm every day") 12 text)

phrase-read : (text : List ℕ) (s : Schedule) → IsPhrase text s → phrase_of text ≡ Some s
unfolding phrase_of
phrase-read text s every_second = refl
phrase-read text s every_minute = refl
phrase-read text s every_hour = refl
phrase-read text s every_day = refl
phrase-read text s (hourly digits minute read small) =
    ap (λ o. or_else o (at_hour (codes "every hour at minute " ++ digits))) (hourly-read digits minute read small)
phrase-read text s (morning digits hour read low high) =
    let rest = digits ++ codes "am every day" in
    let whole : hour % 12 + 0 ≡ hour % 12 = omega arith in
    ap (λ o. or_else o (at_hour (codes "at " ++ rest))) (hourly-none rest)
    ∙ ap (λ o. or_else o (daily_of (codes "pm every day") 12 (codes "at " ++ rest))) (daily-read (codes "am every day") 0 digits hour read low high)
    ∙ ap (λ n. Some (daily (only 0) (only n))) whole
phrase-read text s (afternoon digits hour read low high) =
    let rest = digits ++ codes "pm every day" in
    ap (λ o. or_else o (at_hour (codes "at " ++ rest))) (hourly-none rest)
    ∙ ap (λ o. or_else o (daily_of (codes "pm every day") 12 (codes "at " ++ rest))) (daily-none digits)
    ∙ daily-read (codes "pm every day") 12 digits hour read low high

pub phrases_are_spelled : PhrasesAreSpelled
phrases_are_spelled text s = (phrase-spelled text s, phrase-read text s)
