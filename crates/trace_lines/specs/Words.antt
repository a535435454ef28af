-- What single words spell. A word is what stands between two spaces of a line.
use Rattle.std.specs.Prelude.{ℕ, ◌^◌, Bool, ℤ, pos, neg_ℤ, ◌&&◌, ◌==◌, not, List, [], ◌∷◌, length, nat_lt, slice_index, codes, Option, Some, None, Result, Ok, Err, if◌then◌else◌}
use Rattle.std.specs.Char.{is_ascii_digit}
use Rattle.std.specs.List.{list_all, slice_split}
use Rattle.std.specs.Str.{bytes_eq}
use Rattle.std.specs.Str.Parse.{digits_value}
use Rattle.job_states.specs.Judged.{◌>>=◌}
use Rattle.job_states.specs.Length.{is_within, is_name}
use Rattle.job_states.specs.Moment.{last_moment}
use Rattle.job_states.specs.declared.command.Kind.{Kind}
use Rattle.job_states.specs.declared.command.Kind.TheVariants.{Worker, Dispatcher, Scheduler, Supervisor}
use Rattle.trace_lines.specs.declared.line.LineFault.{LineFault}
use Rattle.trace_lines.specs.declared.line.LineFault.TheVariants.{NotALine}

-- what is spelled, or that nothing is
abbrev pub Judged : Type 0 → Type 0
Judged X = Result X LineFault

-- what the first of these words that is equal to a word stands for
abbrev pub by_word : {X : Type 0} → List ℕ → List (List ℕ × Judged X) → Judged X
by_word word [] = Err NotALine
by_word word ((known, meaning) ∷ others) = if bytes_eq word known then meaning else by_word word others

-- what follows a sign at the head of a word
abbrev pub after_sign : ℕ → List ℕ → Option (List ℕ)
after_sign sign [] = None
after_sign sign (first ∷ others) = if first == sign then Some others else None

-- ---- numbers

abbrev pub has_leading_zero : List ℕ → Bool
has_leading_zero digits = nat_lt 1 (length digits) && (slice_index digits 0 == 48)

-- 1 to 20 digits, without a sign and without a leading zero
abbrev pub is_numeral : List ℕ → Bool
is_numeral word = is_within 1 20 (length word) && list_all is_ascii_digit word && not (has_leading_zero word)

-- a number below 2^64
abbrev pub number_of : List ℕ → Judged ℕ
number_of word = if is_numeral word && nat_lt (digits_value 10 word) (2 ^ 64) then Ok (digits_value 10 word) else Err NotALine

abbrev pub number_within : ℕ → ℕ → List ℕ → Judged ℕ
number_within least most word = number_of word >>= λ n. if is_within least most n then Ok n else Err NotALine

abbrev pub seat_of : List ℕ → Judged ℕ
seat_of word = number_within 0 63 word

-- how many jobs a poll claims at most
abbrev pub limit_of : List ℕ → Judged ℕ
limit_of word = number_within 1 100 word

-- a whole number from -2^31 to 2^31 - 1; zero has no sign
abbrev pub priority_by : List ℕ → Option (List ℕ) → Judged ℤ
priority_by word None = number_within 0 2_147_483_647 word >>= λ n. Ok (pos n)
priority_by word (Some digits) = number_within 1 2_147_483_648 digits >>= λ n. Ok (neg_ℤ (pos n))

-- a minus sign stands before a negative one
abbrev pub priority_of : List ℕ → Judged ℤ
priority_of word = priority_by word (after_sign 45 word)

-- ---- moments

abbrev pub moment_by : Option (List ℕ) → Judged ℕ
moment_by None = Err NotALine
moment_by (Some digits) = number_within 0 last_moment digits

-- `@` and microseconds
abbrev pub moment_of : List ℕ → Judged ℕ
moment_of word = moment_by (after_sign 64 word)

-- the word for nothing
abbrev pub is_dash : List ℕ → Bool
is_dash word = bytes_eq word (codes "-")

-- a moment, or a dash for none
abbrev pub due_of : List ℕ → Judged (Option ℕ)
due_of word = if is_dash word then Ok None else (moment_of word >>= λ moment. Ok (Some moment))

-- ---- names and lists

-- 1 to 128 bytes
abbrev pub name_of : List ℕ → Judged (List ℕ)
name_of word = if is_name word then Ok word else Err NotALine

abbrev pub kind_of : List ℕ → Judged Kind
kind_of word = by_word word
    ((codes "worker", Ok Worker)
    ∷ (codes "dispatcher", Ok Dispatcher)
    ∷ (codes "scheduler", Ok Scheduler)
    ∷ (codes "supervisor", Ok Supervisor)
    ∷ [])

-- the parts of a word, which a comma separates
abbrev pub items_of : List ℕ → List (List ℕ)
items_of word = slice_split (λ b. b == 44) word

-- 1 to 64 items of 1 to 128 bytes
abbrev pub queues_of : List ℕ → Judged (List (List ℕ))
queues_of word = if is_within 1 64 (length (items_of word)) && list_all is_name (items_of word) then Ok (items_of word) else Err NotALine

-- a text of at least one byte, or a dash for none
abbrev pub argument_of : List ℕ → Judged (Option (List ℕ))
argument_of word = if is_dash word then Ok None else (if bytes_eq word (codes "") then Err NotALine else Ok (Some word))
