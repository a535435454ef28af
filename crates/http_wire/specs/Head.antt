-- What the head of a request says of the body after it.
use Rattle.std.specs.Prelude.{◌≤◌, ℕ, Bool, false, ◌&&◌, List, [], ◌∷◌, length, map, filter, nat_eq, nat_lt, nat_le, ◌==◌, if◌then◌else◌, Option, None, Some, Result, Ok, Err, codes}
use Rattle.std.specs.Char.{to_ascii_lowercase, is_ascii_digit}
use Rattle.std.specs.Cmp.Lexicographic.{pointwise}
use Rattle.std.specs.List.{list_all, before_first, after_first}
use Rattle.std.specs.Str.Parse.{digits_value}
use Rattle.httparse.specs.Grammar.{RequestHead, print_request, ReadsRequest}
use Rattle.httparse.specs.Spans.{name_and_value}
use Rattle.http_wire.specs.declared.head.Refusal.{Refusal}
use Rattle.http_wire.specs.declared.head.Refusal.TheVariants.{Bad, TooLarge, Unsupported}
use Rattle.http_wire.specs.Limits.{head_limit, field_limit, digit_limit, body_limit}

-- bytes are this head and then rest; it has at most 64 fields and at most 16384 bytes
pub record BeginsWith (bytes : List ℕ) (head : RequestHead) (rest : List ℕ) : Type 0 where
  pub reads : ReadsRequest bytes head rest
  pub few : length head.fields ≤ field_limit
  pub short : length (print_request head) ≤ head_limit

-- the same name, whatever the case of its ASCII letters
abbrev pub is_named : List ℕ → List ℕ → Bool
is_named name other = pointwise nat_eq (map to_ascii_lowercase other) (map to_ascii_lowercase name)

-- the values of the fields of a name, as they come
abbrev pub values_of : List ℕ → List (List ℕ × List ℕ) → List (List ℕ)
values_of name fields = map (λ field. field.1) (filter (λ field. is_named name field.0) fields)

-- the number that 1 to 19 digits write
abbrev pub number_of : List ℕ → Option ℕ
number_of text = if nat_lt 0 (length text) && nat_le (length text) digit_limit && list_all is_ascii_digit text then Some (digits_value 10 text) else None

-- a body of this length, if it isn't too long
abbrev pub allowed : Option ℕ → Result ℕ Refusal
allowed None = Err Bad
allowed (Some len) = if nat_le len body_limit then Ok len else Err (TooLarge len)

-- what the values of `Content-Length` announce
abbrev pub announced : List (List ℕ) → Result ℕ Refusal
announced [] = Ok 0
announced (value ∷ []) = allowed (number_of value)
announced (value ∷ second ∷ more) = Err Bad

-- the length of the body that the fields announce
abbrev pub framed : List (List ℕ × List ℕ) → Result ℕ Refusal
framed fields =
    if nat_lt 0 (length (values_of (codes "transfer-encoding") fields)) then Err Unsupported
    else announced (values_of (codes "content-length") fields)

-- the target is a path
abbrev pub is_path : List ℕ → Bool
is_path [] = false
is_path (first ∷ target) = first == 47

-- the length of the body after a head, or why the head isn't taken
abbrev pub body_length : RequestHead → Result ℕ Refusal
body_length head = if is_path head.target then framed (map name_and_value head.fields) else Err Bad

-- the target before its first `?`, and what follows it
abbrev pub path_of : List ℕ → List ℕ
path_of target = before_first (λ b. b == 63) target

abbrev pub query_of : List ℕ → List ℕ
query_of target = after_first (λ b. b == 63) target
