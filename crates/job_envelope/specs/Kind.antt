-- What is read at a member, by the kind of its value.
use Rattle.std.specs.Prelude.{ℕ, ◌/◌, ℤ, pos, negsuc, List, [], ◌∷◌, length, nat_lt, is_some, Option, Some, None, option_and_then, ok_or, Result, Ok, Err, if◌then◌else◌}
use Rattle.serde_json.specs.Data.{Data, Items, Members, no_members, member}
use Rattle.serde_json.specs.Events.{members_len}
use Rattle.serde_json.specs.Find.{get, as_null, as_str, as_number, as_u64, as_integer, as_array, as_object}
use Rattle.jiff_core.specs.declared.error.Error.{Error}
use Rattle.jiff_fmt.specs.Temporal.{parse_timestamp}
use Rattle.job_states.specs.declared.job.Counted.{Counted}
use Rattle.job_states.specs.Judged.{◌>>=◌}
use Rattle.job_states.specs.Length.{is_name, is_within}
use Rattle.job_states.specs.Moment.{is_moment}
use Rattle.job_states.specs.Ranges.{is_count, is_priority}
use Rattle.job_envelope.specs.declared.member.Member.{Member}
use Rattle.job_envelope.specs.declared.fault.EnvelopeFault.{EnvelopeFault}
use Rattle.job_envelope.specs.declared.fault.EnvelopeFault.TheVariants.{Missing, WrongKind, DateRefused}
use Rattle.job_envelope.specs.Member.{member_name}

-- a value, or the first fault
abbrev pub Judged : Type 0 → Type 0
Judged X = Result X EnvelopeFault

-- ---- the value of a member, where the envelope has it

abbrev pub optional : Member → Data → Option Data
optional m envelope = get (member_name m) envelope

abbrev pub needed : Member → Data → Judged Data
needed m envelope = ok_or (optional m envelope) (Missing m)

-- null stands for an absent member
abbrev pub unless_null : Option Data → Option Data
unless_null None = None
unless_null (Some d) = if is_some (as_null d) then None else Some d

-- what an absent member stands for, or what is read of a value
abbrev pub or_default : {X : Type 0} → Option Data → X → (Data → Judged X) → Judged X
or_default None default judge = Ok default
or_default (Some d) default judge = judge d

-- ---- the kinds

abbrev pub text_in : Member → Data → Judged (List ℕ)
text_in m d = ok_or (as_str d) (WrongKind m)

-- 1 to 128 bytes
abbrev pub name_from : Member → List ℕ → Judged (List ℕ)
name_from m text = if is_name text then Ok text else Err (WrongKind m)

abbrev pub name_in : Member → Data → Judged (List ℕ)
name_in m d = text_in m d >>= name_from m

-- from -2^31 to 2^31-1
abbrev pub priority_from : Member → Option ℤ → Judged ℤ
priority_from m None = Err (WrongKind m)
priority_from m (Some n) = if is_priority n then Ok n else Err (WrongKind m)

abbrev pub priority_in : Member → Data → Judged ℤ
priority_in m d = priority_from m (option_and_then as_integer (as_number d))

-- from 0 to 65535
abbrev pub count_from : Member → Option ℕ → Judged ℕ
count_from m None = Err (WrongKind m)
count_from m (Some n) = if is_count n then Ok n else Err (WrongKind m)

abbrev pub count_in : Member → Data → Judged ℕ
count_in m d = count_from m (option_and_then as_u64 (as_number d))

abbrev pub items_in : Member → Data → Judged Items
items_in m d = ok_or (as_array d) (WrongKind m)

-- ---- a moment

-- nanoseconds cut to whole microseconds, from 1970 up to the last moment
abbrev pub moment_from : ℤ → Option ℕ
moment_from (negsuc n) = None
moment_from (pos n) = if is_moment (n / 1000) then Some (n / 1000) else None

abbrev pub moment_of : Member → Result ℤ Error → Judged ℕ
moment_of m (Err e) = Err (DateRefused m)
moment_of m (Ok nanos) = ok_or (moment_from nanos) (DateRefused m)

abbrev pub moment_in : Member → Data → Judged ℕ
moment_in m d = text_in m d >>= λ text. moment_of m (parse_timestamp text)

-- ---- counts

-- a list's text of 1 to 1024 bytes, and its count
abbrev pub counted : Member → List ℕ → Data → Judged Counted
counted m list d = if is_within 1 1024 (length list) then count_in m d >>= (λ count. Ok (record { list = list; count = count })) else Err (WrongKind m)

unfoldable pub counts_of : Member → Members → Judged (List Counted)
counts_of m no_members = Ok []
counts_of m (member list d ms) = counted m list d >>= λ first. counts_of m ms >>= λ others. Ok (first ∷ others)

-- at most 16 of them
abbrev pub counts_from : Member → Option Members → Judged (List Counted)
counts_from m None = Err (WrongKind m)
counts_from m (Some ms) = if nat_lt 16 (members_len ms) then Err (WrongKind m) else counts_of m ms

abbrev pub counts_in : Member → Data → Judged (List Counted)
counts_in m d = counts_from m (as_object d)
