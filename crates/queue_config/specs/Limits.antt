-- Concurrency limits: the key of a job, and the limit on it.
use Rattle.std.specs.Prelude.{ℕ, ◌*◌, Bool, true, false, List, ◌++◌, codes, Option, Some, None, slice_get, Result, Ok, Err, if◌then◌else◌}
use Rattle.std.specs.Fmt.{signed_decimal}
use Rattle.job_states.specs.Judged.{◌>>=◌}
use Rattle.job_states.specs.Length.{is_name}
use Rattle.job_states.specs.declared.command.Arg.{Arg}
use Rattle.job_states.specs.declared.command.Arg.TheVariants.{Null, Text, Whole, Other}
use Rattle.job_states.specs.declared.job.Limited.{Limited}
use Rattle.queue_config.specs.declared.config.Class.{Class}
use Rattle.queue_config.specs.declared.config.Config.{Config}
use Rattle.queue_config.specs.declared.config.KeyFrom.{KeyFrom}
use Rattle.queue_config.specs.declared.config.KeyFrom.TheVariants.{Fixed, Argument}
use Rattle.queue_config.specs.declared.config.Limit.{Limit}
use Rattle.queue_config.specs.declared.limited.KeyFault.{KeyFault}
use Rattle.queue_config.specs.declared.limited.KeyFault.TheVariants.{Refused}
use Rattle.queue_config.specs.Named.{find_named}

-- the class of a name
abbrev pub find_class : List ℕ → List Class → Option Class
find_class name classes = find_named (λ class. class.name) name classes

abbrev pub limit_in : Option Class → Option Limit
limit_in None = None
limit_in (Some class) = class.limit

-- ---- keys

-- a text of 1 to 128 bytes or a whole number in decimal; an argument that is absent or null gives none
abbrev pub key_of_arg : Option Arg → Result (Option (List ℕ)) KeyFault
key_of_arg None = Ok None
key_of_arg (Some Null) = Ok None
key_of_arg (Some (Text text)) = if is_name text then Ok (Some text) else Err Refused
key_of_arg (Some (Whole n)) = Ok (Some (signed_decimal n))
key_of_arg (Some Other) = Err Refused

abbrev pub key_of : KeyFrom → List Arg → Result (Option (List ℕ)) KeyFault
key_of (Fixed text) args = Ok (Some text)
key_of (Argument n) args = key_of_arg (slice_get args n)

-- ---- limits

abbrev pub limit_on : Limit → Option (List ℕ) → Option Limited
limit_on limit None = None
limit_on limit (Some text) = Some (record { key = limit.group ++ (codes "/" ++ text); to = limit.to; duration = limit.duration * 1_000_000; discard = limit.discard })

abbrev pub limited_by : Option Limit → List Arg → Result (Option Limited) KeyFault
limited_by None args = Ok None
limited_by (Some limit) args = key_of limit.key args >>= λ key. Ok (limit_on limit key)

-- the limit on a job of a class with these arguments, if there is one
abbrev pub limited_of : Config → List ℕ → List Arg → Result (Option Limited) KeyFault
limited_of config class args = limited_by (limit_in (find_class class config.classes)) args

-- ---- refused arguments

abbrev pub is_refused : {X : Type 0} → Result X KeyFault → Bool
is_refused (Ok x) = false
is_refused (Err fault) = true

-- a class with this limit takes no job with these arguments
abbrev pub refuses_key : Option Limit → List Arg → Bool
refuses_key None args = false
refuses_key (Some limit) args = is_refused (key_of limit.key args)
