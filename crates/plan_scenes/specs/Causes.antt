-- Causes of refusals, as what a call gives that looks for them.
use Rattle.std.specs.Prelude.{Option, None, Some, Result, Ok, Err}
use Rattle.job_states.specs.declared.answer.Refused.{Refused}

-- this, unless the cause is met
abbrev pub or_refused : {X : Type 0} → Option Refused → X → Result X Refused
or_refused None x = Ok x
or_refused (Some refused) x = Err refused

-- nothing, unless the cause is met
abbrev pub unless : Option Refused → Result (Unit {0}) Refused
unless None = Ok tt
unless (Some refused) = Err refused
