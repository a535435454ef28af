-- What is judged once all tables are read, beside the faults of single members.
use Rattle.std.specs.Prelude.{ℕ, List, Option, Some, None, Ok, Err}
use Rattle.toml_members.specs.Fault.{Judged}
use Rattle.toml_members.specs.Key.{key_in, element_of}
use Rattle.toml_members.specs.declared.fault.SettingsFault.TheVariants.{Refused}

abbrev pub too_long : {X : Type 0} → List ℕ → Judged X
too_long key = Err (Refused 10 key)

-- nothing, where no element of an array is refused
abbrev pub unless_at : ℕ → List ℕ → List ℕ → Option ℕ → Judged (Unit {0})
unless_at number array key None = Ok tt
unless_at number array key (Some i) = Err (Refused number (key_in (element_of array i) key))
