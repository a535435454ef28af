use Rattle.std.specs.Prelude.{◌≡◌, ◌<◌, ℕ, List, [], length}
use Rattle.job_states.specs.Length.{IsName}
use Rattle.job_states.specs.declared.name.NameFault.{NameFault}
use Rattle.job_states.specs.declared.name.NameFault.TheVariants.{Empty, TooLong, NoMemory}

-- why the text of these bytes isn't read as a name
abbrev pub IsNameFault : List ℕ → NameFault → Type 0
IsNameFault bytes Empty = bytes ≡ []
IsNameFault bytes (TooLong len) = (len ≡ length bytes) × (128 < len)
IsNameFault bytes NoMemory = IsName bytes
