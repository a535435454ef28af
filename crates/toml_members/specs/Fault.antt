-- What can be wrong with settings, and the key that it is about.
use Rattle.std.specs.Prelude.{ℕ, List, Result, Err}
use Rattle.toml_members.specs.declared.fault.SettingsFault.{SettingsFault}
use Rattle.toml_members.specs.declared.fault.SettingsFault.TheVariants.{Refused}

-- a value, or the first thing that is wrong
abbrev pub Judged : Type 0 → Type 0
Judged X = Result X SettingsFault

abbrev pub no_document : {X : Type 0} → List ℕ → Judged X
no_document key = Err (Refused 1 key)

abbrev pub unknown : {X : Type 0} → List ℕ → Judged X
unknown key = Err (Refused 2 key)

abbrev pub missing : {X : Type 0} → List ℕ → Judged X
missing key = Err (Refused 3 key)

abbrev pub wrong_kind : {X : Type 0} → List ℕ → Judged X
wrong_kind key = Err (Refused 4 key)

abbrev pub not_allowed : {X : Type 0} → List ℕ → Judged X
not_allowed key = Err (Refused 5 key)
