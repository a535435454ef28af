-- The settings of a run, which are read before anything else is.
use Rattle.std.specs.Prelude.{◌≡◌, ℕ, List, take, Option, IfSome, Ok, Err}
use Rattle.std.specs.Io.KnownBytes.{Consumes}
use Rattle.sq_outside.specs.Fault.{Rose}
use Rattle.sq_outside.specs.Streams.{SourceState}
use Rattle.queue_config.specs.declared.config.Config.{Config}
use Rattle.queue_config.specs.Settings.{config_of}
use Rattle.toml_members.specs.declared.fault.SettingsFault.TheVariants as fault
use Rattle.queue_cli.specs.declared.end.End.{End}
use Rattle.queue_cli.specs.declared.end.End.TheVariants.{BadSettings, ReadFault, NoMemory}

-- text was taken: all that was left, or so many bytes of it
pub record TakesPrefix (most : ℕ) (left left' : Option (List ℕ)) (text : List ℕ) : Type 0 where
  pub taken : Consumes left left' text
  pub whole : IfSome left (λ bytes. text ≡ take most bytes)

-- one byte more than settings may have shows that there are too many
abbrev pub most_read : ℕ
most_read = 1_048_577

-- the settings are those of what was read
pub record HasSettings (old new : SourceState) (settings : Config) : Type 0 where
  pub text : List ℕ
  pub read : TakesPrefix most_read old.left new.left text
  pub accepted : config_of text ≡ Ok settings

-- what was read is refused
pub record AreRefused (old new : SourceState) (number : ℕ) (key : List ℕ) : Type 0 where
  pub text : List ℕ
  pub read : TakesPrefix most_read old.left new.left text
  pub refused : config_of text ≡ Err (fault.Refused number key)

-- why a run ends that has no settings
abbrev pub LacksSettings : SourceState → SourceState → End → Type 0
LacksSettings old new (BadSettings number key) = AreRefused old new number key
LacksSettings old new ReadFault = Rose old.faults new.faults
LacksSettings old new NoMemory = Unit {0}
LacksSettings old new _ = ⊥
