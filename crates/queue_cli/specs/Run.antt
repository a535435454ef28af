-- The whole promise of a run.
use Rattle.std.specs.Prelude.{◌≡◌, ◌⊎◌, ◌≤◌, ℕ, List, [], length, Option, None, Some, IsSome, Ok, Err}
use Rattle.sq_outside.specs.Fault.{Rose}
use Rattle.queue_config.specs.declared.config.Config.{Config}
use Rattle.toml_members.specs.declared.fault.SettingsFault.TheVariants as fault
use Rattle.queue_config.specs.Settings.{config_of}
use Rattle.queue_engine.specs.Running.{Running, Store, running}
use Rattle.queue_http.specs.Service.{DiskState, service}
use Rattle.queue_cli.specs.Answering.{AnswersFrom, AreItems, Session, session}
use Rattle.queue_cli.specs.Command.{command_of}
use Rattle.queue_cli.specs.declared.command.Command.{Command}
use Rattle.queue_cli.specs.declared.command.Command.TheVariants.{Exec, Status, Trace}
use Rattle.queue_cli.specs.declared.end.End.{End}
use Rattle.queue_cli.specs.declared.end.End.TheVariants.{Usage}
use Rattle.queue_cli.specs.Exec.{requests}
use Rattle.queue_cli.specs.ExitStatus.{exit_status}
use Rattle.queue_cli.specs.Journal.{HasJournal, IsAcceptedFile, IsRefusedFile, LacksJournal, Reads}
use Rattle.queue_cli.specs.LastText.{last_text, WritesLast}
use Rattle.queue_cli.specs.Outside.{Outside}
use Rattle.queue_cli.specs.Protocol.{Protocol}
use Rattle.queue_cli.specs.Settings.{HasSettings, LacksSettings}
use Rattle.queue_cli.specs.Status.{Prints, counts_of, status_text}
use Rattle.queue_cli.specs.Trace.{lines}

-- ---- how each command ends

-- the words are no command: nothing is read, and this is said
pub record IsUsage (old new : Outside) (end : End) : Type 0 where
  pub usage : end ≡ Usage
  pub settings : new.settings ≡ old.settings
  pub input : new.input ≡ old.input
  pub disk : new.disk ≡ old.disk
  pub moments : new.moments ≡ old.moments
  pub written : WritesLast old.output new.output [] (last_text end)

-- there are no settings: nothing is read of the input and of the disk, and the cause is said
pub record EndsWithoutSettings (old new : Outside) (end : End) : Type 0 where
  pub cause : LacksSettings old.settings new.settings end
  pub input : new.input ≡ old.input
  pub disk : new.disk ≡ old.disk
  pub moments : new.moments ≡ old.moments
  pub written : WritesLast old.output new.output [] (last_text end)

-- there are settings, and the journal isn't opened: nothing is read of the input, and the cause is said
pub record EndsWithoutJournal (old new : Outside) (end : End) : Type 0 where
  pub settings : Config
  pub accepted : HasSettings old.settings new.settings settings
  pub cause : LacksJournal old.disk new.disk end
  pub input : new.input ≡ old.input
  pub moments : new.moments ≡ old.moments
  pub written : WritesLast old.output new.output [] (last_text end)

-- ---- commands over an engine

-- the engine, the clock, the disk, the input and the output of a run
abbrev pub session_of : Running → DiskState → Outside → Session
session_of running disk o = session (service running o.moments disk) o.input o.output

-- the input's items are answered from the recovered world on, with nothing in doubt
abbrev pub RunsOn : Protocol → Store → DiskState → Outside → Outside → End → Type 0
RunsOn p engine disk old new end = AnswersFrom p (session_of (running engine None) disk old) new.input new.output new.disk new.moments end

-- the counts of the recovered world are printed, and nothing is read
pub record RunsStatus (engine : Store) (opened : DiskState) (old new : Outside) (end : End) : Type 0 where
  pub prints : Prints old.output new.output (status_text (counts_of engine.book.world)) end
  pub input : new.input ≡ old.input
  pub moments : new.moments ≡ old.moments
  pub disk : new.disk ≡ opened

-- lines are answered so, and the clock isn't asked
pub record RunsTrace (engine : Store) (opened : DiskState) (old new : Outside) (end : End) : Type 0 where
  pub answers : RunsOn lines engine opened old new end
  pub moments : new.moments ≡ old.moments

abbrev pub RunsOver : Command → Store → DiskState → Outside → Outside → End → Type 0
RunsOver Exec engine disk old new end = RunsOn requests engine disk old new end
RunsOver Status engine disk old new end = RunsStatus engine disk old new end
RunsOver Trace engine disk old new end = RunsTrace engine disk old new end

-- there are settings, the journal is opened, and then the disk is this one; the command works on the engine
pub record RunsOpened (command : Command) (old new : Outside) (end : End) : Type 0 where
  pub settings : Config
  pub accepted : HasSettings old.settings new.settings settings
  pub engine : Store
  pub disk : DiskState
  pub opened : HasJournal settings old.disk disk engine
  pub runs : RunsOver command engine disk old new end

-- what the command does
abbrev pub Performs : Option Command → Outside → Outside → End → Type 0
Performs None old new end = IsUsage old new end
Performs (Some command) old new end = EndsWithoutSettings old new end ⊎ EndsWithoutJournal old new end ⊎ RunsOpened command old new end

-- ---- the whole

-- the exit status is that of an end of the command that the words name
pub record HasOutcome (words : List (List ℕ)) (old new : Outside) (status : ℕ) : Type 0 where
  pub end : End
  pub is : status ≡ exit_status end
  pub performs : Performs (command_of words) old new end

-- where the settings are refused the status is 3, unless their source fails or there is no memory
abbrev pub RefusesSettings : List (List ℕ) → Outside → Outside → ℕ → Type 0
RefusesSettings words old new status =
    IsSome (command_of words)
    → (text : List ℕ) (number : ℕ) (key : List ℕ) → old.settings.left ≡ Some text → config_of text ≡ Err (fault.Refused number key)
    → (Rose old.settings.faults new.settings.faults → ⊥)
    → (status ≡ 3) ⊎ (status ≡ 7)

-- where the settings are accepted and the journal is refused the status is 8, unless their source or the disk fails or there
-- is no memory
abbrev pub RefusesJournal : List (List ℕ) → Outside → Outside → ℕ → Type 0
RefusesJournal words old new status =
    IsSome (command_of words)
    → (text : List ℕ) (settings : Config) → old.settings.left ≡ Some text → config_of text ≡ Ok settings
    → Reads IsRefusedFile old.disk.history
    → (Rose old.settings.faults new.settings.faults → ⊥) → (Rose old.disk.faults new.disk.faults → ⊥)
    → (status ≡ 8) ⊎ (status ≡ 7)

-- where settings and journal are accepted and the input is a sequence of items the status of the command that answers them is 0,
-- unless something fails or there is no memory
abbrev pub IsComplete : Protocol → Command → List (List ℕ) → Outside → Outside → ℕ → Type 0
IsComplete p command words old new status =
    command_of words ≡ Some command
    → (text : List ℕ) (settings : Config) → old.settings.left ≡ Some text → config_of text ≡ Ok settings
    → Reads IsAcceptedFile old.disk.history
    → (bytes : List ℕ) (items : List p.Item) (rest : List ℕ) → old.input.left ≡ Some bytes → AreItems p bytes items rest → p.IsEnd rest → length bytes ≤ 1_073_741_824
    → (Rose old.settings.faults new.settings.faults → ⊥) → (Rose old.input.faults new.input.faults → ⊥) → (Rose old.output.faults new.output.faults → ⊥) → (Rose old.disk.faults new.disk.faults → ⊥)
    → (status ≡ 0) ⊎ (status ≡ 7)

-- so is that of `status`
abbrev pub IsStatusComplete : List (List ℕ) → Outside → Outside → ℕ → Type 0
IsStatusComplete words old new status =
    command_of words ≡ Some Status
    → (text : List ℕ) (settings : Config) → old.settings.left ≡ Some text → config_of text ≡ Ok settings
    → Reads IsAcceptedFile old.disk.history
    → (Rose old.settings.faults new.settings.faults → ⊥) → (Rose old.output.faults new.output.faults → ⊥) → (Rose old.disk.faults new.disk.faults → ⊥)
    → (status ≡ 0) ⊎ (status ≡ 7)

-- a run with these words, from the old outside to the new one, with this exit status
pub record Runs (words : List (List ℕ)) (old new : Outside) (status : ℕ) : Type 0 where
  pub outcome : HasOutcome words old new status
  pub refused : RefusesSettings words old new status
  pub refused_journal : RefusesJournal words old new status
  pub complete : IsComplete requests Exec words old new status
  pub complete_trace : IsComplete lines Trace words old new status
  pub complete_status : IsStatusComplete words old new status
