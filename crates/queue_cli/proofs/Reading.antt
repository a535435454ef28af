-- Which exit status comes where settings, journal and input are known.
use Rattle.std.proofs.Common.{◌≡◌, ◌≤◌, ◌⊎◌, ◌+◌, inl, inr, ℕ, List, ◌++◌, length, take, drop, length-append, Ok, Err, ap, ◌∙◌, Option, None, Some, IfSome, IsSome, refl, sym, subst, arith}
use Rattle.std.specs.Io.KnownBytes.{Consumes}
use Rattle.sq_outside.specs.Disk.{History}
use Rattle.sq_outside.specs.Fault.{Rose}
use Rattle.sq_outside.specs.Streams.{SinkState, SourceState}
use Rattle.journal_keeper.specs.Answers.{IsBlamed}
use Rattle.journal_keeper.specs.Files.{IsForeignFile, IsVersionFile}
use Rattle.journal_keeper.specs.declared.fault.OpenFault.{OpenFault}
use Rattle.journal_keeper.specs.declared.fault.OpenFault.TheVariants as opens
use Rattle.journal_replay.specs.Opening.{IsFault}
use Rattle.journal_replay.specs.Records.{IsBadAt, RecoversWorld}
use Rattle.queue_config.specs.declared.config.Config.{Config}
use Rattle.toml_members.specs.declared.fault.SettingsFault.TheVariants as fault
use Rattle.queue_config.specs.Settings.{config_of}
use Rattle.queue_engine.specs.Running.{Store}
use Rattle.queue_http.specs.Service.{DiskState}
use Rattle.queue_model.specs.World.{World}
use Rattle.queue_cli.specs.Answering.{AnswersPrefix, AreItems, Exchange, IsRefusedAt, Session, items_of}
use Rattle.queue_cli.specs.Command.{command_of}
use Rattle.queue_cli.specs.declared.command.Command.{Command}
use Rattle.queue_cli.specs.declared.command.Command.TheVariants.{Exec, Status, Trace}
use Rattle.queue_cli.specs.declared.end.End.{End}
use Rattle.queue_cli.specs.declared.end.End.TheVariants as ends
use Rattle.queue_cli.specs.Exec.{requests}
use Rattle.queue_cli.specs.ExitStatus.{exit_status}
use Rattle.queue_cli.specs.Journal.{IsAcceptedFile, IsRefusedFile, LacksJournal, Reads, open_end}
use Rattle.queue_cli.specs.Outside.{Outside}
use Rattle.queue_cli.specs.Protocol.{Protocol}
use Rattle.queue_cli.specs.Run.{Performs, Runs, RunsOver}
use Rattle.queue_cli.specs.Settings.{HasSettings, TakesPrefix, most_read, LacksSettings}
use Rattle.queue_cli.specs.Status.{Prints}
use Rattle.queue_cli.specs.Trace.{lines}
use Rattle.queue_cli.proofs.Items.{IsReadOneWay, not_refused}
use Rattle.queue_cli.proofs.Lines.{lines_one_way}
use Rattle.queue_cli.proofs.Requests.{requests_one_way}
use Rattle.queue_cli.proofs.SettingsLemmas.{judged_prefix}

-- what was taken is part of the whole input
taken_of_known : (left left' : Option (List ℕ)) (bytes taken : List ℕ) → left ≡ Some bytes → Consumes left left' taken → (rest : List ℕ) × (bytes ≡ taken ++ rest)
taken_of_known left left' bytes taken is consumed =
    let P : Option (List ℕ) → Type 0 = λ left. Consumes left left' taken in
    known left' (subst P is consumed)
  where
    known : (left' : Option (List ℕ)) → Consumes (Some bytes) left' taken → (rest : List ℕ) × (bytes ≡ taken ++ rest)
    known None consumed = absurd consumed
    known (Some rest) consumed = (rest, consumed)

-- a sequence of items is answered whole, or there is no memory for it
module _ (p : Protocol) (one_way : IsReadOneWay p) (old new : Session) where
  not_refused_at : (end : End) (bytes : List ℕ) (items : List p.Item) (rest : List ℕ) → old.input.left ≡ Some bytes → AreItems p bytes items rest → p.IsEnd rest
      → (taken pending : List ℕ) (exchanges : List (Exchange p)) → Consumes old.input.left new.input.left taken → AreItems p taken (items_of exchanges) pending → IsRefusedAt p end old.input taken pending → ⊥
  not_refused_at end bytes items rest is are at_end taken pending exchanges consumed first refused =
      let known = taken_of_known old.input.left new.input.left bytes taken is consumed in
      let P : Option (List ℕ) → Type 0 = λ left. IfSome left (λ bytes. p.IsRefused (drop refused.at bytes) refused.refusal) in
      not_refused p one_way bytes items rest taken (items_of exchanges) pending refused.at refused.refusal known.0 are at_end known.1 first refused.place (subst P is refused.refused)

  done_or_no_memory : (end : End) → AnswersPrefix p old new end → (bytes : List ℕ) (items : List p.Item) (rest : List ℕ) → old.input.left ≡ Some bytes → AreItems p bytes items rest → p.IsEnd rest → length bytes ≤ 1073741824
      → (Rose old.input.faults new.input.faults → ⊥) → (Rose old.output.faults new.output.faults → ⊥) → (exit_status end ≡ 0) ⊎ (exit_status end ≡ 7)
  done_or_no_memory ends.Done answers bytes items rest is are at_end short reads writes = inl refl
  done_or_no_memory (ends.BadInput at refusal) answers bytes items rest is are at_end short reads writes =
      absurd (not_refused_at (ends.BadInput at refusal) bytes items rest is are at_end answers.taken answers.pending answers.exchanges answers.consumed answers.items answers.cause)
  done_or_no_memory (ends.BadLine at) answers bytes items rest is are at_end short reads writes =
      absurd (not_refused_at (ends.BadLine at) bytes items rest is are at_end answers.taken answers.pending answers.exchanges answers.consumed answers.items answers.cause)
  done_or_no_memory ends.ReadFault answers bytes items rest is are at_end short reads writes = absurd (reads answers.cause.0)
  done_or_no_memory ends.WriteFault answers bytes items rest is are at_end short reads writes = absurd (writes answers.written.fault)
  done_or_no_memory ends.NoMemory answers bytes items rest is are at_end short reads writes = inr refl
  done_or_no_memory ends.InputTooLong answers bytes items rest is are at_end short reads writes =
      let known = taken_of_known old.input.left new.input.left bytes answers.taken is answers.consumed in
      let whole : length bytes ≡ length answers.taken + length known.0 = ap length known.1 ∙ length-append answers.taken known.0 in
      absurd (omega (arith, whole, short, answers.cause.full))
  done_or_no_memory other answers bytes items rest is are at_end short reads writes = absurd answers.cause

-- what was read of the settings is judged as the whole of them
prefix_judged : (left left' : Option (List ℕ)) (prefix text : List ℕ) → TakesPrefix most_read left left' prefix → left ≡ Some text → config_of prefix ≡ config_of text
prefix_judged left left' prefix text read is =
    let P : Option (List ℕ) → Type 0 = λ left. IfSome left (λ bytes. prefix ≡ take 1048577 bytes) in
    let same : prefix ≡ take 1048577 text = subst P is read.whole in
    ap config_of same ∙ judged_prefix text

-- settings that are accepted don't end a run
not_accepted : (old new : SourceState) (end : End) → LacksSettings old new end → (text : List ℕ) (settings : Config) → old.left ≡ Some text → config_of text ≡ Ok settings
    → (Rose old.faults new.faults → ⊥) → exit_status end ≡ 7
not_accepted old new (ends.BadSettings number key) refused text settings left accepted reads =
    let judged = prefix_judged old.left new.left refused.text text refused.read left in
    let because = refused.refused in
    (cc)
not_accepted old new ends.ReadFault rose text settings left accepted reads = absurd (reads rose)
not_accepted old new ends.NoMemory none text settings left accepted reads = refl
not_accepted old new other never text settings left accepted reads = absurd never

-- settings that are refused end it
not_read : (old new : SourceState) (end : End) → LacksSettings old new end → (Rose old.faults new.faults → ⊥) → (exit_status end ≡ 3) ⊎ (exit_status end ≡ 7)
not_read old new (ends.BadSettings number key) refused reads = inl refl
not_read old new ends.ReadFault rose reads = absurd (reads rose)
not_read old new ends.NoMemory none reads = inr refl
not_read old new other never reads = absurd never

-- then nothing is accepted
not_both : (old new : SourceState) (text : List ℕ) (number : ℕ) (key : List ℕ) (settings : Config) → HasSettings old new settings → old.left ≡ Some text → config_of text ≡ Err (fault.Refused number key) → ⊥
not_both old new text number key settings has left refused =
    let judged = prefix_judged old.left new.left has.text text has.read left in
    let because = has.accepted in
    (cc)

settings_refused : (command : Option Command) (old new : Outside) (end : End) → Performs command old new end → IsSome command
    → (text : List ℕ) (number : ℕ) (key : List ℕ) → old.settings.left ≡ Some text → config_of text ≡ Err (fault.Refused number key)
    → (Rose old.settings.faults new.settings.faults → ⊥) → (exit_status end ≡ 3) ⊎ (exit_status end ≡ 7)
settings_refused None old new end usage some text number key left refused reads = (cc)
settings_refused (Some command) old new end (inl without) some text number key left refused reads = not_read old.settings new.settings end without.cause reads
settings_refused (Some command) old new end (inr (inl without)) some text number key left refused reads = absurd (not_both old.settings new.settings text number key without.settings without.accepted left refused)
settings_refused (Some command) old new end (inr (inr opened)) some text number key left refused reads = absurd (not_both old.settings new.settings text number key opened.settings opened.accepted left refused)

-- ---- the journal

-- a file that is recovered isn't refused
abbrev pub IsOneVerdict : Type 0
IsOneVerdict = (file : List ℕ) (w : World) → RecoversWorld file w → IsRefusedFile file → ⊥

pub one_verdict : ((file : List ℕ) (w : World) → RecoversWorld file w → IsForeignFile file → ⊥) → ((file : List ℕ) (n : ℕ) (w : World) → RecoversWorld file w → IsVersionFile n file → ⊥)
    → ((file : List ℕ) (w : World) (at : ℕ) → RecoversWorld file w → IsBadAt file at → ⊥) → IsOneVerdict
one_verdict foreign version bad file w recovers (inl is) = foreign file w recovers is
one_verdict foreign version bad file w recovers (inr (inl (n, is))) = version file n w recovers is
one_verdict foreign version bad file w recovers (inr (inr (at, is))) = bad file w at recovers is

-- why a journal isn't opened whose file is accepted
fault_accepted : IsOneVerdict → (before after : Option History) (f : OpenFault) → Reads IsAcceptedFile before → IsFault before after f → (f ≡ opens.DiskFault) ⊎ (f ≡ opens.NoMemory)
fault_accepted one None after f never why = absurd never
fault_accepted one (Some h) after (opens.NotAJournal file) accepted why = absurd (one h.now.0.reads accepted.0 accepted.1 (inl why.1.0))
fault_accepted one (Some h) after (opens.Version file n) accepted why = absurd (one h.now.0.reads accepted.0 accepted.1 (inr (inl (n, why.1.0))))
fault_accepted one (Some h) after (opens.BadRecord at) accepted why = absurd (one h.now.0.reads accepted.0 accepted.1 (inr (inr (at, why.0))))
fault_accepted one (Some h) after opens.DiskFault accepted why = inl refl
fault_accepted one (Some h) after opens.NoMemory accepted why = inr refl

-- a journal that is accepted doesn't end a run
not_lacking : IsOneVerdict → (old new : DiskState) (end : End) → LacksJournal old new end → Reads IsAcceptedFile old.history → (Rose old.faults new.faults → ⊥) → exit_status end ≡ 7
not_lacking one old new end lacks accepted faults = ap exit_status lacks.end_is ∙ elim (fault_accepted one old.history new.history lacks.fault accepted lacks.why) [
  | inl disk ↦ absurd (faults (subst (IsBlamed old.faults new.faults) disk lacks.blamed))
  | inr memory ↦ ap (λ f. exit_status (open_end f)) memory
]

-- one that is refused ends it
lacking : (old new : DiskState) (f : OpenFault) → IsBlamed old.faults new.faults f → (Rose old.faults new.faults → ⊥) → (exit_status (open_end f) ≡ 8) ⊎ (exit_status (open_end f) ≡ 7)
lacking old new (opens.NotAJournal file) blamed faults = inl refl
lacking old new (opens.Version file n) blamed faults = inl refl
lacking old new (opens.BadRecord at) blamed faults = inl refl
lacking old new opens.DiskFault blamed faults = absurd (faults blamed)
lacking old new opens.NoMemory blamed faults = inr refl

not_opened : IsOneVerdict → (before : Option History) (w : World) → IfSome before (λ h. RecoversWorld h.now.0.reads w) → Reads IsRefusedFile before → ⊥
not_opened one None w recovered never = never
not_opened one (Some h) w recovered refused = one h.now.0.reads w recovered refused

journal_refused : IsOneVerdict → (command : Option Command) (old new : Outside) (end : End) → Performs command old new end → IsSome command
    → (text : List ℕ) (settings : Config) → old.settings.left ≡ Some text → config_of text ≡ Ok settings → Reads IsRefusedFile old.disk.history
    → (Rose old.settings.faults new.settings.faults → ⊥) → (Rose old.disk.faults new.disk.faults → ⊥) → (exit_status end ≡ 8) ⊎ (exit_status end ≡ 7)
journal_refused one None old new end usage some text settings left accepted refused reads faults = (cc)
journal_refused one (Some command) old new end (inl without) some text settings left accepted refused reads faults = inr (not_accepted old.settings new.settings end without.cause text settings left accepted reads)
journal_refused one (Some command) old new end (inr (inl without)) some text settings left accepted refused reads faults =
    let P : End → Type 0 = λ end. (exit_status end ≡ 8) ⊎ (exit_status end ≡ 7) in
    subst P (sym without.cause.end_is) (lacking old.disk new.disk without.cause.fault without.cause.blamed faults)
journal_refused one (Some command) old new end (inr (inr opened)) some text settings left accepted refused reads faults =
    absurd (not_opened one old.disk.history opened.engine.book.world opened.opened.opens.recovered refused)

-- ---- the whole

-- a command ends with 0 or 7 where it does so over an engine
complete : IsOneVerdict → (command : Command) (old new : Outside) (end : End) → Performs (Some command) old new end
    → ((engine : Store) (disk : DiskState) → RunsOver command engine disk old new end → (exit_status end ≡ 0) ⊎ (exit_status end ≡ 7))
    → (text : List ℕ) (settings : Config) → old.settings.left ≡ Some text → config_of text ≡ Ok settings → Reads IsAcceptedFile old.disk.history
    → (Rose old.settings.faults new.settings.faults → ⊥) → (Rose old.disk.faults new.disk.faults → ⊥) → (exit_status end ≡ 0) ⊎ (exit_status end ≡ 7)
complete one command old new end (inl without) over text settings left accepted journal file faults = inr (not_accepted old.settings new.settings end without.cause text settings left accepted file)
complete one command old new end (inr (inl without)) over text settings left accepted journal file faults = inr (not_lacking one old.disk new.disk end without.cause journal faults)
complete one command old new end (inr (inr opened)) over text settings left accepted journal file faults = over opened.engine opened.disk opened.runs

-- the counts are printed, or there is no memory for them
printed_or_no_memory : (old new : SinkState) (text : List ℕ) (end : End) → Prints old new text end → (Rose old.faults new.faults → ⊥) → (exit_status end ≡ 0) ⊎ (exit_status end ≡ 7)
printed_or_no_memory old new text ends.Done prints writes = inl refl
printed_or_no_memory old new text ends.WriteFault prints writes = absurd (writes prints.1)
printed_or_no_memory old new text ends.NoMemory prints writes = inr refl
printed_or_no_memory old new text other never writes = absurd never

-- the whole promise follows from what the command does
pub runs : IsOneVerdict → (words : List (List ℕ)) (old new : Outside) (end : End) (status : ℕ) → Performs (command_of words) old new end → status ≡ exit_status end → Runs words old new status
runs one words old new end status performs is =
    let P : Option Command → Type 0 = λ command. Performs command old new end in
    record {
      outcome = record { end = end; is = is; performs = performs };
      refused = λ some text number key left refused reads.
          (let Q : ℕ → Type 0 = λ status. (status ≡ 3) ⊎ (status ≡ 7) in
          subst Q (sym is) (settings_refused (command_of words) old new end performs some text number key left refused reads));
      refused_journal = λ some text settings left accepted journal reads faults.
          (let Q : ℕ → Type 0 = λ status. (status ≡ 8) ⊎ (status ≡ 7) in
          subst Q (sym is) (journal_refused one (command_of words) old new end performs some text settings left accepted journal reads faults));
      complete = λ exec text settings left accepted journal bytes items rest here are at_end short file reads writes faults.
          (let Q : ℕ → Type 0 = λ status. (status ≡ 0) ⊎ (status ≡ 7) in
          subst Q (sym is) (complete one Exec old new end (subst P exec performs)
          (λ engine disk runs. done_or_no_memory requests requests_one_way _ _ end runs.answers bytes items rest here are at_end short reads writes) text settings left accepted journal file faults));
      complete_trace = λ trace text settings left accepted journal bytes items rest here are at_end short file reads writes faults.
          (let Q : ℕ → Type 0 = λ status. (status ≡ 0) ⊎ (status ≡ 7) in
          subst Q (sym is) (complete one Trace old new end (subst P trace performs)
          (λ engine disk runs. done_or_no_memory lines lines_one_way _ _ end runs.answers.answers bytes items rest here are at_end short reads writes) text settings left accepted journal file faults));
      complete_status = λ status text settings left accepted journal file writes faults.
          (let Q : ℕ → Type 0 = λ status. (status ≡ 0) ⊎ (status ≡ 7) in
          subst Q (sym is) (complete one Status old new end (subst P status performs)
          (λ engine disk runs. printed_or_no_memory old.output new.output _ end runs.prints writes) text settings left accepted journal file faults));
    }
