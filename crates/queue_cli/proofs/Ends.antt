-- What is written last.
use Rattle.std.proofs.Common.{◌≡◌, ◌⊎◌, ℕ, List, [], Option, None, Some, IfNone, Result, Ok, Err, OnOk, OnErr, is_err, true, false, inl, inr, refl, sym, ◌∙◌, subst, append-nil}
use Rattle.std.specs.Io.KnownBytes.{Appends}
use Rattle.std.proofs.KnownBytes.{Appends-nil}
use Rattle.sq_outside.specs.Fault.{Rose}
use Rattle.sq_outside.specs.Streams.{SinkState}
use Rattle.http_wire.specs.Reply.{AppendsPrefix}
use Rattle.journal_keeper.specs.declared.fault.OpenFault.{OpenFault}
use Rattle.journal_keeper.specs.declared.fault.OpenFault.TheVariants as fault
use Rattle.queue_config.specs.declared.config.Config.{Config}
use Rattle.queue_cli.specs.declared.command.Command.{Command}
use Rattle.queue_cli.specs.declared.end.End.{End}
use Rattle.queue_cli.specs.declared.end.End.TheVariants.{BadSettings, ReadFault, NoMemory}
use Rattle.queue_cli.specs.Journal.{LacksJournal, open_end}
use Rattle.queue_cli.specs.LastText.{IsReported, IsUnreported, WritesLast, Reports}
use Rattle.queue_cli.specs.Outside.{Outside}
use Rattle.queue_cli.specs.Run.{EndsWithoutJournal, EndsWithoutSettings, Performs}
use Rattle.queue_cli.specs.Settings.{HasSettings, LacksSettings}

-- a piece, written whole or not
pub last_written : {T E : Type 0} (r : Result T E) (old new : SinkState) (text last : List ℕ) → text ≡ last
    → OnOk r (Appends old.written new.written text) → OnErr r (AppendsPrefix old.written new.written text) → OnErr r (Rose old.faults new.faults) → WritesLast old new [] last
last_written (Ok x) old new text last same whole prefix cause = record { part = text; after = []; parts = sym same ∙ sym (append-nil text); written = whole; whole = inl refl }
last_written (Err e) old new text last same whole prefix cause = record { part = prefix.prefix; after = prefix.rest; parts = sym same ∙ prefix.parts; written = prefix.added; whole = inr cause }

-- nothing is written
pub nothing : (old new : SinkState) → old ≡ new → WritesLast old new [] []
nothing old new same =
    let P : SinkState → Type 0 = λ output. WritesLast old output [] [] in
    subst P same (record { part = []; after = []; parts = refl; written = Appends-nil old.written; whole = inl refl })

-- the end of a run without settings is reported
without_settings : (old new : Outside) (end reported : End) → LacksSettings old.settings new.settings end → new.input ≡ old.input → new.disk ≡ old.disk → new.moments ≡ old.moments
    → Reports old.output new.output end reported → EndsWithoutSettings old new reported
without_settings old new (BadSettings number key) reported cause input disk moments (inl is) =
    let P : End → Type 0 = EndsWithoutSettings old new in
    subst P (sym is.same) (record { cause = cause; input = input; disk = disk; moments = moments; written = is.written })
without_settings old new (BadSettings number key) reported cause input disk moments (inr none) =
    let P : End → Type 0 = EndsWithoutSettings old new in
    subst P (sym none.memory) (record { cause = tt; input = input; disk = disk; moments = moments; written = nothing old.output new.output none.output })
without_settings old new ReadFault reported cause input disk moments is =
    let P : End → Type 0 = EndsWithoutSettings old new in
    subst P (sym is.same) (record { cause = cause; input = input; disk = disk; moments = moments; written = is.written })
without_settings old new NoMemory reported cause input disk moments is =
    let P : End → Type 0 = EndsWithoutSettings old new in
    subst P (sym is.same) (record { cause = cause; input = input; disk = disk; moments = moments; written = is.written })
without_settings old new other reported cause input disk moments is = absurd cause

-- ---- the journal isn't opened

reported_or_not : (old new : SinkState) (f : OpenFault) (reported : End) → Reports old new (open_end f) reported → IsReported old new (open_end f) reported ⊎ IsUnreported old new reported
reported_or_not old new (fault.NotAJournal file) reported is = is
reported_or_not old new (fault.Version file n) reported is = is
reported_or_not old new (fault.BadRecord at) reported is = is
reported_or_not old new fault.DiskFault reported is = inl is
reported_or_not old new fault.NoMemory reported is = inl is

-- the end of a run without a journal is reported
without_journal : (old new : Outside) (settings : Config) (end reported : End) → HasSettings old.settings new.settings settings → LacksJournal old.disk new.disk end
    → new.input ≡ old.input → new.moments ≡ old.moments → Reports old.output new.output end reported → EndsWithoutJournal old new reported
without_journal old new settings end reported accepted lacks input moments reports =
    let P : End → Type 0 = EndsWithoutJournal old new in
    let Q : End → Type 0 = λ e. Reports old.output new.output e reported in
    let R : End → Type 0 = LacksJournal old.disk new.disk in
    elim (reported_or_not old.output new.output lacks.fault reported (subst Q lacks.end_is reports)) [
      | inl is ↦ subst P (sym is.same) (record { settings = settings; accepted = accepted; cause = subst R lacks.end_is lacks; input = input; moments = moments; written = is.written })
      | inr none ↦ subst P (sym none.memory) (record {
        settings = settings;
        accepted = accepted;
        cause = record { fault = fault.NoMemory; end_is = refl; why = tt; blamed = tt; kept = lacks.kept; accepted = λ w doubt was. tt; other = lacks.other };
        input = input;
        moments = moments;
        written = nothing old.output new.output none.output;
      })
    ]

-- the end of a run that lacks one of them is reported
pub without_engine : (command : Command) (old new : Outside) (end reported : End)
    → (LacksSettings old.settings new.settings end × (new.disk ≡ old.disk)) ⊎ ((settings : Config) × HasSettings old.settings new.settings settings × LacksJournal old.disk new.disk end)
    → new.input ≡ old.input → new.moments ≡ old.moments → Reports old.output new.output end reported → Performs (Some command) old new reported
without_engine command old new end reported (inl lacks) input moments reports = inl (without_settings old new end reported lacks.0 input lacks.1 moments reports)
without_engine command old new end reported (inr lacks) input moments reports = inr (inl (without_journal old new lacks.0 end reported lacks.1 lacks.2 input moments reports))

-- ---- what a call says by its answer

pub if_none : {A : Type 0} (o : Option A) (P : Type 0) → o ≡ None → IfNone o P → P
if_none None P is fact = fact
if_none (Some x) P is fact = (cc)

pub err_known : {T E : Type 0} (r : Result T E) (P : Type 0) → is_err r ≡ true → OnErr r P → P
err_known (Ok x) P never fact = (cc)
err_known (Err e) P is fact = fact

pub ok_known : {T E : Type 0} (r : Result T E) (P : Type 0) → is_err r ≡ false → OnOk r P → P
ok_known (Ok x) P is fact = fact
ok_known (Err e) P never fact = (cc)
