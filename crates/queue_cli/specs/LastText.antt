-- What is written last.
use Rattle.std.specs.Prelude.{◌≡◌, ◌⊎◌, ℕ, List, [], ◌∷◌, ◌++◌, codes}
use Rattle.std.specs.Fmt.{decimal}
use Rattle.std.specs.Io.KnownBytes.{Appends}
use Rattle.sq_outside.specs.Fault.{Rose}
use Rattle.sq_outside.specs.Streams.{SinkState}
use Rattle.http_wire.specs.Reply.{reply_text}
use Rattle.queue_http.specs.Replies.{fault_reply}
use Rattle.trace_lines.specs.Printed.{bad_line_text}
use Rattle.queue_cli.specs.declared.end.End.{End}
use Rattle.queue_cli.specs.declared.end.End.TheVariants.{BadInput, BadLine, Usage, BadSettings, DiskFault, NoMemory, NotAJournal, JournalVersion, BadRecord, InputTooLong}

abbrev pub settings_line : ℕ → List ℕ → List ℕ
settings_line number key = codes "settings " ++ (decimal number ++ (codes " " ++ (key ++ codes "\n")))

-- what a number is said of
abbrev numbered : List ℕ → ℕ → List ℕ
numbered words n = words ++ (decimal n ++ codes "\n")

abbrev pub not_a_journal_line : (file : ℕ) → List ℕ
not_a_journal_line file = numbered (codes "journal not a journal in file ") file

abbrev pub version_line : (file n : ℕ) → List ℕ
version_line file n = codes "journal version " ++ (decimal n ++ numbered (codes " in file ") file)

abbrev pub bad_record_line : (at : ℕ) → List ℕ
bad_record_line at = numbered (codes "journal bad record at ") at

-- what is printed, and a line feed
abbrev pub printed_line : List ℕ → List ℕ
printed_line text = text ++ 10 ∷ []

-- an end's last text: a reply, a line or nothing
abbrev pub last_text : End → List ℕ
last_text (BadInput at refusal) = reply_text (fault_reply at refusal)
last_text (BadLine at) = printed_line (bad_line_text at)
last_text Usage = codes "usage\n"
last_text (BadSettings number key) = settings_line number key
last_text DiskFault = codes "disk fault\n"
last_text (NotAJournal file) = not_a_journal_line file
last_text (JournalVersion file n) = version_line file n
last_text (BadRecord at) = bad_record_line at
last_text InputTooLong = codes "input too long\n"
last_text _ = []

-- first was written, and then last, or a prefix of it where the output failed
pub record WritesLast (old new : SinkState) (first last : List ℕ) : Type 0 where
  pub part : List ℕ
  pub after : List ℕ
  pub parts : last ≡ part ++ after
  pub written : Appends old.written new.written (first ++ part)
  pub whole : (after ≡ []) ⊎ Rose old.faults new.faults

-- the end comes with its last text
pub record IsReported (old new : SinkState) (end reported : End) : Type 0 where
  pub same : reported ≡ end
  pub written : WritesLast old new [] (last_text end)

-- there is no memory for the last text, and nothing is written of it
pub record IsUnreported (old new : SinkState) (reported : End) : Type 0 where
  pub memory : reported ≡ NoMemory
  pub output : old ≡ new

-- how an end is reported; only the last texts that hold a value take memory
abbrev pub Reports : SinkState → SinkState → End → End → Type 0
Reports old new (BadInput at refusal) reported = IsReported old new (BadInput at refusal) reported ⊎ IsUnreported old new reported
Reports old new (BadLine at) reported = IsReported old new (BadLine at) reported ⊎ IsUnreported old new reported
Reports old new (BadSettings number key) reported = IsReported old new (BadSettings number key) reported ⊎ IsUnreported old new reported
Reports old new (NotAJournal file) reported = IsReported old new (NotAJournal file) reported ⊎ IsUnreported old new reported
Reports old new (JournalVersion file n) reported = IsReported old new (JournalVersion file n) reported ⊎ IsUnreported old new reported
Reports old new (BadRecord at) reported = IsReported old new (BadRecord at) reported ⊎ IsUnreported old new reported
Reports old new end reported = IsReported old new end reported
