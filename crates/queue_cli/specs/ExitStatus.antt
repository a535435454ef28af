use Rattle.std.specs.Prelude.{ℕ}
use Rattle.queue_cli.specs.declared.end.End.{End}
use Rattle.queue_cli.specs.declared.end.End.TheVariants.{Done, BadInput, BadLine, Usage, BadSettings, ReadFault, WriteFault, DiskFault, NoMemory, NotAJournal, JournalVersion, BadRecord, InputTooLong}

-- the exit status of each end
abbrev pub exit_status : End → ℕ
exit_status Done = 0
exit_status (BadInput at refusal) = 1
exit_status (BadLine at) = 1
exit_status Usage = 2
exit_status (BadSettings number key) = 3
exit_status ReadFault = 4
exit_status WriteFault = 5
exit_status DiskFault = 6
exit_status NoMemory = 7
exit_status (NotAJournal file) = 8
exit_status (JournalVersion file n) = 8
exit_status (BadRecord at) = 8
exit_status InputTooLong = 10
