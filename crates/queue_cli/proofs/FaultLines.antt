-- A printed line of which no disk is the cause has another text than that of a fault of the disk.
use Rattle.std.proofs.Common.{◌≡◌, ℕ, true, false, inl, inr, List, refl, ap, sym, ◌∙◌}
use Rattle.json.specs.Print.{escape_byte}
use Rattle.sq_outside.specs.Fault.{Rose}
use Rattle.job_states.specs.declared.answer.Answer.{Answer}
use Rattle.job_states.specs.declared.answer.Answer.TheVariants as answer
use Rattle.job_states.specs.declared.answer.Refused.{Refused}
use Rattle.job_states.specs.declared.answer.Refused.TheVariants as refused
use Rattle.job_states.specs.declared.command.Command.{Command}
use Rattle.queue_http.specs.Service.{Service}
use Rattle.trace_lines.specs.Printed.{answer_text, not_built_text, printed_text, refused_text}
use Rattle.trace_lines.specs.declared.line.Line.{Line}
use Rattle.trace_lines.specs.declared.line.Line.TheVariants as line
use Rattle.trace_lines.specs.declared.printed.Printed.TheVariants as printed
use Rattle.queue_trace.specs.Traced.{Does, IsPrinted, IsTurnedDown}
use Rattle.queue_cli.specs.Trace.{lines}

-- the disk isn't its cause
abbrev IsOther : List ℕ → Type 0
IsOther text = lines.is_fault text ≡ false

answered : (a : Answer) → IsOther (answer_text a)
unfolding escape_byte
answered (answer.Enqueued made) = refl
answered (answer.Bulk jobs) = refl
answered (answer.Polled jobs) = refl
answered (answer.Done id unblocked) = refl
answered (answer.Raised id next state unblocked) = refl
answered (answer.Released id) = refl
answered (answer.Retried id state) = refl
answered (answer.Discarded id unblocked) = refl
answered (answer.Count count) = refl
answered (answer.Paused paused queue) = refl
answered (answer.Registered pid) = refl
answered (answer.Beaten pid) = refl
answered (answer.Deregistered pid released) = refl
answered (answer.Pruned failed pid) = refl
answered (answer.Ticked id run_at state) = refl
answered answer.NotDue = refl

turned_down : (r : Refused) → IsOther (refused_text r)
unfolding escape_byte
turned_down (refused.UnknownClass index class) = refl
turned_down (refused.KeyRefused index) = refl
turned_down (refused.Full kept) = refl
turned_down (refused.ClaimLimit pid held) = refl
turned_down (refused.NoSuchJob id next) = refl
turned_down (refused.WrongState id state) = refl
turned_down (refused.NotClaimant id by) = refl
turned_down (refused.NoSuchProcess pid next) = refl
turned_down (refused.NoSuchTask key) = refl
turned_down (refused.AlreadyRun last) = refl
turned_down (refused.SemaphoreClosed key) = refl
turned_down (refused.NumbersSpent next) = refl
turned_down (refused.Locked row by) = refl
turned_down refused.NoMemory = refl

not_built : IsOther not_built_text
unfolding escape_byte
not_built = refl

module _ (old new : Service) (shown : List ℕ) (fault : lines.is_fault shown ≡ true) where
  no_fault : (text : List ℕ) → shown ≡ text → IsOther text → Rose old.disk.faults new.disk.faults
  no_fault text is other = absurd (let differ : true ≡ false = sym fault ∙ ap lines.is_fault is ∙ other in cc)

  by_answer : (a : Answer) → IsPrinted (answer_text a) shown → Rose old.disk.faults new.disk.faults
  by_answer a (inl is) = no_fault (answer_text a) is (answered a)
  by_answer a (inr none) = no_fault (printed_text printed.NoMemory) none refl

  unless_down : (seat : ℕ) (command : Command) (now : ℕ) → IsTurnedDown seat old command now shown new → Rose old.disk.faults new.disk.faults
  unless_down seat command now (inl finds) = no_fault (printed_text printed.SeatOpen) finds.prints.printed_is refl
  unless_down seat command now (inr (inl unbuilt)) = no_fault not_built_text unbuilt.prints.printed_is not_built
  unless_down seat command now (inr (inr (inl down))) = no_fault (refused_text down.refused) down.prints.printed_is (turned_down down.refused)
  unless_down seat command now (inr (inr (inr none))) = no_fault (printed_text printed.NoMemory) none.prints.printed_is refl

  -- a line prints that the disk failed only where the count of faults rose
  pub rose_by : (line : Line) → Does old line shown new → Rose old.disk.faults new.disk.faults
  rose_by (line.Begin now seat command) (inl down) = unless_down seat command now down
  rose_by (line.Begin now seat command) (inr opened) = no_fault (printed_text printed.Open) opened.printed_is refl
  rose_by (line.Do now seat command) (inl down) = unless_down seat command now down
  rose_by (line.Do now seat command) (inr (inl done)) = by_answer done.answer done.printed_is
  rose_by (line.Do now seat command) (inr (inr meets)) = meets.fault.rose
  rose_by (line.Commit seat) (inl finds) = no_fault (printed_text printed.SeatEmpty) finds.prints.printed_is refl
  rose_by (line.Commit seat) (inr (inl done)) = by_answer done.answer done.printed_is
  rose_by (line.Commit seat) (inr (inr lost)) = lost.rose
  rose_by (line.Rollback seat) (inl finds) = no_fault (printed_text printed.SeatEmpty) finds.prints.printed_is refl
  rose_by (line.Rollback seat) (inr back) = no_fault (printed_text printed.RolledBack) back.printed_is refl
  rose_by line.Reopen (inl unbuilt) = no_fault not_built_text unbuilt.printed_is not_built
  rose_by line.Reopen (inr none) = no_fault (printed_text printed.NoMemory) none.printed_is refl
