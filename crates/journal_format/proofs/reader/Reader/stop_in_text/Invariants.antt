use Rattle.journal_format.proofs.TextSteps.{SkipSoFar}
use Rattle.journal_format.proofs.reader.Reader.stop_in_text.Given as goal

abbrev pub invariant-loop-done : goal.invariant-loop-done
invariant-loop-done l = SkipSoFar l.len l.done l.owed l.self.rest.now l.fn.self.rest.now
