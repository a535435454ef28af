use Rattle.journal_format.proofs.NumberSteps.{SoFar}
use Rattle.journal_format.proofs.reader.Reader.number_by_bytes.Given as goal

abbrev pub invariant-loop-done : goal.invariant-loop-done
invariant-loop-done l = SoFar l.least l.most l.width l.done l.n l.self.rest.now l.fn.self.rest.now
