use Rattle.journal_keeper.specs.Stands.{IsStanding}
use Rattle.store_tests.proofs.files.read_all.Given as goal

abbrev pub invariant-loop : goal.invariant-loop
invariant-loop g l = IsStanding l.journal (g.D.Disk.history l.disk)
