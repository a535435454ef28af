use Rattle.std.proofs.Common.{◌≤◌, ◌-◌, ◌^◌}
use Rattle.journal_keeper.specs.Answers.{KeepsAll}
use Rattle.journal_keeper.specs.Writes.{IsOtherKept}
use Rattle.journal_replay.specs.Taking.{ReadsAlike, Replays}
use Rattle.journal_replay.proofs.opening.replay_all.Given as goal

abbrev pub invariant-loop : goal.invariant-loop
invariant-loop g l = record {
  replays : Replays l.journal l.tables.world (g.D.Disk.history l.disk);
  alike : ReadsAlike (g.D.Disk.history l.initial.disk) (g.D.Disk.history l.disk);
  any_moment : KeepsAll (g.D.Disk.history l.initial.disk) (g.D.Disk.history l.disk);
  other : IsOtherKept (g.D.Disk.history l.initial.disk) (g.D.Disk.history l.disk);
  later : g.D.Disk.faults l.initial.disk ≤ g.D.Disk.faults l.disk;
}

abbrev pub decreases-loop : goal.decreases-loop
decreases-loop g l = 2 ^ 63 - l.journal.end
