-- What `status` prints.
use Rattle.std.specs.Prelude.{◌≡◌, ℕ, List, ◌++◌, codes, length, []}
use Rattle.std.specs.Fmt.{decimal}
use Rattle.std.specs.Io.KnownBytes.{Appends}
use Rattle.exec_tables.specs.Jobs.{at_stage}
use Rattle.job_states.specs.declared.job.Stage.TheVariants as stage
use Rattle.queue_model.specs.Map as map
use Rattle.queue_model.specs.World.{World}
use Rattle.sq_outside.specs.Fault.{Rose}
use Rattle.sq_outside.specs.Streams.{SinkState}
use Rattle.queue_cli.specs.declared.end.End.{End}
use Rattle.queue_cli.specs.declared.end.End.TheVariants.{Done, NoMemory, WriteFault}
use Rattle.queue_cli.specs.LastText.{WritesLast}

-- the counts of jobs at each stage, of processes and of semaphores
pub record Counts : Type 0 where
  pub scheduled : ℕ
  pub ready : ℕ
  pub blocked : ℕ
  pub claimed : ℕ
  pub failed : ℕ
  pub finished : ℕ
  pub processes : ℕ
  pub semaphores : ℕ

abbrev pub counts_of : World → Counts
counts_of w = record {
  scheduled = at_stage stage.Scheduled w;
  ready = at_stage stage.Ready w;
  blocked = at_stage stage.Blocked w;
  claimed = at_stage stage.Claimed w;
  failed = at_stage stage.Failed w;
  finished = at_stage stage.Finished w;
  processes = length (map.values w.processes);
  semaphores = length (map.values w.semaphores);
}

abbrev pub line : List ℕ → ℕ → List ℕ
line name n = name ++ (codes " " ++ (decimal n ++ codes "\n"))

abbrev pub status_text : Counts → List ℕ
status_text c =
    line (codes "scheduled") c.scheduled ++ line (codes "ready") c.ready ++ line (codes "blocked") c.blocked ++ line (codes "claimed") c.claimed
    ++ line (codes "failed") c.failed ++ line (codes "finished") c.finished ++ line (codes "processes") c.processes ++ line (codes "semaphores") c.semaphores

-- the text is written whole; or the output failed, and a prefix is; or there is no memory for the text
abbrev pub Prints : SinkState → SinkState → List ℕ → End → Type 0
Prints old new text Done = Appends old.written new.written text
Prints old new text WriteFault = WritesLast old new [] text × Rose old.faults new.faults
Prints old new text NoMemory = new ≡ old
Prints old new text end = ⊥
