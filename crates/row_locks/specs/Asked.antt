-- The row that is asked about.
use Rattle.job_states.specs.declared.row.Row.{Row}
use Rattle.job_states.specs.declared.row.Row.TheVariants as row
use Rattle.row_locks.specs.declared.held.Asked.{Asked}
use Rattle.row_locks.specs.declared.held.Asked.TheVariants.{Any, Key, Queue, Task}

abbrev pub row_of : Asked → Row
row_of (Any r) = r.now
row_of (Key key) = row.Key key.now
row_of (Queue queue) = row.Queue queue.now
row_of (Task task) = row.Task task.now
