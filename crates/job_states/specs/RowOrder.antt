-- The order of rows: by kind, and then by number or bytes.
use Rattle.std.specs.Prelude.{ℕ, List, []}
use Rattle.std.specs.Ordering.{nat_cmp, ordering_then}
use Rattle.std.specs.declared.cmp.Ordering.{Ordering}
use Rattle.std.specs.Cmp.Lexicographic.{slice_cmp}
use Rattle.job_states.specs.declared.row.Row.{Row}
use Rattle.job_states.specs.declared.row.Row.TheVariants.{Job, Key, Process, Queue, Task}

abbrev pub kind : Row → ℕ
kind (Job n) = 0
kind (Key text) = 1
kind (Process n) = 2
kind (Queue name) = 3
kind (Task name) = 4

abbrev pub number : Row → ℕ
number (Job n) = n
number (Key text) = 0
number (Process n) = n
number (Queue name) = 0
number (Task name) = 0

abbrev pub bytes : Row → List ℕ
bytes (Job n) = []
bytes (Key text) = text
bytes (Process n) = []
bytes (Queue name) = name
bytes (Task name) = name

abbrev pub row_cmp : Row → Row → Ordering
row_cmp a b = ordering_then (nat_cmp (kind a) (kind b)) (ordering_then (nat_cmp (number a) (number b)) (slice_cmp nat_cmp (bytes a) (bytes b)))
