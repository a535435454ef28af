use Rattle.std.specs.Prelude.{ℕ, List}
use Rattle.job_states.specs.declared.row.Row.{Row}
use Rattle.job_states.specs.declared.row.Mode.{Mode}
use Rattle.row_locks.specs.Locks.{Lock, IsFirstRefusal, AreFree}
use Rattle.row_locks.specs.declared.locks.TakeFault.{TakeFault}
use Rattle.row_locks.specs.declared.locks.TakeFault.TheVariants.{Held, NoMemory}

-- why a seat doesn't get these rows
abbrev pub IsTakeFault : List Lock → (seat : ℕ) → List (Row × Mode) → TakeFault → Type 0
IsTakeFault locks seat rows (Held row by) = IsFirstRefusal locks seat rows row by
IsTakeFault locks seat rows NoMemory = AreFree locks seat rows
