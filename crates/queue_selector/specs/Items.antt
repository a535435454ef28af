use Rattle.std.specs.Prelude.{◌≤◌, ℕ, List, length, All}
use Rattle.job_states.specs.Length.{IsName}

abbrev pub HasItems : List (List ℕ) → Type 0
HasItems items = (1 ≤ length items) × (length items ≤ 64)

-- 1 to 64 items of 1 to 128 bytes
abbrev pub IsQueueList : List (List ℕ) → Type 0
IsQueueList items = HasItems items × All IsName items
