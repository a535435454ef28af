use Rattle.std.specs.Prelude.{◌≡◌, ℕ, List, length, take, All, HoldsAt}
use Rattle.job_states.specs.Length.{IsName}
use Rattle.queue_selector.specs.Items.{HasItems, IsQueueList}
use Rattle.queue_selector.specs.declared.list.ListFault.{ListFault}
use Rattle.queue_selector.specs.declared.list.ListFault.TheVariants.{Count, Item, NoMemory}

-- why these items aren't read as a queue list
abbrev pub IsListFault : List (List ℕ) → ListFault → Type 0
IsListFault items (Count n) = (n ≡ length items) × ¬ HasItems items
-- the first item of a wrong length
IsListFault items (Item index) = HasItems items × All IsName (take index items) × HoldsAt (λ item. ¬ IsName item) items index
IsListFault items NoMemory = IsQueueList items
