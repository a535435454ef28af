-- What stands in an input, item after item, and what is written for each: requests and their replies, or lines and what is printed.
use Rattle.std.specs.Prelude.{ℕ, Bool, List}
use Rattle.queue_http.specs.Service.{Service}
use Rattle.queue_cli.specs.declared.end.End.{End}

pub record Protocol : Type 1 where
  pub Item : Type 0
  -- what is written for an item
  pub Reply : Type 0
  -- why an input is refused
  pub Refusal : Type 0
  -- bytes are this item, and then rest
  pub IsItem : (bytes : List ℕ) → Item → (rest : List ℕ) → Type 0
  -- bytes hold neither a whole item nor what is refused
  pub IsUnfinished : List ℕ → Type 0
  -- the items are over
  pub IsEnd : List ℕ → Type 0
  -- bytes are refused
  pub IsRefused : List ℕ → Refusal → Type 0
  -- how a run ends whose input is refused at a place
  pub refusal_end : (at : ℕ) → Refusal → End
  -- the item is answered so, from the old service to the new one
  pub Answers : (old : Service) → Item → Reply → (new : Service) → Type 0
  -- the bytes of a reply
  pub text : Reply → List ℕ
  -- the reply says that the disk failed
  pub is_fault : Reply → Bool
