-- What the records of a journal stand for: the world after the transactions that they spell, or the first one that is bad.
use Rattle.std.specs.Prelude.{◌≡◌, ℕ, ◌+◌, false, List, ◌++◌, length, drop, map, All, Some, None}
use Rattle.std.specs.List.{flat_map}
use Rattle.job_states.specs.declared.transition.Transaction.{Transaction}
use Rattle.journal_format.specs.Payload.{HasText}
use Rattle.journal_format.specs.Records.{is_closed, records}
use Rattle.journal_format.specs.Spelling.{payload}
use Rattle.journal_keeper.specs.Files.{IsLiveFile}
use Rattle.journal_keeper.specs.Kept.{Recovers}
use Rattle.journal_keeper.specs.Records.{BeginsWithRecord, IsPayload}
use Rattle.queue_model.specs.Replay.{replay}
use Rattle.queue_model.specs.World.{World, empty}

-- the bytes of a record spell these transactions
pub record Spells (bytes : List ℕ) (txs : List Transaction) : Type 0 where
  pub has_text : HasText txs
  pub is : bytes ≡ payload txs

-- Each of the records spells transactions, and this is the world after them, one record after another.
pub record StandFor (payloads : List (List ℕ)) (w : World) : Type 0 where
  pub spelled : List (List Transaction)
  pub have_texts : All HasText spelled
  pub are : payloads ≡ map payload spelled
  pub world : replay empty (flat_map (λ txs. txs) spelled) ≡ Some w

-- the world that a file stands for
pub record RecoversWorld (file : List ℕ) (w : World) : Type 0 where
  pub payloads : List (List ℕ)
  pub recovers : Recovers payloads file
  pub stand_for : StandFor payloads w

-- The records before this place stand for a world. The gate here is open, and no record follows it whose transactions are
-- legal in that world.
pub record IsBadAt (file : List ℕ) (at : ℕ) : Type 0 where
  pub turn : ℕ
  pub live : IsLiveFile turn file
  pub payloads : List (List ℕ)
  pub lengths : All IsPayload payloads
  pub rest : List ℕ
  pub text : drop 16 file ≡ records payloads ++ rest
  pub here : at ≡ 16 + length (records payloads)
  pub world : World
  pub stand_for : StandFor payloads world
  pub is_open : is_closed rest ≡ false
  pub bad : (bytes : List ℕ) (txs : List Transaction) → BeginsWithRecord bytes rest → Spells bytes txs → replay world txs ≡ None
