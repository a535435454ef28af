-- Which lists of transactions have a text, and what reading and writing say of it.
use Rattle.std.specs.Prelude.{◌≡◌, ℕ, ◌+◌, ◌<◌, ◌≤◌, Bool, ◌&&◌, IsTrue, List, ◌++◌, length, take, drop}
use Rattle.std.specs.List.{list_all}
use Rattle.job_states.specs.declared.transition.Transaction.{Transaction}
use Rattle.job_states.specs.Length.{is_within}
use Rattle.job_states.specs.Ranges.{is_transaction, has_texts}
use Rattle.journal_format.specs.declared.fault.ReadFault.{ReadFault}
use Rattle.journal_format.specs.declared.fault.ReadFault.TheVariants.{BadRecord, NoMemory}
use Rattle.journal_format.specs.declared.fault.WriteFault.{WriteFault}
use Rattle.journal_format.specs.declared.fault.WriteFault.TheVariants.{TooLarge}
use Rattle.journal_format.specs.declared.fault.WriteFault.TheVariants as write
use Rattle.journal_format.specs.Spelling.{payload}

-- 1 to 64 transactions, each in its ranges
abbrev pub are_in_range : List Transaction → Bool
are_in_range txs = is_within 1 64 (length txs) && list_all is_transaction txs

-- their names and texts are UTF-8, as the types give it
abbrev pub have_texts : List Transaction → Bool
have_texts txs = list_all (λ tx. list_all has_texts tx.steps) txs

-- the transactions have a text that is read again
pub record HasText (txs : List Transaction) : Type 0 where
  pub in_range : IsTrue (are_in_range txs)
  pub texts : IsTrue (have_texts txs)

-- the payload of these transactions stands first, and has this length
pub record StandsFirst (bytes : List ℕ) (txs : List Transaction) (len : ℕ) : Type 0 where
  pub has_text : HasText txs
  pub len_is : len ≡ length (payload txs)
  pub text : bytes ≡ payload txs ++ drop len bytes

-- some payload begins with these bytes
pub record BeginsPayload (bytes : List ℕ) : Type 0 where
  pub txs : List Transaction
  pub has_text : HasText txs
  pub more : List ℕ
  pub text : payload txs ≡ bytes ++ more

-- No payload stands first in the bytes. Up to this place they begin one, and not with the byte there; or they end there.
pub record IsRefusedAt (bytes : List ℕ) (at : ℕ) : Type 0 where
  pub within : at ≤ length bytes
  pub before : BeginsPayload (take at bytes)
  pub after : at < length bytes → BeginsPayload (take (at + 1) bytes) → ⊥
  pub none : (txs : List Transaction) (rest : List ℕ) → HasText txs → bytes ≡ payload txs ++ rest → ⊥

-- why no transactions are read from these bytes
abbrev pub IsReadFault : List ℕ → ReadFault → Type 0
IsReadFault bytes (BadRecord at) = IsRefusedAt bytes at
IsReadFault bytes NoMemory = Unit {0}

-- why these transactions aren't written
abbrev pub IsWriteFault : List Transaction → WriteFault → Type 0
IsWriteFault txs (TooLarge len) = (len ≡ length (payload txs)) × (16_777_216 < len)
IsWriteFault txs write.NoMemory = Unit {0}
