-- The texts of records that open plans write.
use Rattle.std.specs.Prelude.{◌≡◌, ℕ, List, [], ◌∷◌, Option, None, Some, IsTrue, IsFalse, Result, Ok}
use Rattle.std.specs.BTreeMap.{BTreeMap, get}
use Rattle.std.specs.Ordering.{nat_cmp}
use Rattle.job_states.specs.declared.transition.Transaction.{Transaction}
use Rattle.journal_format.specs.Payload.{HasText}
use Rattle.journal_format.specs.Spelling.{payload}
use Rattle.journal_keeper.specs.Answers.{Appends}
use Rattle.journal_keeper.specs.Records.{IsRecord, payload_of}
use Rattle.journal_keeper.specs.Stands.{Keeper}
use Rattle.journal_keeper.specs.declared.fault.DiskFault.{DiskFault}
use Rattle.plan_model.specs.Books.{Book}
use Rattle.plan_model.specs.Plans.{Plan}
use Rattle.queue_model.specs.Map as map
use Rattle.situation_model.specs.Situations.{is_written}
use Rattle.sq_outside.specs.Disk.{History}

-- what stands after the gate of the transaction's record
pub record Spells (tx : Transaction) (text : List ℕ) : Type 0 where
  pub has_text : HasText (tx ∷ [])
  pub record_text : IsRecord text
  pub payload : payload_of text ≡ payload (tx ∷ [])

-- there is one where the transaction has transitions
abbrev pub IsRecordOf : Transaction → Option (List ℕ) → Type 0
IsRecordOf tx None = IsFalse (is_written tx)
IsRecordOf tx (Some text) = IsTrue (is_written tx) × Spells tx text

-- each open plan has its record at its seat
abbrev pub AreRecorded : Book → BTreeMap ℕ (List ℕ) → Type 0
AreRecorded b records = (seat : ℕ) (plan : Plan) → map.get b.open_plans seat ≡ Some plan → IsRecordOf plan.tx (get nat_cmp records seat)

-- it is appended, where there is one
abbrev pub AppendsAny : Option (List ℕ) → Keeper → Option History → Result (Unit {0}) DiskFault → Keeper → Option History → Type 0
AppendsAny None old before result new after = (result ≡ Ok tt) × (new ≡ old) × (after ≡ before)
AppendsAny (Some text) old before result new after = Appends old before (payload_of text) result new after
