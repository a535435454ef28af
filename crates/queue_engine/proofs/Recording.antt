-- The record of a transaction, and the records of open plans.
use Rattle.std.proofs.Common.{◌≡◌, ◌≢◌, ⊎_elim, ◌≤◌, ℕ, true, false, List, [], ◌∷◌, length, Option, None, Some, IsSome, IfSome, ap, sym, ◌∙◌, refl, subst, arith}
use Rattle.std.specs.Prelude.{IsTrue}
use Rattle.std.proofs.lemmas.Bool.{and_from}
use Rattle.std.proofs.lemmas.Bool.Decides.{nat_tests}
use Rattle.std.specs.BTreeMap.{BTreeMap, Updates, get}
use Rattle.std.specs.List.{list_all}
use Rattle.std.specs.Ordering.{is_eq, nat_cmp}
use Rattle.job_states.specs.Moment.{is_moment}
use Rattle.job_states.specs.Ranges.{is_in_range, is_transaction}
use Rattle.job_states.specs.declared.transition.Transaction.{Transaction}
use Rattle.job_states.specs.declared.transition.Transition.{Transition}
use Rattle.journal_format.specs.Payload.{are_in_range}
use Rattle.journal_format.proofs.TestLaws.{within-from}
use Rattle.journal_keeper.specs.Records.{IsRecord}
use Rattle.journal_replay.proofs.Replayed.{something}
use Rattle.plan_model.specs.Books.{Book, with_plan}
use Rattle.plan_model.specs.Plans.{Plan}
use Rattle.plan_model.proofs.BooksKept.{found_after_insert, found_after_remove}
use Rattle.queue_engine.specs.Recorded.{AreRecorded, IsRecordOf}
use Rattle.queue_model.specs.Map as map
use Rattle.queue_model.specs.Replay.{after, steps}
use Rattle.queue_model.specs.Transitions.{step}
use Rattle.queue_model.specs.World.{World}
use Rattle.queue_model.proofs.Steps.{passed, step_is, then}

-- ---- the record of a transaction

steps_in_range : (w end : World) (m : ℕ) (ts : List Transition) → steps w m ts ≡ Some end → list_all is_in_range ts ≡ true
steps_in_range w end m [] legal = refl
steps_in_range w end m (t ∷ ts) legal =
    let first = then (step w m t) (λ u. steps u m ts) end legal in
    and_from (is_in_range t) (list_all is_in_range ts) (step_is w first.0 m t first.1).1.in_range (steps_in_range first.0 end m ts first.2)

-- the journal can hold it
pub in_range : (tx : Transaction) → 1 ≤ length tx.steps → length tx.steps ≤ 2000 → (w : World) → IsSome (after w tx) → IsTrue (are_in_range (tx ∷ []))
in_range tx some short w is_legal =
    let end = something (after w tx) is_legal in
    let legal = passed (is_moment tx.moment) (steps w tx.moment tx.steps) end.0 end.1 in
    and_from (is_transaction tx) true
    (and_from _ (list_all is_in_range tx.steps) (and_from (is_moment tx.moment) _ legal.0 (within-from 1 2000 (length tx.steps) some short))
    (steps_in_range w end.0 tx.moment tx.steps legal.1)) refl

pub record_text : (tx : Transaction) (text : Option (List ℕ)) → IsRecordOf tx text → IfSome text IsRecord
record_text tx None unwritten = tt
record_text tx (Some text) is = is.1.record_text

-- ---- the records of open plans

differ : (a b : ℕ) → a ≢ b → is_eq (nat_cmp a b) ≡ false
differ a b ne = grind (arith, nat_tests)

none_open : {A : Type 0} (o : Option A) (x : A) → o ≡ None → o ≡ Some x → ⊥
none_open o x none some = cc

module _ (b : Book) (old new : BTreeMap ℕ (List ℕ)) (seat : ℕ) (text : Option (List ℕ))
    (updates : Updates nat_cmp old new seat text) (are : AreRecorded b old) where
  elsewhere : (other : ℕ) (plan : Plan) → seat ≢ other → map.get b.open_plans other ≡ Some plan → IsRecordOf plan.tx (get nat_cmp new other)
  elsewhere other plan ne there = subst (IsRecordOf plan.tx) (sym (updates.2 other (differ seat other ne))) (are other plan there)

  module _ (vacant : map.get b.open_plans seat ≡ None) where
    -- where none is open any record may be kept, or none
    pub recorded_still : AreRecorded b new
    recorded_still other plan there = elsewhere other plan (λ e. none_open (map.get b.open_plans seat) plan vacant (ap (map.get b.open_plans) e ∙ there)) there

    -- one more plan is open, and its record kept
    pub recorded_with : (plan : Plan) → IsRecordOf plan.tx text → AreRecorded (with_plan b seat plan) new
    recorded_with plan is other theirs there = ⊎_elim
        (λ (made : (seat ≡ other) × (plan ≡ theirs)). subst (λ (p : Plan). IsRecordOf p.tx (get nat_cmp new other)) made.1
        (subst (λ (k : ℕ). IsRecordOf plan.tx (get nat_cmp new k)) made.0 (subst (IsRecordOf plan.tx) (sym updates.1) is)))
        (λ were. recorded_still other theirs were)
        (found_after_insert b.open_plans seat plan other theirs there)

  -- the plan of the seat went
  pub recorded_without : (after : Book) → after.open_plans ≡ map.remove b.open_plans seat → AreRecorded after new
  recorded_without after went other plan there =
      let left = found_after_remove b.open_plans seat other plan (ap (λ (m : map.Map nat_cmp Plan). map.get m other) (sym went) ∙ there) in
      elsewhere other plan left.0 left.1
