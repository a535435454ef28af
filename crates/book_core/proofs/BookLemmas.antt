-- What opening and ending a plan do to the plans as a book has them.
use Rattle.std.proofs.Common.{◌≡◌, ◌≢◌, ◌⊎◌, ◌==◌, ◌+◌, ℕ, not, Bool, true, false, cond, filter, List, ◌++◌, Option, None, Some, IsSome, is_some, ap, sym, ◌∙◌, refl, subst, inl, inr}
use Rattle.std.specs.Prelude.{IsPermutation, IsTrue}
use Rattle.std.specs.BTreeMap.{is_at}
use Rattle.std.specs.FinMap.Entries.{is_sorted}
use Rattle.std.specs.Map.{lookup}
use Rattle.std.specs.Option.{option_map}
use Rattle.std.specs.Ordering.{eq_by_cmp, is_eq, nat_cmp}
use Rattle.std.specs.Cmp.{nat_cmp_total}
use Rattle.std.proofs.lemmas.Bool.{true≢false}
use Rattle.job_states.specs.RowOrder.{row_cmp}
use Rattle.job_states.specs.declared.answer.Answer.{Answer}
use Rattle.job_states.specs.declared.row.Mode.{Mode}
use Rattle.job_states.specs.declared.row.Row.{Row}
use Rattle.job_states.specs.declared.transition.Transaction.{Transaction}
use Rattle.queue_model.specs.Map.{Map, get, insert, remove}
use Rattle.queue_model.proofs.Maps.{get-insert, get-remove}
use Rattle.row_locks.specs.Locks.{AreSoundLocks, Lock, locks_of}
use Rattle.row_locks.proofs.Takings.{holds_filter, holds_more}
use Rattle.plan_model.specs.Plans.{Plan}
use Rattle.book_core.specs.GoodPlan.{plan}
use Rattle.book_core.specs.Kept.{AreHeldByPlans}
use Rattle.book_core.specs.Seen.{plan_at, plans_of, rows_at}
use Rattle.book_core.specs.declared.opened.Opened.{Opened}
use Rattle.book_core.proofs.EntryMaps.{apart, get-made, insert-made, itself, one_or_two, remove-made, same-made}
use Rattle.book_core.proofs.HeldRows.{AreRowsOf}
use Rattle.book_core.proofs.SeatRows.{freed_rows, others_rows, taken_rows}

-- ---- a map with one value more, or one less

pub some_inserted : {X : Type 0} (m : Map nat_cmp X) (k : ℕ) (v : X) (q : ℕ) → (q ≡ k) ⊎ IsSome (get m q) → IsSome (get (insert m k v) q)
some_inserted {X} m k v q (inl same) = ap is_some (get-insert nat_cmp_total m k v q) ∙ ap (λ x. is_some (cond (is_eq (nat_cmp x k)) (Some v) (get m q))) same ∙ ap (λ b. is_some (cond b (Some v) (get m q))) (itself k)
some_inserted {X} m k v q (inr there) = ap is_some (get-insert nat_cmp_total m k v q) ∙ by (eq_by_cmp nat_cmp q k)
  where
    by : (b : Bool) → is_some (cond b (Some v) (get m q)) ≡ true
    by true = refl
    by false = there

pub inserted_some : {X : Type 0} (m : Map nat_cmp X) (k : ℕ) (v : X) (q : ℕ) → IsSome (get (insert m k v) q) → (q ≡ k) ⊎ IsSome (get m q)
inserted_some m k v q there = elim (one_or_two q k) [
  | inl same ↦ inl same
  | inr differ ↦ inr (ap (λ b. is_some (cond b (Some v) (get m q))) (sym (apart q k differ)) ∙ ap is_some (sym (get-insert nat_cmp_total m k v q)) ∙ there)
]

pub some_left : {X : Type 0} (m : Map nat_cmp X) (k q : ℕ) → q ≢ k → IsSome (get m q) → IsSome (get (remove m k) q)
some_left m k q differ there = ap is_some (get-remove nat_cmp_total m k q) ∙ ap (λ b. is_some (cond b None (get m q))) (apart q k differ) ∙ there

pub left_some : {X : Type 0} (m : Map nat_cmp X) (k q : ℕ) → IsSome (get (remove m k) q) → IsSome (get m q)
left_some {X} m k q there = by (eq_by_cmp nat_cmp q k) (ap is_some (sym (get-remove nat_cmp_total m k q)) ∙ there)
  where
    by : (b : Bool) → is_some (cond b None (get m q)) ≡ true → is_some (get m q) ≡ true
    by true h = absurd (true≢false (sym h))
    by false h = h

-- ---- the parts of a book

pub none_open : (locks : List Lock) (es : List (ℕ × Opened)) (seat : ℕ) → get (plans_of locks es) seat ≡ None → lookup (is_at (nat_cmp seat)) es ≡ None
none_open locks es seat vacant = by (lookup (is_at (nat_cmp seat)) es) (sym (get-made (plan_at locks) es seat) ∙ vacant)
  where
    by : (o : Option Opened) → option_map (plan_at locks seat) o ≡ None → o ≡ None
    by None h = refl
    by (Some plan) h = absurd (true≢false (ap is_some h))

pub rows_seen : (locks : List Lock) (es : List (ℕ × Opened)) → AreHeldByPlans locks es → AreRowsOf locks (plans_of locks es)
rows_seen locks es holders = record {
  rows = λ seat plan found. by seat plan (lookup (is_at (nat_cmp seat)) es) (sym (get-made (plan_at locks) es seat) ∙ found);
  holders = holders;
}
  where
    by : (seat : ℕ) (plan : Plan) (o : Option Opened) → option_map (plan_at locks seat) o ≡ Some plan → plan.rows ≡ rows_at locks seat
    by seat plan None h = absurd (true≢false (sym (ap is_some h)))
    by seat plan (Some opened) h = cc

module _ (old new : List Lock) (seat : ℕ) (rows : List (Row × Mode)) (was_sound : AreSoundLocks old) (sound : AreSoundLocks new) (taken : IsPermutation (old ++ locks_of seat rows) new) where
  module _ (es : List (ℕ × Opened)) (holders : AreHeldByPlans old es) (vacant : get (plans_of old es) seat ≡ None) where
    pub opened_plans : (tx : Transaction) (answer : Answer) (fs : List (ℕ × Opened)) → IsTrue (is_sorted row_cmp rows)
        → ((q : ℕ) → lookup (is_at (nat_cmp q)) fs ≡ cond (is_at (nat_cmp seat) q) (Some (record { tx = tx; answer = answer })) (lookup (is_at (nat_cmp q)) es))
        → plans_of new fs ≡ insert (plans_of old es) seat (plan tx rows answer)
    opened_plans tx answer fs rising writes =
        insert-made (plan_at old) (plan_at new) seat (λ q opened differ. ap (λ rs. plan opened.tx rs opened.answer) (others_rows old new seat q rows was_sound sound taken differ))
        es fs (record { tx = tx; answer = answer }) (plan tx rows answer) writes
        (ap (λ rs. plan tx rs answer) (taken_rows old new seat rows sound taken rising (λ row mode held. true≢false (sym (holders seat row mode held) ∙ ap is_some vacant))))

    -- the rows that were taken are let go again
    pub given_up : plans_of (filter (λ l. not (l.seat == seat)) new) es ≡ plans_of old es
    given_up = same-made (plan_at old) (plan_at (filter (λ l. not (l.seat == seat)) new)) es es (λ q. elim (one_or_two seat q) [
      | inl same ↦ subst (λ x. option_map (plan_at (filter (λ l. not (l.seat == seat)) new) x) (lookup (is_at (nat_cmp x)) es) ≡ option_map (plan_at old x) (lookup (is_at (nat_cmp x)) es)) same
          (ap (option_map (plan_at (filter (λ l. not (l.seat == seat)) new) seat)) (none_open old es seat vacant) ∙ ap (option_map (plan_at old seat)) (sym (none_open old es seat vacant)))
      | inr differ ↦ ap (λ rs. option_map (λ (o : Opened). plan o.tx rs o.answer) (lookup (is_at (nat_cmp q)) es)) (freed_rows new seat q differ ∙ others_rows old new seat q rows was_sound sound taken differ)
    ])

    pub holders_given_up : AreHeldByPlans (filter (λ l. not (l.seat == seat)) new) es
    holders_given_up by row mode held =
        let left = (holds_filter seat new by row mode).0 held in
        elim ((holds_more old new seat rows taken by row mode).0 left.0) [
          | inl before ↦ ap (λ (m : Map nat_cmp Plan). is_some (get m by)) given_up ∙ holders by row mode before
          | inr added ↦ absurd (left.1 added.0)
        ]

    pub holders_opened : (fs : List (ℕ × Opened)) (new_plan : Plan) → plans_of new fs ≡ insert (plans_of old es) seat new_plan → AreHeldByPlans new fs
    holders_opened fs new_plan is by row mode held =
        ap (λ (m : Map nat_cmp Plan). is_some (get m by)) is ∙ some_inserted (plans_of old es) seat new_plan by (elim ((holds_more old new seat rows taken by row mode).0 held) [
          | inl before ↦ inr (holders by row mode before)
          | inr added ↦ inl added.0
        ])

-- ---- a plan ends

module _ (locks : List Lock) (seat : ℕ) (es fs : List (ℕ × Opened)) (writes : (q : ℕ) → lookup (is_at (nat_cmp q)) fs ≡ cond (is_at (nat_cmp seat) q) None (lookup (is_at (nat_cmp q)) es)) where
  pub ended_plans : plans_of (filter (λ l. not (l.seat == seat)) locks) fs ≡ remove (plans_of locks es) seat
  ended_plans =
      remove-made (plan_at locks) (plan_at (filter (λ l. not (l.seat == seat)) locks)) seat (λ q opened differ. ap (λ rs. plan opened.tx rs opened.answer) (freed_rows locks seat q differ))
      es fs writes

  pub holders_left : AreHeldByPlans locks es → AreHeldByPlans (filter (λ l. not (l.seat == seat)) locks) fs
  holders_left holders by row mode held =
      let left = (holds_filter seat locks by row mode).0 held in
      ap (λ (m : Map nat_cmp Plan). is_some (get m by)) ended_plans ∙ some_left (plans_of locks es) seat by left.1 (holders by row mode left.0)
