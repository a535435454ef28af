-- What is true of the parts of a book, through each call.
use Rattle.std.proofs.Common.{◌≡◌, ◌↔◌, ◌==◌, ◌+◌, ◌<◌, ◌≤◌, ◌^◌, ℕ, not, Bool, true, false, cond, filter, List, [], ◌++◌, length, Option, None, Some, IsSome, is_some, ap, sym, ◌∙◌, refl, subst, arith, inl, inr}
use Rattle.std.specs.Prelude.{IsPermutation, IsTrue}
use Rattle.std.specs.BTreeMap.{is_at}
use Rattle.std.specs.List.{count_by}
use Rattle.std.specs.FinMap.Entries.{is_sorted}
use Rattle.std.specs.List.Sorted.{IsStrictlySortedBy}
use Rattle.std.specs.Map.{keys_of, lookup}
use Rattle.std.specs.Option.{option_map}
use Rattle.std.specs.Ordering.{nat_cmp}
use Rattle.std.proofs.lemmas.Bool.{true≢false}
use Rattle.std.proofs.lemmas.Map.Entries.{length-values_of}
use Rattle.job_states.specs.RowOrder.{row_cmp}
use Rattle.job_states.specs.declared.answer.Answer.{Answer}
use Rattle.job_states.specs.declared.row.Mode.{Mode}
use Rattle.job_states.specs.declared.row.Row.{Row}
use Rattle.job_states.specs.declared.transition.Transaction.{Transaction}
use Rattle.queue_model.specs.Map.{Map, get, insert, remove, values}
use Rattle.queue_model.specs.World.{World, claims}
use Rattle.queue_model.specs.declared.Numbers.{Numbers}
use Rattle.row_locks.specs.Fault.{IsTakeFault}
use Rattle.row_locks.specs.Locks.{AreFree, AreSoundLocks, Holds, IsFree, Lock, lock, locks_of}
use Rattle.row_locks.specs.declared.locks.TakeFault.{TakeFault}
use Rattle.row_locks.specs.declared.locks.TakeFault.TheVariants.{Held, NoMemory}
use Rattle.row_locks.proofs.Membership.{none}
use Rattle.plan_model.specs.Begins.{locked}
use Rattle.plan_model.specs.Books.{claims_kept, given_by, jobs_kept, opened_over, processes_kept, with_applied, with_plan}
use Rattle.plan_model.specs.GoodBook.{IsGoodBook}
use Rattle.plan_model.specs.Plans.{Plan, how_many, is_enqueue, is_register}
use Rattle.plan_model.specs.Scenes.{are_free, is_free}
use Rattle.queue_model.specs.Footprints.{new_claims}
use Rattle.book_core.specs.Counts.{count_in, is_counted, planned_in}
use Rattle.book_core.specs.GoodPlan.{plan}
use Rattle.book_core.specs.Kept.{AreHeldByPlans, IsKept}
use Rattle.book_core.specs.Opening.{IsOpenFault, refusal}
use Rattle.book_core.specs.Seen.{book_of, plan_at, plans_of}
use Rattle.book_core.specs.declared.counts.Counted.TheVariants.{Enqueues, Registers, ClaimsBy}
use Rattle.book_core.specs.declared.opened.Opened.{Opened}
use Rattle.book_core.proofs.BookLemmas.{given_up, holders_given_up, holders_opened, inserted_some, left_some, opened_plans, rows_seen}
use Rattle.book_core.proofs.CountLemmas.{claims_are, few_jobs, few_processes, no_more_than_planned, sum_plans}
use Rattle.book_core.proofs.EntryMaps.{get-made}
use Rattle.book_core.proofs.HeldRows.{are_free_where, free_where, is_free_where, locked_first}

-- ---- at first

pub kept_at_first : (w : World) (locks : List Lock) (es : List (ℕ × Opened)) (given : Numbers) (spare : ℕ) → locks ≡ [] → es ≡ [] → given ≡ w.numbers → IsStrictlySortedBy nat_cmp (keys_of es) → IsGoodBook (opened_over w) → IsKept w locks es given spare
kept_at_first w locks es given spare no_locks no_plans same up good =
    let view : opened_over w ≡ book_of w locks es given = λ i. book_of w (sym no_locks i) (sym no_plans i) (sym same i) in
    let none_planned : planned_in es ≡ 0 = ap (λ (es : List (ℕ × Opened)). planned_in es) no_plans in
    let none_open : (seat : ℕ) → get (plans_of locks es) seat ≡ None = λ seat. (λ i. get (plans_of (no_locks i) (no_plans i)) seat) in
    record {
      good = subst IsGoodBook view good;
      sound = subst AreSoundLocks (sym no_locks) (record {
        in_order = λ k d low within. absurd (omega (arith, within));
        exclusive = λ a b row m n differ held. absurd (none (lock a row m) held);
      });
      seats_up = up;
      seats = λ seat some. absurd (true≢false (sym some ∙ ap is_some (none_open seat)));
      holders = λ seat row mode held. absurd (none (lock seat row mode) (subst (λ locks. Holds locks seat row mode) no_locks held));
      room = omega (arith, none_planned);
      few = omega (arith, none_planned);
    }

-- ---- what is asked

opened_there : (locks : List Lock) (seat : ℕ) (o : Option Opened) → is_some (option_map (plan_at locks seat) o) ≡ is_some o
opened_there locks seat None = refl
opened_there locks seat (Some opened) = refl

pub is_open : (locks : List Lock) (es : List (ℕ × Opened)) (seat : ℕ) → is_some (get (plans_of locks es) seat) ≡ is_some (lookup (is_at (nat_cmp seat)) es)
is_open locks es seat = ap is_some (get-made (plan_at locks) es seat) ∙ opened_there locks seat (lookup (is_at (nat_cmp seat)) es)

pub open_at : (locks : List Lock) (es : List (ℕ × Opened)) (seat : ℕ) (o : Option Opened) → lookup (is_at (nat_cmp seat)) es ≡ o → option_map (λ (p : Plan). p.tx) (get (plans_of locks es) seat) ≡ option_map (λ (p : Opened). p.tx) o
open_at locks es seat o found = ap (option_map (λ (p : Plan). p.tx)) (get-made (plan_at locks) es seat ∙ ap (option_map (plan_at locks seat)) found) ∙ by o
  where
    by : (o : Option Opened) → option_map (λ (p : Plan). p.tx) (option_map (plan_at locks seat) o) ≡ option_map (λ (p : Opened). p.tx) o
    by None = refl
    by (Some opened) = refl

pub found_plan : (locks : List Lock) (es : List (ℕ × Opened)) (seat : ℕ) (opened : Opened) → lookup (is_at (nat_cmp seat)) es ≡ Some opened → get (plans_of locks es) seat ≡ Some (plan_at locks seat opened)
found_plan locks es seat opened found = get-made (plan_at locks) es seat ∙ ap (option_map (plan_at locks seat)) found

same_truth : (a b : Bool) → (a ≡ true → b ≡ true) → (b ≡ true → a ≡ true) → a ≡ b
same_truth true b to from = sym (to refl)
same_truth false true to from = from refl
same_truth false false to from = refl

none_there : {X : Type 0} (o : Option X) → (IsSome o → ⊥) → o ≡ None
none_there None never = refl
none_there (Some x) never = absurd (never refl)

pub asked_free : (w : World) (locks : List Lock) (es : List (ℕ × Opened)) (given : Numbers) (spare : ℕ) → IsKept w locks es given spare → (row : Row) (mode : Mode) (r : Bool) → IsTrue r ↔ IsFree locks 64 row mode → r ≡ is_free (book_of w locks es given) row mode
asked_free w locks es given spare kept row mode r asked =
    let b = book_of w locks es given in
    let seen = rows_seen locks es kept.holders in
    let nobody : get (plans_of locks es) 64 ≡ None = none_there (get (plans_of locks es) 64) (λ some. omega (arith, kept.seats 64 some)) in
    same_truth r (is_free b row mode) (λ yes. is_free_where locks b seen 64 nobody row mode (asked.0 yes)) (λ yes. asked.1 (free_where locks b seen 64 nobody row mode yes))

pub claims_counted : (w : World) (locks : List Lock) (es : List (ℕ × Opened)) (given : Numbers) (pid : ℕ) → IsStrictlySortedBy nat_cmp (keys_of es) → claims_kept (book_of w locks es given) pid ≡ claims w pid + count_in (ClaimsBy pid) es
claims_counted w locks es given pid up = ap (λ n. claims w pid + n) (sum_plans locks es (λ p. new_claims pid p.tx.steps) (λ p. count_by (is_counted (ClaimsBy pid)) p.tx.steps) (λ seat opened. claims_are pid opened.tx.steps) up)

pub jobs_counted : (w : World) (locks : List Lock) (es : List (ℕ × Opened)) (given : Numbers) → IsStrictlySortedBy nat_cmp (keys_of es) → jobs_kept (book_of w locks es given) ≡ length (values w.jobs) + count_in Enqueues es
jobs_counted w locks es given up =
    ap (λ n. length w.jobs.entries + n) (sum_plans locks es (how_many is_enqueue) (λ p. count_by (is_counted Enqueues) p.tx.steps) (λ seat opened. refl) up)
    ∙ ap (λ n. n + count_in Enqueues es) (sym (length-values_of w.jobs.entries))

pub processes_counted : (w : World) (locks : List Lock) (es : List (ℕ × Opened)) (given : Numbers) → IsStrictlySortedBy nat_cmp (keys_of es) → processes_kept (book_of w locks es given) ≡ length (values w.processes) + count_in Registers es
processes_counted w locks es given up =
    ap (λ n. length w.processes.entries + n) (sum_plans locks es (how_many is_register) (λ p. count_by (is_counted Registers) p.tx.steps) (λ seat opened. refl) up)
    ∙ ap (λ n. n + count_in Registers es) (sym (length-values_of w.processes.entries))

-- the counts fit 64 bits
pub few_kept : (w : World) (locks : List Lock) (es : List (ℕ × Opened)) (given : Numbers) (spare : ℕ) → IsKept w locks es given spare → length (values w.jobs) + count_in Enqueues es < 2 ^ 64
few_kept w locks es given spare kept = omega (arith, few_jobs w kept.good.world, no_more_than_planned Enqueues es, kept.few, length-values_of w.jobs.entries)

pub few_registered : (w : World) (locks : List Lock) (es : List (ℕ × Opened)) (given : Numbers) (spare : ℕ) → IsKept w locks es given spare → length (values w.processes) + count_in Registers es < 2 ^ 64
few_registered w locks es given spare kept = omega (arith, few_processes w kept.good.world, no_more_than_planned Registers es, kept.few, length-values_of w.processes.entries)

-- ---- a plan ends

pub kept_ended : (w : World) (locks : List Lock) (es : List (ℕ × Opened)) (given : Numbers) (spare : ℕ) → IsKept w locks es given spare
    → (seat : ℕ) (left : List Lock) (fs : List (ℕ × Opened)) → plans_of left fs ≡ remove (plans_of locks es) seat → AreHeldByPlans left fs → IsStrictlySortedBy nat_cmp (keys_of fs) → AreSoundLocks left
    → (end : World) (room : ℕ) → IsGoodBook (with_applied (book_of w locks es given) seat end) → planned_in fs ≤ room → planned_in fs ≤ planned_in es → IsKept end left fs given room
kept_ended w locks es given spare kept seat left fs plans holders up sound end room good enough fewer = record {
  good = subst (λ ps. IsGoodBook (record { world = end; open_plans = ps; given = given })) (sym plans) good;
  sound = sound;
  seats_up = up;
  seats = λ q some. kept.seats q (left_some (plans_of locks es) seat q (subst (λ (ps : Map nat_cmp Plan). IsSome (get ps q)) plans some));
  holders = holders;
  room = enough;
  few = omega (arith, fewer, kept.few);
}

-- ---- a plan is opened

pub fault_is : (w : World) (locks : List Lock) (es : List (ℕ × Opened)) (given : Numbers) (seat : ℕ) → AreHeldByPlans locks es → get (plans_of locks es) seat ≡ None → (rows : List (Row × Mode)) → IsTrue (is_sorted row_cmp rows)
    → (are_free (book_of w locks es given) rows ≡ true → locked (book_of w locks es given) rows ≡ None)
    → (fault : TakeFault) → IsTakeFault locks seat rows fault → IsOpenFault (locked (book_of w locks es given) rows) (refusal fault)
fault_is w locks es given seat holders vacant rows up law (Held row by) first = locked_first locks (book_of w locks es given) (rows_seen locks es holders) seat vacant rows row by up first
fault_is w locks es given seat holders vacant rows up law NoMemory free = law (are_free_where locks (book_of w locks es given) (rows_seen locks es holders) seat vacant rows free)

pub not_locked : (w : World) (locks : List Lock) (es : List (ℕ × Opened)) (given : Numbers) (seat : ℕ) → AreHeldByPlans locks es → get (plans_of locks es) seat ≡ None → (rows : List (Row × Mode))
    → (are_free (book_of w locks es given) rows ≡ true → locked (book_of w locks es given) rows ≡ None) → AreFree locks seat rows → locked (book_of w locks es given) rows ≡ None
not_locked w locks es given seat holders vacant rows law free = law (are_free_where locks (book_of w locks es given) (rows_seen locks es holders) seat vacant rows free)

module _ (w : World) (old new : List Lock) (es : List (ℕ × Opened)) (given : Numbers) (spare : ℕ) (kept : IsKept w old es given spare) (seat : ℕ) (vacant : get (plans_of old es) seat ≡ None)
    (rows : List (Row × Mode)) (sound : AreSoundLocks new) (taken : IsPermutation (old ++ locks_of seat rows) new) where
  -- it was kept
  module _ (tx : Transaction) (answer : Answer) (fs : List (ℕ × Opened)) (rising : IsTrue (is_sorted row_cmp rows))
      (writes : (q : ℕ) → lookup (is_at (nat_cmp q)) fs ≡ cond (is_at (nat_cmp seat) q) (Some (record { tx = tx; answer = answer })) (lookup (is_at (nat_cmp q)) es)) where
    plans_opened : plans_of new fs ≡ insert (plans_of old es) seat (plan tx rows answer)
    plans_opened = opened_plans old new seat rows kept.sound sound taken es kept.holders vacant tx answer fs rising writes

    pub seen_opened : (end : World) (now : Numbers) → end ≡ w → now ≡ given_by tx given → book_of end new fs now ≡ with_plan (book_of w old es given) seat (plan tx rows answer)
    seen_opened end now same given_now = λ i. record { world = same i; open_plans = plans_opened i; given = given_now i }

    pub kept_opened : (end : World) (now : Numbers) (room : ℕ) → end ≡ w → now ≡ given_by tx given → seat < 64 → IsStrictlySortedBy nat_cmp (keys_of fs)
        → IsGoodBook (with_plan (book_of w old es given) seat (plan tx rows answer)) → planned_in fs ≡ planned_in es + length tx.steps → planned_in fs < 2 ^ 63 → room ≡ spare + length tx.steps → IsKept end new fs now room
    kept_opened end now room same given_now below up good more few enough = record {
      good = subst IsGoodBook (sym (seen_opened end now same given_now)) good;
      sound = sound;
      seats_up = up;
      seats = λ q some. elim (inserted_some (plans_of old es) seat (plan tx rows answer) q (subst (λ (ps : Map nat_cmp Plan). IsSome (get ps q)) plans_opened some)) [
        | inl same ↦ subst (λ s. s < 64) (sym same) below
        | inr there ↦ kept.seats q there
      ];
      holders = holders_opened old new seat rows kept.sound sound taken es kept.holders vacant fs (plan tx rows answer) plans_opened;
      room = omega (arith, more, enough, kept.room);
      few = few;
    }

  -- there was no memory
  module _ (left : List Lock) (is_left : left ≡ filter (λ l. not (l.seat == seat)) new) (fs : List (ℕ × Opened)) (unchanged : fs ≡ es) where
    plans_given_up : plans_of left fs ≡ plans_of old es
    plans_given_up = (λ i. plans_of (is_left i) (unchanged i)) ∙ given_up old new seat rows kept.sound sound taken es kept.holders vacant

    pub seen_given_up : (end : World) → end ≡ w → book_of end left fs given ≡ book_of w old es given
    seen_given_up end same = λ i. record { world = same i; open_plans = plans_given_up i; given = given }

    pub kept_given_up : (end : World) (room : ℕ) → end ≡ w → room ≡ spare → AreSoundLocks left → IsKept end left fs given room
    kept_given_up end room same enough left_sound =
        let planned : planned_in fs ≡ planned_in es = ap (λ (es : List (ℕ × Opened)). planned_in es) unchanged in
        record {
          good = subst IsGoodBook (sym (seen_given_up end same)) kept.good;
          sound = left_sound;
          seats_up = subst (λ (es : List (ℕ × Opened)). IsStrictlySortedBy nat_cmp (keys_of es)) (sym unchanged) kept.seats_up;
          seats = λ q some. kept.seats q (subst (λ (ps : Map nat_cmp Plan). IsSome (get ps q)) plans_given_up some);
          holders = (λ by row mode held. subst (λ (es : List (ℕ × Opened)). IsSome (get (plans_of left es) by)) (sym unchanged)
              (subst (λ ls. IsSome (get (plans_of ls es) by)) (sym is_left)
              (holders_given_up old new seat rows kept.sound sound taken es kept.holders vacant by row mode (subst (λ ls. Holds ls by row mode) is_left held))));
          room = omega (arith, planned, enough, kept.room);
          few = omega (arith, planned, kept.few);
        }
