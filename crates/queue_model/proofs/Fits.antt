-- What a good world asks of rows, as far as no world is needed to say it.
use Rattle.std.proofs.Common.{◌≡◌, ◌≢◌, ◌⊎◌, inl, inr, ⊎_elim, ◌≤◌, ◌<◌, ◌^◌, ℕ, Bool, true, false, ◌&&◌, eqb, nat_le, List, [], length, Option, None, Some, IsSome, IsSomeAnd, IsTrue, is_some, ap, sym, ◌∙◌, refl, subst, arith}
use Rattle.std.specs.Prelude.{nat_lt, not, cond, ◌||◌, is_none}
use Rattle.std.proofs.lemmas.Bool.{true≢false, and_parts, lt-ltb, eq-eqb}
use Rattle.std.specs.Cmp.{IsTotalOrder}
use Rattle.std.specs.FinMap.{IsAntisymmetric}
use Rattle.std.specs.FinMap.Entries.{find_tied}
use Rattle.std.specs.Ordering.{is_eq}
use Rattle.std.specs.Str.{bytes_eq}
use Rattle.std.specs.declared.cmp.Ordering.{Ordering}
use Rattle.std.specs.declared.cmp.Ordering.TheVariants.{Less, Equal, Greater}
use Rattle.job_states.specs.Length.{IsName, is_within, is_name}
use Rattle.job_states.specs.Moment.{IsMoment, is_moment, last_moment}
use Rattle.job_states.specs.Ranges.{is_in_range, is_number, is_row, is_count, are_counts, is_limited}
use Rattle.job_states.specs.States.{permit_of, stage_of, is_blocked}
use Rattle.job_states.specs.declared.job.Counted.{Counted}
use Rattle.job_states.specs.declared.job.JobRow.{JobRow}
use Rattle.job_states.specs.declared.job.Limited.{Limited}
use Rattle.job_states.specs.declared.job.State.{State}
use Rattle.job_states.specs.declared.job.State.TheVariants as state
use Rattle.job_states.specs.declared.transition.Transition.{Transition}
use Rattle.job_states.specs.declared.transition.Transition.TheVariants.{Enqueue, Fail, Retry}
use Rattle.semaphores.specs.Semaphore.{Semaphore}
use Rattle.queue_model.specs.GoodWorld.{IsGiven, IsNext}
use Rattle.queue_model.specs.Map.{Map, get}
use Rattle.queue_model.specs.Named.{above}
use Rattle.queue_model.specs.Sights.{set, without_job, with_run}
use Rattle.queue_model.specs.Transitions.{anew}
use Rattle.queue_model.specs.World.{run_cmp, is_exactly}
use Rattle.queue_model.specs.declared.Job.{Job}
use Rattle.queue_model.specs.declared.Process.{Process}
use Rattle.queue_model.proofs.Balances.{limit_of, some_permit}
use Rattle.queue_model.proofs.Cases.{same_bytes, bytes_same}
use Rattle.queue_model.proofs.Goods.{row_then, passes, is_keyed, is_process, comes_from, has_run}
use Rattle.queue_model.proofs.Maps.{get-insert, get-retain_keys, get-set_same, get-set_other, runs_total, exact_runs}
use Rattle.queue_model.proofs.Steps.{same_Some}

-- ---- numbers

pub given_still : (next : ℕ) (o : Option ℕ) (n : ℕ) → IsGiven next n → IsGiven (above next o) n
given_still next None n g = g
given_still next (Some k) n g = (g.0, let less = g.1 in omega (arith, less))

pub given_now : (next : ℕ) (o : Option ℕ) (n : ℕ) → o ≡ Some n → is_number n ≡ true → IsGiven (above next o) n
given_now next o n e is = (is, subst (λ x. n < above next x) (sym e) (omega arith))

pub next_above : (next : ℕ) (o : Option ℕ) → IsNext next → ((n : ℕ) → o ≡ Some n → is_number n ≡ true) → IsNext (above next o)
next_above next None a f = a
next_above next (Some n) a f =
    let p = and_parts (nat_le 1 n) (nat_le n (2 ^ 63)) (f n refl) in
    let low = a.0 in
    let high = a.1 in
    let most : n ≤ 2 ^ 63 = at_most n (2 ^ 63) p.1 in
    (omega (arith, low), omega (arith, high, most))
  where
    at_most : (x y : ℕ) → nat_le x y ≡ true → x ≤ y
    at_most x y h = grind arith

pub name_is : (bytes : List ℕ) → is_name bytes ≡ true → IsName bytes
name_is bytes h = (grind arith, grind arith)

pub moment_is : (m : ℕ) → is_moment m ≡ true → IsMoment m
moment_is m h = grind arith

-- ---- an entry after a change of a map

-- the entry is the one that changed, or another one
pub after_set : {K X : Type 0} {R : K → K → Ordering} → IsTotalOrder R → IsAntisymmetric R → ((a b : K) → (a ≡ b) ⊎ (a ≡ b → ⊥)) → (m : Map R X) (k : Option K) (x : Option X) (q : K) → ((k ≡ Some q) × (get (set m k x) q ≡ x)) ⊎ ((k ≢ Some q) × (get (set m k x) q ≡ get m q))
after_set o exact same m None x q = inr (λ e. true≢false (sym (ap is_some e)), refl)
after_set o exact same m (Some k) x q = ⊎_elim here there (same k q)
  where
    here : k ≡ q → ((Some k ≡ Some q) × (get (set m (Some k) x) q ≡ x)) ⊎ ((Some k ≢ Some q) × (get (set m (Some k) x) q ≡ get m q))
    here e = inl (ap Some e, ap (λ a. get (set m (Some a) x) q) e ∙ get-set_same o m q x)

    there : ¬ (k ≡ q) → ((Some k ≡ Some q) × (get (set m (Some k) x) q ≡ x)) ⊎ ((Some k ≢ Some q) × (get (set m (Some k) x) q ≡ get m q))
    there ne = let other : Some k ≢ Some q = λ e. ne (same_Some k q e) in inr (other, get-set_other o exact m (Some k) x q other)

pub named_or_other : {K : Type 0} → ((a b : K) → (a ≡ b) ⊎ (a ≡ b → ⊥)) → (o : Option K) (k : K) → (o ≡ Some k) ⊎ (o ≢ Some k)
named_or_other same None k = inr (λ e. true≢false (sym (ap is_some e)))
named_or_other same (Some x) k = ⊎_elim (λ e. inl (ap Some e)) (λ ne. inr (λ e. ne (same_Some x k e))) (same x k)

pub same_text : (a b : List ℕ) → (a ≡ b) ⊎ (a ≡ b → ⊥)
same_text a b = by (bytes_eq a b) refl
  where
    by : (t : Bool) → bytes_eq a b ≡ t → (a ≡ b) ⊎ (a ≡ b → ⊥)
    by true e = inl (same_bytes a b e)
    by false e = inr (λ same. true≢false (sym (ap (bytes_eq a) (sym same) ∙ bytes_same a) ∙ e))

-- ---- rows

row_counted : (a x y l x' y' : Bool) → (a && x && y && l) ≡ true → x' ≡ true → y' ≡ true → (a && x' && y' && l) ≡ true
row_counted a x y l x' y' h p q = grind arith

fits_counted : (r : JobRow) (executions : ℕ) (counts : List Counted) → is_row r ≡ true → is_count executions ≡ true → are_counts counts ≡ true → is_row (record r { executions = executions; counts = counts }) ≡ true
fits_counted r executions counts h e n = row_counted _ (is_count r.executions) (are_counts r.counts) (is_limited r.limited) (is_count executions) (are_counts counts) h e n

-- the row that the transition gives the job is in range
pub row_fits : (t : Transition) (before : Option Job) (r : JobRow) → is_in_range t ≡ true → ((o : Job) → before ≡ Some o → is_row o.row ≡ true) → row_then t before ≡ Some r → is_row r ≡ true
row_fits (Enqueue new put) before r range old e = ap is_row (sym (same_Some new r e)) ∙ (and_parts _ _ (and_parts _ _ range).0).0
row_fits (Fail id error message None) (Some o) r range old e = ap is_row (sym (same_Some o.row r e)) ∙ old o refl
row_fits (Fail id error message (Some counters)) (Some o) r range old e =
    let p = and_parts (is_count counters.executions) (are_counts counters.counts) (and_parts _ _ range).1 in
    ap is_row (sym (same_Some (record o.row { executions = counters.executions; counts = counters.counts }) r e)) ∙ fits_counted o.row counters.executions counters.counts (old o refl) p.0 p.1
row_fits (Retry id put) (Some o) r range old e = ap is_row (sym (same_Some (anew o.row) r e)) ∙ fits_counted o.row 0 [] (old o refl) refl refl
row_fits t None r range old e = absurd (true≢false (ap is_some (sym e)))
row_fits t (Some o) r range old e = ap is_row (sym (same_Some o.row r e)) ∙ old o refl

-- the limit that the transition's job is under is in range
pub limit_fits : (t : Transition) (before : Option Job) → is_in_range t ≡ true → ((o : Job) → before ≡ Some o → is_row o.row ≡ true) → is_limited (limit_of t before) ≡ true
limit_fits (Enqueue r put) before range old = (and_parts _ (is_limited r.limited) (and_parts _ _ (and_parts _ _ range).0).0).1
limit_fits t None range old = refl
limit_fits t (Some o) range old = (and_parts _ (is_limited o.row.limited) (old o refl)).1

-- ---- the key of a job

pub keyed_before : (j : Job) → (IsSome (permit_of j.state) → IsSome j.row.limited) → (IsTrue (is_blocked (Some (stage_of j.state))) → IsSome j.row.limited) → is_keyed j ≡ true
keyed_before j permit blocked = by j.row.limited j.state permit blocked
  where
    by : (limited : Option Limited) (x : State) → (IsSome (permit_of x) → IsSome limited) → (IsTrue (is_blocked (Some (stage_of x))) → IsSome limited) → (is_some limited || (is_none (permit_of x) && not (is_blocked (Some (stage_of x))))) ≡ true
    by (Some l) x p b = refl
    by None (state.Scheduled at) p b = refl
    by None (state.Ready None) p b = refl
    by None (state.Ready (Some g)) p b = absurd (true≢false (sym (p refl)))
    by None (state.Blocked until) p b = absurd (true≢false (sym (b refl)))
    by None (state.Claimed pid None) p b = refl
    by None (state.Claimed pid (Some g)) p b = absurd (true≢false (sym (p refl)))
    by None (state.Failed error message) p b = refl
    by None (state.Finished at) p b = refl

pub key_of_permit : (j : Job) → is_keyed j ≡ true → IsSome (permit_of j.state) → IsSome j.row.limited
key_of_permit j h permit = grind arith

pub key_of_blocked : (j : Job) → is_keyed j ≡ true → IsTrue (is_blocked (Some (stage_of j.state))) → IsSome j.row.limited
key_of_blocked j h blocked = grind arith

-- ---- tests on numbers

abbrev pub is_given : (next n : ℕ) → Bool
is_given next n = is_number n && nat_lt n next

pub given_test : (next n : ℕ) → is_given next n ≡ true → IsGiven next n
given_test next n h = let p = and_parts (is_number n) (nat_lt n next) h in (p.0, less n next p.1)
  where
    less : (x y : ℕ) → nat_lt x y ≡ true → x < y
    less x y h = grind arith

pub test_given : (next n : ℕ) → IsGiven next n → is_given next n ≡ true
test_given next n g = ap (λ b. b && nat_lt n next) g.0 ∙ lt-ltb n next g.1

pub passes_all : (p : ℕ → Bool) (o : Option ℕ) → ((n : ℕ) → o ≡ Some n → p n ≡ true) → passes p o ≡ true
passes_all p None h = refl
passes_all p (Some n) h = h n refl

-- ---- the parts of a semaphore

pub from_limit : (old : Option Semaphore) (limited : Option Limited) (named : Option ℕ) (new : Semaphore) (p : ℕ → Bool) → comes_from old limited named new ≡ true → ((x : Semaphore) → old ≡ Some x → p x.limit ≡ true) → ((l : Limited) → limited ≡ Some l → p l.to ≡ true) → p new.limit ≡ true
from_limit old limited named new p h a b = grind arith

pub from_generation : (old : Option Semaphore) (limited : Option Limited) (named : Option ℕ) (new : Semaphore) (p : ℕ → Bool) → comes_from old limited named new ≡ true → ((x : Semaphore) → old ≡ Some x → p x.generation ≡ true) → ((n : ℕ) → named ≡ Some n → p n ≡ true) → p new.generation ≡ true
from_generation old limited named new p h a b = grind arith

pub from_expires : (old : Option Semaphore) (limited : Option Limited) (named : Option ℕ) (new : Semaphore) → comes_from old limited named new ≡ true → ((x : Semaphore) → old ≡ Some x → x.expires ≤ last_moment) → new.expires ≤ last_moment
from_expires old limited named new h a = grind arith

pub some_limit : (limited : Option Limited) → is_limited limited ≡ true → some_permit limited
some_limit None h = tt
some_limit (Some l) h = grind arith

pub limit_is : (n : ℕ) → is_within 1 65_535 n ≡ true → (1 ≤ n) × (n ≤ 65_535)
limit_is n h = (grind arith, grind arith)

pub is_limit : (n : ℕ) → (1 ≤ n) × (n ≤ 65_535) → is_within 1 65_535 n ≡ true
is_limit n h = let low = h.0 in let high = h.1 in grind arith

pub limit_to : (l : Limited) → is_limited (Some l) ≡ true → is_within 1 65_535 l.to ≡ true
limit_to l h = grind arith

pub key_of_limited : (l : Limited) → is_limited (Some l) ≡ true → length l.key ≤ 257
key_of_limited l h = grind arith

pub process_in_range : (p : Process) → IsName p.name → IsMoment p.since → IsMoment p.beat → is_process p ≡ true
process_in_range p name since beat = let low = name.0 in let high = name.1 in grind arith

-- ---- recurring executions

-- one that is left was there, and its job doesn't go
pub run_left : (recurring : Map run_cmp ℕ) (k : Option ℕ) (j : Option Job) (run : List ℕ × ℕ) (id : ℕ) → get (without_job recurring k j) run ≡ Some id → (get recurring run ≡ Some id) × (k ≡ Some id → is_some j ≡ true)
run_left recurring None j run id h = (h, λ e. absurd (true≢false (sym (ap is_some e))))
run_left recurring (Some x) (Some j) run id h = (h, λ e. refl)
run_left recurring (Some x) None run id h = by (get recurring run) refl (sym (get-retain_keys recurring stays run alike) ∙ h)
  where
    stays : List ℕ × ℕ → Bool
    stays other = not (is_exactly x (get recurring other))

    alike : (other : List ℕ × ℕ) → run_cmp run other ≡ Equal → stays other ≡ stays run
    alike other tie = ap (λ o. not (is_exactly x o)) (find_tied run_cmp runs_total run other tie recurring.entries)

    by : (o : Option ℕ) → get recurring run ≡ o → cond (not (is_exactly x o)) o None ≡ Some id → (o ≡ Some id) × (Some x ≡ Some id → false ≡ true)
    by None e h = absurd (true≢false (sym (ap is_some h)))
    by (Some n) e h = test (eqb n x) refl h
      where
        test : (b : Bool) → eqb n x ≡ b → cond (not b) (Some n) None ≡ Some id → (Some n ≡ Some id) × (Some x ≡ Some id → false ≡ true)
        test true is h = absurd (true≢false (sym (ap is_some h)))
        test false is h = (h, λ e. sym is ∙ eq-eqb n x (same_Some n id h ∙ sym (same_Some x id e)))

-- one that is there was left, or is of the run
pub run_made : (recurring : Map run_cmp ℕ) (task : Option (List ℕ)) (last named : Option ℕ) (run : List ℕ × ℕ) (id : ℕ) → get (with_run recurring task last named) run ≡ Some id → (get recurring run ≡ Some id) ⊎ ((task ≡ Some run.0) × (last ≡ Some run.1) × (named ≡ Some id))
run_made recurring None last named run id h = inl h
run_made recurring (Some task) None named run id h = inl h
run_made recurring (Some task) (Some time) None run id h = inl h
run_made recurring (Some task) (Some time) (Some x) run id h = by (run_cmp run (task, time)) refl (sym (get-insert runs_total recurring (task, time) x run) ∙ h)
  where
    by : (r : Ordering) → run_cmp run (task, time) ≡ r → cond (is_eq r) (Some x) (get recurring run) ≡ Some id → (get recurring run ≡ Some id) ⊎ ((Some task ≡ Some run.0) × (Some time ≡ Some run.1) × (Some x ≡ Some id))
    by Less tie h = inl h
    by Equal tie h = let same = exact_runs run (task, time) tie in inr (sym (ap (λ r. Some r.0) same), sym (ap (λ r. Some r.1) same), h)
    by Greater tie h = inl h

pub has_run_is : (time : ℕ) (o : Option ℕ) → has_run time o ≡ true → IsSomeAnd o (λ last. time ≤ last)
has_run_is time None h = true≢false (sym h)
has_run_is time (Some last) h = grind arith

pub is_has_run : (time : ℕ) (o : Option ℕ) → IsSomeAnd o (λ last. time ≤ last) → has_run time o ≡ true
is_has_run time None h = absurd h
is_has_run time (Some last) h = grind arith
