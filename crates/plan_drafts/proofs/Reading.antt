-- What a transition that is allowed reads and names.
use Rattle.std.proofs.Common.{◌≡◌, ◌≤◌, ◌<◌, ◌-◌, ◌^◌, ℕ, Bool, true, false, List, [], ◌++◌, ◌∷◌, Option, None, Some, is_some, Result, Ok, Err, OnOk, ap, sym, ◌∙◌, refl, subst, ⊎_elim, append_assoc, arith}
use Rattle.std.proofs.lemmas.Bool.{true≢false, cases_lt}
use Rattle.std.proofs.lemmas.List.{map-append}
use Rattle.std.specs.Option.{option_map}
use Rattle.job_states.specs.declared.job.JobRow.{JobRow}
use Rattle.job_states.specs.declared.row.Mode.{Mode}
use Rattle.job_states.specs.declared.row.Row.{Row}
use Rattle.job_states.specs.declared.row.Row.TheVariants as row
use Rattle.job_states.specs.declared.row.Mode.TheVariants.{Alone}
use Rattle.job_states.specs.declared.transition.Put.{Put}
use Rattle.job_states.specs.declared.transition.Transition.{Transition}
use Rattle.job_states.specs.declared.transition.Transition.TheVariants.{Enqueue, Run}
use Rattle.queue_model.specs.Chain.{◌>>=◌}
use Rattle.queue_model.specs.Held.{Held, held, holds, held_rows, row_of}
use Rattle.queue_model.specs.Map.{get}
use Rattle.queue_model.specs.Named.{job_named, pid_named, noted}
use Rattle.queue_model.specs.Sights.{Rows, Sight, sees, pid_of}
use Rattle.queue_model.specs.Transitions.{changes}
use Rattle.queue_model.specs.World.{World}
use Rattle.queue_model.specs.declared.Job.{Job}
use Rattle.queue_model.specs.declared.Numbers.{Numbers}
use Rattle.queue_model.proofs.Steps.{same_Some}
use Rattle.transition_table.specs.Seen.{Found, HasNext, job_seen}
use Rattle.plan_model.specs.Drafts.{Draft}
use Rattle.plan_model.specs.GoodDraft.{IsAllowed, IsFresh}
use Rattle.plan_model.proofs.AllowedSeen.{rows_of}
use Rattle.plan_drafts.specs.Drafting.{Drafting, drafting, with_rows, with_step}
use Rattle.plan_drafts.specs.Left.{world_after}
use Rattle.plan_drafts.specs.Made.{IsMade}
use Rattle.plan_drafts.specs.Pushes.{IsLeft, IsRead, MayRise, NamesNext, is_run, job_made, job_moved, process_made}
use Rattle.plan_drafts.specs.declared.pushed.Pushed.{Pushed}
use Rattle.plan_drafts.proofs.Pushing.{after_is, pushed}

-- ---- its job

new_there : (m : ℕ) (s : Sight) (row : JobRow) (put : Put) (c : Rows) → changes m s (Enqueue row put) ≡ Some c → s.rows.job ≡ None
new_there m s row put c h = grind arith

pub unread : (m : ℕ) (d : Draft) (t : Transition) → IsAllowed m d t → job_moved t ≡ None → is_run t ≡ false → None ≡ job_seen (job_named t >>= get d.world.jobs)
unread m d (Enqueue row put) allowed none other = let rows = rows_of m (Enqueue row put) d allowed in ap job_seen (sym (new_there m (sees d.world (holds d.world (Enqueue row put))) row put rows.0 rows.1))
unread m d (Run task time id) allowed none other = absurd (true≢false other)
unread m d t allowed none other = ap (λ k. job_seen (k >>= get d.world.jobs)) (sym none)

pub run_moves_none : (t : Transition) → is_run t ≡ true → job_moved t ≡ None
run_moves_none t run = grind arith

run_holds_none : (t : Transition) (j : Option Job) → is_run t ≡ true → (held j t).key ≡ None
run_holds_none t j run = grind arith

-- what is held doesn't depend on a run's job
pub held_by : (w : World) (t : Transition) (read : Option Found) (h : Held) → IsRead w t read → ((o : Option Job) → read ≡ job_seen o → h ≡ held o t) → h ≡ holds w t
held_by w (Run task time id) read h is by = by None (is.run refl)
held_by w t read h is by = by (job_named t >>= get w.jobs) (is.job refl)

-- ---- what it leaves

pub moves_one : (o : Option ℕ) (id : ℕ) → o ≡ Some id → o ≡ None → ⊥
moves_one o id some none = true≢false (ap is_some (sym some ∙ none))

pub moved_key : {X : Type 0} (k copy : List ℕ) (x y : X) → copy ≡ k → x ≡ y → ◌≡◌ {A = Option (List ℕ × X)} (Some (copy, x)) (Some (k, y))
moved_key k copy x y e f = λ i. Some (e i, f i)

pub moved_left : {X : Type 0} (o : Option ℕ) (id : ℕ) (x y : X) → o ≡ Some id → x ≡ y → ◌≡◌ {A = Option (ℕ × X)} (Some (id, y)) (option_map (λ n. (n, x)) o)
moved_left {X} o id x y e f =
    let here : ◌≡◌ {A = Option (ℕ × X)} (Some (id, y)) (Some (id, x)) = λ i. Some (id, sym f i) in
    here ∙ ap (option_map (λ n. (n, x))) (sym e)

module _ (w : World) (t : Transition) (read : Option Found) (is : IsRead w t read) where
  pub job_left : {X : Type 0} (x : X) (left : Option (ℕ × X)) → (read ≡ job_seen (job_named t >>= get w.jobs) → left ≡ option_map (λ id. (id, x)) (job_moved t)) → (job_moved t ≡ None → left ≡ None) → left ≡ option_map (λ id. (id, x)) (job_moved t)
  job_left {X} x left moves none = by (is_run t) refl
    where
      by : (b : Bool) → is_run t ≡ b → left ≡ option_map (λ id. (id, x)) (job_moved t)
      by true run = let no = run_moves_none t run in none no ∙ ap (option_map (λ id. (id, x))) (sym no)
      by false other = moves (is.job other)

  pub semaphore_left : {X : Type 0} (x : X) (key : Option (List ℕ)) (left : Option (List ℕ × X)) → key ≡ (holds w t).key → (read ≡ job_seen (job_named t >>= get w.jobs) → left ≡ option_map (λ k. (k, x)) key) → (key ≡ None → left ≡ None) → left ≡ option_map (λ k. (k, x)) (holds w t).key
  semaphore_left {X} x key left same moves none = by (is_run t) refl
    where
      by : (b : Bool) → is_run t ≡ b → left ≡ option_map (λ k. (k, x)) (holds w t).key
      by true run = let no = run_holds_none t (job_named t >>= get w.jobs) run in none (same ∙ no) ∙ ap (option_map (λ k. (k, x))) (sym no)
      by false other = moves (is.job other) ∙ ap (option_map (λ k. (k, x))) same

-- ---- the numbers that it names

job_there : (m : ℕ) (s : Sight) (t : Transition) (c : Rows) (n : ℕ) → changes m s t ≡ Some c → job_named t ≡ Some n → job_made t ≡ None → is_some s.rows.job ≡ true
job_there m s t c n h named old = grind arith

process_there : (m : ℕ) (s : Sight) (t : Transition) (c : Rows) (n : ℕ) → changes m s t ≡ Some c → pid_named t ≡ Some n → process_made t ≡ None → is_some s.rows.process ≡ true
process_there m s t c n h named old = grind arith

process_held : (t : Transition) (j : Option Job) (n : ℕ) → pid_named t ≡ Some n → pid_of (held j t).process ≡ Some n
process_held t j n named = grind arith

made_named : (t : Transition) (n : ℕ) → job_made t ≡ Some n → job_named t ≡ Some n
made_named t n e = grind arith

process_made_named : (t : Transition) (n : ℕ) → process_made t ≡ Some n → pid_named t ≡ Some n
process_made_named t n e = grind arith

-- what is there was given
given_there : {X : Type 0} (next n : ℕ) (o : Option X) → (next ≤ n → o ≡ None) → is_some o ≡ true → n < next
given_there next n o fresh there = ⊎_elim (λ lt. lt) (λ le. absurd (true≢false (sym there ∙ ap is_some (fresh le)))) (cases_lt n next)

rises : (n next : ℕ) → n ≤ next → next < 2 ^ 64 - 1 → n < 2 ^ 64 - 1
rises n next le below = omega arith

pub has_next : (m : ℕ) (d : Draft) (t : Transition) → IsAllowed m d t → IsFresh d.world d.given → NamesNext d.given t → MayRise d.given → HasNext t
has_next m d t allowed fresh next rise = record {
  job = λ n e. by_job n e (job_made t) refl;
  pid = λ n e. by_process n e (process_made t) refl;
  generation = λ n e. rises n d.given.generation (next.generation n e) rise.generation;
}
  where
    s : Sight
    s = sees d.world (holds d.world t)

    rows : (c : Rows) × (changes m (sees d.world (holds d.world t)) t ≡ Some c)
    rows = rows_of m t d allowed

    by_job : (n : ℕ) → job_named t ≡ Some n → (o : Option ℕ) → job_made t ≡ o → n < 2 ^ 64 - 1
    by_job n e None old =
        let there : is_some (get d.world.jobs n) ≡ true = ap (λ k. is_some (k >>= get d.world.jobs)) (sym e) ∙ job_there m (sees d.world (holds d.world t)) t rows.0 n rows.1 e old in
        let below : n < d.given.job = given_there d.given.job n (get d.world.jobs n) (fresh.jobs n) there in
        rises n d.given.job (omega arith) rise.job
    by_job n e (Some k) new = rises n d.given.job (let is = next.job k new in let same = same_Some n k (sym e ∙ made_named t k new) in omega (arith, is, same)) rise.job

    by_process : (n : ℕ) → pid_named t ≡ Some n → (o : Option ℕ) → process_made t ≡ o → n < 2 ^ 64 - 1
    by_process n e None old =
        let there : is_some (get d.world.processes n) ≡ true = ap (λ k. is_some (k >>= get d.world.processes)) (sym (process_held t (job_named t >>= get d.world.jobs) n e)) ∙ process_there m (sees d.world (holds d.world t)) t rows.0 n rows.1 e old in
        let below : n < d.given.pid = given_there d.given.pid n (get d.world.processes n) (fresh.processes n) there in
        rises n d.given.pid (omega arith) rise.pid
    by_process n e (Some k) new = rises n d.given.pid (let is = next.pid k new in let same = same_Some n k (sym e ∙ process_made_named t k new) in omega (arith, is, same)) rise.pid

-- ---- rows

regroup : (x a b c d e : List (Row × Mode)) → ((((x ++ a) ++ b) ++ c) ++ d) ++ e ≡ x ++ ((((a ++ b) ++ c) ++ d) ++ e)
regroup x a b c d e = simp append_assoc

row_by : {K : Type 0} (f : K → Row × Mode) (o : Option K) → row_of (λ r. r) (option_map f o) ≡ row_of f o
row_by f None = refl
row_by f (Some k) = refl

pub all_held : (h : Held) (r0 r1 r2 r3 r4 r5 : List (Row × Mode)) (job key process queue task : Option (Row × Mode))
    → job ≡ option_map (λ id. (row.Job id, Alone)) h.job → key ≡ option_map (λ k. (row.Key k, Alone)) h.key → process ≡ option_map (λ p. (row.Process p.0, p.1)) h.process → queue ≡ option_map (λ q. (row.Queue q, Alone)) h.queue → task ≡ option_map (λ t. (row.Task t, Alone)) h.task
    → r1 ≡ r0 ++ row_of (λ r. r) job → r2 ≡ r1 ++ row_of (λ r. r) key → r3 ≡ r2 ++ row_of (λ r. r) process → r4 ≡ r3 ++ row_of (λ r. r) queue → r5 ≡ r4 ++ row_of (λ r. r) task → r5 ≡ r0 ++ held_rows h
all_held h r0 r1 r2 r3 r4 r5 job key process queue task j k p q t e1 e2 e3 e4 e5 =
    let one = ap (row_of (λ r. r)) j ∙ row_by (λ id. (row.Job id, Alone)) h.job in
    let two = ap (row_of (λ r. r)) k ∙ row_by (λ key. (row.Key key, Alone)) h.key in
    let three = ap (row_of (λ r. r)) p ∙ row_by (λ p. (row.Process p.0, p.1)) h.process in
    let four = ap (row_of (λ r. r)) q ∙ row_by (λ queue. (row.Queue queue, Alone)) h.queue in
    let five = ap (row_of (λ r. r)) t ∙ row_by (λ task. (row.Task task, Alone)) h.task in
    e5 ∙ ap (λ x. x ++ row_of (λ r. r) task) (e4 ∙ ap (λ x. x ++ row_of (λ r. r) queue) (e3 ∙ ap (λ x. x ++ row_of (λ r. r) process) (e2 ∙ ap (λ x. x ++ row_of (λ r. r) key) e1)))
    ∙ regroup r0 (row_of (λ r. r) job) (row_of (λ r. r) key) (row_of (λ r. r) process) (row_of (λ r. r) queue) (row_of (λ r. r) task)
    ∙ (λ i. r0 ++ ((((one i ++ two i) ++ three i) ++ four i) ++ five i))

-- ---- the draft with it

pub with_it : (w : World) (m : ℕ) (first given : Numbers) (before : List Pushed) (p : Pushed) (rows : List (Row × Mode))
    → drafting w m first (noted given m p.step) (before ++ p ∷ []) rows ≡ with_step (drafting w m first given before rows) p.step
with_it w m first given before p rows = λ i. record (drafting w m first given before rows) {
  draft = record { world = after_is w m before p i; steps = map-append (λ q. q.step) before (p ∷ []) i; rows = rows; given = noted given m p.step };
}

pub rows_more : (w : World) (m : ℕ) (first given : Numbers) (before : List Pushed) (rows more : List (Row × Mode)) (h : Held) (t : Transition) (v : Drafting) → drafting w m first given before rows ≡ v → more ≡ rows ++ held_rows h → h ≡ holds v.draft.world t
    → drafting w m first given before more ≡ with_rows v (held_rows (holds v.draft.world t))
rows_more w m first given before rows more h t v view e is = ap (drafting w m first given before) (e ∙ ap (λ h. rows ++ held_rows h) is) ∙ ap (λ d. with_rows d (held_rows (holds v.draft.world t))) view

pub made_more : (w : World) (m : ℕ) (first given : Numbers) (before : List Pushed) (rows : List (Row × Mode)) (v : Drafting) (p : Pushed) (next : Numbers) (after : List Pushed) → IsMade w m given before → drafting w m first given before rows ≡ v
    → IsAllowed v.moment v.draft p.step → NamesNext v.draft.given p.step → IsLeft v.draft.world v.moment p.step p → next ≡ noted given m p.step → after ≡ before ++ p ∷ [] → IsMade w m next after
made_more w m first given before rows v p next after made view allowed names left is longer =
    let P : Drafting → Type 0 = λ v. IsAllowed v.moment v.draft p.step → NamesNext v.draft.given p.step → IsLeft v.draft.world v.moment p.step p → IsMade w m (noted given m p.step) (before ++ p ∷ []) in
    subst (λ n. IsMade w m n after) (sym is) (subst (λ es. IsMade w m (noted given m p.step) es) (sym longer) (subst P view base allowed names left))
  where
    base : IsAllowed m (drafting w m first given before rows).draft p.step → NamesNext given p.step → IsLeft (world_after w m before) m p.step p → IsMade w m (noted given m p.step) (before ++ p ∷ [])
    base allowed names left =
        let r = rows_of m p.step (drafting w m first given before rows).draft allowed in
        pushed w m given before made p r.0 names r.1 (left.job r.0 r.1) (left.semaphore r.0 r.1)

pub ok_then : {T E P Q : Type 0} (r : Result T E) → (P → Q) → OnOk r P → OnOk r Q
ok_then (Ok x) f h = f h
ok_then (Err e) f h = tt
