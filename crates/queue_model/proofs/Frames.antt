-- What a transition leaves as it was, and what it makes of two worlds that are the same where it looks.
use Rattle.std.proofs.Common.{◌≡◌, ◌+◌, ℕ, Bool, cond, List, Option, None, Some, ap, sym, ◌∙◌, refl, arith, count_by}
use Rattle.std.specs.Ordering.{nat_cmp}
use Rattle.std.specs.Cmp.{nat_cmp_total}
use Rattle.std.specs.FinMap.{nat_cmp-IsAntisymmetric}
use Rattle.job_states.specs.declared.row.Mode.{Mode}
use Rattle.job_states.specs.declared.row.Mode.TheVariants.{Shared, Alone}
use Rattle.job_states.specs.declared.row.Row.{Row}
use Rattle.job_states.specs.declared.row.Row.TheVariants as row
use Rattle.queue_model.specs.Chain.{◌>>=◌}
use Rattle.queue_model.specs.Footprints.{SameAt}
use Rattle.queue_model.specs.Held.{Held}
use Rattle.queue_model.specs.Map as map
use Rattle.queue_model.specs.Map.{Map, get}
use Rattle.queue_model.specs.Sights.{Rows, pid_of, set, with_rows}
use Rattle.queue_model.specs.World.{World, is_holder, is_claimed_by}
use Rattle.queue_model.specs.declared.Job.{Job}
use Rattle.queue_model.specs.declared.Numbers.{Numbers}
use Rattle.queue_model.proofs.Counts.{sum_by-set, weight}
use Rattle.queue_model.proofs.Maps.{get-set_both, get-set_itself, get-set_other, texts_total, exact_texts}

-- the world with these rows and numbers
abbrev pub made : World → Held → Rows → Numbers → World
made w h rows n = record (with_rows w h rows) { numbers = n }

-- ---- counts of jobs

-- 1 where the job is there and passes
abbrev pub one : (Job → Bool) → Option Job → ℕ
one p j = weight (λ x. cond (p x) 1 0) j

pub count-set : (p : Job → Bool) (m : Map nat_cmp Job) (k : Option ℕ) (j : Option Job) → count_by p (map.values (set m k j)) + one p (k >>= get m) ≡ count_by p (map.values m) + one p (k >>= λ _. j)
count-set p m None j = refl
count-set p m (Some id) j = sum_by-set nat_cmp_total (λ x. cond (p x) 1 0) nat_cmp-IsAntisymmetric m id j

-- counts that were the same stay the same
count_same : (p : Job → Bool) (w v : World) (k : Option ℕ) (j : Option Job) → (k >>= get w.jobs) ≡ (k >>= get v.jobs) → count_by p (map.values w.jobs) ≡ count_by p (map.values v.jobs) → count_by p (map.values (set w.jobs k j)) ≡ count_by p (map.values (set v.jobs k j))
count_same p w v k j same h =
    let a = count-set p w.jobs k j in
    let b = count-set p v.jobs k j in
    let e = ap (one p) same in
    omega (arith, a, b, e, h)

-- ---- two worlds

-- one change of both leaves them the same at each row where they were
pub made_same : (w v : World) (h : Held) (rows : Rows) (n l : Numbers) (r : Row) (mode : Mode) → (h.job >>= get w.jobs) ≡ (h.job >>= get v.jobs) → SameAt w v r mode → SameAt (made w h rows n) (made v h rows l) r mode
made_same w v h rows n l (row.Job i) mode s e = get-set_both nat_cmp_total w.jobs v.jobs h.job rows.job i e
made_same w v h rows n l (row.Key k) mode s e = (get-set_both texts_total w.semaphores v.semaphores h.key rows.semaphore k e.0, λ g. count_same (is_holder k g) w v h.job rows.job s (e.1 g))
made_same w v h rows n l (row.Process p) Shared s e = get-set_both nat_cmp_total w.processes v.processes (pid_of h.process) rows.process p e
made_same w v h rows n l (row.Process p) Alone s e = (get-set_both nat_cmp_total w.processes v.processes (pid_of h.process) rows.process p e.0, count_same (is_claimed_by p) w v h.job rows.job s e.1)
made_same w v h rows n l (row.Queue q) mode s e = get-set_both texts_total w.paused v.paused h.queue rows.pause q e
made_same w v h rows n l (row.Task t) mode s e = get-set_both texts_total w.last_runs v.last_runs h.task rows.last_run t e

-- ---- one world, before and after

-- what is held leaves room for the row in this mode
abbrev pub Apart : Held → Row → Mode → Type 0
Apart h (row.Job id) mode = ¬ (h.job ≡ Some id)
Apart h (row.Key key) mode = ¬ (h.key ≡ Some key)
Apart h (row.Process pid) Shared = ¬ (h.process ≡ Some (pid, Alone))
Apart h (row.Process pid) Alone = (mode : Mode) → ¬ (h.process ≡ Some (pid, mode))
Apart h (row.Queue queue) mode = ¬ (h.queue ≡ Some queue)
Apart h (row.Task task) mode = ¬ (h.task ≡ Some task)

-- permits change hands only under their key, claims only under their process, and what is shared stays
pub record Keeps (w : World) (h : Held) (rows : Rows) : Type 0 where
  pub permits : (k : List ℕ) (g : ℕ) → ¬ (h.key ≡ Some k) → one (is_holder k g) (h.job >>= get w.jobs) ≡ one (is_holder k g) (h.job >>= λ _. rows.job)
  pub claims : (pid : ℕ) → ((m : Mode) → ¬ (h.process ≡ Some (pid, m))) → one (is_claimed_by pid) (h.job >>= get w.jobs) ≡ one (is_claimed_by pid) (h.job >>= λ _. rows.job)
  pub shared : (pid : ℕ) → h.process ≡ Some (pid, Shared) → rows.process ≡ (pid_of h.process >>= get w.processes)

stays : (p : Job → Bool) (w : World) (k : Option ℕ) (j : Option Job) → one p (k >>= get w.jobs) ≡ one p (k >>= λ _. j) → count_by p (map.values w.jobs) ≡ count_by p (map.values (set w.jobs k j))
stays p w k j same = let a = count-set p w.jobs k j in omega (arith, a, same)

abbrev with_alone : Option ℕ → Option (ℕ × Mode)
with_alone None = None
with_alone (Some pid) = Some (pid, Alone)

process_stays : (w : World) (h : Held) (rows : Rows) (p : ℕ) → ((pid : ℕ) → h.process ≡ Some (pid, Shared) → rows.process ≡ (pid_of h.process >>= get w.processes)) → ¬ (h.process ≡ Some (p, Alone)) → get w.processes p ≡ get (set w.processes (pid_of h.process) rows.process) p
process_stays w h rows p shared apart = by h.process refl
  where
    by : (o : Option (ℕ × Mode)) → h.process ≡ o → get w.processes p ≡ get (set w.processes (pid_of o) rows.process) p
    by None e = refl
    by (Some (n, Shared)) e = sym (ap (λ x. get (set w.processes (Some n) x) p) (shared n e ∙ ap (λ o. pid_of o >>= get w.processes) e) ∙ get-set_itself nat_cmp_total w.processes n p)
    by (Some (n, Alone)) e = sym (get-set_other nat_cmp_total nat_cmp-IsAntisymmetric w.processes (Some n) rows.process p (λ same. apart (e ∙ ap with_alone same)))

pub kept : (w : World) (h : Held) (rows : Rows) (n : Numbers) → Keeps w h rows → (r : Row) (mode : Mode) → Apart h r mode → SameAt w (made w h rows n) r mode
kept w h rows n s (row.Job i) mode a = sym (get-set_other nat_cmp_total nat_cmp-IsAntisymmetric w.jobs h.job rows.job i a)
kept w h rows n s (row.Key k) mode a = (sym (get-set_other texts_total exact_texts w.semaphores h.key rows.semaphore k a), λ g. stays (is_holder k g) w h.job rows.job (s.permits k g a))
kept w h rows n s (row.Process p) Shared a = process_stays w h rows p s.shared a
kept w h rows n s (row.Process p) Alone a = (process_stays w h rows p s.shared (a Alone), stays (is_claimed_by p) w h.job rows.job (s.claims p a))
kept w h rows n s (row.Queue q) mode a = sym (get-set_other texts_total exact_texts w.paused h.queue rows.pause q a)
kept w h rows n s (row.Task t) mode a = sym (get-set_other texts_total exact_texts w.last_runs h.task rows.last_run t a)
