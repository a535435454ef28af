-- The steps of walks over the jobs, the semaphores and the processes, in the order of their keys.
use Rattle.std.proofs.Common.{◌≡◌, ◌≤◌, ◌<◌, ℕ, Bool, true, false, ◌&&◌, ◌^◌, cond, List, [], ◌∷◌, map, filter, drop, length, Option, None, Some, is_some, Ordering, arith, ap, sym, ◌∙◌, refl}
use Rattle.std.proofs.lemmas.Bool.{true≢false, and_parts}
use Rattle.std.specs.Prelude.{Contains, nat_le}
use Rattle.std.specs.Cmp.{nat_cmp_total}
use Rattle.std.specs.FinMap.{nat_cmp-IsAntisymmetric}
use Rattle.std.specs.FinMap.Entries.{where_key}
use Rattle.std.specs.Ordering.{is_lt, nat_cmp}
use Rattle.semaphores.specs.Semaphore.{Semaphore, is_expired}
use Rattle.queue_model.specs.GoodWorld.{IsGood}
use Rattle.queue_model.specs.Map as finite
use Rattle.queue_model.specs.Map.{Map, get}
use Rattle.queue_model.specs.World.{World, is_claimed_by, text_cmp}
use Rattle.queue_model.specs.declared.Job.{Job}
use Rattle.queue_model.specs.declared.Process.{Process}
use Rattle.queue_model.proofs.Maps.{texts_total, exact_texts}
use Rattle.queue_model.proofs.Steps.{same_Some}
use Rattle.row_locks.proofs.Membership.{Contains-head, Contains-tail}
use Rattle.exec_tables.specs.Next.{IsNext, Listed, by_key, by_number, is_above}
use Rattle.plan_model.specs.Orders.{first_of}
use Rattle.plan_model.specs.Scenes.{Scene}
use Rattle.plan_model.specs.UpkeepCommands.{expired_keys, is_silent}
use Rattle.plan_model.proofs.MapLemmas.{entry_found}
use Rattle.upkeep_plans.specs.Left.{claimed_left, expired_left, jobs_left, past_key, silent_left}
use Rattle.upkeep_plans.proofs.Passed.{first_left, none_left, walk_ends, walk_takes, walk_skips, walk_falls}

-- ---- what a call that takes the next one gives, and leaves

pub stops : {A : Type 0} (xs : List A) → xs ≡ [] → (None ≡ first_of xs) × (xs ≡ drop 1 xs)
stops xs e = (ap first_of (sym e), e ∙ ap (drop 1) (sym e))

pub goes : {A : Type 0} (x : A) (xs rest : List A) → xs ≡ x ∷ rest → (Some x ≡ first_of xs) × (rest ≡ drop 1 xs)
goes x xs rest e = (ap first_of (sym e), ap (drop 1) (sym e))

-- ---- a walk as it begins

pub all_kept : {K X : Type 0} (R : K → K → Ordering) (p : K → Bool) (es : List (K × X)) → ((e : K × X) → Contains es e → p e.0 ≡ true) → where_key R p es ≡ es
all_kept R p [] h = refl
all_kept R p (e ∷ es) h =
    ap (λ b. cond b (e ∷ where_key R p es) (where_key R p es)) (h e (Contains-head e es))
    ∙ ap (λ xs. e ∷ xs) (all_kept R p es (λ x c. h x (Contains-tail e es x c)))

pub filter_mapped : {X Y : Type 0} (p : Y → Bool) (f : X → Y) (xs : List X) → map f (filter (λ x. p (f x)) xs) ≡ filter p (map f xs)
filter_mapped p f [] = refl
filter_mapped p f (x ∷ xs) = by (p (f x)) (filter_mapped p f xs)
  where
    by : (b : Bool) → map f (filter (λ x. p (f x)) xs) ≡ filter p (map f xs) → map f (cond b (x ∷ filter (λ x. p (f x)) xs) (filter (λ x. p (f x)) xs)) ≡ cond b (f x ∷ filter p (map f xs)) (filter p (map f xs))
    by true e = ap (λ ys. f x ∷ ys) e
    by false e = e

above_zero : (n : ℕ) → 1 ≤ n → is_lt (nat_cmp 0 n) ≡ true
above_zero n le = grind (arith, le)

at_least_one : (n : ℕ) → nat_le 1 n ≡ true → 1 ≤ n
at_least_one n e = grind (arith, e)

pub past_zero : {X : Type 0} (m : Map nat_cmp X) → ((n : ℕ) (x : X) → get m n ≡ Some x → 1 ≤ n) → past_key m (Some 0) ≡ m.entries
past_zero m h = all_kept nat_cmp (is_above nat_cmp (Some 0)) m.entries (λ e c. above_zero e.0 (h e.0 e.1 (entry_found nat_cmp_total m.entries e m.sorted c)))

pub jobs_at_begin : (w : World) → IsGood w → (passes : Job → Bool) → jobs_left w passes 0 ≡ filter passes (finite.values w.jobs)
jobs_at_begin w good passes =
    ap (λ es. map (λ (e : ℕ × Job). e.1) (filter (λ (e : ℕ × Job). passes e.1) es)) (past_zero w.jobs (λ n j at. one n (good.jobs n j at).number.0))
    ∙ filter_mapped passes (λ (e : ℕ × Job). e.1) w.jobs.entries
  where
    one : (n : ℕ) → (nat_le 1 n && nat_le n (2 ^ 63)) ≡ true → 1 ≤ n
    one n h = at_least_one n (and_parts (nat_le 1 n) (nat_le n (2 ^ 63)) h).0

pub expired_at_begin : (w : World) (m : ℕ) → expired_left w m None ≡ expired_keys w m
expired_at_begin w m = ap (λ es. map (λ (e : List ℕ × Semaphore). e.0) (filter (λ (e : List ℕ × Semaphore). is_expired e.1 m) es)) (all_kept text_cmp (is_above text_cmp None) w.semaphores.entries (λ e c. refl))

-- ---- the jobs that a process has claimed

module _ (w : World) (pid past : ℕ) (found : Option ℕ) (next : IsNext nat_cmp (Listed (by_number (is_claimed_by pid)) w.jobs) (Some past) found) where
  abbrev claimed : ℕ × Job → Bool
  claimed e = is_claimed_by pid e.1

  listed : (q : ℕ) (j : Job) → get w.jobs q ≡ Some j → is_claimed_by pid j ≡ true → Listed (by_number (is_claimed_by pid)) w.jobs q
  listed q j at passes = (q, j, at, ap (λ b. cond b (Some q) None) passes)

  pub claimed_ends : found ≡ None → claimed_left w pid past ≡ []
  claimed_ends e = ap (map (λ (x : ℕ × Job). x.1)) (none_left nat_cmp_total nat_cmp-IsAntisymmetric claimed w.jobs (Some past) (λ q j at passes. next.none e q (listed q j at passes)))

  if_passes : (b : Bool) (q x : ℕ) → cond b (Some q) None ≡ Some x → (b ≡ true) × (q ≡ x)
  if_passes true q x e = (refl, same_Some q x e)
  if_passes false q x e = absurd (true≢false (sym (ap is_some e)))

  pub claimed_goes : (id : ℕ) → found ≡ Some id → (j : Job) × (get w.jobs id ≡ Some j) × (claimed_left w pid past ≡ j ∷ claimed_left w pid id)
  claimed_goes id e =
      let l = next.belongs id e in
      let is = if_passes (is_claimed_by pid l.1) l.0 id l.3 in
      let here : get w.jobs id ≡ Some l.1 = ap (get w.jobs) (sym is.1) ∙ l.2 in (
        l.1,
        here,
        ap (map (λ (x : ℕ × Job). x.1)) (first_left nat_cmp_total nat_cmp-IsAntisymmetric claimed w.jobs (Some past) id l.1 here (next.above id e) is.0
            (λ q j at passes up. next.least id q e (listed q j at passes) up)),
      )

-- ---- the keys of expired semaphores

abbrev pub semaphores_left : World → Option (List ℕ) → List (List ℕ × Semaphore)
semaphores_left w past = filter (λ e. true) (past_key w.semaphores past)

module _ (w : World) (m : ℕ) (past found : Option (List ℕ)) (next : IsNext text_cmp (Listed by_key w.semaphores) past found) where
  abbrev over : List ℕ × Semaphore → Bool
  over e = is_expired e.1 m

  pub expired_ends : found ≡ None → expired_left w m past ≡ []
  expired_ends e = ap (map (λ (x : List ℕ × Semaphore). x.0)) (walk_ends texts_total exact_texts over w.semaphores past found next e)

  module _ (key : List ℕ) (sem : Semaphore) (is : found ≡ Some key) (at : get w.semaphores key ≡ Some sem) where
    pub expired_takes : is_expired sem m ≡ true → expired_left w m past ≡ key ∷ expired_left w m (Some key)
    expired_takes passes = ap (map (λ (x : List ℕ × Semaphore). x.0)) (walk_takes texts_total exact_texts over w.semaphores past found next key sem is at passes)

    pub expired_skips : is_expired sem m ≡ false → expired_left w m past ≡ expired_left w m (Some key)
    expired_skips fails = ap (map (λ (x : List ℕ × Semaphore). x.0)) (walk_skips texts_total exact_texts over w.semaphores past found next key sem is at fails)

  pub expired_falls : (key : List ℕ) (sem : Semaphore) → found ≡ Some key → get w.semaphores key ≡ Some sem → length (semaphores_left w (Some key)) < length (semaphores_left w past)
  expired_falls key sem is at = walk_falls texts_total exact_texts w.semaphores past found next key sem is at

-- ---- jobs by number, of which those that pass are some

abbrev pub all_jobs_left : World → (past : ℕ) → List (ℕ × Job)
all_jobs_left w past = filter (λ e. true) (past_key w.jobs (Some past))

module _ (w : World) (passes : Job → Bool) (past : ℕ) (found : Option ℕ) (next : IsNext nat_cmp (Listed by_key w.jobs) (Some past) found) where
  abbrev passing : ℕ × Job → Bool
  passing e = passes e.1

  pub jobs_end : found ≡ None → jobs_left w passes past ≡ []
  jobs_end e = ap (map (λ (x : ℕ × Job). x.1)) (walk_ends nat_cmp_total nat_cmp-IsAntisymmetric passing w.jobs (Some past) found next e)

  module _ (id : ℕ) (j : Job) (is : found ≡ Some id) (at : get w.jobs id ≡ Some j) where
    pub job_taken : passes j ≡ true → jobs_left w passes past ≡ j ∷ jobs_left w passes id
    job_taken h = ap (map (λ (x : ℕ × Job). x.1)) (walk_takes nat_cmp_total nat_cmp-IsAntisymmetric passing w.jobs (Some past) found next id j is at h)

    pub job_skipped : passes j ≡ false → jobs_left w passes past ≡ jobs_left w passes id
    job_skipped h = ap (map (λ (x : ℕ × Job). x.1)) (walk_skips nat_cmp_total nat_cmp-IsAntisymmetric passing w.jobs (Some past) found next id j is at h)

    pub jobs_fall : length (all_jobs_left w id) < length (all_jobs_left w past)
    jobs_fall = walk_falls nat_cmp_total nat_cmp-IsAntisymmetric w.jobs (Some past) found next id j is at

-- ---- silent processes by number

pub silent_at_begin : (s : Scene) → IsGood s.book.world → silent_left s 0 ≡ filter (λ e. is_silent s e.1) s.book.world.processes.entries
silent_at_begin s good = ap (filter (λ (e : ℕ × Process). is_silent s e.1)) (past_zero s.book.world.processes (λ n p at. one n (good.processes n p at).number.0))
  where
    one : (n : ℕ) → (nat_le 1 n && nat_le n (2 ^ 63)) ≡ true → 1 ≤ n
    one n h = at_least_one n (and_parts (nat_le 1 n) (nat_le n (2 ^ 63)) h).0

abbrev pub processes_left : Scene → (past : ℕ) → List (ℕ × Process)
processes_left s past = filter (λ e. true) (past_key s.book.world.processes (Some past))

module _ (s : Scene) (past : ℕ) (found : Option ℕ) (next : IsNext nat_cmp (Listed by_key s.book.world.processes) (Some past) found) where
  abbrev quiet : ℕ × Process → Bool
  quiet e = is_silent s e.1

  pub silent_end : found ≡ None → silent_left s past ≡ []
  silent_end e = walk_ends nat_cmp_total nat_cmp-IsAntisymmetric quiet s.book.world.processes (Some past) found next e

  module _ (pid : ℕ) (p : Process) (is : found ≡ Some pid) (at : get s.book.world.processes pid ≡ Some p) where
    pub silent_taken : is_silent s p ≡ true → silent_left s past ≡ (pid, p) ∷ silent_left s pid
    silent_taken h = walk_takes nat_cmp_total nat_cmp-IsAntisymmetric quiet s.book.world.processes (Some past) found next pid p is at h

    pub silent_skipped : is_silent s p ≡ false → silent_left s past ≡ silent_left s pid
    silent_skipped h = walk_skips nat_cmp_total nat_cmp-IsAntisymmetric quiet s.book.world.processes (Some past) found next pid p is at h

    pub processes_fall : length (processes_left s pid) < length (processes_left s past)
    processes_fall = walk_falls nat_cmp_total nat_cmp-IsAntisymmetric s.book.world.processes (Some past) found next pid p is at
