-- A legal transition leads from a good world to a good one.
use Rattle.std.proofs.Common.{◌≡◌, ◌≢◌, ◌⊎◌, inl, inr, ⊎_elim, ◌+◌, ◌≤◌, ℕ, Bool, true, ◌&&◌, eqb, List, [], ◌∷◌, length, Option, None, Some, IsSome, is_some, ap, sym, ◌∙◌, refl, subst, arith, count_by}
use Rattle.std.specs.Prelude.{cond, max}
use Rattle.std.proofs.lemmas.Bool.{true≢false, and_parts, cases_eq, eq-eqb}
use Rattle.std.specs.Cmp.{nat_cmp_total}
use Rattle.std.specs.FinMap.{nat_cmp-IsAntisymmetric}
use Rattle.job_states.specs.Length.{IsName, is_within, is_name}
use Rattle.job_states.specs.Moment.{IsMoment, is_moment}
use Rattle.job_states.specs.Ranges.{is_in_range, is_row, is_limited}
use Rattle.job_states.specs.States.{permit_of}
use Rattle.job_states.specs.declared.job.Limited.{Limited}
use Rattle.job_states.specs.declared.job.State.{State}
use Rattle.job_states.specs.declared.job.State.TheVariants as state
use Rattle.job_states.specs.declared.row.Mode.{Mode}
use Rattle.job_states.specs.declared.row.Mode.TheVariants.{Alone}
use Rattle.job_states.specs.declared.row.Row.TheVariants as row
use Rattle.job_states.specs.declared.transition.Transaction.{Transaction}
use Rattle.job_states.specs.declared.transition.Transition.{Transition}
use Rattle.semaphores.specs.Semaphore.{Semaphore}
use Rattle.queue_model.specs.Chain.{◌>>=◌}
use Rattle.queue_model.specs.GoodWorld.{IsGiven, HasClaimant, IsGoodJob, IsGoodSemaphore, IsGoodProcess, IsGoodRecurring, IsGood}
use Rattle.queue_model.specs.Held.{Held, holds, held}
use Rattle.queue_model.specs.Map as map
use Rattle.queue_model.specs.Map.{Map, get}
use Rattle.queue_model.specs.Named.{job_named, pid_named, generation_named, noted}
use Rattle.queue_model.specs.Replay.{steps, after, replay}
use Rattle.queue_model.specs.Sights.{Rows, Sight, sees, counted_at, pid_of, set, without_job}
use Rattle.queue_model.specs.Transitions.{changes, step}
use Rattle.queue_model.specs.World.{World, is_holder, is_claimed_by, holders, claims}
use Rattle.queue_model.specs.declared.Job.{Job}
use Rattle.queue_model.specs.declared.Process.{Process}
use Rattle.queue_model.proofs.Balances.{limit_of, balanced}
use Rattle.queue_model.proofs.Cases.{claims_stay}
use Rattle.queue_model.proofs.Fits.{given_still, given_now, next_above, name_is, moment_is, after_set, same_text, row_fits, limit_fits, from_limit, from_generation, from_expires, some_limit, is_given, given_test, test_given, passes_all, keyed_before, key_of_permit, key_of_blocked, limit_is, is_limit, limit_to, key_of_limited, process_in_range, named_or_other, run_left, run_made, has_run_is, is_has_run}
use Rattle.queue_model.proofs.Frames.{one, count-set, kept}
use Rattle.queue_model.proofs.Goods.{job_number, pid_number, generation_number, own_number, row_is, state_fits, passes, permit_fits, claim_stays, claim_made, claimant_there, keyed, stays_registered, few, is_process, process_fits, new_process, comes_from, semaphore_from, own_key, queue_name, run_fits, run_job, has_run, still_run}
use Rattle.queue_model.proofs.Maps.{get-set_same, texts_total, exact_texts}
use Rattle.queue_model.proofs.Steps.{step_is, world_after, same_Some, then, passed, keeps, count_after}

module _ (w : World) (m : ℕ) (t : Transition) (c : Rows) (good : IsGood w) (moment : is_moment m ≡ true) (range : is_in_range t ≡ true) (legal : changes m (sees w (holds w t)) t ≡ Some c) where
  abbrev h : Held
  h = holds w t

  abbrev s : Sight
  s = sees w h

  abbrev v : World
  v = world_after w m t c

  -- ---- what it found

  named_some : (id : ℕ) → job_named t ≡ Some id → job_named t ≢ None
  named_some id named none = true≢false (sym (ap is_some named) ∙ ap is_some none)

  found : (id : ℕ) → job_named t ≡ Some id → s.rows.job ≡ get w.jobs id
  found id named = ap (λ k. k >>= get w.jobs) named

  -- the job that it found was good
  job_found : (id : ℕ) → job_named t ≡ Some id → (o : Job) → s.rows.job ≡ Some o → IsGoodJob w id o
  job_found id named o e = good.jobs id o (sym (found id named) ∙ e)

  -- every job that it found has a good row
  rows_found : (o : Job) → s.rows.job ≡ Some o → is_row o.row ≡ true
  rows_found o e = by (job_named t) refl
    where
      by : (k : Option ℕ) → job_named t ≡ k → is_row o.row ≡ true
      by None is = absurd (true≢false (ap is_some (sym e ∙ ap (λ x. x >>= get w.jobs) is)))
      by (Some id) is = (job_found id is o e).row

  -- ---- processes and claims

  -- a job that is there is counted
  counted_job : (p : Job → Bool) (id : ℕ) → one p (get w.jobs id) ≤ count_by p (map.values w.jobs)
  counted_job p id = let a = count-set p w.jobs (Some id) None in omega (arith, a)

  has_claim : (id : ℕ) (j : Job) (pid : ℕ) → get w.jobs id ≡ Some j → is_claimed_by pid j ≡ true → 1 ≤ claims w pid
  has_claim id j pid e claimed =
      let a = counted_job (is_claimed_by pid) id in
      let b : one (is_claimed_by pid) (get w.jobs id) ≡ 1 = ap (one (is_claimed_by pid)) e ∙ ap (λ x. cond x 1 0) claimed in
      omega (arith, a, b)

  -- a process with a claim is still registered
  still_there : (pid : ℕ) → 1 ≤ claims w pid → IsSome (get w.processes pid) → IsSome (get v.processes pid)
  still_there pid some there = ⊎_elim here other (after_set nat_cmp_total nat_cmp-IsAntisymmetric cases_eq w.processes (pid_of h.process) c.process pid)
    where
      here : (pid_of h.process ≡ Some pid) × (get v.processes pid ≡ c.process) → IsSome (get v.processes pid)
      here e =
          let many : 1 ≤ s.claims = subst (λ k. 1 ≤ counted_at (claims w) k) (sym e.0) some in
          ap is_some e.1 ∙ stays_registered m s t c legal many (ap (λ k. is_some (k >>= get w.processes)) e.0 ∙ there)

      other : (pid_of h.process ≢ Some pid) × (get v.processes pid ≡ get w.processes pid) → IsSome (get v.processes pid)
      other e = ap is_some e.1 ∙ there

  claimant_stays : (id : ℕ) (j : Job) → get w.jobs id ≡ Some j → HasClaimant w j.state → HasClaimant v j.state
  claimant_stays id j e there = by j.state refl there
    where
      by : (x : State) → j.state ≡ x → HasClaimant w x → HasClaimant v x
      by (state.Scheduled at) is a = tt
      by (state.Ready permit) is a = tt
      by (state.Blocked until) is a = tt
      by (state.Claimed pid permit) is a = still_there pid (has_claim id j pid e (ap (λ x. is_claimed_by pid (record j { state = x })) is ∙ same_pid pid)) a
        where
          same_pid : (n : ℕ) → eqb n n ≡ true
          same_pid n = eq-eqb n n refl
      by (state.Failed error message) is a = tt
      by (state.Finished at) is a = tt

  -- ---- jobs

  job_stays : (id : ℕ) (j : Job) → get w.jobs id ≡ Some j → IsGoodJob v id j
  job_stays id j e =
      let old = good.jobs id j e in
      record {
        own_number = old.own_number;
        number = given_still w.numbers.job (job_named t) id old.number;
        row = old.row;
        in_range = old.in_range;
        permit_has_key = old.permit_has_key;
        permit = λ g is. given_still w.numbers.generation (generation_named t) g (old.permit g is);
        blocked_has_key = old.blocked_has_key;
        claimant = claimant_stays id j e old.claimant;
      }

  -- where the process is held or not
  process_held : (o : Option (ℕ × Mode)) → (o ≡ None) ⊎ (o ≢ None)
  process_held None = inl refl
  process_held (Some x) = inr (λ e. true≢false (ap is_some e))

  new_claimant : (id : ℕ) (j : Job) → job_named t ≡ Some id → c.job ≡ Some j → HasClaimant v j.state
  new_claimant id j named is = by j.state refl
    where
      claimed_by : (pid : ℕ) (permit : Option ℕ) → j.state ≡ state.Claimed pid permit → is_claimed_by pid j ≡ true
      claimed_by pid permit e = ap (λ x. is_claimed_by pid (record j { state = x })) e ∙ eq-eqb pid pid refl

      claimed : (pid : ℕ) (permit : Option ℕ) → j.state ≡ state.Claimed pid permit → IsSome (get v.processes pid)
      claimed pid permit e = ⊎_elim free taken (process_held h.process)
        where
          free : h.process ≡ None → IsSome (get v.processes pid)
          free none =
              let same : s.rows.job ≡ Some j = claim_stays m s t c j pid legal (named_some id named) none is (claimed_by pid permit e) in
              let there : get w.jobs id ≡ Some j = sym (found id named) ∙ same in
              subst (HasClaimant v) e (claimant_stays id j there (good.jobs id j there).claimant)

          taken : h.process ≢ None → IsSome (get v.processes pid)
          taken some =
              let own : pid_of h.process ≡ Some pid = claim_made m s t c j pid legal (named_some id named) some is (claimed_by pid permit e) in
              let there : is_some c.process ≡ true = claimant_there m s t c j pid legal (named_some id named) some is (claimed_by pid permit e) in
              ap (λ k. is_some (get (set w.processes k c.process) pid)) own ∙ ap is_some (get-set_same nat_cmp_total w.processes pid c.process) ∙ there

      by : (x : State) → j.state ≡ x → HasClaimant v x
      by (state.Scheduled at) e = tt
      by (state.Ready permit) e = tt
      by (state.Blocked until) e = tt
      by (state.Claimed pid permit) e = claimed pid permit e
      by (state.Failed error message) e = tt
      by (state.Finished at) e = tt

  -- a permit is below the next generation
  permit_given : (id : ℕ) (j : Job) → job_named t ≡ Some id → c.job ≡ Some j → (g : ℕ) → permit_of j.state ≡ Some g → IsGiven v.numbers.generation g
  permit_given id j named is g e =
      let next = v.numbers.generation in
      let before : (o : Job) → s.rows.job ≡ Some o → passes (is_given next) (permit_of o.state) ≡ true = λ o at. passes_all (is_given next) (permit_of o.state) (λ n p. test_given next n (given_still w.numbers.generation (generation_named t) n ((job_found id named o at).permit n p))) in
      let new : passes (is_given next) (generation_named t) ≡ true = passes_all (is_given next) (generation_named t) (λ n p. test_given next n (given_now w.numbers.generation (generation_named t) n p (generation_number t n range p))) in
      given_test next g (sym (ap (passes (is_given next)) e) ∙ permit_fits (is_given next) m s t c j legal (named_some id named) before new is)

  job_changes : (id : ℕ) (j : Job) → job_named t ≡ Some id → c.job ≡ Some j → IsGoodJob v id j
  job_changes id j named is =
      let some = named_some id named in
      let old = job_found id named in
      let has_key = keyed m s t c j legal (λ o e. keyed_before o (old o e).permit_has_key (old o e).blocked_has_key) some is in
      record {
        own_number = own_number m s t c j id legal named (λ o e. (old o e).own_number) is;
        number = given_now w.numbers.job (job_named t) id named (job_number t id range named);
        row = row_fits t s.rows.job j.row range rows_found (row_is m s t c j legal some is);
        in_range = state_fits m s t c j legal range moment some (λ o e. (old o e).in_range) is;
        permit_has_key = λ permit. key_of_permit j has_key permit;
        permit = permit_given id j named is;
        blocked_has_key = λ blocked. key_of_blocked j has_key blocked;
        claimant = new_claimant id j named is;
      }

  jobs_good : (id : ℕ) (j : Job) → get v.jobs id ≡ Some j → IsGoodJob v id j
  jobs_good id j is = ⊎_elim here other (after_set nat_cmp_total nat_cmp-IsAntisymmetric cases_eq w.jobs (job_named t) c.job id)
    where
      other : (job_named t ≢ Some id) × (get v.jobs id ≡ get w.jobs id) → IsGoodJob v id j
      other e = job_stays id j (sym e.1 ∙ is)

      here : (job_named t ≡ Some id) × (get v.jobs id ≡ c.job) → IsGoodJob v id j
      here e = job_changes id j e.0 (sym e.1 ∙ is)

  -- ---- semaphores

  -- where the key isn't held, nothing of it changes
  semaphore_stays : (k : List ℕ) (x : Semaphore) → h.key ≢ Some k → get w.semaphores k ≡ Some x → IsGoodSemaphore v k x
  semaphore_stays k x ne e =
      let old = good.semaphores k x e in
      let same = kept w h c (noted w.numbers m t) (keeps w m t c legal) (row.Key k) Alone ne in
      record {
        key_length = old.key_length;
        limit = old.limit;
        adds_up = ap (λ n. x.free + n) (sym (same.1 x.generation)) ∙ old.adds_up;
        generation = given_still w.numbers.generation (generation_named t) x.generation old.generation;
        expires = old.expires;
      }

  -- the semaphore that it found was good
  semaphore_found : (k : List ℕ) → h.key ≡ Some k → (x : Semaphore) → s.rows.semaphore ≡ Some x → IsGoodSemaphore w k x
  semaphore_found k held x e = good.semaphores k x (sym (ap (λ o. o >>= get w.semaphores) held) ∙ e)

  limit_found : is_limited (limit_of t s.rows.job) ≡ true
  limit_found = limit_fits t s.rows.job range rows_found

  many_holders : (k : List ℕ) → h.key ≡ Some k → (g : ℕ) → s.holders g ≡ holders w k g
  many_holders k held g = ap (counted_at (λ key. holders w key g)) held

  sum_stays : (k : List ℕ) (x : Semaphore) → h.key ≡ Some k → c.semaphore ≡ Some x → x.free + holders v k x.generation ≡ x.limit
  sum_stays k x held is =
      let many = many_holders k held x.generation in
      let before : (y : Semaphore) → s.rows.semaphore ≡ Some y → y.free + s.holders y.generation ≡ y.limit = λ y e. ap (λ n. y.free + n) (many_holders k held y.generation) ∙ (semaphore_found k held y e).adds_up in
      let counted : one (is_holder k x.generation) s.rows.job ≤ s.holders x.generation = subst (λ n. one (is_holder k x.generation) s.rows.job ≤ n) (sym many) (counted_named (job_named t)) in
      let sum = balanced m s t c k x legal before counted (some_limit (limit_of t s.rows.job) limit_found) held is in
      let total = count_after (is_holder k x.generation) w m t c legal in
      omega (arith, many, sum, total)
    where
      counted_named : (o : Option ℕ) → one (is_holder k x.generation) (o >>= get w.jobs) ≤ holders w k x.generation
      counted_named None = omega arith
      counted_named (Some id) = counted_job (is_holder k x.generation) id

  semaphore_changes : (k : List ℕ) (x : Semaphore) → h.key ≡ Some k → c.semaphore ≡ Some x → IsGoodSemaphore v k x
  semaphore_changes k x held is =
      let from = semaphore_from m s t c x legal is in
      let next = v.numbers.generation in
      let limited = limit_of t s.rows.job in
      record {
        key_length = key_length s.rows.semaphore limited refl refl from;
        limit = limit_is x.limit (from_limit s.rows.semaphore limited (generation_named t) x (is_within 1 65_535) from (λ y e. is_limit y.limit (semaphore_found k held y e).limit) (λ l e. limit_to l (ap is_limited (sym e) ∙ limit_found)));
        adds_up = sum_stays k x held is;
        generation = given_test next x.generation (from_generation s.rows.semaphore limited (generation_named t) x (is_given next) from (λ y e. test_given next y.generation (given_still w.numbers.generation (generation_named t) y.generation (semaphore_found k held y e).generation)) (λ n e. test_given next n (given_now w.numbers.generation (generation_named t) n e (generation_number t n range e))));
        expires = from_expires s.rows.semaphore limited (generation_named t) x from (λ y e. (semaphore_found k held y e).expires);
      }
    where
      key_length : (old : Option Semaphore) (l : Option Limited) → s.rows.semaphore ≡ old → limit_of t s.rows.job ≡ l → comes_from old l (generation_named t) x ≡ true → length k ≤ 65_535
      key_length (Some y) l e f from = (semaphore_found k held y e).key_length
      key_length None None e f from = absurd (true≢false (sym from))
      key_length None (Some l) e f from =
          let long = key_of_limited l (ap is_limited (sym f) ∙ limit_found) in
          subst (λ key. length key ≤ 65_535) (sym (own_key m s t c x k l legal is held f)) (omega (arith, long))

  semaphores_good : (k : List ℕ) (x : Semaphore) → get v.semaphores k ≡ Some x → IsGoodSemaphore v k x
  semaphores_good k x is = ⊎_elim here other (after_set texts_total exact_texts same_text w.semaphores h.key c.semaphore k)
    where
      here : (h.key ≡ Some k) × (get v.semaphores k ≡ c.semaphore) → IsGoodSemaphore v k x
      here e = semaphore_changes k x e.0 (sym e.1 ∙ is)

      other : (h.key ≢ Some k) × (get v.semaphores k ≡ get w.semaphores k) → IsGoodSemaphore v k x
      other e = semaphore_stays k x e.0 (sym e.1 ∙ is)

  -- ---- processes

  process_number : (pid : ℕ) (p : Process) → pid_of h.process ≡ Some pid → c.process ≡ Some p → (o : Option Process) → s.rows.process ≡ o → IsGiven v.numbers.pid pid
  process_number pid p held is None e =
      let named : pid_named t ≡ Some pid = sym (new_process m s t c p legal e is) ∙ held in
      given_now w.numbers.pid (pid_named t) pid named (pid_number t pid range named)
  process_number pid p held is (Some q) e = given_still w.numbers.pid (pid_named t) pid (good.processes pid q (sym (ap (λ k. k >>= get w.processes) held) ∙ e)).number

  process_changes : (pid : ℕ) (p : Process) → pid_of h.process ≡ Some pid → c.process ≡ Some p → IsGoodProcess v pid p
  process_changes pid p held is =
      let fits = process_fits m s t c p legal range moment (λ o e. process_test pid o (good.processes pid o (sym (ap (λ k. k >>= get w.processes) held) ∙ e))) is in
      let a = and_parts (is_name p.name && is_moment p.since) (is_moment p.beat) fits in
      let b = and_parts (is_name p.name) (is_moment p.since) a.0 in
      record {
        number = process_number pid p held is s.rows.process refl;
        name = name_is p.name b.0;
        since = moment_is p.since b.1;
        beat = moment_is p.beat a.1;
      }
    where
      process_test : (pid : ℕ) (o : Process) → IsGoodProcess w pid o → is_process o ≡ true
      process_test pid o g = process_in_range o g.name g.since g.beat

  processes_good : (pid : ℕ) (p : Process) → get v.processes pid ≡ Some p → IsGoodProcess v pid p
  processes_good pid p is = ⊎_elim here other (after_set nat_cmp_total nat_cmp-IsAntisymmetric cases_eq w.processes (pid_of h.process) c.process pid)
    where
      here : (pid_of h.process ≡ Some pid) × (get v.processes pid ≡ c.process) → IsGoodProcess v pid p
      here e = process_changes pid p e.0 (sym e.1 ∙ is)

      other : (pid_of h.process ≢ Some pid) × (get v.processes pid ≡ get w.processes pid) → IsGoodProcess v pid p
      other e =
          let old = good.processes pid p (sym e.1 ∙ is) in
          record { number = given_still w.numbers.pid (pid_named t) pid old.number; name = old.name; since = old.since; beat = old.beat }

  few_claims : (pid : ℕ) → claims v pid ≤ 500
  few_claims pid = ⊎_elim here other (named_or_other cases_eq (pid_of h.process) pid)
    where
      total : claims v pid + one (is_claimed_by pid) s.rows.job ≡ claims w pid + one (is_claimed_by pid) c.job
      total = count_after (is_claimed_by pid) w m t c legal

      here : pid_of h.process ≡ Some pid → claims v pid ≤ 500
      here e =
          let same : s.claims ≡ claims w pid = ap (counted_at (claims w)) e in
          let before = good.few_claims pid in
          let after = few m s t c pid legal (omega (arith, same, before)) in
          let all = total in
          omega (arith, same, after, all)

      other : pid_of h.process ≢ Some pid → claims v pid ≤ 500
      other ne =
          let same = claims_stay m s t c pid legal (λ e. ne (ap pid_of e)) in
          let before = good.few_claims pid in
          let all = total in
          omega (arith, same, before, all)

  -- ---- queues and tasks

  paused_good : (queue : List ℕ) → IsSome (get v.paused queue) → IsName queue
  paused_good queue is = ⊎_elim here other (after_set texts_total exact_texts same_text w.paused h.queue c.pause queue)
    where
      here : (h.queue ≡ Some queue) × (get v.paused queue ≡ c.pause) → IsName queue
      here e = name_is queue (queue_name t s.rows.job queue range e.0)

      other : (h.queue ≢ Some queue) × (get v.paused queue ≡ get w.paused queue) → IsName queue
      other e = good.paused queue (sym (ap is_some e.1) ∙ is)

  last_runs_good : (task : List ℕ) (last : ℕ) → get v.last_runs task ≡ Some last → IsName task × IsMoment last
  last_runs_good task last is = ⊎_elim here other (after_set texts_total exact_texts same_text w.last_runs h.task c.last_run task)
    where
      here : (h.task ≡ Some task) × (get v.last_runs task ≡ c.last_run) → IsName task × IsMoment last
      here e = let p = and_parts (is_name task) (is_moment last) (run_fits m s t c task last legal range e.0 (sym e.1 ∙ is)) in (name_is task p.0, moment_is last p.1)

      other : (h.task ≢ Some task) × (get v.last_runs task ≡ get w.last_runs task) → IsName task × IsMoment last
      other e = good.last_runs task last (sym e.1 ∙ is)

  -- ---- recurring executions

  recurring_stays : (task : List ℕ) (time id : ℕ) → get (without_job w.recurring (job_named t) c.job) (task, time) ≡ Some id → IsGoodRecurring v task time id
  recurring_stays task time id is =
      let left = run_left w.recurring (job_named t) c.job (task, time) id is in
      let old = good.recurring task time id left.0 in
      record {
        job = ⊎_elim (job_here left.1) (job_other old.job) (after_set nat_cmp_total nat_cmp-IsAntisymmetric cases_eq w.jobs (job_named t) c.job id);
        last_run = has_run_is time (get v.last_runs task) (⊎_elim (run_here (is_has_run time (get w.last_runs task) old.last_run)) (run_other (is_has_run time (get w.last_runs task) old.last_run)) (after_set texts_total exact_texts same_text w.last_runs h.task c.last_run task));
      }
    where
      job_here : (job_named t ≡ Some id → is_some c.job ≡ true) → (job_named t ≡ Some id) × (get v.jobs id ≡ c.job) → IsSome (get v.jobs id)
      job_here there e = ap is_some e.1 ∙ there e.0

      job_other : IsSome (get w.jobs id) → (job_named t ≢ Some id) × (get v.jobs id ≡ get w.jobs id) → IsSome (get v.jobs id)
      job_other there e = ap is_some e.1 ∙ there

      run_here : has_run time (get w.last_runs task) ≡ true → (h.task ≡ Some task) × (get v.last_runs task ≡ c.last_run) → has_run time (get v.last_runs task) ≡ true
      run_here old e = ap (has_run time) e.1 ∙ still_run m s t c time legal (ap (λ k. has_run time (k >>= get w.last_runs)) e.0 ∙ old)

      run_other : has_run time (get w.last_runs task) ≡ true → (h.task ≢ Some task) × (get v.last_runs task ≡ get w.last_runs task) → has_run time (get v.last_runs task) ≡ true
      run_other old e = ap (has_run time) e.1 ∙ old

  recurring_comes : (task : List ℕ) (time id : ℕ) → (h.task ≡ Some task) × (c.last_run ≡ Some time) × (job_named t ≡ Some id) → IsGoodRecurring v task time id
  recurring_comes task time id is = record {
    job = ap (λ k. is_some (get (set w.jobs k c.job) id)) is.2 ∙ ap is_some (get-set_same nat_cmp_total w.jobs id c.job) ∙ run_job m s t c task id legal is.0 is.2;
    last_run = has_run_is time (get v.last_runs task) (ap (λ k. has_run time (get (set w.last_runs k c.last_run) task)) is.0 ∙ ap (has_run time) (get-set_same texts_total w.last_runs task c.last_run ∙ is.1) ∙ is_has_run time (Some time) (omega arith));
  }

  recurring_good : (task : List ℕ) (time id : ℕ) → get v.recurring (task, time) ≡ Some id → IsGoodRecurring v task time id
  recurring_good task time id is = ⊎_elim (recurring_stays task time id) (recurring_comes task time id) (run_made (without_job w.recurring (job_named t) c.job) h.task c.last_run (job_named t) (task, time) id is)

  -- ---- all

  pub world_good : IsGood v
  world_good = record {
    jobs = jobs_good;
    semaphores = semaphores_good;
    processes = processes_good;
    few_claims = few_claims;
    recurring = recurring_good;
    paused = paused_good;
    last_runs = last_runs_good;
    next_job = next_above w.numbers.job (job_named t) good.next_job (λ n e. job_number t n range e);
    next_pid = next_above w.numbers.pid (pid_named t) good.next_pid (λ n e. pid_number t n range e);
    next_generation = next_above w.numbers.generation (generation_named t) good.next_generation (λ n e. generation_number t n range e);
    moment = later (good.moment) (moment_is m moment);
  }
    where
      later : IsMoment w.numbers.moment → IsMoment m → IsMoment (max w.numbers.moment m)
      later a b = omega (arith, a, b)

pub step_good : (w v : World) (m : ℕ) (t : Transition) → IsGood w → is_moment m ≡ true → step w m t ≡ Some v → IsGood v
step_good w v m t good moment h = let s = step_is w v m t h in subst IsGood s.1.after (world_good w m t s.0 good moment s.1.in_range s.1.legal)

pub steps_good : (w v : World) (m : ℕ) (ts : List Transition) → IsGood w → is_moment m ≡ true → steps w m ts ≡ Some v → IsGood v
steps_good w v m [] good moment end = subst IsGood (same_Some w v end) good
steps_good w v m (t ∷ ts) good moment end = let first = then (step w m t) (λ u. steps u m ts) v end in steps_good first.0 v m ts (step_good w first.0 m t good moment first.1) moment first.2

pub after_good : (w v : World) (tx : Transaction) → IsGood w → after w tx ≡ Some v → IsGood v
after_good w v tx good end = let legal = passed (is_moment tx.moment) (steps w tx.moment tx.steps) v end in steps_good w v tx.moment tx.steps good legal.0 legal.1

pub replay_good : (w v : World) (txs : List Transaction) → IsGood w → replay w txs ≡ Some v → IsGood v
replay_good w v [] good end = subst IsGood (same_Some w v end) good
replay_good w v (tx ∷ txs) good end = let first = then (after w tx) (λ u. replay u txs) v end in replay_good first.0 v txs (after_good w first.0 tx good first.1) first.2
