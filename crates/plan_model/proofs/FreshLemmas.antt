-- No number that is yet to be given is in the world of a draft, from its begin on.
use Rattle.std.proofs.Common.{◌≡◌, ◌≢◌, ◌≤◌, ◌<◌, ℕ, true, nat_lt, List, Option, None, Some, is_some, ap, sym, ◌∙◌, refl, ⊎_elim, arith}
use Rattle.std.proofs.lemmas.Bool.{true≢false, cases_eq, lt-ltb}
use Rattle.std.specs.Cmp.{nat_cmp_total}
use Rattle.std.specs.FinMap.{nat_cmp-IsAntisymmetric}
use Rattle.job_states.specs.declared.job.JobRow.{JobRow}
use Rattle.job_states.specs.declared.transition.Put.{Put}
use Rattle.job_states.specs.declared.transition.Put.TheVariants.{Ready, Scheduled, Blocked, Away}
use Rattle.job_states.specs.declared.transition.Transition.{Transition}
use Rattle.job_states.specs.declared.transition.Transition.TheVariants.{Enqueue, Unblock}
use Rattle.semaphores.specs.Semaphore.{Semaphore}
use Rattle.queue_model.specs.Chain.{◌>>=◌}
use Rattle.queue_model.specs.GoodWorld.{IsGood}
use Rattle.queue_model.specs.Held.{holds}
use Rattle.queue_model.specs.Map.{get}
use Rattle.queue_model.specs.Named.{job_named, pid_named, generation_named, noted, above}
use Rattle.queue_model.specs.Sights.{Rows, Sight, sees, set, pid_of}
use Rattle.queue_model.specs.Transitions.{changes}
use Rattle.queue_model.specs.World.{World, holders, is_holder}
use Rattle.queue_model.specs.declared.Numbers.{Numbers}
use Rattle.queue_model.specs.declared.Process.{Process}
use Rattle.queue_model.proofs.Balances.{limit_of}
use Rattle.queue_model.proofs.Fits.{after_set, same_text, from_generation}
use Rattle.queue_model.proofs.Frames.{one}
use Rattle.queue_model.proofs.Goods.{new_process, semaphore_from}
use Rattle.queue_model.proofs.Maps.{get-set_other, texts_total, exact_texts}
use Rattle.queue_model.proofs.Steps.{same_Some, world_after, count_after}
use Rattle.plan_model.specs.Drafts.{Draft, begin, push, with_changes, end, generation_at, enqueue, enqueue_at, place_for}
use Rattle.plan_model.specs.GoodBook.{AreAbove}
use Rattle.plan_model.specs.GoodDraft.{IsFresh}
use Rattle.plan_model.specs.GoodScene.{IsGoodScene}
use Rattle.plan_model.specs.Scenes.{Scene}
use Rattle.plan_model.proofs.AllowedAfter.{after_end}
use Rattle.plan_model.proofs.Holders.{no_holders}

-- ---- at the begin

none_given : {X : Type 0} (o : Option X) (next given n : ℕ) → ((x : X) → o ≡ Some x → n < next) → next ≤ given → given ≤ n → o ≡ None
none_given None next given n below up le = refl
none_given (Some x) next given n below up le = let less = below x refl in absurd (past n next given less up le)
  where
    past : (a b c : ℕ) → a < b → b ≤ c → c ≤ a → ⊥
    past a b c p q r = omega arith

pub fresh_over : (w : World) (given : Numbers) → IsGood w → AreAbove w.numbers given → IsFresh w given
fresh_over w given good above = record {
  jobs = λ id le. none_given (get w.jobs id) w.numbers.job given.job id (λ j e. (good.jobs id j e).number.1) above.job le;
  processes = λ pid le. none_given (get w.processes pid) w.numbers.pid given.pid pid (λ p e. (good.processes pid p e).number.1) above.pid le;
  permits = λ key generation le. no_holders w key generation good (let up = above.generation in omega (arith, up, le));
  semaphores = λ key s e. let up = above.generation in let less = (good.semaphores key s e).generation.1 in omega (arith, up, less);
}

pub begins_fresh : (s : Scene) → IsGoodScene s → IsFresh (begin s).world (begin s).given
begins_fresh s good = fresh_over s.book.world s.book.given good.book.world good.book.given

-- ---- after a transition

still : (next : ℕ) (o : Option ℕ) (n : ℕ) → above next o ≤ n → next ≤ n
still next None n le = le
still next (Some k) n le = omega arith

not_named : (next : ℕ) (o : Option ℕ) (n : ℕ) → above next o ≤ n → o ≢ Some n
not_named next None n le e = absurd (true≢false (sym (ap is_some e)))
not_named next (Some k) n le e = let same = same_Some k n e in omega arith

still_below : (next : ℕ) (o : Option ℕ) (n : ℕ) → n < next → n < above next o
still_below next None n less = less
still_below next (Some k) n less = omega arith

named_below : (next : ℕ) (o : Option ℕ) (n : ℕ) → o ≡ Some n → n < above next o
named_below next None n e = absurd (true≢false (sym (ap is_some e)))
named_below next (Some k) n e = let same = same_Some k n e in omega arith

below_is : (a b : ℕ) → nat_lt a b ≡ true → a < b
below_is a b h = grind arith

-- a permit comes to a job by its generation's name alone
permit_named : (m : ℕ) (s : Sight) (t : Transition) (c : Rows) (key : List ℕ) (generation : ℕ) → changes m s t ≡ Some c → generation_named t ≢ Some generation → one (is_holder key generation) c.job ≤ one (is_holder key generation) s.rows.job
permit_named m s (Enqueue row put) c key generation h new = grind arith
permit_named m s t c key generation h new = grind arith

module _ (w : World) (m : ℕ) (t : Transition) (c : Rows) (given : Numbers) (fresh : IsFresh w given) (legal : changes m (sees w (holds w t)) t ≡ Some c) where
  job_fresh : (id : ℕ) → above given.job (job_named t) ≤ id → get (set w.jobs (job_named t) c.job) id ≡ None
  job_fresh id le = get-set_other nat_cmp_total nat_cmp-IsAntisymmetric w.jobs (job_named t) c.job id (not_named given.job (job_named t) id le) ∙ fresh.jobs id (still given.job (job_named t) id le)

  process_fresh : (pid : ℕ) → above given.pid (pid_named t) ≤ pid → get (set w.processes (pid_of (holds w t).process) c.process) pid ≡ None
  process_fresh pid le = ⊎_elim (λ e. e.1 ∙ here e.0 c.process refl) (λ e. e.1 ∙ before) (after_set nat_cmp_total nat_cmp-IsAntisymmetric cases_eq w.processes (pid_of (holds w t).process) c.process pid)
    where
      before : get w.processes pid ≡ None
      before = fresh.processes pid (still given.pid (pid_named t) pid le)

      here : pid_of (holds w t).process ≡ Some pid → (o : Option Process) → c.process ≡ o → o ≡ None
      here held None is = refl
      here held (Some p) is =
          let none : (sees w (holds w t)).rows.process ≡ None = ap (λ k. k >>= get w.processes) held ∙ before in
          absurd (not_named given.pid (pid_named t) pid le (sym (new_process m (sees w (holds w t)) t c p legal none is) ∙ held))

  permit_fresh : (key : List ℕ) (generation : ℕ) → above given.generation (generation_named t) ≤ generation → holders (world_after w m t c) key generation ≡ 0
  permit_fresh key generation le =
      let total = count_after (is_holder key generation) w m t c legal in
      let few = permit_named m (sees w (holds w t)) t c key generation legal (not_named given.generation (generation_named t) generation le) in
      let none = fresh.permits key generation (still given.generation (generation_named t) generation le) in
      omega (arith, total, few, none)

  semaphore_fresh : (key : List ℕ) (x : Semaphore) → get (set w.semaphores (holds w t).key c.semaphore) key ≡ Some x → x.generation < above given.generation (generation_named t)
  semaphore_fresh key x is = ⊎_elim here (λ e. still_below given.generation (generation_named t) x.generation (fresh.semaphores key x (sym e.1 ∙ is))) (after_set texts_total exact_texts same_text w.semaphores (holds w t).key c.semaphore key)
    where
      here : ((holds w t).key ≡ Some key) × (get (set w.semaphores (holds w t).key c.semaphore) key ≡ c.semaphore) → x.generation < above given.generation (generation_named t)
      here e =
          let from = semaphore_from m (sees w (holds w t)) t c x legal (sym e.1 ∙ is) in
          below_is x.generation (above given.generation (generation_named t)) (from_generation (sees w (holds w t)).rows.semaphore (limit_of t (sees w (holds w t)).rows.job) (generation_named t) x (λ n. nat_lt n (above given.generation (generation_named t))) from
          (λ y f. lt-ltb y.generation (above given.generation (generation_named t)) (still_below given.generation (generation_named t) y.generation (fresh.semaphores key y (sym (ap (λ k. k >>= get w.semaphores) e.0) ∙ f))))
          (λ n f. lt-ltb n (above given.generation (generation_named t)) (named_below given.generation (generation_named t) n f)))

pub stays_fresh : (m : ℕ) (t : Transition) (d : Draft) → IsFresh d.world d.given → IsFresh (push m t d).world (push m t d).given
stays_fresh m t d fresh = by (changes m (sees d.world (holds d.world t)) t) refl
  where
    by : (o : Option Rows) → changes m (sees d.world (holds d.world t)) t ≡ o → IsFresh (with_changes d.world m t o) (noted d.given m t)
    by None e = record {
      jobs = λ id le. fresh.jobs id (still d.given.job (job_named t) id le);
      processes = λ pid le. fresh.processes pid (still d.given.pid (pid_named t) pid le);
      permits = λ key generation le. fresh.permits key generation (still d.given.generation (generation_named t) generation le);
      semaphores = λ key s is. still_below d.given.generation (generation_named t) s.generation (fresh.semaphores key s is);
    }
    by (Some c) e = record {
      jobs = job_fresh d.world m t c d.given fresh e;
      processes = process_fresh d.world m t c d.given fresh e;
      permits = permit_fresh d.world m t c d.given fresh e;
      semaphores = semaphore_fresh d.world m t c d.given fresh e;
    }

-- ---- after more of them

pub end_fresh : (m id : ℕ) (t : Transition) (d : Draft) → IsFresh d.world d.given → IsFresh (end m id t d).0.world (end m id t d).0.given
end_fresh m id t d fresh =
    let after = stays_fresh m t d fresh in
    after_end (λ e. IsFresh e.world e.given) m id t d after (λ key j given first. stays_fresh m (Unblock j.row.id (generation_at (push m t d) key)) (push m t d) after)

pub enqueue_fresh : (m : ℕ) (row : JobRow) (at : Option ℕ) (d : Draft) → IsFresh d.world d.given → IsFresh (enqueue m row at d).0.world (enqueue m row at d).0.given
enqueue_fresh m row at d fresh = by (place_for d m at row.limited)
  where
    by : (put : Put) → IsFresh (enqueue_at m row put d).0.world (enqueue_at m row put d).0.given
    by Away = fresh
    by (Ready permit) = stays_fresh m (Enqueue (record row { id = d.given.job }) (Ready permit)) d fresh
    by (Scheduled t) = stays_fresh m (Enqueue (record row { id = d.given.job }) (Scheduled t)) d fresh
    by (Blocked until) = stays_fresh m (Enqueue (record row { id = d.given.job }) (Blocked until)) d fresh
