-- What a transition needs of what it sees, where a job meets the semaphore of its key or gives its permit back.
use Rattle.std.proofs.Common.{◌≡◌, ◌≢◌, ◌≤◌, ℕ, Bool, true, false, ◌&&◌, not, List, Option, None, Some, is_some, refl, arith}
use Rattle.std.specs.Prelude.{◌==◌}
use Rattle.job_states.specs.States.{stage_of, permit_of, is_failed}
use Rattle.job_states.specs.declared.job.JobRow.{JobRow}
use Rattle.job_states.specs.declared.job.Limited.{Limited}
use Rattle.job_states.specs.declared.transition.Put.{Put}
use Rattle.job_states.specs.declared.transition.Put.TheVariants.{Ready, Scheduled, Blocked, Away}
use Rattle.job_states.specs.declared.transition.Transition.{Transition}
use Rattle.job_states.specs.declared.transition.Transition.TheVariants.{Enqueue, Dispatch, Retry, Discard, Expire}
use Rattle.semaphores.specs.Semaphore.{Semaphore, is_closed, is_expired}
use Rattle.queue_model.specs.Held.{held, key_of}
use Rattle.queue_model.specs.Sights.{Rows, Sight}
use Rattle.queue_model.specs.Transitions.{changes, is_due, is_discarded}
use Rattle.queue_model.specs.declared.Job.{Job}
use Rattle.plan_model.specs.Drafts.{meets_key, generation_of}
use Rattle.plan_model.specs.GoodDraft.{is_end}
use Rattle.plan_model.specs.JobCommands.{may_discard}
use Rattle.plan_model.proofs.LegalCases.{can_take}

-- ---- a job meets the semaphore that stands at its key

abbrev pub meets_at : Option Limited → Option Semaphore → (fresh moment : ℕ) → Put
meets_at None o fresh m = Ready None
meets_at (Some limited) o fresh m = meets_key o fresh m limited

pub enqueue : (m : ℕ) (s : Sight) (fresh : ℕ) (row : JobRow) (put : Put) → s.rows.job ≡ None → s.holders fresh ≡ 0 → meets_at row.limited s.rows.semaphore fresh m ≡ put → put ≢ Away → is_some (changes m s (Enqueue row put)) ≡ true
enqueue m s fresh row (Ready None) a b c n = grind arith
enqueue m s fresh row (Ready (Some generation)) a b c n = grind arith
enqueue m s fresh row (Scheduled at) a b c n = grind arith
enqueue m s fresh row (Blocked until) a b c n = grind arith
enqueue m s fresh row Away a b c n = grind arith

pub dispatch : (m : ℕ) (s : Sight) (id fresh : ℕ) (j : Job) (put : Put) → s.rows.job ≡ Some j → is_due m j.state ≡ true → s.holders fresh ≡ 0 → meets_at j.row.limited s.rows.semaphore fresh m ≡ put → is_some (changes m s (Dispatch id put)) ≡ true
dispatch m s id fresh j (Ready None) a b c e = grind arith
dispatch m s id fresh j (Ready (Some generation)) a b c e = grind arith
dispatch m s id fresh j (Scheduled at) a b c e = grind arith
dispatch m s id fresh j (Blocked until) a b c e = grind arith
dispatch m s id fresh j Away a b c e = grind arith

pub retry : (m : ℕ) (s : Sight) (id fresh : ℕ) (j : Job) (put : Put) → s.rows.job ≡ Some j → is_failed (Some (stage_of j.state)) ≡ true → (is_discarded j.row.limited && is_closed s.rows.semaphore) ≡ false → s.holders fresh ≡ 0 → meets_at j.row.limited s.rows.semaphore fresh m ≡ put → is_some (changes m s (Retry id put)) ≡ true
retry m s id fresh j (Ready None) a b f c e = grind arith
retry m s id fresh j (Ready (Some generation)) a b f c e = grind arith
retry m s id fresh j (Scheduled at) a b f c e = grind arith
retry m s id fresh j (Blocked until) a b f c e = grind arith
retry m s id fresh j Away a b f c e = grind arith

-- ---- other transitions

pub discard : (m : ℕ) (s : Sight) (id : ℕ) (j : Job) → s.rows.job ≡ Some j → may_discard (Some (stage_of j.state)) ≡ true → is_some (changes m s (Discard id)) ≡ true
discard m s id j a b = grind arith

pub expire : (m : ℕ) (s : Sight) (key : List ℕ) (old : Semaphore) → s.rows.semaphore ≡ Some old → is_expired old m ≡ true → is_some (changes m s (Expire key)) ≡ true
expire m s key old a b = grind arith

-- at a key that isn't closed a permit can be taken: of the semaphore, or of the next generation, if no job holds one of it
pub takes_open : (o : Option Semaphore) (fresh : ℕ) (holders : ℕ → ℕ) → is_closed o ≡ false → (o ≡ None → holders fresh ≡ 0) → can_take o (generation_of fresh o) (holders (generation_of fresh o)) ≡ true
takes_open None fresh holders some none = let new = none refl in grind arith
takes_open (Some s) fresh holders some none = grind arith

-- ---- a permit that comes back

abbrev pub is_open : Option Semaphore → Bool
is_open None = false
is_open (Some s) = not (s.free == 0)

pub key_ended : (t : Transition) (j : Job) (generation : ℕ) → is_end t ≡ true → permit_of j.state ≡ Some generation → (held (Some j) t).key ≡ key_of j.row.limited
key_ended t j generation end permit = grind arith

pub gave : (m : ℕ) (s : Sight) (t : Transition) (c : Rows) (j : Job) (limited : Limited) (generation : ℕ) (sem : Semaphore) → changes m s t ≡ Some c → is_end t ≡ true → s.rows.job ≡ Some j → j.row.limited ≡ Some limited → permit_of j.state ≡ Some generation → s.rows.semaphore ≡ Some sem → sem.generation ≡ generation → 1 ≤ sem.limit → is_open c.semaphore ≡ true
gave m s t c j limited generation sem h end a b p e same some = grind arith
