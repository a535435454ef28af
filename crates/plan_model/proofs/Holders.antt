-- Of a generation that isn't given no job holds a permit.
use Rattle.std.proofs.Common.{◌≡◌, ◌<◌, ◌≤◌, ℕ, Bool, true, false, ◌&&◌, List, Option, None, Some, refl, arith}
use Rattle.std.proofs.lemmas.Bool.{ne_eqb}
use Rattle.std.specs.Cmp.{nat_cmp_total}
use Rattle.std.specs.Option.{ForSome}
use Rattle.job_states.specs.States.{permit_of}
use Rattle.queue_model.specs.GoodWorld.{IsGood, IsGiven}
use Rattle.queue_model.specs.World.{World, holders, is_holder, is_key, is_exactly}
use Rattle.queue_model.specs.declared.Job.{Job}
use Rattle.plan_model.proofs.MapLemmas.{count_none}

-- a generation that isn't given is no permit's
not_held : (next generation : ℕ) (key : List ℕ) (j : Job) → ((g : ℕ) → permit_of j.state ≡ Some g → g < next) → next ≤ generation → is_holder key generation j ≡ false
not_held next generation key j given new = by (permit_of j.state) (is_key key j.row.limited) (λ g e. given g e)
  where
    by : (permit : Option ℕ) (keyed : Bool) → ((g : ℕ) → permit ≡ Some g → g < next) → (keyed && is_exactly generation permit) ≡ false
    by None true h = refl
    by None false h = refl
    by (Some g) false h = refl
    by (Some g) true h = let below : g < next = h g refl in ne_eqb g generation (λ e. omega (arith, below, new, e))

permit_given : (next : ℕ) (permit : Option ℕ) → ForSome permit (IsGiven next) → (g : ℕ) → permit ≡ Some g → g < next
permit_given next permit h g e = (h g e).1

pub no_holders : (w : World) (key : List ℕ) (generation : ℕ) → IsGood w → w.numbers.generation ≤ generation → holders w key generation ≡ 0
no_holders w key generation good new = count_none nat_cmp_total (is_holder key generation) w.jobs (λ id j found. not_held w.numbers.generation generation key j (permit_given w.numbers.generation (permit_of j.state) (good.jobs id j found).permit) new)
