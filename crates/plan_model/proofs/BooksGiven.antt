-- The numbers that are given next: what a plan makes of them, and that they stay above those of the world.
use Rattle.std.proofs.Common.{◌≡◌, ◌≤◌, ℕ, true, max, List, [], ◌∷◌, Option, None, Some, ap, ◌∙◌, refl, subst, arith, fold}
use Rattle.job_states.specs.Moment.{IsMoment, is_moment}
use Rattle.job_states.specs.Ranges.{is_in_range, is_number}
use Rattle.job_states.specs.declared.transition.Transaction.{Transaction}
use Rattle.job_states.specs.declared.transition.Transition.{Transition}
use Rattle.queue_model.specs.GoodWorld.{IsNext}
use Rattle.queue_model.specs.Named.{above, job_named, pid_named, generation_named, noted}
use Rattle.queue_model.specs.Replay.{after, steps}
use Rattle.queue_model.specs.Transitions.{step}
use Rattle.queue_model.specs.World.{World}
use Rattle.queue_model.specs.declared.Numbers.{Numbers}
use Rattle.queue_model.proofs.Goods.{job_number, pid_number, generation_number}
use Rattle.queue_model.proofs.Steps.{passed, same_Some, step_is, then}
use Rattle.plan_model.specs.Books.{given_by}
use Rattle.plan_model.specs.GoodBook.{AreAbove}

-- ---- one number

up : (n : ℕ) (o : Option ℕ) → n ≤ above n o
up n None = omega arith
up n (Some k) = omega arith

up_too : (a b : ℕ) (o : Option ℕ) → a ≤ b → above a o ≤ above b o
up_too a b None h = h
up_too a b (Some k) h = omega arith

stays : (a n : ℕ) (o : Option ℕ) → above a o ≤ n → above n o ≡ n
stays a n None h = refl
stays a n (Some k) h = omega arith

next_up : (n : ℕ) (o : Option ℕ) → IsNext n → ((k : ℕ) → o ≡ Some k → is_number k ≡ true) → IsNext (above n o)
next_up n None next fits = next
next_up n (Some k) next fits = let fit = fits k refl in grind arith

-- ---- one transition

pub above_itself : (n : Numbers) → AreAbove n n
above_itself n = record { job = omega arith; pid = omega arith; generation = omega arith; moment = omega arith }

above_then : (a b c : Numbers) → AreAbove a b → AreAbove b c → AreAbove a c
above_then a b c h k = record { job = omega arith; pid = omega arith; generation = omega arith; moment = omega arith }

noted_up : (n : Numbers) (m : ℕ) (t : Transition) → AreAbove n (noted n m t)
noted_up n m t = record { job = up n.job (job_named t); pid = up n.pid (pid_named t); generation = up n.generation (generation_named t); moment = omega arith }

noted_too : (a b : Numbers) (m : ℕ) (t : Transition) → AreAbove a b → AreAbove (noted a m t) (noted b m t)
noted_too a b m t h = record {
  job = up_too a.job b.job (job_named t) h.job;
  pid = up_too a.pid b.pid (pid_named t) h.pid;
  generation = up_too a.generation b.generation (generation_named t) h.generation;
  moment = omega arith;
}

max_stays : (a m n : ℕ) → max a m ≤ n → max n m ≡ n
max_stays a m n h = omega arith

noted_stays : (a n : Numbers) (m : ℕ) (t : Transition) → AreAbove (noted a m t) n → noted n m t ≡ n
noted_stays a n m t h = λ i. record {
  job = stays a.job n.job (job_named t) h.job i;
  pid = stays a.pid n.pid (pid_named t) h.pid i;
  generation = stays a.generation n.generation (generation_named t) h.generation i;
  moment = max_stays a.moment m n.moment h.moment i;
}

-- numbers that may be given next, and a moment
pub record AreNext (n : Numbers) : Type 0 where
  pub job : IsNext n.job
  pub pid : IsNext n.pid
  pub generation : IsNext n.generation
  pub moment : IsMoment n.moment

noted_next : (n : Numbers) (m : ℕ) (t : Transition) → is_in_range t ≡ true → IsMoment m → AreNext n → AreNext (noted n m t)
noted_next n m t range at next = record {
  job = next_up n.job (job_named t) next.job (λ k e. job_number t k range e);
  pid = next_up n.pid (pid_named t) next.pid (λ k e. pid_number t k range e);
  generation = next_up n.generation (generation_named t) next.generation (λ k e. generation_number t k range e);
  moment = later n.moment m next.moment at;
}
  where
    later : (a b : ℕ) → IsMoment a → IsMoment b → IsMoment (max a b)
    later a b p q = omega arith

-- ---- transitions in turn

abbrev noted_all : Numbers → ℕ → List Transition → Numbers
noted_all n m ts = fold (λ n t. noted n m t) n ts

all_up : (n : Numbers) (m : ℕ) (ts : List Transition) → AreAbove n (noted_all n m ts)
all_up n m [] = above_itself n
all_up n m (t ∷ ts) = above_then n (noted n m t) (noted_all (noted n m t) m ts) (noted_up n m t) (all_up (noted n m t) m ts)

all_too : (a b : Numbers) (m : ℕ) (ts : List Transition) → AreAbove a b → AreAbove (noted_all a m ts) (noted_all b m ts)
all_too a b m [] h = h
all_too a b m (t ∷ ts) h = all_too (noted a m t) (noted b m t) m ts (noted_too a b m t h)

all_stay : (a n : Numbers) (m : ℕ) (ts : List Transition) → AreAbove (noted_all a m ts) n → noted_all n m ts ≡ n
all_stay a n m [] h = refl
all_stay a n m (t ∷ ts) h =
    ap (λ x. noted_all x m ts) (noted_stays a n m t (above_then (noted a m t) (noted_all (noted a m t) m ts) n (all_up (noted a m t) m ts) h))
    ∙ all_stay (noted a m t) n m ts h

all_next : (w v : World) (n : Numbers) (m : ℕ) (ts : List Transition) → steps w m ts ≡ Some v → IsMoment m → AreNext n → AreNext (noted_all n m ts)
all_next w v n m [] legal at next = next
all_next w v n m (t ∷ ts) legal at next =
    let first = then (step w m t) (λ u. steps u m ts) v legal in
    all_next first.0 v (noted n m t) m ts first.2 at (noted_next n m t (step_is w first.0 m t first.1).1.in_range at next)

-- the numbers of the world after them
numbers_are : (w v : World) (m : ℕ) (ts : List Transition) → steps w m ts ≡ Some v → noted_all w.numbers m ts ≡ v.numbers
numbers_are w v m [] legal = ap (λ (u : World). u.numbers) (same_Some w v legal)
numbers_are w v m (t ∷ ts) legal =
    let first = then (step w m t) (λ u. steps u m ts) v legal in
    let one = ap (λ (u : World). u.numbers) (step_is w first.0 m t first.1).1.after in
    ap (λ n. noted_all n m ts) one ∙ numbers_are first.0 v m ts first.2

-- ---- a transaction

abbrev at_moment : Numbers → ℕ → Numbers
at_moment n m = record n { moment = max n.moment m }

at_up : (n : Numbers) (m : ℕ) → AreAbove n (at_moment n m)
at_up n m = record { job = omega arith; pid = omega arith; generation = omega arith; moment = omega arith }

pub given_up : (tx : Transaction) (n : Numbers) → AreAbove n (given_by tx n)
given_up tx n = above_then n (at_moment n tx.moment) (given_by tx n) (at_up n tx.moment) (all_up (at_moment n tx.moment) tx.moment tx.steps)

-- numbers that are given already stay
pub given_stay : (tx : Transaction) (a n : Numbers) → AreAbove (given_by tx a) n → given_by tx n ≡ n
given_stay tx a n h =
    let at = above_then (at_moment a tx.moment) (given_by tx a) n (all_up (at_moment a tx.moment) tx.moment tx.steps) h in
    ap (λ x. noted_all x tx.moment tx.steps) (λ i. record n { moment = max_stays a.moment tx.moment n.moment at.moment i })
    ∙ all_stay (at_moment a tx.moment) n tx.moment tx.steps h

pub given_next : (w v : World) (tx : Transaction) (n : Numbers) → after w tx ≡ Some v → AreNext n → AreNext (given_by tx n)
given_next w v tx n legal next =
    let p = passed (is_moment tx.moment) (steps w tx.moment tx.steps) v legal in
    let at : IsMoment tx.moment = grind (arith, p.0) in
    all_next w v (at_moment n tx.moment) tx.moment tx.steps p.1 at (record { job = next.job; pid = next.pid; generation = next.generation; moment = both n.moment tx.moment next.moment at })
  where
    both : (a b : ℕ) → IsMoment a → IsMoment b → IsMoment (max a b)
    both a b p q = omega arith

-- they stay above the world's
pub given_above : (w v : World) (tx : Transaction) (n : Numbers) → after w tx ≡ Some v → AreAbove w.numbers n → AreAbove v.numbers (given_by tx n)
given_above w v tx n legal h =
    let p = passed (is_moment tx.moment) (steps w tx.moment tx.steps) v legal in
    subst (λ x. AreAbove x (given_by tx n)) (numbers_are w v tx.moment tx.steps p.1)
    (all_too w.numbers (at_moment n tx.moment) tx.moment tx.steps (above_then w.numbers n (at_moment n tx.moment) h (at_up n tx.moment)))
