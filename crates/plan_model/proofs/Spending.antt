-- Numbers that aren't spent: of the whole draft, and so of each part of it.
use Rattle.std.proofs.Common.{◌≡◌, ◌≤◌, ◌<◌, ◌+◌, ◌^◌, ℕ, false, ◌&&◌, nat_lt, List, [], ◌∷◌, ◌++◌, Option, None, Some, arith}
use Rattle.job_states.specs.declared.answer.Refused.{Refused}
use Rattle.job_states.specs.declared.transition.Transition.{Transition}
use Rattle.queue_model.specs.Named.{job_named, pid_named, generation_named, noted, above}
use Rattle.queue_model.specs.declared.Numbers.{Numbers}
use Rattle.plan_model.specs.Drafts.{Draft}
use Rattle.plan_model.specs.Refusals.{first_met, spent, numbers_spent}
use Rattle.plan_model.specs.Scenes.{Scene}
use Rattle.plan_model.proofs.PlanLemmas.{unmet, unrefused}

-- of a kind whose number rose it is still one
pub record IsNotSpent (before after : Numbers) : Type 0 where
  pub job : before.job < after.job → after.job ≤ 2 ^ 63 + 1
  pub pid : before.pid < after.pid → after.pid ≤ 2 ^ 63 + 1
  pub generation : before.generation < after.generation → after.generation ≤ 2 ^ 63 + 1

not_spent : (before after : ℕ) → spent before after ≡ None → before < after → after ≤ 2 ^ 63 + 1
not_spent before after e rose = most before after (unrefused _ _ e) rose
  where
    most : (a b : ℕ) → (nat_lt a b && nat_lt (2 ^ 63 + 1) b) ≡ false → a < b → b ≤ 2 ^ 63 + 1
    most a b f r = grind (arith, f, r)

pub none_spent : (s : Scene) (d : Draft) → numbers_spent s d ≡ None → IsNotSpent s.book.given d.given
none_spent s d e =
    let a = unmet (spent s.book.given.job d.given.job) (spent s.book.given.pid d.given.pid ∷ spent s.book.given.generation d.given.generation ∷ []) e in
    let b = unmet (spent s.book.given.pid d.given.pid) (spent s.book.given.generation d.given.generation ∷ []) a.1 in
    let c = unmet (spent s.book.given.generation d.given.generation) [] b.1 in
    record { job = not_spent s.book.given.job d.given.job a.0; pid = not_spent s.book.given.pid d.given.pid b.0; generation = not_spent s.book.given.generation d.given.generation c.0 }

pub last_unmet : (causes : List (Option Refused)) (last : Option Refused) → first_met (causes ++ last ∷ []) ≡ None → last ≡ None
last_unmet [] last e = (unmet last [] e).0
last_unmet (c ∷ causes) last e = last_unmet causes last (unmet c (causes ++ last ∷ []) e).1

-- ---- the numbers that are given rise

pub record Rises (before after : Numbers) : Type 0 where
  pub job : before.job ≤ after.job
  pub pid : before.pid ≤ after.pid
  pub generation : before.generation ≤ after.generation

pub stays : (n : Numbers) → Rises n n
stays n = record { job = omega arith; pid = omega arith; generation = omega arith }

pub then_rises : (a b c : Numbers) → Rises a b → Rises b c → Rises a c
then_rises a b c p q = record { job = up a.job b.job c.job p.job q.job; pid = up a.pid b.pid c.pid p.pid q.pid; generation = up a.generation b.generation c.generation p.generation q.generation }
  where
    up : (x y z : ℕ) → x ≤ y → y ≤ z → x ≤ z
    up x y z p q = omega (arith, p, q)

above_rises : (n : ℕ) (o : Option ℕ) → n ≤ above n o
above_rises n None = omega arith
above_rises n (Some x) = omega arith

pub noted_rises : (n : Numbers) (m : ℕ) (t : Transition) → Rises n (noted n m t)
noted_rises n m t = record { job = above_rises n.job (job_named t); pid = above_rises n.pid (pid_named t); generation = above_rises n.generation (generation_named t) }

-- where nothing is spent in the end, nothing was in between, and nothing is from there on
pub spent_between : (a b c : Numbers) → Rises a b → Rises b c → IsNotSpent a c → IsNotSpent a b × IsNotSpent b c
spent_between a b c p q h = (
  record { job = first a.job b.job c.job q.job h.job; pid = first a.pid b.pid c.pid q.pid h.pid; generation = first a.generation b.generation c.generation q.generation h.generation },
  record { job = second a.job b.job c.job p.job h.job; pid = second a.pid b.pid c.pid p.pid h.pid; generation = second a.generation b.generation c.generation p.generation h.generation },
)
  where
    first : (x y z : ℕ) → y ≤ z → (x < z → z ≤ 2 ^ 63 + 1) → x < y → y ≤ 2 ^ 63 + 1
    first x y z up most rose = let more : x < z = omega (arith, rose, up) in let bound = most more in omega (arith, bound, up)

    second : (x y z : ℕ) → x ≤ y → (x < z → z ≤ 2 ^ 63 + 1) → y < z → z ≤ 2 ^ 63 + 1
    second x y z up most rose = most (omega (arith, rose, up))

-- ---- what holds of a draft unless a number is spent

pub record Holds (s : Scene) (P : Draft → Type 0) (d : Draft) : Type 0 where
  pub rises : Rises s.book.given d.given
  pub holds : IsNotSpent s.book.given d.given → P d

pub holds_next : (s : Scene) (P Q : Draft → Type 0) (d e : Draft) → Holds s P d → Rises d.given e.given → (P d → IsNotSpent d.given e.given → Q e) → Holds s Q e
holds_next s P Q d e h up then = record {
  rises = then_rises s.book.given d.given e.given h.rises up;
  holds = λ unspent. let parts = spent_between s.book.given d.given e.given h.rises up unspent in then (h.holds parts.0) parts.1;
}
