-- Transitions one after another: the first of them, and one more.
use Rattle.std.proofs.Common.{◌≡◌, ◌+◌, ◌<◌, ℕ, zero, suc, List, [], ◌∷◌, ◌++◌, take, length, get_or, Bool, true, false, Option, None, Some, IsSome, is_some, ap, sym, ◌∙◌, refl, arith}
use Rattle.std.proofs.lemmas.Bool.{true≢false}
use Rattle.std.proofs.lemmas.List.{take_more}
use Rattle.job_states.specs.Ranges.{is_in_range}
use Rattle.job_states.specs.declared.transition.Transition.{Transition}
use Rattle.queue_model.specs.Chain.{◌>>=◌, ◌>>◌, when}
use Rattle.queue_model.specs.Replay.{steps}
use Rattle.queue_model.specs.Held.{holds}
use Rattle.queue_model.specs.Sights.{Rows, sees}
use Rattle.queue_model.specs.Transitions.{changes, step}
use Rattle.queue_model.specs.World.{World}
use Rattle.queue_model.proofs.Steps.{then, same_Some, step_is, world_after}

-- what holds in the world after these transitions, where they are legal
abbrev pub Then : World → ℕ → List Transition → (World → Type 0) → Type 0
Then w m ts P = (v : World) → steps w m ts ≡ Some v → P v

snoc : (w v : World) (m : ℕ) (xs : List Transition) (t : Transition) → steps w m (xs ++ t ∷ []) ≡ Some v → (u : World) × (steps w m xs ≡ Some u) × (step u m t ≡ Some v)
snoc w v m [] t h = let f = then (step w m t) (λ u. steps u m []) v h in (w, refl, f.1 ∙ f.2)
snoc w v m (x ∷ xs) t h =
    let f = then (step w m x) (λ u. steps u m (xs ++ t ∷ [])) v h in
    let r = snoc f.0 v m xs t f.2 in
    (r.0, ap (λ o. o >>= (λ u. steps u m xs)) f.1 ∙ r.1, r.2)

appended : (w u : World) (m : ℕ) (xs : List Transition) (t : Transition) → steps w m xs ≡ Some u → steps w m (xs ++ t ∷ []) ≡ step u m t
appended w u m [] t h = any (step w m t) ∙ ap (λ x. step x m t) (same_Some w u h)
  where
    any : (o : Option World) → (o >>= (λ x. Some x)) ≡ o
    any None = refl
    any (Some x) = refl
appended w u m (x ∷ xs) t h =
    let f = then (step w m x) (λ y. steps y m xs) u h in
    ap (λ o. o >>= (λ y. steps y m (xs ++ t ∷ []))) f.1 ∙ appended f.0 u m xs t f.2

one_more : (xs : List Transition) (i : ℕ) (t : Transition) → i < length xs → t ≡ get_or xs i t → take (i + 1) xs ≡ take i xs ++ t ∷ []
one_more xs i t within is = take_more xs i t within ∙ ap (λ x. take i xs ++ x ∷ []) (sym is)

-- a fact that each transition carries on
pub then_more : (w : World) (m : ℕ) (xs : List Transition) (i : ℕ) (t : Transition) (P Q : World → Type 0) → i < length xs → t ≡ get_or xs i t → ((u v : World) → steps w m (take i xs) ≡ Some u → step u m t ≡ Some v → P u → Q v) → Then w m (take i xs) P → Then w m (take (i + 1) xs) Q
then_more w m xs i t P Q within is next held v h =
    let s = snoc w v m (take i xs) t (ap (steps w m) (sym (one_more xs i t within is)) ∙ h) in
    next s.0 v s.1 s.2 (held s.0 s.1)

-- where all are legal, so are the first ones, and each is within its ranges
pub first_legal : (w : World) (m : ℕ) (xs : List Transition) (i : ℕ) → IsSome (steps w m xs) → IsSome (steps w m (take i xs))
first_legal w m xs zero h = refl
first_legal w m [] (suc i) h = refl
first_legal w m (t ∷ ts) (suc i) h = by (λ u. first_legal u m ts i) (step w m t) h
  where
    by : ((u : World) → IsSome (steps u m ts) → IsSome (steps u m (take i ts))) → (o : Option World) → IsSome (o >>= (λ u. steps u m ts)) → IsSome (o >>= (λ u. steps u m (take i ts)))
    by rest None h = absurd (true≢false (sym h))
    by rest (Some u) h = rest u h

pub in_range_at : (w : World) (m : ℕ) (xs : List Transition) (i : ℕ) (t d : Transition) → IsSome (steps w m xs) → i < length xs → t ≡ get_or xs i d → is_in_range t ≡ true
in_range_at w m [] i t d h within e = absurd (omega arith)
in_range_at w m (x ∷ xs) zero t d h within e = ap is_in_range e ∙ by (step w m x) refl h
  where
    by : (o : Option World) → step w m x ≡ o → IsSome (o >>= (λ u. steps u m xs)) → is_in_range x ≡ true
    by None is h = absurd (true≢false (sym h))
    by (Some u) is h = (step_is w u m x is).1.in_range
in_range_at w m (x ∷ xs) (suc i) t d h within e = by (λ u h. in_range_at u m xs i t d h (omega arith) e) (step w m x) h
  where
    by : ((u : World) → IsSome (steps u m xs) → is_in_range t ≡ true) → (o : Option World) → IsSome (o >>= (λ u. steps u m xs)) → is_in_range t ≡ true
    by rest None h = absurd (true≢false (sym h))
    by rest (Some u) h = rest u h

-- one that is in its range is legal where the table of transitions says so
pub step_legal : (w : World) (m : ℕ) (t : Transition) → is_in_range t ≡ true → is_some (changes m (sees w (holds w t)) t) ≡ is_some (step w m t)
step_legal w m t e = sym (ap (λ b. is_some (when b >> (changes m (sees w (holds w t)) t >>= (λ rows. Some (world_after w m t rows))))) e ∙ any (changes m (sees w (holds w t)) t))
  where
    any : (o : Option Rows) → is_some (o >>= (λ rows. Some (world_after w m t rows))) ≡ is_some o
    any None = refl
    any (Some rows) = refl

-- the first ones and one more are legal exactly where it is, after those
pub judged_next : (w : World) (m : ℕ) (xs : List Transition) (i : ℕ) (t : Transition) (b : Bool) → i < length xs → t ≡ get_or xs i t → IsSome (steps w m (take i xs)) → ((v : World) → steps w m (take i xs) ≡ Some v → b ≡ is_some (step v m t)) → is_some (steps w m (take (i + 1) xs)) ≡ b
judged_next w m xs i t b within is before test = by (steps w m (take i xs)) refl before
  where
    by : (o : Option World) → steps w m (take i xs) ≡ o → IsSome o → is_some (steps w m (take (i + 1) xs)) ≡ b
    by None s h = absurd (true≢false (sym h))
    by (Some u) s h = ap (λ ys. is_some (steps w m ys)) (one_more xs i t within is) ∙ ap is_some (appended w u m (take i xs) t s) ∙ sym (test u s)

-- where the first ones aren't legal, the whole isn't
pub judged_no : (w : World) (m : ℕ) (xs : List Transition) (i : ℕ) → is_some (steps w m (take i xs)) ≡ false → false ≡ is_some (steps w m xs)
judged_no w m xs i no_prefix = by (is_some (steps w m xs)) refl
  where
    by : (b : Bool) → is_some (steps w m xs) ≡ b → false ≡ is_some (steps w m xs)
    by true e = absurd (true≢false (sym (first_legal w m xs i e) ∙ no_prefix))
    by false e = sym e
