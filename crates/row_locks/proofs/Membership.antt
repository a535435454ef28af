-- Membership in lists that are mapped, filtered or joined.
use Rattle.std.proofs.Common.{◌≡◌, ◌⊎◌, Bool, true, false, cond, List, [], ◌∷◌, map, filter, subst, ap, arith, inl, inr, ◌∙◌}
use Rattle.std.specs.Prelude.{Contains}
use Rattle.std.proofs.lemmas.List.Elements.{Contains-append_cases, Contains-append_left, Contains-append_right, Contains-push, Contains-push_cases}

pub none : {X : Type 0} (x : X) → Contains [] x → ⊥
none x h = omega (arith, h.1)

pub Contains-head : {X : Type 0} (x : X) (xs : List X) → Contains (x ∷ xs) x
Contains-head x xs = Contains-append_left (x ∷ []) xs x (Contains-push [] x)

pub Contains-tail : {X : Type 0} (x : X) (xs : List X) (y : X) → Contains xs y → Contains (x ∷ xs) y
Contains-tail x xs y h = Contains-append_right (x ∷ []) xs y h

pub Contains-cons_cases : {X : Type 0} (x : X) (xs : List X) (y : X) → Contains (x ∷ xs) y → (x ≡ y) ⊎ Contains xs y
Contains-cons_cases x xs y h =
    elim (Contains-append_cases (x ∷ []) xs y h) [
      | inl first ↦ elim (Contains-push_cases [] x y first) [ inl in_none ↦ absurd (none y in_none) | inr e ↦ inl e ]
      | inr later ↦ inr later
    ]

pub Contains-map : {X Y : Type 0} (f : X → Y) (xs : List X) (x : X) → Contains xs x → Contains (map f xs) (f x)
Contains-map f [] x h = absurd (none x h)
Contains-map f (y ∷ ys) x h =
    elim (Contains-cons_cases y ys x h) [
      | inl e ↦ subst (λ z. Contains (map f (y ∷ ys)) (f z)) e (Contains-head (f y) (map f ys))
      | inr later ↦ Contains-tail (f y) (map f ys) (f x) (Contains-map f ys x later)
    ]

pub Contains-from_map : {X Y : Type 0} (f : X → Y) (xs : List X) (y : Y) → Contains (map f xs) y → (x : X) × Contains xs x × (f x ≡ y)
Contains-from_map f [] y h = absurd (none y h)
Contains-from_map f (x ∷ xs) y h =
    elim (Contains-cons_cases (f x) (map f xs) y h) [
      | inl e ↦ (x, Contains-head x xs, e)
      | inr later ↦ let rest = Contains-from_map f xs y later in (rest.0, Contains-tail x xs rest.0 rest.1, rest.2)
    ]

kept_cases : {X : Type 0} (b : Bool) (x : X) (ys : List X) (y : X) → Contains (cond b (x ∷ ys) ys) y → (x ≡ y) ⊎ Contains ys y
kept_cases true x ys y h = Contains-cons_cases x ys y h
kept_cases false x ys y h = inr h

-- what a filter keeps was there
pub Contains-from_filter : {X : Type 0} (p : X → Bool) (xs : List X) (y : X) → Contains (filter p xs) y → Contains xs y
Contains-from_filter p [] y h = h
Contains-from_filter p (x ∷ xs) y h =
    elim (kept_cases (p x) x (filter p xs) y h) [
      | inl is ↦ subst (λ z. Contains (x ∷ xs) z) is (Contains-head x xs)
      | inr later ↦ Contains-tail x xs y (Contains-from_filter p xs y later)
    ]

kept_first : {X : Type 0} (b : Bool) (x : X) (ys : List X) → b ≡ true → Contains (cond b (x ∷ ys) ys) x
kept_first true x ys e = Contains-head x ys
kept_first false x ys e = cc

kept_later : {X : Type 0} (b : Bool) (x : X) (ys : List X) (y : X) → Contains ys y → Contains (cond b (x ∷ ys) ys) y
kept_later true x ys y h = Contains-tail x ys y h
kept_later false x ys y h = h

pub Contains-filter : {X : Type 0} (p : X → Bool) (xs : List X) (y : X) → Contains xs y → p y ≡ true → Contains (filter p xs) y
Contains-filter p [] y h e = h
Contains-filter p (x ∷ xs) y h e =
    elim (Contains-cons_cases x xs y h) [
      | inl is ↦ subst (λ z. Contains (cond (p x) (x ∷ filter p xs) (filter p xs)) z) is (kept_first (p x) x (filter p xs) (ap p is ∙ e))
      | inr later ↦ kept_later (p x) x (filter p xs) y (Contains-filter p xs y later e)
    ]
