-- The place of a name, as a map that grows with the list gives it.
use Rattle.std.proofs.Common.{◌≡◌, ◌<◌, ◌≤◌, ℕ, suc, ◌+◌, ◌-◌, Bool, true, false, ◌||◌, cond, List, [], ◌∷◌, ◌++◌, length, get_or, take, Option, Some, None, slice_get, refl, sym, ap, ◌∙◌, arith, add-zero}
use Rattle.std.specs.HashMap.{HashMap, get}
use Rattle.std.specs.List.{list_any}
use Rattle.std.specs.Option.{option_or, is_some}
use Rattle.std.specs.Str.{bytes_eq}
use Rattle.std.proofs.lemmas.List.{take_all, take_more, length-take-le}
use Rattle.std.proofs.lemmas.Option.{none-some}
use Rattle.queue_config.specs.Index.{place_from, ArePlaces}
use Rattle.queue_config.specs.Named.{find_named}

-- the place is there where the name is
is_some-place_from : {X : Type 0} (name_of : X → List ℕ) (n : ℕ) (xs : List X) (name : List ℕ) → is_some (place_from name_of n xs name) ≡ list_any (λ x. bytes_eq (name_of x) name) xs
is_some-place_from name_of n [] name = refl
is_some-place_from name_of n (x ∷ xs) name =
    elim (bytes_eq (name_of x) name) as (λ b. is_some (cond b (Some n) (place_from name_of (n + 1) xs name)) ≡ (b || list_any (λ y. bytes_eq (name_of y) name) xs)) [
      | true ↦ refl
      | false ↦ is_some-place_from name_of (n + 1) xs name
    ]

-- one more element
place_from-push : {X : Type 0} (name_of : X → List ℕ) (n : ℕ) (xs : List X) (x : X) (name : List ℕ) → place_from name_of n (xs ++ x ∷ []) name ≡ option_or (place_from name_of n xs name) (cond (bytes_eq (name_of x) name) (Some (n + length xs)) None)
place_from-push name_of n [] x name = rw add-zero refl
place_from-push name_of n (first ∷ xs) x name =
    let last : n + 1 + length xs ≡ n + suc (length xs) = omega arith in
    elim (bytes_eq (name_of first) name) as (λ b. cond b (Some n) (place_from name_of (n + 1) (xs ++ x ∷ []) name) ≡ option_or (cond b (Some n) (place_from name_of (n + 1) xs name)) (cond (bytes_eq (name_of x) name) (Some (n + suc (length xs))) None)) [
      | true ↦ refl
      | false ↦ place_from-push name_of (n + 1) xs x name ∙ ap (λ k. option_or (place_from name_of (n + 1) xs name) (cond (bytes_eq (name_of x) name) (Some k) None)) last
    ]

pub places_more : {X S : Type 0} (name_of : X → List ℕ) (old new : HashMap (List ℕ) ℕ S) (xs : List X) (i : ℕ) (d x : X) → i < length xs → x ≡ get_or xs i d → ((key : List ℕ) → get bytes_eq new key ≡ option_or (get bytes_eq old key) (cond (bytes_eq (name_of x) key) (Some i) None)) → ArePlaces name_of old (take i xs) → ArePlaces name_of new (take (i + 1) xs)
places_more name_of old new xs i d x h is noted places name =
    let before = take i xs in
    let long : 0 + length before ≡ i = omega (arith, length-take-le i xs (omega arith)) in
    let grown : take (i + 1) xs ≡ before ++ x ∷ [] = rw is (take_more xs i d h) in
    noted name
    ∙ ap (λ o. option_or o (cond (bytes_eq (name_of x) name) (Some i) None)) (places name)
    ∙ sym (ap (λ ys. place_from name_of 0 ys name) grown ∙ place_from-push name_of 0 before x name ∙ ap (λ k. option_or (place_from name_of 0 before name) (cond (bytes_eq (name_of x) name) (Some k) None)) long)

-- what a map of places says of a name says whether an element has it
pub there : {X S : Type 0} (name_of : X → List ℕ) (places : HashMap (List ℕ) ℕ S) (xs : List X) (name : List ℕ) → ArePlaces name_of places xs → is_some (get bytes_eq places name) ≡ list_any (λ x. bytes_eq (name_of x) name) xs
there name_of places xs name are = ap is_some (are name) ∙ is_some-place_from name_of 0 xs name

-- the first repeat so far, and the one that is found from here on
pub repeat_more : (repeat : Option ℕ) (b : Bool) (i : ℕ) (now next total : Option ℕ) → now ≡ cond b (Some i) next → option_or repeat now ≡ total → option_or (option_or repeat (cond b (Some i) None)) next ≡ total
repeat_more (Some first) b i now next total step so_far = so_far
repeat_more None true i now next total step so_far = sym step ∙ so_far
repeat_more None false i now next total step so_far = sym step ∙ so_far

pub repeat_end : (repeat now total : Option ℕ) → now ≡ None → option_or repeat now ≡ total → repeat ≡ total
repeat_end (Some first) now total none so_far = so_far
repeat_end None now total none so_far = sym none ∙ so_far

-- the element at the place
pub place_found : {X : Type 0} (name_of : X → List ℕ) (n : ℕ) (xs : List X) (name : List ℕ) (k : ℕ) → place_from name_of n xs name ≡ Some k → (n ≤ k) × (slice_get xs (k - n) ≡ find_named name_of name xs)
place_found name_of n [] name k h = absurd (none-some k h)
place_found {X} name_of n (x ∷ xs) name k h = here (bytes_eq (name_of x) name) h (λ later. place_found name_of (n + 1) xs name k later)
  where
    here : (b : Bool) → cond b (Some n) (place_from name_of (n + 1) xs name) ≡ Some k → (place_from name_of (n + 1) xs name ≡ Some k → (n + 1 ≤ k) × (slice_get xs (k - (n + 1)) ≡ find_named name_of name xs)) → (n ≤ k) × (slice_get (x ∷ xs) (k - n) ≡ cond b (Some x) (find_named name_of name xs))
    here true h later =
        let at : n ≡ k = cc in
        let first : k - n ≡ 0 = omega arith in
        (omega arith, ap (slice_get (x ∷ xs)) first)
    here false h later =
        let rest = later h in
        let next : k - n ≡ suc (k - (n + 1)) = omega arith in
        (omega arith, ap (slice_get (x ∷ xs)) next ∙ rest.1)

pub place_none : {X : Type 0} (name_of : X → List ℕ) (n : ℕ) (xs : List X) (name : List ℕ) → place_from name_of n xs name ≡ None → find_named name_of name xs ≡ None
place_none name_of n [] name h = refl
place_none {X} name_of n (x ∷ xs) name h = here (bytes_eq (name_of x) name) h (λ later. place_none name_of (n + 1) xs name later)
  where
    here : (b : Bool) → cond b (Some n) (place_from name_of (n + 1) xs name) ≡ None → (place_from name_of (n + 1) xs name ≡ None → find_named name_of name xs ≡ None) → cond b (Some x) (find_named name_of name xs) ≡ None
    here true h later = absurd (none-some n (sym h))
    here false h later = later h

pub places_end : {X S : Type 0} (name_of : X → List ℕ) (places : HashMap (List ℕ) ℕ S) (xs : List X) (i : ℕ) → length xs ≤ i → ArePlaces name_of places (take i xs) → ArePlaces name_of places xs
places_end name_of places xs i h are name = are name ∙ ap (λ ys. place_from name_of 0 ys name) (take_all i xs h)
