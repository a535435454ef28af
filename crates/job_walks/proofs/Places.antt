-- Groups of one, as places.
use Rattle.std.proofs.Common.{◌≡◌, ◌<◌, Bool, false, cond, ℕ, zero, suc, List, [], ◌∷◌, map, length, Option, None, Some, is_some, All, arith, slice_index_or, ap, sym, ◌∙◌, refl, subst}
use Rattle.std.proofs.lemmas.Bool.{true≢false}
use Rattle.std.proofs.lemmas.Option.{slice_get_within}
use Rattle.std.specs.List.{slice_get}
use Rattle.queue_selector.specs.Groups.{groups_of, polls_all, selected, unpaused_names}
use Rattle.job_walks.specs.Places.{IsOneOf}

empty : {A : Type 0} (xs : List A) (x : A) (ys : List A) → xs ≡ [] → xs ≡ x ∷ ys → ⊥
empty xs x ys e f = absurd (omega (arith, ap length e, ap length f))

first : {A : Type 0} (x y : A) (xs ys : List A) → x ∷ xs ≡ y ∷ ys → x ≡ y
first x y xs ys e = cc

rest : {A : Type 0} (x y : A) (xs ys : List A) → x ∷ xs ≡ y ∷ ys → xs ≡ ys
rest x y xs ys e = cc

one_place : (names : List (List ℕ)) (places : List ℕ) (name : List ℕ) → map (slice_get names) places ≡ Some name ∷ [] → IsOneOf names places
one_place names [] name e = absurd (empty [] (Some name) [] refl e)
one_place names (place ∷ []) name e = (place, refl, slice_get_within names place name (first (slice_get names place) (Some name) [] [] e))
one_place names (place ∷ more ∷ places) name e =
    absurd (empty (map (slice_get names) (more ∷ places)) (slice_get names more) (map (slice_get names) places) (rest (slice_get names place) (Some name) (map (slice_get names) (more ∷ places)) [] e) refl)

-- what a list's groups say of their places, where each is of one name
pub are_ones : {V : Type 0} (items : V → List ℕ) (names : List (List ℕ)) (groups : List V) (selected : List (List ℕ)) → map (λ g. map (slice_get names) (items g)) groups ≡ map (map Some) (map (λ name. name ∷ []) selected) → All (λ g. IsOneOf names (items g)) groups
are_ones items names [] selected e = λ k d within. absurd (omega (arith, within))
are_ones items names (g ∷ groups) [] e = absurd (empty [] (map (slice_get names) (items g)) (map (λ g. map (slice_get names) (items g)) groups) refl (sym e))
are_ones items names (g ∷ groups) (name ∷ selected) e = at (one_place names (items g) name (first (map (slice_get names) (items g)) (Some name ∷ []) _ _ e))
    (are_ones items names groups selected (rest (map (slice_get names) (items g)) (Some name ∷ []) _ _ e))
  where
    at : IsOneOf names (items g) → All (λ g. IsOneOf names (items g)) groups → All (λ g. IsOneOf names (items g)) (g ∷ groups)
    at one ones zero d within = one
    at one ones (suc k) d within = ones k d (omega (arith, within))

-- the names that were found are those that were selected
pub same_names : (found selected : List (List ℕ)) → map (λ name. Some name ∷ []) found ≡ map (map Some) (map (λ name. name ∷ []) selected) → map (λ name. name ∷ []) found ≡ map (λ name. name ∷ []) selected
same_names [] [] e = refl
same_names [] (s ∷ selected) e = absurd (empty [] (Some s ∷ []) (map (map Some) (map (λ name. name ∷ []) selected)) refl e)
same_names (f ∷ found) [] e = absurd (empty [] (Some f ∷ []) (map (λ name. Some name ∷ []) found) refl (sym e))
same_names (f ∷ found) (s ∷ selected) e =
    let one : Some f ≡ Some s = first (Some f) (Some s) [] [] (first (Some f ∷ []) (Some s ∷ []) _ _ e) in
    let same : f ≡ s = some f s one in
    λ i. (same i ∷ []) ∷ same_names found selected (rest (Some f ∷ []) (Some s ∷ []) _ _ e) i
  where
    some : (x y : List ℕ) → Some x ≡ Some y → x ≡ y
    some x y e = cc

-- where no item is a star alone, each group is of one name
pub by_name : (items names paused : List (List ℕ)) → polls_all items ≡ false → groups_of items names paused ≡ map (λ name. name ∷ []) (selected items (unpaused_names names paused))
by_name items names paused e = ap (λ b. cond b (unpaused_names names paused ∷ []) (map (λ name. name ∷ []) (selected items (unpaused_names names paused)))) e
