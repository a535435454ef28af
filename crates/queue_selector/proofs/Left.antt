-- Names that earlier items leave to later ones.
use Rattle.std.proofs.Common.{◌≡◌, ℕ, ◌+◌, ◌-◌, ◌<◌, ◌≤◌, Bool, true, false, cond, not, ◌||◌, ◌&&◌, List, [], ◌∷◌, ◌++◌, length, take, drop, get_or, map, filter, refl, sym, ◌∙◌, ap, ap₂, arith, append-nil, append_assoc}
use Rattle.std.specs.Prelude.{Option, Some, slice_get, slice_range}
use Rattle.std.specs.List.{list_any}
use Rattle.std.proofs.lemmas.Bool.{cond-true, cond-false}
use Rattle.std.proofs.lemmas.List.{drop_all, drop_more, get_or-drop, length-drop, map-append, take_more}
use Rattle.std.proofs.lemmas.List.Elements.{filter_agree, filter-append}
use Rattle.std.proofs.lemmas.List.Folds.{list_any-append}
use Rattle.std.proofs.lemmas.Option.{slice_get-get_or}
use Rattle.job_states.specs.Texts.{is_among}
use Rattle.queue_selector.specs.Groups.{groups_of, polls_all, selected, selects, unpaused_names}
use Rattle.queue_selector.specs.Places.{is_left, names_at}

-- the names with one more behind them
range_more : {X : Type 0} (xs : List X) (start i : ℕ) (d : X) → start ≤ i → i < length xs → slice_range xs start (i + 1) ≡ slice_range xs start i ++ get_or xs i d ∷ []
range_more xs start i d low high =
    let size : (i + 1) - start ≡ (i - start) + 1 = omega arith in
    let place : start + (i - start) ≡ i = omega arith in
    ap (λ n. take n (drop start xs)) size
    ∙ take_more (drop start xs) (i - start) d (omega (arith, length-drop start xs))
    ∙ ap (λ x. slice_range xs start i ++ x ∷ []) (get_or-drop start xs (i - start) d ∙ ap (λ k. get_or xs k d) place)

kept : (names : List (List ℕ)) (p : List ℕ → Bool) (start i : ℕ) → start ≤ i → i < length names → filter p (slice_range names start (i + 1)) ≡ filter p (slice_range names start i) ++ filter p (get_or names i [] ∷ [])
kept names p start i low high = ap (filter p) (range_more names start i [] low high) ∙ filter-append p (slice_range names start i) (get_or names i [] ∷ [])

-- one more place of a run, whose name passes
pub place_passes : (names : List (List ℕ)) (p : List ℕ → Bool) (before : List (Option (List ℕ))) (places : List ℕ) (start i : ℕ) → start ≤ i → i < length names → p (get_or names i []) ≡ true
    → names_at names places ≡ before ++ map Some (filter p (slice_range names start i)) → names_at names (places ++ i ∷ []) ≡ before ++ map Some (filter p (slice_range names start (i + 1)))
place_passes names p before places start i low high passes so_far =
    map-append (slice_get names) places (i ∷ [])
    ∙ ap₂ (λ first last. first ++ last ∷ []) so_far (slice_get-get_or names i [] high)
    ∙ append_assoc before (map Some (filter p (slice_range names start i))) (Some (get_or names i []) ∷ [])
    ∙ ap (λ more. before ++ more) (
    sym (map-append Some (filter p (slice_range names start i)) (get_or names i [] ∷ []))
    ∙ ap (λ last. map Some (filter p (slice_range names start i) ++ last)) (sym (cond-true (p (get_or names i [])) (get_or names i [] ∷ []) [] passes))
    ∙ ap (map Some) (sym (kept names p start i low high))
    )

-- one more place of a run, whose name fails
pub place_fails : (names : List (List ℕ)) (p : List ℕ → Bool) (before : List (Option (List ℕ))) (start i : ℕ) → start ≤ i → i < length names → p (get_or names i []) ≡ false
    → before ++ map Some (filter p (slice_range names start i)) ≡ before ++ map Some (filter p (slice_range names start (i + 1)))
place_fails names p before start i low high fails =
    ap (λ more. before ++ map Some more) (
    sym (append-nil (filter p (slice_range names start i)))
    ∙ ap (λ last. filter p (slice_range names start i) ++ last) (sym (cond-false (p (get_or names i [])) (get_or names i [] ∷ []) [] fails))
    ∙ sym (kept names p start i low high)
    )

filter_cond : {X : Type 0} (p : X → Bool) (b : Bool) (xs ys : List X) → filter p (cond b xs ys) ≡ cond b (filter p xs) (filter p ys)
filter_cond p true xs ys = refl
filter_cond p false xs ys = refl

-- a test of what another test keeps is both tests
filter_both : {X : Type 0} (p q : X → Bool) (xs : List X) → filter p (filter q xs) ≡ filter (λ x. p x && q x) xs
filter_both p q [] = refl
filter_both p q (x ∷ xs) =
    filter_cond p (q x) (x ∷ filter q xs) (filter q xs)
    ∙ two (p x) (q x) ∙ ap (λ rest. cond (p x && q x) (x ∷ rest) rest) (filter_both p q xs)
  where
    two : (b c : Bool) → cond c (cond b (x ∷ filter p (filter q xs)) (filter p (filter q xs))) (filter p (filter q xs)) ≡ cond (b && c) (x ∷ filter p (filter q xs)) (filter p (filter q xs))
    two true true = refl
    two true false = refl
    two false true = refl
    two false false = refl

and_swap : (b c : Bool) → (b && c) ≡ (c && b)
and_swap true true = refl
and_swap true false = refl
and_swap false true = refl
and_swap false false = refl

filter_swap : {X : Type 0} (p q : X → Bool) (xs : List X) → filter p (filter q xs) ≡ filter q (filter p xs)
filter_swap p q xs = filter_both p q xs ∙ filter_agree (λ x. p x && q x) (λ x. q x && p x) (λ x. and_swap (p x) (q x)) xs ∙ sym (filter_both q p xs)

neither : (earlier item paused : Bool) → (not item && not (earlier || paused)) ≡ not ((earlier || (item || false)) || paused)
neither true true paused = refl
neither true false paused = refl
neither false true paused = refl
neither false false paused = refl

-- the names that are left after one more item
left_more : (earlier paused : List (List ℕ)) (item : List ℕ) (names : List (List ℕ)) → filter (λ name. not (selects item name)) (filter (is_left earlier paused) names) ≡ filter (is_left (earlier ++ item ∷ []) paused) names
left_more earlier paused item names =
    filter_both (λ name. not (selects item name)) (is_left earlier paused) names
    ∙ filter_agree (λ name. not (selects item name) && is_left earlier paused name) (is_left (earlier ++ item ∷ []) paused) (λ name.
    neither (list_any (λ item. selects item name) earlier) (selects item name) (is_among paused name)
    ∙ ap (λ some. not (some || is_among paused name)) (sym (list_any-append (λ item. selects item name) earlier (item ∷ [])))
    ) names

-- what one more item selects comes next
pub selected_more : (items paused names : List (List ℕ)) (found : List (Option (List ℕ))) (i : ℕ) → i < length items
    → found ++ map Some (selected (drop i items) (filter (is_left (take i items) paused) names)) ≡ map Some (selected items (unpaused_names names paused))
    → (found ++ map Some (filter (is_left (take i items) paused) (filter (selects (get_or items i [])) names))) ++ map Some (selected (drop (i + 1) items) (filter (is_left (take (i + 1) items) paused) names)) ≡ map Some (selected items (unpaused_names names paused))
selected_more items paused names found i within so_far =
    let item : List ℕ = get_or items i [] in
    let left : List (List ℕ) = filter (is_left (take i items) paused) names in
    append_assoc found (map Some (filter (is_left (take i items) paused) (filter (selects item) names))) (map Some (selected (drop (i + 1) items) (filter (is_left (take (i + 1) items) paused) names)))
    ∙ ap (λ more. found ++ more) (
    sym (map-append Some (filter (is_left (take i items) paused) (filter (selects item) names)) (selected (drop (i + 1) items) (filter (is_left (take (i + 1) items) paused) names)))
    ∙ ap (map Some) (
    ap₂ (λ first rest. first ++ selected (drop (i + 1) items) rest)
    (filter_swap (is_left (take i items) paused) (selects item) names)
    (ap (λ earlier. filter (is_left earlier paused) names) (take_more items i [] within) ∙ sym (left_more (take i items) paused item names))
    ∙ ap (λ rest. selected rest left) (sym (drop_more items i [] within))
    )
    )
    ∙ so_far

-- groups of one place each, seen by their names
pub ones_at : {V : Type 0} (items : V → List ℕ) (names : List (List ℕ)) (groups : List V) (places : List ℕ) (chosen : List (List ℕ)) → map items groups ≡ map (λ place. place ∷ []) places → names_at names places ≡ map Some chosen
    → map (λ group. names_at names (items group)) groups ≡ map (map Some) (map (λ name. name ∷ []) chosen)
ones_at items names [] [] [] e f = refl
ones_at items names [] [] (name ∷ chosen) e f = cc
ones_at items names [] (place ∷ places) chosen e f = cc
ones_at items names (group ∷ groups) [] chosen e f = cc
ones_at items names (group ∷ groups) (place ∷ places) [] e f = cc
ones_at items names (group ∷ groups) (place ∷ places) (name ∷ chosen) e f =
    let one : items group ≡ place ∷ [] = cc in
    let others : map items groups ≡ map (λ place. place ∷ []) places = cc in
    let first : slice_get names place ≡ Some name = cc in
    let rest : names_at names places ≡ map Some chosen = cc in
    ap₂ (λ first rest. first ∷ rest) (ap (names_at names) one ∙ ap (λ first. first ∷ []) first) (ones_at items names groups places chosen others rest)

-- after the last item
pub all_selected : (items paused names : List (List ℕ)) (found : List (Option (List ℕ))) (i : ℕ) → length items ≤ i
    → found ++ map Some (selected (drop i items) (filter (is_left (take i items) paused) names)) ≡ map Some (selected items (unpaused_names names paused)) → found ≡ map Some (selected items (unpaused_names names paused))
all_selected items paused names found i past so_far =
    sym (append-nil found) ∙ ap (λ rest. found ++ map Some (selected rest (filter (is_left (take i items) paused) names))) (sym (drop_all i items past)) ∙ so_far

-- the groups where no item is a star alone
pub groups_of-selected : (items names paused : List (List ℕ)) → polls_all items ≡ false → groups_of items names paused ≡ map (λ name. name ∷ []) (selected items (unpaused_names names paused))
groups_of-selected items names paused no_star =
    cond-false (polls_all items) (unpaused_names names paused ∷ []) (map (λ name. name ∷ []) (selected items (unpaused_names names paused))) no_star
