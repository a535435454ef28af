-- How often a name stands in groups.
use Rattle.std.proofs.Common.{◌≡◌, ℕ, ◌+◌, ◌≤◌, Bool, true, false, cond, not, ◌&&◌, ◌||◌, List, [], ◌∷◌, ◌++◌, map, filter, flat_map, refl, sym, subst, ◌∙◌, ap, ap₂, arith, inl, inr, zero-add, append-nil, codes}
use Rattle.std.specs.List.{list_any, AllByRecursion}
use Rattle.std.specs.List.Sorted.{IsStrictlySortedBy}
use Rattle.std.specs.Ordering.{nat_cmp, is_eq, ordering_reverse}
use Rattle.std.specs.declared.cmp.Ordering.TheVariants.{Less}
use Rattle.std.specs.Cmp.Lexicographic.{slice_cmp, texts_ties}
use Rattle.std.proofs.lemmas.Bool.{cases_Bool, or_cases, or_left, or_right, false≢true}
use Rattle.std.proofs.lemmas.List.Sums.{sum_by-append, sum_by-cons}
use Rattle.std.specs.Str.{bytes_eq}
use Rattle.std.proofs.lemmas.Cmp.{nat_list_cmp_total}
use Rattle.std.proofs.lemmas.Slice.Eq.{bytes_eq-Decides}
use Rattle.job_states.specs.Texts.{is_among}
use Rattle.queue_selector.specs.Groups.{AreSorted, count_in, count_of, groups_of, is_polled, polls_all, selected, selects, unpaused_names}

pub same_true : (a b : List ℕ) → bytes_eq a b ≡ true → a ≡ b
same_true a b e = (bytes_eq-Decides a b).0 e

count_of-cons : (name x : List ℕ) (xs : List (List ℕ)) → count_of name (x ∷ xs) ≡ cond (bytes_eq x name) 1 0 + count_of name xs
count_of-cons name x xs = sum_by-cons (λ y. cond (bytes_eq y name) 1 0) x xs

count_of-append : (name : List ℕ) (xs ys : List (List ℕ)) → count_of name (xs ++ ys) ≡ count_of name xs + count_of name ys
count_of-append name xs ys = sum_by-append (λ y. cond (bytes_eq y name) 1 0) xs ys

count_of-cond : (name : List ℕ) (b : Bool) (xs ys : List (List ℕ)) → count_of name (cond b xs ys) ≡ cond b (count_of name xs) (count_of name ys)
count_of-cond name true xs ys = refl
count_of-cond name false xs ys = refl

nothing : (b : Bool) → ◌≡◌ {A = ℕ} 0 (cond b 0 0)
nothing true = refl
nothing false = refl

-- a name that is first, and stands m times after it among those kept and n times among all
counted : (is_first keeps_first keeps : Bool) (n m : ℕ) → (is_first ≡ true → keeps ≡ keeps_first) → m ≡ cond keeps n 0 → cond keeps_first (cond is_first 1 0 + m) m ≡ cond keeps (cond is_first 1 0 + n) 0
counted true true true n m h e = ap (λ k. 1 + k) e
counted true true false n m h e = absurd (false≢true (h refl))
counted true false true n m h e = absurd (false≢true (sym (h refl)))
counted true false false n m h e = e
counted false true true n m h e = ap (λ k. 0 + k) e
counted false true false n m h e = ap (λ k. 0 + k) e
counted false false true n m h e = e ∙ sym (zero-add n)
counted false false false n m h e = e

-- a test keeps a name that passes as often as it stands there, and drops one that fails
count_of-filter : (name : List ℕ) (p : List ℕ → Bool) (xs : List (List ℕ)) → count_of name (filter p xs) ≡ cond (p name) (count_of name xs) 0
count_of-filter name p [] = nothing (p name)
count_of-filter name p (x ∷ xs) =
    count_of-cond name (p x) (x ∷ filter p xs) (filter p xs)
    ∙ ap (λ k. cond (p x) k (count_of name (filter p xs))) (count_of-cons name x (filter p xs))
    ∙ counted (bytes_eq x name) (p x) (p name) (count_of name xs) (count_of name (filter p xs)) (λ s. sym (ap p (same_true x name s))) (count_of-filter name p xs)
    ∙ ap (λ k. cond (p name) k 0) (sym (count_of-cons name x xs))

-- no name above the first is the first
count_of-above : (x : List ℕ) (xs : List (List ℕ)) → AllByRecursion (λ y. slice_cmp nat_cmp x y ≡ Less) xs → count_of x xs ≡ 0
count_of-above x [] above = refl
count_of-above x (y ∷ ys) above =
    let differs : bytes_eq y x ≡ false = texts_ties y x ∙ ap is_eq (nat_list_cmp_total.antisymm y x ∙ ap ordering_reverse above.0) in
    count_of-cons x y ys ∙ ap₂ (λ (b : Bool) n. cond b 1 0 + n) differs (count_of-above x ys above.1)

-- in strict order each name stands once
count_of-sorted : (name : List ℕ) (names : List (List ℕ)) → AreSorted names → count_of name names ≤ 1
unfolding IsStrictlySortedBy
count_of-sorted name [] s = omega arith
count_of-sorted name (x ∷ xs) s =
    elim (cases_Bool (bytes_eq x name)) [
      | inl is_first ↦
          let none : count_of name xs ≡ 0 = ap (λ y. count_of y xs) (sym (same_true x name is_first)) ∙ count_of-above x xs s.0 in
          rw (count_of-cons name x xs, is_first, none) (omega arith)
      | inr is_other ↦ rw (count_of-cons name x xs, is_other, zero-add (count_of name xs)) (count_of-sorted name xs s.1)
    ]

split : (first later : Bool) (n : ℕ) → cond first n 0 + cond later (cond (not first) n 0) 0 ≡ cond (first || later) n 0
split true true n = omega arith
split true false n = omega arith
split false true n = omega arith
split false false n = refl

count_of-selected : (name : List ℕ) (items names : List (List ℕ)) → count_of name (selected items names) ≡ cond (list_any (λ item. selects item name) items) (count_of name names) 0
count_of-selected name [] names = refl
count_of-selected name (item ∷ items) names =
    let others : List (List ℕ) = filter (λ name. not (selects item name)) names in
    count_of-append name (filter (selects item) names) (selected items others)
    ∙ ap₂ (λ m n. m + n) (count_of-filter name (selects item) names)
    (count_of-selected name items others ∙ ap (λ k. cond (list_any (λ item. selects item name) items) k 0) (count_of-filter name (λ name. not (selects item name)) names))
    ∙ split (selects item name) (list_any (λ item. selects item name) items) (count_of name names)

-- groups of one have the names that they are made of
ones : (names : List (List ℕ)) → flat_map (λ group. group) (map (λ name. name ∷ []) names) ≡ names
ones [] = refl
ones (name ∷ names) = ap (λ rest. name ∷ rest) (ones names)

star_selects : (name : List ℕ) → selects (codes "*") name ≡ true
star_selects name = refl

-- a star alone selects each name
star_among : (name : List ℕ) (items : List (List ℕ)) → is_among items (codes "*") ≡ true → list_any (λ item. selects item name) items ≡ true
star_among name [] e = e
star_among name (item ∷ items) e =
    elim (or_cases (bytes_eq item (codes "*")) (is_among items (codes "*")) e) [
      | inl is_star ↦ or_left (selects item name) (list_any (λ item. selects item name) items) (ap (λ i. selects i name) (same_true item (codes "*") is_star) ∙ star_selects name)
      | inr later ↦ or_right (selects item name) (list_any (λ item. selects item name) items) (star_among name items later)
    ]

and_true : (a b : Bool) → b ≡ true → (a && b) ≡ a
and_true true b e = e
and_true false b e = refl

nested : (a b : Bool) (n : ℕ) → cond b (cond a n 0) 0 ≡ cond (a && b) n 0
nested true true n = refl
nested true false n = refl
nested false true n = refl
nested false false n = refl

-- how often a name stands in the groups
pub count_of-groups : (name : List ℕ) (items names paused : List (List ℕ)) → count_in name (groups_of items names paused) ≡ cond (is_polled items paused name) (count_of name names) 0
count_of-groups name items names paused =
    let n : ℕ = count_of name names in
    let some : Bool = list_any (λ item. selects item name) items in
    let unpaused : count_of name (unpaused_names names paused) ≡ cond (not (is_among paused name)) n 0 = count_of-filter name (λ name. not (is_among paused name)) names in
    elim (cases_Bool (polls_all items)) [
      | inl star ↦
          ap (λ b. count_in name (cond b (unpaused_names names paused ∷ []) (map (λ name. name ∷ []) (selected items (unpaused_names names paused))))) star
          ∙ ap (count_of name) (append-nil (unpaused_names names paused)) ∙ unpaused
          ∙ ap (λ b. cond b n 0) (sym (and_true (not (is_among paused name)) some (star_among name items star)))
      | inr none ↦
          ap (λ b. count_in name (cond b (unpaused_names names paused ∷ []) (map (λ name. name ∷ []) (selected items (unpaused_names names paused))))) none
          ∙ ap (count_of name) (ones (selected items (unpaused_names names paused)))
          ∙ count_of-selected name items (unpaused_names names paused) ∙ ap (λ k. cond some k 0) unpaused
          ∙ nested (not (is_among paused name)) some n
    ]

-- a name stands among others exactly where it is counted
counted_among : (name : List ℕ) (names : List (List ℕ)) → count_of name names ≤ 1 → count_of name names ≡ cond (is_among names name) 1 0
counted_among name [] few = refl
counted_among name (x ∷ xs) few =
    let here : count_of name (x ∷ xs) ≡ cond (bytes_eq x name) 1 0 + count_of name xs = count_of-cons name x xs in
    here ∙ step (bytes_eq x name) (is_among xs name) (subst (λ n. n ≤ 1) here few) (counted_among name xs)
  where
    step : (first later : Bool) → cond first 1 0 + count_of name xs ≤ 1 → (count_of name xs ≤ 1 → count_of name xs ≡ cond later 1 0) → cond first 1 0 + count_of name xs ≡ cond (first || later) 1 0
    step true later few rest = omega arith
    step false true few rest = let n : count_of name xs ≡ 1 = rest (omega arith) in omega arith
    step false false few rest = let n : count_of name xs ≡ 0 = rest (omega arith) in omega arith

-- how often a name stands in the groups of sorted names
pub count_of-once : (items names paused : List (List ℕ)) (name : List ℕ) → AreSorted names → count_in name (groups_of items names paused) ≡ cond (is_among names name && is_polled items paused name) 1 0
count_of-once items names paused name up =
    count_of-groups name items names paused
    ∙ ap (λ n. cond (is_polled items paused name) n 0) (counted_among name names (count_of-sorted name names up))
    ∙ nested (is_among names name) (is_polled items paused name) 1
