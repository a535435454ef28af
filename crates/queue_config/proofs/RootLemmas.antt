-- Where no parents come round, those of each error end at `StandardError`.
use Rattle.std.proofs.Common.{◌≡◌, ◌≢◌, ◌<◌, ◌≤◌, ◌⊎◌, inl, inr, ℕ, zero, suc, ◌+◌, ◌-◌, Bool, true, false, cond, ◌||◌, List, [], ◌∷◌, length, get_or, map, All, AllPairs, Option, Some, None, refl, sym, ap, ◌∙◌, arith}
use Rattle.std.specs.List.{list_any}
use Rattle.std.specs.Option.{is_some}
use Rattle.std.specs.Str.{bytes_eq}
use Rattle.std.proofs.lemmas.Bool.{true≢false}
use Rattle.std.proofs.lemmas.Cmp.{nat_list_eq_equiv}
use Rattle.std.proofs.lemmas.List.{length-map}
use Rattle.std.proofs.lemmas.List.Folds.{list_any_at}
use Rattle.std.proofs.lemmas.Map.Made.{IsDistinct-from_AllPairs, length-le_from_is_member}
use Rattle.std.proofs.lemmas.Slice.Eq.{bytes_eq-Decides}
use Rattle.job_states.specs.Texts.{is_among}
use Rattle.queue_config.specs.declared.config.ErrorKeys.{ErrorKeys}
use Rattle.queue_config.specs.Errors.{standard_error, find_error, parent_in, parent_of, ancestor, line, is_own_ancestor}
use Rattle.queue_config.proofs.ErrorLemmas.{All-find}

-- ---- lines

ancestor-suc : (errors : List ErrorKeys) (n : ℕ) (name : List ℕ) → ancestor errors (suc n) name ≡ parent_of errors (ancestor errors n name)
ancestor-suc errors zero name = refl
ancestor-suc errors (suc n) name = ancestor-suc errors n (parent_of errors name)

pub ancestor-add : (errors : List ErrorKeys) (n m t : ℕ) (name : List ℕ) → t ≡ n + m → ancestor errors t name ≡ ancestor errors m (ancestor errors n name)
ancestor-add errors zero m t name is =
    let same : t ≡ m = omega arith in
    ap (λ k. ancestor errors k name) same
ancestor-add errors (suc n) m t name is =
    let next : t ≡ suc (n + m) = omega arith in
    ap (λ k. ancestor errors k name) next ∙ ancestor-add errors n m (n + m) (parent_of errors name) refl

pub line_at : (errors : List ErrorKeys) (n k : ℕ) (name d : List ℕ) → k ≤ n → get_or (line errors n name) k d ≡ ancestor errors k name
unfolding line
line_at errors zero zero name d h = refl
line_at errors (suc n) zero name d h = refl
line_at errors (suc n) (suc k) name d h = line_at errors n k (parent_of errors name) d (omega arith)
line_at errors zero (suc k) name d h = absurd (omega arith)

pub length_line : (errors : List ErrorKeys) (n : ℕ) (name : List ℕ) → length (line errors n name) ≡ suc n
unfolding line
length_line errors zero name = refl
length_line errors (suc n) name = ap suc (length_line errors n (parent_of errors name))

-- ---- a line of declared errors

found_name : (errors : List ErrorKeys) (name : List ℕ) (error : ErrorKeys) → find_error name errors ≡ Some error → error.name ≡ name
found_name [] name error h = absurd (cc)
found_name (first ∷ errors) name error h = here (bytes_eq first.name name) refl h (λ later. found_name errors name error later)
  where
    here : (b : Bool) → bytes_eq first.name name ≡ b → cond b (Some first) (find_error name errors) ≡ Some error → (find_error name errors ≡ Some error → error.name ≡ name) → error.name ≡ name
    here true same is later =
        let it : first ≡ error = cc in
        ap (λ e. e.name) (sym it) ∙ (bytes_eq-Decides first.name name).0 same
    here false other is later = later is

-- a declared error doesn't stand among so many above it
not_above : (errors : List ErrorKeys) → All (λ error. is_own_ancestor errors error ≡ false) errors → (name : List ℕ) (error : ErrorKeys) → find_error name errors ≡ Some error → (k : ℕ) → k ≤ length errors → ancestor errors (suc k) name ≢ name
not_above errors none name error found k within round =
    let own : is_own_ancestor errors error ≡ false = All-find (λ e. is_own_ancestor errors e ≡ false) (λ e. bytes_eq e.name name) errors error none found in
    let named : error.name ≡ name = found_name errors name error found in
    let parent : parent_of errors name ≡ error.parent = ap parent_in found in
    let there : get_or (line errors (length errors) error.parent) k name ≡ error.name =
    line_at errors (length errors) k error.parent name within ∙ ap (ancestor errors k) (sym parent) ∙ round ∙ sym named in
    let equal : bytes_eq error.name (get_or (line errors (length errors) error.parent) k name) ≡ true = rw there (nat_list_eq_equiv.refl error.name) in
    let among : is_among (error.name ∷ []) (get_or (line errors (length errors) error.parent) k name) ≡ true = ap (λ b. b || false) equal in
    let long : k < length (line errors (length errors) error.parent) = omega (arith, length_line errors (length errors) error.parent) in
    true≢false (sym (list_any_at (is_among (error.name ∷ [])) (line errors (length errors) error.parent) k name long among) ∙ own)

some_there : {X : Type 0} (o : Option X) → is_some o ≡ true → (x : X) × (o ≡ Some x)
some_there None h = absurd (cc)
some_there (Some x) h = (x, refl)

among_names : (errors : List ErrorKeys) (name : List ℕ) → is_some (find_error name errors) ≡ true → list_any (bytes_eq name) (map (λ e. e.name) errors) ≡ true
among_names [] name h = absurd (cc)
among_names (error ∷ errors) name h = here (bytes_eq error.name name) refl h (λ later. among_names errors name later)
  where
    here : (b : Bool) → bytes_eq error.name name ≡ b → is_some (cond b (Some error) (find_error name errors)) ≡ true → (is_some (find_error name errors) ≡ true → list_any (bytes_eq name) (map (λ e. e.name) errors) ≡ true) → (bytes_eq name error.name || list_any (bytes_eq name) (map (λ e. e.name) errors)) ≡ true
    here true same is later =
        let equal : bytes_eq name error.name ≡ true = rw ((bytes_eq-Decides error.name name).0 same) (nat_list_eq_equiv.refl name) in
        rw equal refl
    here false other is later = elim (bytes_eq name error.name) as (λ b. (b || list_any (bytes_eq name) (map (λ e. e.name) errors)) ≡ true) [ true ↦ refl | false ↦ later is ]

-- names that are declared are among the names
declared_among : (errors : List ErrorKeys) (kinds : List (List ℕ)) → All (λ kind. is_some (find_error kind errors) ≡ true) kinds → (q : List ℕ) → list_any (bytes_eq q) kinds ≡ true → list_any (bytes_eq q) (map (λ e. e.name) errors) ≡ true
declared_among errors [] each q h = absurd (cc)
declared_among errors (kind ∷ kinds) each q h = here (bytes_eq q kind) refl h (λ later. declared_among errors kinds (λ k d less. each (suc k) d (omega arith)) q later)
  where
    here : (b : Bool) → bytes_eq q kind ≡ b → (b || list_any (bytes_eq q) kinds) ≡ true → (list_any (bytes_eq q) kinds ≡ true → list_any (bytes_eq q) (map (λ e. e.name) errors) ≡ true) → list_any (bytes_eq q) (map (λ e. e.name) errors) ≡ true
    here true same is later = rw ((bytes_eq-Decides q kind).0 same) (among_names errors kind (each 0 kind (omega arith)))
    here false other is later = later is

-- a line of as many parents as there are errors leaves the declared ones
not_all : (errors : List ErrorKeys) → All (λ error. is_own_ancestor errors error ≡ false) errors → (name : List ℕ) → All (λ kind. is_some (find_error kind errors) ≡ true) (line errors (length errors) name) → ⊥
not_all errors none name declared =
    let kinds = line errors (length errors) name in
    let names = map (λ (e : ErrorKeys). e.name) errors in
    let long : length kinds ≡ suc (length errors) = length_line errors (length errors) name in
    let apart : AllPairs (λ (a b : List ℕ). a ≢ b) kinds = λ i j d before within same.
    let found = some_there (find_error (get_or kinds i d) errors) (declared i d (omega arith)) in
    let lower : get_or kinds i d ≡ ancestor errors i name = line_at errors (length errors) i name d (omega arith) in
    let upper : get_or kinds j d ≡ ancestor errors j name = line_at errors (length errors) j name d (omega arith) in
    let over : ancestor errors j name ≡ ancestor errors (suc (j - i - 1)) (ancestor errors i name) = ancestor-add errors i (suc (j - i - 1)) j name (omega arith) in
    not_above errors none (get_or kinds i d) found.0 found.1 (j - i - 1) (omega arith) (ap (ancestor errors (suc (j - i - 1))) lower ∙ sym over ∙ sym upper ∙ sym same) in
    let short : length kinds ≤ length names = length-le_from_is_member nat_list_eq_equiv kinds names (IsDistinct-from_AllPairs bytes_eq-Decides kinds apart) (declared_among errors kinds declared) in
    omega (arith, length-map errors (λ (e : ErrorKeys). e.name))

-- the first error of a line that isn't declared, or all are
undeclared : (errors : List ErrorKeys) (n : ℕ) (name : List ℕ) → ((k : ℕ) × (k ≤ n) × (find_error (ancestor errors k name) errors ≡ None)) ⊎ All (λ kind. is_some (find_error kind errors) ≡ true) (line errors n name)
unfolding line
undeclared errors zero name = here (find_error name errors) refl
  where
    here : (o : Option ErrorKeys) → find_error name errors ≡ o → ((k : ℕ) × (k ≤ 0) × (find_error (ancestor errors k name) errors ≡ None)) ⊎ All (λ kind. is_some (find_error kind errors) ≡ true) (name ∷ [])
    here None is = inl (0, omega arith, is)
    here (Some error) is = inr one
      where
        one : All (λ kind. is_some (find_error kind errors) ≡ true) (name ∷ [])
        one zero d h = ap is_some is
        one (suc k) d h = absurd (omega arith)
undeclared errors (suc n) name = here (find_error name errors) refl (undeclared errors n (parent_of errors name))
  where
    here : (o : Option ErrorKeys) → find_error name errors ≡ o → ((k : ℕ) × (k ≤ n) × (find_error (ancestor errors k (parent_of errors name)) errors ≡ None)) ⊎ All (λ kind. is_some (find_error kind errors) ≡ true) (line errors n (parent_of errors name)) → ((k : ℕ) × (k ≤ suc n) × (find_error (ancestor errors k name) errors ≡ None)) ⊎ All (λ kind. is_some (find_error kind errors) ≡ true) (name ∷ line errors n (parent_of errors name))
    here None is others = inl (0, omega arith, is)
    here (Some error) is (inl above) =
        let within : suc above.0 ≤ suc n = omega (arith, above.1) in
        inl (suc above.0, within, above.2)
    here (Some error) is (inr others) = inr more
      where
        more : All (λ kind. is_some (find_error kind errors) ≡ true) (name ∷ line errors n (parent_of errors name))
        more zero d h = ap is_some is
        more (suc k) d h = others k d (omega arith)

-- the first parent of an undeclared error is `StandardError`
pub rooted : (errors : List ErrorKeys) → All (λ error. is_own_ancestor errors error ≡ false) errors → (name : List ℕ) → (n : ℕ) × (n ≤ length errors + 1) × (ancestor errors n name ≡ standard_error)
rooted errors none name = here (undeclared errors (length errors) name)
  where
    here : ((k : ℕ) × (k ≤ length errors) × (find_error (ancestor errors k name) errors ≡ None)) ⊎ All (λ kind. is_some (find_error kind errors) ≡ true) (line errors (length errors) name) → (n : ℕ) × (n ≤ length errors + 1) × (ancestor errors n name ≡ standard_error)
    here (inl at) = (suc at.0, omega (arith, at.1), ancestor-suc errors at.0 name ∙ ap parent_in at.2)
    here (inr all) = absurd (not_all errors none name all)
