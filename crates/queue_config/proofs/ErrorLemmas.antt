-- The line of errors above an error.
use Rattle.std.proofs.Common.{◌≡◌, ◌<◌, ◌≤◌, ℕ, zero, suc, ◌+◌, ◌-◌, Bool, true, false, cond, ◌||◌, List, [], ◌∷◌, All, Some, None, refl, ap, subst, ◌∙◌, arith}
use Rattle.std.specs.List.{find}
use Rattle.std.specs.Str.{bytes_eq}
use Rattle.std.proofs.lemmas.Slice.Eq.{bytes_eq-Decides}
use Rattle.job_states.specs.Texts.{is_among}
use Rattle.queue_config.specs.declared.config.ErrorKeys.{ErrorKeys}
use Rattle.queue_config.specs.Errors.{standard_error, find_error, parent_of, line, meets}
use Rattle.queue_config.specs.Ranges.{IsErrorKeys}

pub meets_step : (errors : List ErrorKeys) (names : List (List ℕ)) (n : ℕ) (error : List ℕ) → meets errors names (suc n) error ≡ (is_among names error || meets errors names n (parent_of errors error))
unfolding line
meets_step errors names n error = refl

pub meets_last : (errors : List ErrorKeys) (names : List (List ℕ)) (error : List ℕ) → meets errors names 0 error ≡ (is_among names error || false)
unfolding line
meets_last errors names error = refl

-- `StandardError` isn't declared
pub find_standard : (errors : List ErrorKeys) → All IsErrorKeys errors → find_error standard_error errors ≡ None
find_standard [] each = refl
find_standard (error ∷ errors) each = here (bytes_eq error.name standard_error) refl (find_standard errors (λ k d h. each (suc k) d (omega arith)))
  where
    here : (b : Bool) → bytes_eq error.name standard_error ≡ b → find_error standard_error errors ≡ None → cond b (Some error) (find_error standard_error errors) ≡ None
    here true is rest = absurd ((each 0 error (omega arith)).own ((bytes_eq-Decides error.name standard_error).0 is))
    here false is rest = rest

or-false : (b : Bool) → (b || false) ≡ b
or-false true = refl
or-false false = refl

or-self : (b : Bool) → (b || b) ≡ b
or-self true = refl
or-self false = refl

pub meets_standard : (errors : List ErrorKeys) (names : List (List ℕ)) → All IsErrorKeys errors → (n : ℕ) → meets errors names n standard_error ≡ is_among names standard_error
meets_standard errors names each zero = meets_last errors names standard_error ∙ or-false (is_among names standard_error)
meets_standard errors names each (suc n) =
    let parent : parent_of errors standard_error ≡ standard_error = rw (find_standard errors each) refl in
    meets_step errors names n standard_error
    ∙ ap (λ p. is_among names standard_error || meets errors names n p) parent
    ∙ ap (λ b. is_among names standard_error || b) (meets_standard errors names each n)
    ∙ or-self (is_among names standard_error)

-- a step of the walk: the names hold the error, or its parent is next
pub meets_here : (errors : List ErrorKeys) (names : List (List ℕ)) (n counter : ℕ) (kind : List ℕ) → counter < n → is_among names kind ≡ true → meets errors names (n - counter) kind ≡ true
meets_here errors names n counter kind h among =
    let next : n - counter ≡ suc (n - (counter + 1)) = omega arith in
    ap (λ k. meets errors names k kind) next ∙ meets_step errors names (n - (counter + 1)) kind ∙ ap (λ b. b || meets errors names (n - (counter + 1)) (parent_of errors kind)) among

pub meets_above : (errors : List ErrorKeys) (names : List (List ℕ)) (n counter : ℕ) (kind : List ℕ) → counter < n → is_among names kind ≡ false → meets errors names (n - counter) kind ≡ meets errors names (n - (counter + 1)) (parent_of errors kind)
meets_above errors names n counter kind h among =
    let next : n - counter ≡ suc (n - (counter + 1)) = omega arith in
    ap (λ k. meets errors names k kind) next ∙ meets_step errors names (n - (counter + 1)) kind ∙ ap (λ b. b || meets errors names (n - (counter + 1)) (parent_of errors kind)) among

pub meets_end : (errors : List ErrorKeys) (names : List (List ℕ)) (n counter : ℕ) (kind : List ℕ) → n ≤ counter → meets errors names (n - counter) kind ≡ is_among names kind
meets_end errors names n counter kind h =
    let none : n - counter ≡ 0 = omega arith in
    ap (λ k. meets errors names k kind) none ∙ meets_last errors names kind ∙ or-false (is_among names kind)

-- what holds of each element holds of one that is found
pub All-find : {X : Type 0} (P : X → Type 0) (test : X → Bool) (xs : List X) (x : X) → All P xs → find test xs ≡ Some x → P x
All-find P test [] x each h = absurd (cc)
All-find {X} P test (y ∷ ys) x each h = here (test y) h (λ later. All-find P test ys x (λ k d less. each (suc k) d (omega arith)) later)
  where
    here : (b : Bool) → cond b (Some y) (find test ys) ≡ Some x → (find test ys ≡ Some x → P x) → P x
    here true is later =
        let same : y ≡ x = cc in
        subst P same (each 0 y (omega arith))
    here false is later = later is
