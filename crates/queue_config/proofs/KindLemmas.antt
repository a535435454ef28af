-- Where no parents come round, a line of as many parents as there are errors, and one more, has all ancestors.
use Rattle.std.proofs.Common.{◌≡◌, ◌≤◌, ◌<◌, ◌⊎◌, inl, inr, ℕ, zero, suc, ◌+◌, ◌-◌, Bool, true, false, ◌||◌, List, length, get_or, All, refl, sym, ap, ◌∙◌, arith}
use Rattle.std.proofs.lemmas.List.Folds.{list_any_at}
use Rattle.job_states.specs.Texts.{is_among}
use Rattle.queue_config.specs.declared.config.ErrorKeys.{ErrorKeys}
use Rattle.queue_config.specs.Errors.{standard_error, parent_in, parent_of, ancestor, IsKindOf, line, meets, is_kind_of, is_own_ancestor}
use Rattle.queue_config.specs.Ranges.{IsErrorKeys}
use Rattle.queue_config.proofs.ErrorLemmas.{find_standard, meets_step, meets_last}
use Rattle.queue_config.proofs.RootLemmas.{ancestor-add, line_at, length_line, rooted}

-- a name that is met is that of the error or of an ancestor
met : (errors : List ErrorKeys) (names : List (List ℕ)) (n : ℕ) (error : List ℕ) → meets errors names n error ≡ true → (k : ℕ) × (is_among names (ancestor errors k error) ≡ true)
met errors names zero error h = here (is_among names error) refl (sym (meets_last errors names error) ∙ h)
  where
    here : (b : Bool) → is_among names error ≡ b → (b || false) ≡ true → (k : ℕ) × (is_among names (ancestor errors k error) ≡ true)
    here true is among = (0, is)
    here false is among = absurd (cc)
met errors names (suc n) error h = here (is_among names error) refl (sym (meets_step errors names n error) ∙ h) (λ later. met errors names n (parent_of errors error) later)
  where
    here : (b : Bool) → is_among names error ≡ b → (b || meets errors names n (parent_of errors error)) ≡ true → (meets errors names n (parent_of errors error) ≡ true → (k : ℕ) × (is_among names (ancestor errors k (parent_of errors error)) ≡ true)) → (k : ℕ) × (is_among names (ancestor errors k error) ≡ true)
    here true is among later = (0, is)
    here false is among later =
        let above = later among in
        (suc above.0, above.1)

-- an ancestor within a line is met
reached : (errors : List ErrorKeys) (names : List (List ℕ)) (n k : ℕ) (error : List ℕ) → k ≤ n → is_among names (ancestor errors k error) ≡ true → meets errors names n error ≡ true
reached errors names n k error within among =
    let at : get_or (line errors n error) k error ≡ ancestor errors k error = line_at errors n k error error within in
    let long : k < length (line errors n error) = omega (arith, length_line errors n error) in
    list_any_at (is_among names) (line errors n error) k error long (ap (is_among names) at ∙ among)

-- above `StandardError` is nothing else
ancestor-standard : (errors : List ErrorKeys) → All IsErrorKeys errors → (n : ℕ) → ancestor errors n standard_error ≡ standard_error
ancestor-standard errors each zero = refl
ancestor-standard errors each (suc n) = ap (λ o. ancestor errors n (parent_in o)) (find_standard errors each) ∙ ancestor-standard errors each n

-- each ancestor stands within the line
within_line : (errors : List ErrorKeys) → All IsErrorKeys errors → All (λ error. is_own_ancestor errors error ≡ false) errors → (error : List ℕ) (n : ℕ) → (k : ℕ) × (k ≤ length errors + 1) × (ancestor errors k error ≡ ancestor errors n error)
within_line errors each none error n = here (le_or n (length errors + 1))
  where
    le_or : (a b : ℕ) → (a ≤ b) ⊎ (b < a)
    le_or zero b = inl (omega arith)
    le_or (suc a) zero = inr (omega arith)
    le_or (suc a) (suc b) = elim (le_or a b) [ inl h ↦ inl (omega arith) | inr h ↦ inr (omega arith) ]

    here : (n ≤ length errors + 1) ⊎ (length errors + 1 < n) → (k : ℕ) × (k ≤ length errors + 1) × (ancestor errors k error ≡ ancestor errors n error)
    here (inl h) = (n, h, refl)
    here (inr h) =
        let root = rooted errors none error in
        let short : root.0 ≤ length errors + 1 = root.1 in
        let total : n ≡ root.0 + (n - root.0) = omega arith in
        let far : ancestor errors n error ≡ standard_error = ancestor-add errors root.0 (n - root.0) n error total ∙ ap (ancestor errors (n - root.0)) root.2 ∙ ancestor-standard errors each (n - root.0) in
        (root.0, short, root.2 ∙ sym far)

pub kinds : (errors : List ErrorKeys) → All IsErrorKeys errors → All (λ error. is_own_ancestor errors error ≡ false) errors → (names : List (List ℕ)) (error : List ℕ)
    → (is_kind_of errors names error ≡ true → (kind : List ℕ) × IsKindOf errors error kind × (is_among names kind ≡ true)) × ((kind : List ℕ) → IsKindOf errors error kind → is_among names kind ≡ true → is_kind_of errors names error ≡ true)
kinds errors each none names error = (there, back)
  where
    there : is_kind_of errors names error ≡ true → (kind : List ℕ) × IsKindOf errors error kind × (is_among names kind ≡ true)
    there h =
        let at = met errors names (length errors + 1) error h in
        (ancestor errors at.0 error, (at.0, refl), at.1)

    back : (kind : List ℕ) → IsKindOf errors error kind → is_among names kind ≡ true → is_kind_of errors names error ≡ true
    back kind is among =
        let at = within_line errors each none error is.0 in
        reached errors names (length errors + 1) at.0 error at.1 (ap (is_among names) (at.2 ∙ is.1) ∙ among)
