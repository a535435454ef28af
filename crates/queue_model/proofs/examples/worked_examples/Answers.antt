-- The examples and the histories, by computing.
use Rattle.std.proofs.Common.{◌≡◌, ◌≢◌, ◌⊎◌, ℕ, zero, suc, ◌<◌, [], ◌∷◌, Contains, slice_index_or, refl, sym, ap, subst, arith, inl, inr, ◌∙◌}
use Rattle.std.specs.Str.{is_utf8, chars}
use Rattle.job_states.specs.declared.row.Mode.{Mode}
use Rattle.job_states.specs.declared.row.Mode.TheVariants.{Shared, Alone}
use Rattle.job_states.specs.declared.row.Row.{Row}
use Rattle.job_states.specs.declared.row.Row.TheVariants.{Job, Process}
use Rattle.row_locks.specs.Footprints.{FitTogether, AreCompatible}
use Rattle.queue_model.specs.Examples.{poll}
use Rattle.queue_model.proofs.examples.worked_examples.Goals as goal

pub returns-clause-limit_of_one : goal.returns-clause-limit_of_one
unfolding is_utf8 chars lib.Utf8.encode
returns-clause-limit_of_one c = record { second_is_not_ready = refl; end = refl }

pub returns-clause-generations : goal.returns-clause-generations
unfolding is_utf8 chars lib.Utf8.encode
returns-clause-generations c = record { own_generation = refl; held_generation = refl; late_end = refl; new_generation = refl }

pub returns-clause-retry_by_hand : goal.returns-clause-retry_by_hand
unfolding is_utf8 chars lib.Utf8.encode
returns-clause-retry_by_hand c = record { before = refl; after = refl }

pub returns-clause-discard : goal.returns-clause-discard
unfolding is_utf8 chars lib.Utf8.encode
returns-clause-discard c = refl

pub returns-clause-dispatch : goal.returns-clause-dispatch
unfolding is_utf8 chars lib.Utf8.encode
returns-clause-dispatch c = record { early = refl; due = refl }

pub returns-clause-claims : goal.returns-clause-claims
unfolding is_utf8 chars lib.Utf8.encode
returns-clause-claims c = record { no_process = refl; last = refl; one_more = refl }

pub returns-clause-runs : goal.returns-clause-runs
unfolding is_utf8 chars lib.Utf8.encode
returns-clause-runs c = record { recurring = refl; same_time = refl; no_recurring = refl; last_run = refl; same_time_later = refl }

-- ---- footprints

in_two : {X : Type 0} (a b x : X) → Contains (a ∷ b ∷ []) x → (a ≡ x) ⊎ (b ≡ x)
in_two a b x c = by c.0 c.1 c.2
  where
    by : (k : ℕ) → k < 2 → slice_index_or (a ∷ b ∷ []) k x ≡ x → (a ≡ x) ⊎ (b ≡ x)
    by zero l e = inl e
    by (suc zero) l e = inr e
    by (suc (suc k)) l e = absurd (omega (arith, l))

abbrev job_of : Row → ℕ
job_of (Job id) = id
job_of r = 0

apart : {x : ℕ} (j k : ℕ) → j ≢ k → j ≡ x → k ≡ x → ⊥
apart j k ne a b = ne (a ∙ sym b)

polls : AreCompatible (poll 1) (poll 2)
polls r m n one two = by (in_two _ _ _ one) (in_two _ _ _ two)
  where
    Is : Row × Mode → Row × Mode → Type 0
    Is x y = x ≡ y

    by : Is (Job 1, Alone) (r, m) ⊎ Is (Process 1, Shared) (r, m) → Is (Job 2, Alone) (r, n) ⊎ Is (Process 1, Shared) (r, n) → FitTogether m n
    by (inl a) (inl b) = absurd (apart 1 2 (omega arith) (ap (λ x. job_of x.0) a) (ap (λ x. job_of x.0) b))
    by (inl a) (inr b) = absurd (apart 1 0 (omega arith) (ap (λ x. job_of x.0) a) (ap (λ x. job_of x.0) b))
    by (inr a) (inl b) = absurd (apart 0 2 (omega arith) (ap (λ x. job_of x.0) a) (ap (λ x. job_of x.0) b))
    by (inr a) (inr b) = subst (FitTogether m) (ap (λ x. x.1) b) (subst (λ x. FitTogether x Shared) (ap (λ x. x.1) a) tt)

pub returns-clause-footprints : goal.returns-clause-footprints
returns-clause-footprints c = record {
  polls = polls;
  same_job = λ fit. fit (Job 1) Alone Alone (0, omega arith, refl) (0, omega arith, refl);
  same_process = λ fit. fit (Process 1) Shared Alone (1, omega arith, refl) (0, omega arith, refl);
}

-- ---- histories

pub returns-clause-legal : goal.returns-clause-legal
unfolding is_utf8 chars lib.Utf8.encode
returns-clause-legal c = (refl, (refl, (refl, (refl, (refl, (refl, (refl, (refl, (refl, (refl, (refl, (refl, (refl, (refl, tt))))))))))))))

pub returns-clause-refused : goal.returns-clause-refused
unfolding is_utf8 chars lib.Utf8.encode
returns-clause-refused c = ((refl, refl), ((refl, refl), ((refl, refl), ((refl, refl), ((refl, refl), ((refl, refl), ((refl, refl), ((refl, refl), ((refl, refl), ((refl, refl), ((refl, refl), ((refl, refl), ((refl, refl), ((refl, refl), ((refl, refl), ((refl, refl), tt))))))))))))))))
