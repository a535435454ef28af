-- No row is locked exactly where all are free, and then they go together with those of each open plan.
use Rattle.std.proofs.Common.{◌≡◌, ◌&&◌, ◌||◌, ℕ, Bool, true, false, not, List, [], ◌∷◌, map, Option, None, Some, Contains, ap, sym, ◌∙◌, refl, subst}
use Rattle.std.proofs.lemmas.Bool.{true≢false}
use Rattle.std.proofs.lemmas.List.Elements.{All-contains}
use Rattle.std.proofs.lemmas.List.Sums.{AllPass-from_list_all}
use Rattle.std.specs.Cmp.{tied_itself}
use Rattle.std.specs.FinMap.{nat_cmp-IsAntisymmetric}
use Rattle.std.specs.List.{list_all}
use Rattle.std.specs.Ordering.{is_eq}
use Rattle.std.specs.Prelude.{is_none}
use Rattle.job_states.specs.declared.answer.Refused.{Refused}
use Rattle.job_states.specs.declared.answer.Refused.TheVariants.{Locked}
use Rattle.job_states.specs.declared.row.Mode.{Mode}
use Rattle.job_states.specs.declared.row.Mode.TheVariants.{Shared, Alone}
use Rattle.job_states.specs.declared.row.Row.{Row}
use Rattle.queue_model.specs.Map as finite
use Rattle.row_locks.specs.Footprints.{AreCompatible, FitTogether}
use Rattle.row_locks.proofs.Membership.{Contains-map}
use Rattle.row_locks.proofs.Orders.{row_total}
use Rattle.plan_model.specs.Begins.{locked}
use Rattle.plan_model.specs.Books.{Book}
use Rattle.plan_model.specs.Plans.{Plan}
use Rattle.plan_model.specs.Refusals.{first_met, refuse}
use Rattle.plan_model.specs.Scenes.{are_free, fit_together, is_free, leaves_free}
use Rattle.plan_model.proofs.RowLemmas.{found_there}

-- ---- locked and free

unless : (b : Bool) (refused : Refused) → is_none (refuse (not b) refused) ≡ b
unless true refused = refl
unless false refused = refl

first_and_rest : (o : Option Refused) (cs : List (Option Refused)) → is_none (first_met (o ∷ cs)) ≡ (is_none o && is_none (first_met cs))
first_and_rest None cs = refl
first_and_rest (Some refused) cs = refl

-- the first seat that holds the row against this mode
holder : Row × Mode → List (ℕ × Plan) → Option Refused
holder r seats = first_met (map (λ seat. refuse (not (list_all (leaves_free r.0 r.1) seat.1.rows)) (Locked r.0 seat.0)) seats)

no_holder : (r : Row × Mode) (seats : List (ℕ × Plan)) → is_none (holder r seats) ≡ list_all (λ plan. list_all (leaves_free r.0 r.1) plan.rows) (map (λ e. e.1) seats)
unfolding holder
no_holder r [] = refl
no_holder r (s ∷ seats) =
    first_and_rest (refuse (not (list_all (leaves_free r.0 r.1) s.1.rows)) (Locked r.0 s.0)) _
    ∙ (λ i. unless (list_all (leaves_free r.0 r.1) s.1.rows) (Locked r.0 s.0) i && no_holder r seats i)

not_locked : (b : Book) (rows : List (Row × Mode)) → is_none (locked b rows) ≡ are_free b rows
unfolding holder
not_locked b [] = refl
not_locked b (r ∷ rows) = first_and_rest (holder r b.open_plans.entries) _ ∙ (λ i. no_holder r b.open_plans.entries i && not_locked b rows i)

nothing_there : (o : Option Refused) → is_none o ≡ true → o ≡ None
nothing_there None e = refl
nothing_there (Some refused) e = absurd (true≢false (sym e))

pub free_where_not_locked : (b : Book) (rows : List (Row × Mode)) → locked b rows ≡ None → are_free b rows ≡ true
free_where_not_locked b rows e = sym (not_locked b rows) ∙ ap is_none e

pub not_locked_where_free : (b : Book) (rows : List (Row × Mode)) → are_free b rows ≡ true → locked b rows ≡ None
not_locked_where_free b rows e = nothing_there (locked b rows) (not_locked b rows ∙ e)

-- ---- free rows go together with those that are held

passes : {X : Type 0} (p : X → Bool) (xs : List X) (x : X) → list_all p xs ≡ true → Contains xs x → p x ≡ true
passes p xs x all here = All-contains (λ x. p x ≡ true) xs x (AllPass-from_list_all p xs all) here

fits : (mode held : Mode) → fit_together held mode ≡ true → FitTogether mode held
fits Shared Shared e = tt
fits Shared Alone e = absurd (true≢false (sym e))
fits Alone Shared e = absurd (true≢false (sym e))
fits Alone Alone e = absurd (true≢false (sym e))

pub free_goes_together : (b : Book) (rows : List (Row × Mode)) (seat : ℕ) (plan : Plan) → are_free b rows ≡ true → finite.get b.open_plans seat ≡ Some plan → AreCompatible rows plan.rows
free_goes_together b rows seat plan free found = λ r mode held asked there.
    let row_free : is_free b r mode ≡ true = passes (λ (x : Row × Mode). is_free b x.0 x.1) rows (r, mode) free asked in
    let here = Contains-map (λ (e : ℕ × Plan). e.1) b.open_plans.entries (seat, plan) (found_there nat_cmp-IsAntisymmetric seat plan b.open_plans.entries found) in
    let left : leaves_free r mode (r, held) ≡ true = passes (leaves_free r mode) plan.rows (r, held) (passes (λ (p : Plan). list_all (leaves_free r mode) p.rows) (finite.values b.open_plans) plan row_free here) there in
    fits mode held (subst (λ o. (not (is_eq o) || fit_together held mode) ≡ true) (tied_itself row_total r) left)
