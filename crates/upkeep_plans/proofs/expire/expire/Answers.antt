use Rattle.std.proofs.Common.{◌≡◌, ℕ, List, rules, map as mapped, ap, sym, ◌∙◌, refl, subst}
use Rattle.job_states.specs.declared.command.Command.TheVariants.{Expire}
use Rattle.plan_model.specs.UpkeepCommands.{expire_case, expired_keys}
use Rattle.upkeep_plans.specs.Standing.{AreExpired}
use Rattle.upkeep_plans.specs.Taking.{Taking, begun, with_cases}
use Rattle.upkeep_plans.proofs.Doing.{counted}
use Rattle.upkeep_plans.proofs.StandingJobs.{keys_begin}
use Rattle.upkeep_plans.proofs.expire.expire.Goals as goal

pub expire_each-requires-clause-standing : goal.expire_each-requires-clause-standing
expire_each-requires-clause-standing c =
    let s = c.args.scene.now in
    let t : Taking = c.begin-cases.result in
    let begins : t ≡ begun s 500 = c.begin-cases.ensures in
    let are : c.new-keys.result ≡ expired_keys s.book.world s.moment = c.new-keys.ensures ∙ (λ i. expired_keys ((c.tables.ensures.same ∙ ap (λ b. b.world) c.book.ensures) i) (c.moment.ensures i)) in
    subst (λ (v : Taking). AreExpired v.scene c.new-keys.result v.drafting.draft) (sym begins)
    (subst (λ (xs : List (List ℕ)). AreExpired s xs (begun s 500).drafting.draft) (sym are) (keys_begin s))

pub finish-requires : goal.finish-requires
finish-requires c =
    let s = c.args.scene.now in
    let t : Taking = c.begin-cases.result in
    let begins : t ≡ begun s 500 = c.begin-cases.ensures in
    let are : c.new-keys.result ≡ expired_keys s.book.world s.moment = c.new-keys.ensures ∙ (λ i. expired_keys ((c.tables.ensures.same ∙ ap (λ b. b.world) c.book.ensures) i) (c.moment.ensures i)) in
    let u : Taking = c.expire_each.new.cases in
    let raw : u ≡ with_cases t (mapped (expire_case t.scene.moment) c.new-keys.result) = search rules in
    let takes : u ≡ with_cases t (mapped (expire_case s.moment) (expired_keys s.book.world s.moment)) =
    raw ∙ ap (λ (v : Taking). with_cases t (mapped (expire_case v.scene.moment) c.new-keys.result)) begins ∙ ap (λ (xs : List (List ℕ)). with_cases t (mapped (expire_case s.moment) xs)) are in
    (Expire, counted s Expire 500 (mapped (expire_case s.moment) (expired_keys s.book.world s.moment)) t u c.into_parts-draft.result.0 c.into_parts-draft.result.1 tt refl refl begins takes c.into_parts-draft.ensures.draft c.into_parts-draft.ensures.taken)

pub returns : goal.returns
returns c =
    let s = c.args.scene.now in
    let t : Taking = c.begin-cases.result in
    let begins : t ≡ begun s 500 = c.begin-cases.ensures in
    let are : c.new-keys.result ≡ expired_keys s.book.world s.moment = c.new-keys.ensures ∙ (λ i. expired_keys ((c.tables.ensures.same ∙ ap (λ b. b.world) c.book.ensures) i) (c.moment.ensures i)) in
    let u : Taking = c.expire_each.new.cases in
    let raw : u ≡ with_cases t (mapped (expire_case t.scene.moment) c.new-keys.result) = search rules in
    let takes : u ≡ with_cases t (mapped (expire_case s.moment) (expired_keys s.book.world s.moment)) =
    raw ∙ ap (λ (v : Taking). with_cases t (mapped (expire_case v.scene.moment) c.new-keys.result)) begins ∙ ap (λ (xs : List (List ℕ)). with_cases t (mapped (expire_case s.moment) xs)) are in
    c.finish.ensures Expire (counted s Expire 500 (mapped (expire_case s.moment) (expired_keys s.book.world s.moment)) t u c.into_parts-draft.result.0 c.into_parts-draft.result.1 tt refl refl begins takes c.into_parts-draft.ensures.draft c.into_parts-draft.ensures.taken)
