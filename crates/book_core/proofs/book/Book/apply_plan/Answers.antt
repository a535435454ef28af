use Rattle.std.proofs.Common.{◌≡◌, Some, is_some, length, ap, sym, ◌∙◌, refl, subst, arith}
use Rattle.std.proofs.lemmas.Bool.{true≢false}
use Rattle.queue_model.specs.Map.{get}
use Rattle.queue_model.specs.Replay.{after}
use Rattle.plan_model.specs.Books.{Book, with_applied}
use Rattle.book_core.specs.Counts.{planned_at}
use Rattle.book_core.specs.Seen.{book_of, plan_at, plans_of}
use Rattle.book_core.proofs.KeptLemmas.{found_plan, is_open, kept_ended}
use Rattle.book_core.proofs.book.Book.apply_plan.Goals as goal
use Rattle.book_core.proofs.book.Book.apply_plan.Goals.{In-Some}

found : (c : In-Some) → get (plans_of c.self.inside.locks c.self.inside.opened.entries) c.args.seat ≡ Some (plan_at c.self.inside.locks c.args.seat c.in-Some.plan)
found c = found_plan c.self.inside.locks c.self.inside.opened.entries c.args.seat c.in-Some.plan (sym c.let_go.ensures.plan ∙ c.in-Some.is)

pub apply-requires-clause-legal : goal.apply-requires-clause-legal
apply-requires-clause-legal c = ap is_some (c.self.invariant.good.plans c.args.seat (plan_at c.self.inside.locks c.args.seat c.in-Some.plan) (found (goal.at.apply-requires-clause-legal c).In-Some)).legal.1.legal

pub invariant_of-self : goal.invariant_of-self
invariant_of-self c =
    let parts = c.self.inside in
    let here : planned_at c.let_go.result ≡ length c.in-Some.plan.tx.steps = ap planned_at c.in-Some.is in
    kept_ended parts.tables.world parts.locks parts.opened.entries parts.given parts.tables.spare c.self.invariant
    c.args.seat c.let_go.new.locks c.let_go.new.opened.entries c.let_go.ensures.plans (c.let_go.ensures.holders c.self.invariant.holders) c.let_go.ensures.ordered c.let_go.ensures.sound
    c.apply.new.self.world c.apply.new.self.spare
    (c.books_stay_good.ensures.applied (book_of parts.tables.world parts.locks parts.opened.entries parts.given) c.args.seat (plan_at parts.locks c.args.seat c.in-Some.plan) c.apply.new.self.world
    c.self.invariant.good (found (goal.at.invariant_of-self c).In-Some) c.apply.ensures.world)
    (omega (arith, here, c.let_go.ensures.planned, c.apply.ensures.spare, c.self.invariant.room))
    (omega (arith, c.let_go.ensures.planned))

pub unreachable-requires : goal.unreachable-requires
unreachable-requires c = true≢false (
    sym c.requires ∙ sym (ap (λ (b : Book). is_some (get b.open_plans c.args.seat)) c.self.view_is)
    ∙ is_open c.self.inside.locks c.self.inside.opened.entries c.args.seat ∙ ap is_some (sym c.let_go.ensures.plan ∙ c.in-None.is)
    )

pub returns : goal.returns
returns c =
    let plan = plan_at c.self.inside.locks c.args.seat c.in-Some.plan in
    let end = c.apply.new.self.world in
    record {
      plan = plan;
      opened = subst (λ (b : Book). get b.open_plans c.args.seat ≡ Some plan) c.self.view_is (found (goal.at.returns c).In-Some);
      world = subst (λ (b : Book). after b.world plan.tx ≡ Some end) c.self.view_is c.apply.ensures.world;
      book = (λ i. record { world = end; open_plans = c.let_go.ensures.plans i; given = c.self.inside.given }) ∙ ap (λ (b : Book). with_applied b c.args.seat end) c.self.view_is;
      answered = refl;
    }
