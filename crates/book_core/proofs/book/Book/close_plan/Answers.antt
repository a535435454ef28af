use Rattle.std.proofs.Common.{◌≡◌, length, ap, sym, subst, arith}
use Rattle.plan_model.specs.Books.{with_applied}
use Rattle.plan_model.specs.GoodBook.{IsGoodBook}
use Rattle.queue_model.specs.World.{World}
use Rattle.book_core.specs.Counts.{planned_at}
use Rattle.book_core.specs.Seen.{book_of}
use Rattle.book_core.proofs.KeptLemmas.{kept_ended}
use Rattle.book_core.proofs.book.Book.close_plan.Goals as goal

pub invariant_of-self : goal.invariant_of-self
invariant_of-self c =
    let parts = c.self.inside in
    let b = book_of parts.tables.world parts.locks parts.opened.entries parts.given in
    let here : planned_at c.let_go.result ≡ length c.in-Some.plan.tx.steps = ap planned_at c.in-Some.is in
    kept_ended parts.tables.world parts.locks parts.opened.entries parts.given parts.tables.spare c.self.invariant
    c.args.seat c.let_go.new.locks c.let_go.new.opened.entries c.let_go.ensures.plans (c.let_go.ensures.holders c.self.invariant.holders) c.let_go.ensures.ordered c.let_go.ensures.sound
    c.give_up.new.tables.world c.give_up.new.tables.spare
    (subst (λ (w : World). IsGoodBook (with_applied b c.args.seat w)) (sym c.give_up.ensures.world) (c.books_stay_good.ensures.without_plan b c.args.seat c.self.invariant.good))
    (omega (arith, here, c.let_go.ensures.planned, c.give_up.ensures.spare, c.self.invariant.room))
    (omega (arith, c.let_go.ensures.planned))

pub invariant_of-self-in_default : goal.invariant_of-self-in_default
invariant_of-self-in_default c =
    let parts = c.self.inside in
    let b = book_of parts.tables.world parts.locks parts.opened.entries parts.given in
    kept_ended parts.tables.world parts.locks parts.opened.entries parts.given parts.tables.spare c.self.invariant
    c.args.seat c.let_go.new.locks c.let_go.new.opened.entries c.let_go.ensures.plans (c.let_go.ensures.holders c.self.invariant.holders) c.let_go.ensures.ordered c.let_go.ensures.sound
    parts.tables.world parts.tables.spare (c.books_stay_good.ensures.without_plan b c.args.seat c.self.invariant.good)
    (omega (arith, c.let_go.ensures.planned, c.self.invariant.room))
    (omega (arith, c.let_go.ensures.planned))
