use Rattle.std.proofs.Common.{◌+◌, ap, sym, ◌∙◌, arith}
use Rattle.plan_model.specs.Books.{Book, claims_kept}
use Rattle.book_core.proofs.KeptLemmas.{claims_counted}
use Rattle.book_core.proofs.book.Book.claims.Goals as goal

pub overflow_add-result : goal.overflow_add-result
overflow_add-result c =
    let parts = c.self.inside in
    omega (arith, claims_counted parts.tables.world parts.locks parts.opened.entries parts.given c.args.pid c.self.invariant.seats_up, c.self.invariant.good.few_claims c.args.pid)

pub returns : goal.returns
returns c =
    let parts = c.self.inside in
    (λ i. c.claims.ensures i + c.count_in.ensures i)
    ∙ sym (claims_counted parts.tables.world parts.locks parts.opened.entries parts.given c.args.pid c.self.invariant.seats_up)
    ∙ ap (λ (b : Book). claims_kept b c.args.pid) c.self.view_is
