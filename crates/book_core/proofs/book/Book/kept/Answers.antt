use Rattle.std.proofs.Common.{◌+◌, ap, sym, ◌∙◌, arith}
use Rattle.plan_model.specs.Books.{Book, jobs_kept}
use Rattle.book_core.proofs.KeptLemmas.{few_kept, jobs_counted}
use Rattle.book_core.proofs.book.Book.kept.Goals as goal

pub overflow_add-result : goal.overflow_add-result
overflow_add-result c = let parts = c.self.inside in omega (arith, few_kept parts.tables.world parts.locks parts.opened.entries parts.given parts.tables.spare c.self.invariant)

pub returns : goal.returns
returns c =
    let parts = c.self.inside in
    (λ i. c.kept.ensures i + c.count_in.ensures i)
    ∙ sym (jobs_counted parts.tables.world parts.locks parts.opened.entries parts.given c.self.invariant.seats_up)
    ∙ ap (λ (b : Book). jobs_kept b) c.self.view_is
