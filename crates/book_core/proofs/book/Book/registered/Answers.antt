use Rattle.std.proofs.Common.{◌+◌, ap, sym, ◌∙◌, arith}
use Rattle.plan_model.specs.Books.{Book, processes_kept}
use Rattle.book_core.proofs.KeptLemmas.{few_registered, processes_counted}
use Rattle.book_core.proofs.book.Book.registered.Goals as goal

pub overflow_add-result : goal.overflow_add-result
overflow_add-result c = let parts = c.self.inside in omega (arith, few_registered parts.tables.world parts.locks parts.opened.entries parts.given parts.tables.spare c.self.invariant)

pub returns : goal.returns
returns c =
    let parts = c.self.inside in
    (λ i. c.registered.ensures i + c.count_in.ensures i)
    ∙ sym (processes_counted parts.tables.world parts.locks parts.opened.entries parts.given c.self.invariant.seats_up)
    ∙ ap (λ (b : Book). processes_kept b) c.self.view_is
