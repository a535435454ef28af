use Rattle.std.proofs.Common.{◌≡◌, subst}
use Rattle.plan_model.specs.Books.{Book}
use Rattle.plan_model.specs.Scenes.{is_free}
use Rattle.book_core.proofs.KeptLemmas.{asked_free}
use Rattle.book_core.proofs.book.Book.is_free.Goals as goal

pub returns : goal.returns
returns c =
    let parts = c.self.inside in
    subst (λ (b : Book). c.is_free.result ≡ is_free b c.args.row.now c.args.mode) c.self.view_is
    (asked_free parts.tables.world parts.locks parts.opened.entries parts.given parts.tables.spare c.self.invariant c.args.row.now c.args.mode c.is_free.result c.is_free.ensures)
