use Rattle.std.proofs.Common.{is_some, ap, sym, ◌∙◌}
use Rattle.queue_model.specs.Map.{get}
use Rattle.plan_model.specs.Books.{Book}
use Rattle.book_core.proofs.KeptLemmas.{is_open}
use Rattle.book_core.proofs.book.Book.is_open.Goals as goal

pub returns : goal.returns
returns c = c.contains_key.ensures ∙ sym (is_open c.self.inside.locks c.self.inside.opened.entries c.args.seat) ∙ ap (λ (b : Book). is_some (get b.open_plans c.args.seat)) c.self.view_is
