use Rattle.std.proofs.Common.{None, Some, ap, sym, ◌∙◌}
use Rattle.std.specs.Option.{option_copied, option_map}
use Rattle.queue_model.specs.Map.{get}
use Rattle.plan_model.specs.Books.{Book}
use Rattle.plan_model.specs.Plans.{Plan}
use Rattle.book_core.proofs.KeptLemmas.{open_at}
use Rattle.book_core.proofs.book.Book.open_at.Goals as goal

pub returns-in_err-get : goal.returns-in_err-get
returns-in_err-get c =
    ap option_copied c.from_residual.ensures
    ∙ sym (open_at c.self.inside.locks c.self.inside.opened.entries c.args.seat None (sym c.get.ensures.value ∙ ap option_copied c.in_err-get.was))
    ∙ ap (λ (b : Book). option_map (λ (p : Plan). p.tx) (get b.open_plans c.args.seat)) c.self.view_is

pub returns : goal.returns
returns c =
    sym (open_at c.self.inside.locks c.self.inside.opened.entries c.args.seat (Some c.in_ok-get.field-0.now) (sym c.get.ensures.value ∙ ap option_copied c.in_ok-get.was))
    ∙ ap (λ (b : Book). option_map (λ (p : Plan). p.tx) (get b.open_plans c.args.seat)) c.self.view_is
