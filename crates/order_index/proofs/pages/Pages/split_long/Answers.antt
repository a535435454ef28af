use Rattle.std.proofs.Common.{◌+◌, length, take, drop, sym, ap, subst, arith}
use Rattle.order_index.specs.Pages.{AreFilled, Paged, page_at}
use Rattle.order_index.proofs.PageLemmas.{filled_split, filled_around, page_read}
use Rattle.order_index.proofs.pages.Pages.split_long.Goals as goal

pub returns-then-len-gt-MOST-clause-filled : goal.returns-then-len-gt-MOST-clause-filled
returns-then-len-gt-MOST-clause-filled c =
    let pages = c.args.self.now.pages in
    let i = c.args.page in
    let page_is = page_read pages c.self.inside.used.items i c.index.result.now (ap (λ (s : Paged). s.pages) c.self.view_is) c.requires.around.within c.index.ensures in
    subst AreFilled (sym c.split.ensures.pages)
    (filled_split (take i pages) (drop (i + 1) pages) (page_at pages i) c.requires.around.prefix c.requires.around.suffix (omega (arith, ap length page_is)) c.requires.few)

pub returns-else-len-gt-MOST-clause-filled : goal.returns-else-len-gt-MOST-clause-filled
returns-else-len-gt-MOST-clause-filled c =
    let pages = c.args.self.now.pages in
    let page_is = page_read pages c.self.inside.used.items c.args.page c.index.result.now (ap (λ (s : Paged). s.pages) c.self.view_is) c.requires.around.within c.index.ensures in
    filled_around pages c.args.page c.requires.around c.requires.enough (omega (arith, ap length page_is))
