use Rattle.std.proofs.Common.{[], sym, ap, subst}
use Rattle.order_index.specs.Entries.{IsInOrder}
use Rattle.order_index.specs.Pages.{IsPageFor, Paged}
use Rattle.order_index.proofs.PageLemmas.{page_read}
use Rattle.order_index.proofs.PlaceLemmas.{place_found, sorted_pages}
use Rattle.order_index.proofs.pages.Pages.place.Goals as goal

pub seek-index-requires : goal.seek-index-requires
seek-index-requires c =
    let pages = c.args.self.now.pages in
    let i = c.in_ok-page.page in
    let found : IsPageFor pages c.args.entry.now i = c.in_ok-page.ensures in
    let page_is = page_read pages c.self.inside.used.items i c.index.result.now (ap (λ (s : Paged). s.pages) c.self.view_is) found.within c.index.ensures in
    subst IsInOrder (sym page_is) (sorted_pages pages c.requires.in_order i [] found.within)

pub returns : goal.returns
returns c =
    let pages = c.args.self.now.pages in
    let i = c.in_ok-page.page in
    let found : IsPageFor pages c.args.entry.now i = c.in_ok-page.ensures in
    let page_is = page_read pages c.self.inside.used.items i c.index.result.now (ap (λ (s : Paged). s.pages) c.self.view_is) found.within c.index.ensures in
    place_found c.args.entry.now pages c.requires.in_order c.requires.filled i c.seek-index.result c.index.result.now found page_is
    c.seek-index.ensures.within c.seek-index.ensures.before c.seek-index.ensures.from
