use Rattle.std.proofs.Common.{◌≡◌, ◌+◌, [], ◌++◌, drop, slice_get, Some, None, sym, ◌∙◌, ap}
use Rattle.order_index.specs.Entries.{first}
use Rattle.order_index.specs.Pages.{Paged, entries_on, page_at}
use Rattle.order_index.proofs.PageLemmas.{first_some, first_none, page_read}
use Rattle.order_index.proofs.pages.Pages.first_from.Goals as goal

pub returns-in-Some : goal.returns-in-Some
returns-in-Some c =
    let pages = c.args.self.now.pages in
    let page_is = page_read pages c.self.inside.used.items c.args.at.page c.index.result.now (ap (λ (s : Paged). s.pages) c.self.view_is) c.requires.on.page c.index.ensures in
    let read : slice_get (page_at pages c.args.at.page) c.args.at.index ≡ Some c.in-Some.entry = ap (λ page. slice_get page c.args.at.index) (sym page_is) ∙ sym c.get.ensures ∙ c.in-Some.is in
    sym (first_some (page_at pages c.args.at.page) c.args.at.index c.in-Some.entry (entries_on (drop (c.args.at.page + 1) pages)) read)

pub returns-in-None : goal.returns-in-None
returns-in-None c =
    let pages = c.args.self.now.pages in
    let page_is = page_read pages c.self.inside.used.items c.args.at.page c.index.result.now (ap (λ (s : Paged). s.pages) c.self.view_is) c.requires.on.page c.index.ensures in
    let read : slice_get (page_at pages c.args.at.page) c.args.at.index ≡ None = ap (λ page. slice_get page c.args.at.index) (sym page_is) ∙ sym c.get.ensures ∙ c.in-None.is in
    let here : drop c.args.at.index (page_at pages c.args.at.page) ≡ [] = first_none (page_at pages c.args.at.page) c.args.at.index read in
    c.first_of.ensures ∙ ap (λ xs. first (xs ++ entries_on (drop (c.args.at.page + 1) pages))) (sym here)
