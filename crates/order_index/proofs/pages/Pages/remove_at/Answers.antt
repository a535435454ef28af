use Rattle.std.proofs.Common.{◌≡◌, ℕ, ◌+◌, ◌<◌, List, length, get_or, set, drop, sym, ◌∙◌, ap, subst, arith}
use Rattle.order_index.specs.declared.entry.Entry.{Entry}
use Rattle.order_index.specs.Pages.{AreFilledAround, Paged, entries_on, fewest, page_at}
use Rattle.order_index.proofs.PageLemmas.{drop_after-set, entries-remove, filled_at, page_at-set, page_read, around_set}
use Rattle.std.specs.List.{remove}
use Rattle.std.proofs.lemmas.List.Edits.{length-remove}
use Rattle.order_index.proofs.pages.Pages.remove_at.Goals as goal

-- a page, without the entry
shorter : (pages used : List (List Entry)) (at i : ℕ) (page new : List Entry) → used ≡ pages → i < length pages → at < length (page_at pages i) → page ≡ get_or used i page → new ≡ remove page at
    → length (page_at (set used i new) i) + 1 ≡ length (page_at pages i)
shorter pages used at i page new same l m e is =
    let page_is = page_read pages used i page same l e in
    let n = length-remove (page_at pages i) at m in
    ap (λ (p : List Entry). length p + 1) (page_at-set used i new (omega (arith, ap length same)) ∙ is ∙ ap (λ p. remove p at) page_is) ∙ n

pub merge_thin-requires-clause-around : goal.merge_thin-requires-clause-around
merge_thin-requires-clause-around c =
    subst (λ (ps : List (List Entry)). AreFilledAround (set ps c.args.at.page c.remove.new.self) c.args.at.page) (sym (ap (λ (s : Paged). s.pages) c.self.view_is))
    (around_set c.args.self.now.pages c.args.at.page c.remove.new.self c.requires.filled c.requires.on.page)

pub merge_thin-requires-clause-enough : goal.merge_thin-requires-clause-enough
merge_thin-requires-clause-enough c =
    let pages = c.args.self.now.pages in
    let i = c.args.at.page in
    let same = ap (λ (s : Paged). s.pages) c.self.view_is in
    let filled = filled_at pages i c.requires.filled c.requires.on.page in
    let n = shorter pages c.self.inside.used.items c.args.at.index i c.index_mut.result.now c.remove.new.self same c.requires.on.page c.requires.there c.index_mut.ensures.value c.remove.ensures in
    let suffix = ap fewest (drop_after-set c.self.inside.used.items i c.remove.new.self ∙ ap (λ (ps : List (List Entry)). drop (i + 1) ps) same) in
    omega (arith, n, suffix, filled.0)

pub merge_thin-requires-clause-few : goal.merge_thin-requires-clause-few
merge_thin-requires-clause-few c =
    let pages = c.args.self.now.pages in
    let i = c.args.at.page in
    let same = ap (λ (s : Paged). s.pages) c.self.view_is in
    let filled = filled_at pages i c.requires.filled c.requires.on.page in
    let n = shorter pages c.self.inside.used.items c.args.at.index i c.index_mut.result.now c.remove.new.self same c.requires.on.page c.requires.there c.index_mut.ensures.value c.remove.ensures in
    omega (arith, n, filled.1)

pub returns-clause-entries : goal.returns-clause-entries
returns-clause-entries c =
    let pages = c.args.self.now.pages in
    let i = c.args.at.page in
    let same = ap (λ (s : Paged). s.pages) c.self.view_is in
    let page_is = page_read pages c.self.inside.used.items i c.index_mut.result.now same c.requires.on.page c.index_mut.ensures.value in
    c.merge_thin.ensures.entries
    ∙ ap (λ (ps : List (List Entry)). entries_on (set ps i c.remove.new.self)) same
    ∙ ap (λ page. entries_on (set pages i page)) (c.remove.ensures ∙ ap (λ page. remove page c.args.at.index) page_is)
    ∙ entries-remove pages c.args.at c.requires.on.page c.requires.there
