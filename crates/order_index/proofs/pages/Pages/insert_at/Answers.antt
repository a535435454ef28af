use Rattle.std.proofs.Common.{◌≡◌, ℕ, ◌+◌, ◌<◌, ◌≤◌, List, length, get_or, set, drop, sym, ◌∙◌, ap, subst, arith}
use Rattle.order_index.specs.declared.entry.Entry.{Entry}
use Rattle.order_index.specs.Pages.{AreFilledAround, Paged, entries_on, fewest, page_at}
use Rattle.order_index.proofs.PageLemmas.{drop_after-set, entries-insert, filled_at, page_at-set, page_read, around_set}
use Rattle.std.specs.List.{insert}
use Rattle.std.proofs.lemmas.List.Edits.{length-insert}
use Rattle.order_index.proofs.pages.Pages.insert_at.Goals as goal

-- a page, with the entry
longer : (pages used : List (List Entry)) (at i : ℕ) (entry : Entry) (page new : List Entry) → used ≡ pages → i < length pages → at ≤ length (page_at pages i) → page ≡ get_or used i page → new ≡ insert page at entry
    → length (page_at (set used i new) i) ≡ length (page_at pages i) + 1
longer pages used at i entry page new same l m e is =
    let page_is = page_read pages used i page same l e in
    let n = length-insert (page_at pages i) at entry m in
    ap length (page_at-set used i new (omega (arith, ap length same)) ∙ is ∙ ap (λ p. insert p at entry) page_is) ∙ n

pub insert-requires-clause-room : goal.insert-requires-clause-room
insert-requires-clause-room c =
    let pages = c.args.self.now.pages in
    let page_is = page_read pages c.self.inside.used.items c.args.at.page c.index_mut.result.now (ap (λ (s : Paged). s.pages) c.self.view_is) c.requires.on.page c.index_mut.ensures.value in
    let filled = filled_at pages c.args.at.page c.requires.filled c.requires.on.page in
    omega (arith, ap length page_is, filled.1)

pub split_long-requires-clause-around : goal.split_long-requires-clause-around
split_long-requires-clause-around c =
    subst (λ (ps : List (List Entry)). AreFilledAround (set ps c.args.at.page c.insert.new.self) c.args.at.page) (sym (ap (λ (s : Paged). s.pages) c.self.view_is))
    (around_set c.args.self.now.pages c.args.at.page c.insert.new.self c.requires.filled c.requires.on.page)

pub split_long-requires-clause-enough : goal.split_long-requires-clause-enough
split_long-requires-clause-enough c =
    let pages = c.args.self.now.pages in
    let i = c.args.at.page in
    let same = ap (λ (s : Paged). s.pages) c.self.view_is in
    let filled = filled_at pages i c.requires.filled c.requires.on.page in
    let n = longer pages c.self.inside.used.items c.args.at.index i c.args.entry c.index_mut.result.now c.insert.new.self same c.requires.on.page c.requires.on.index c.index_mut.ensures.value c.insert.ensures in
    let suffix = ap fewest (drop_after-set c.self.inside.used.items i c.insert.new.self ∙ ap (λ (ps : List (List Entry)). drop (i + 1) ps) same) in
    omega (arith, n, suffix, filled.0)

pub split_long-requires-clause-few : goal.split_long-requires-clause-few
split_long-requires-clause-few c =
    let pages = c.args.self.now.pages in
    let i = c.args.at.page in
    let same = ap (λ (s : Paged). s.pages) c.self.view_is in
    let filled = filled_at pages i c.requires.filled c.requires.on.page in
    let n = longer pages c.self.inside.used.items c.args.at.index i c.args.entry c.index_mut.result.now c.insert.new.self same c.requires.on.page c.requires.on.index c.index_mut.ensures.value c.insert.ensures in
    omega (arith, n, filled.1)

pub returns-clause-entries : goal.returns-clause-entries
returns-clause-entries c =
    let pages = c.args.self.now.pages in
    let i = c.args.at.page in
    let same = ap (λ (s : Paged). s.pages) c.self.view_is in
    let page_is = page_read pages c.self.inside.used.items i c.index_mut.result.now same c.requires.on.page c.index_mut.ensures.value in
    c.split_long.ensures.entries
    ∙ ap (λ (ps : List (List Entry)). entries_on (set ps i c.insert.new.self)) same
    ∙ ap (λ page. entries_on (set pages i page)) (c.insert.ensures ∙ ap (λ page. insert page c.args.at.index c.args.entry) page_is)
    ∙ entries-insert pages c.args.at c.args.entry c.requires.on.page
