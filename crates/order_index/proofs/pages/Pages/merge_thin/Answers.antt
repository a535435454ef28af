use Rattle.std.proofs.Common.{◌≡◌, ◌+◌, ◌-◌, List, [], ◌++◌, length, take, drop, sym, ◌∙◌, ap, subst, arith}
use Rattle.order_index.specs.declared.entry.Entry.{Entry}
use Rattle.order_index.specs.Pages.{AreFilled, AreFilledAround, Paged, entries_on, fewest, page_at}
use Rattle.order_index.proofs.PageLemmas.{entries-merged, filled_alone, filled_around, fewest_le, page_read, around_merged}
use Rattle.std.proofs.lemmas.List.{drop_all}
use Rattle.order_index.proofs.pages.Pages.merge_thin.Goals as goal

pub split_long-requires-clause-around : goal.split_long-requires-clause-around
split_long-requires-clause-around c =
    let pages = c.args.self.now.pages in
    let i = c.args.page in
    let n = ap (λ (s : Paged). length s.pages) c.self.view_is in
    let used = c.self.inside.used.ok in
    subst (λ (ps : List (List Entry)). AreFilledAround ps i) (sym c.merge.ensures.pages) (around_merged pages i (page_at pages i ++ page_at pages (i + 1)) c.requires.around (omega (arith, used.0)))

pub returns-then-len-lt-FEWEST-clause-entries : goal.returns-then-len-lt-FEWEST-clause-entries
returns-then-len-lt-FEWEST-clause-entries c =
    let n = ap (λ (s : Paged). length s.pages) c.self.view_is in
    let used = c.self.inside.used.ok in
    c.split_long.ensures.entries ∙ ap entries_on c.merge.ensures.pages ∙ entries-merged c.args.self.now.pages c.args.page (omega (arith, used.0))

pub returns-else-len-lt-FEWEST-clause-filled : goal.returns-else-len-lt-FEWEST-clause-filled
returns-else-len-lt-FEWEST-clause-filled c =
    let pages = c.args.self.now.pages in
    let page_is = page_read pages c.self.inside.used.items c.args.page c.index.result.now (ap (λ (s : Paged). s.pages) c.self.view_is) c.requires.around.within c.index.ensures in
    let few = fewest_le (drop (c.args.page + 1) pages) in
    filled_around pages c.args.page c.requires.around (omega (arith, ap length page_is)) c.requires.few

pub returns-then-len-eq0-clause-filled : goal.returns-then-len-eq0-clause-filled
returns-then-len-eq0-clause-filled c =
    let pages = c.args.self.now.pages in
    let n = ap (λ (s : Paged). length s.pages) c.self.view_is in
    let used = c.self.inside.used.ok in
    let within = c.requires.around.within in
    let last : length pages - 1 ≡ c.args.page = omega (arith, used.0) in
    subst AreFilled (sym (c.free_last.ensures.pages ∙ ap (λ k. take k pages) last)) (filled_alone (take c.args.page pages) c.requires.around.prefix)

pub returns-else-len-eq0-clause-filled : goal.returns-else-len-eq0-clause-filled
returns-else-len-eq0-clause-filled c =
    let pages = c.args.self.now.pages in
    let n = ap (λ (s : Paged). length s.pages) c.self.view_is in
    let used = c.self.inside.used.ok in
    let page_is = page_read pages c.self.inside.used.items c.args.page c.index.result.now (ap (λ (s : Paged). s.pages) c.self.view_is) c.requires.around.within c.index.ensures in
    let none : drop (c.args.page + 1) pages ≡ [] = drop_all (c.args.page + 1) pages (omega (arith, used.0)) in
    filled_around pages c.args.page c.requires.around (omega (arith, ap fewest none, ap length page_is)) c.requires.few
