use Rattle.std.proofs.Common.{◌≡◌, ◌+◌, List, [], ◌∷◌, ◌++◌, set, take, drop, ◌∙◌, ap, arith}
use Rattle.order_index.specs.declared.entry.Entry.{Entry}
use Rattle.order_index.specs.Pages.{Paged, page_at}
use Rattle.order_index.proofs.PageLemmas.{with_merged, page_read}
use Rattle.std.specs.List.{remove}
use Rattle.std.proofs.lemmas.List.Edits.{length-remove, get_or-remove_below}
use Rattle.order_index.proofs.pages.Pages.merge.Goals as goal

pub returns-clause-pages : goal.returns-clause-pages
returns-clause-pages c =
    let pages = c.args.self.now.pages in
    let i = c.args.page in
    let same = ap (λ (s : Paged). s.pages) c.self.view_is in
    let rest : c.remove-next.new.self.items ≡ remove pages (i + 1) = c.remove-next.ensures.items ∙ ap (λ (ps : List (List Entry)). remove ps (i + 1)) same in
    let n = length-remove pages (i + 1) c.requires.within in
    let first : c.index_mut.result.now ≡ page_at pages i =
    page_read (remove pages (i + 1)) c.remove-next.new.self.items i c.index_mut.result.now rest (omega (arith, c.requires.within)) c.index_mut.ensures.value
    ∙ get_or-remove_below pages (i + 1) [] i (omega arith) c.requires.within in
    let next : c.remove-next.result ≡ page_at pages (i + 1) = page_read pages c.self.inside.used.items (i + 1) c.remove-next.result same c.requires.within c.remove-next.ensures.value in
    let both : c.append.new.self ≡ page_at pages i ++ page_at pages (i + 1) = cc in
    ap (λ (ps : List (List Entry)). set ps i c.append.new.self) rest
    ∙ with_merged pages i c.append.new.self c.requires.within
    ∙ ap (λ page. take i pages ++ page ∷ drop (i + 2) pages) both
