use Rattle.std.proofs.Common.{◌≡◌, List, length, slice_get, Some, refl, sym, ◌∙◌, ap, subst}
use Rattle.std.proofs.lemmas.Bool.{ltb-true}
use Rattle.std.proofs.lemmas.Option.{slice_get_read}
use Rattle.order_index.specs.declared.entry.Entry.{Entry}
use Rattle.order_index.specs.Pages.{Paged}
use Rattle.order_index.proofs.PageLemmas.{first_on}
use Rattle.order_index.proofs.pages.Pages.first_of.Goals as goal

pub returns : goal.returns
returns c =
    let xs = c.deref.result.now in
    let same : xs ≡ c.args.self.now.pages = c.deref.ensures.value ∙ ap (λ (s : Paged). s.pages) c.self.view_is in
    let read = c.in_ok-get.ensures.lookup in
    let here = slice_get_read xs (length xs) c.args.page c.in_ok-get.field-0.now refl (ltb-true c.args.page (length xs) (sym read.0)) read.1 in
    c.get-2.ensures
    ∙ sym (first_on c.args.self.now.pages c.args.page c.in_ok-get.field-0.now c.requires (subst (λ (ps : List (List Entry)). slice_get ps c.args.page ≡ Some c.in_ok-get.field-0.now) same here))
