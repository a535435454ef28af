use Rattle.std.proofs.Common.{◌≡◌, min, true, false, List, length, sym, ◌∙◌, ap, subst, rules, arith}
use Rattle.order_index.specs.declared.entry.Entry.{Entry}
use Rattle.order_index.specs.Pages.{Paged, ends_before}
use Rattle.std.proofs.lemmas.List.Sorted.{IsPartitionPoint-from_clause}
use Rattle.std.specs.List.{AllWithin}
use Rattle.std.specs.List.Sorted.{IsPartitionedBy}
use Rattle.order_index.proofs.PlaceLemmas.{page_found, pages_partitioned}
use Rattle.order_index.proofs.pages.Pages.page_for.Goals as goal

pub returns : goal.returns
returns c =
    let e = c.args.entry.now in
    let xs = c.deref.result.now in
    let pages = c.args.self.now.pages in
    let count = c.partition_point-page.result in
    let same : xs ≡ pages = c.deref.ensures.value ∙ ap (λ (s : Paged). s.pages) c.self.view_is in
    let n = ap length same in
    let parted = subst (IsPartitionedBy (ends_before e)) (sym same) (pages_partitioned e pages c.requires.in_order c.requires.filled) in
    let point = IsPartitionPoint-from_clause (ends_before e) xs count c.partition_point-page.ensures.partitioned parted (λ a r q k. search rules) in
    page_found e pages c.requires.in_order c.requires.filled count c.min.result
    (subst (λ (ps : List (List Entry)). AllWithin (λ page. ends_before e page ≡ true) ps 0 count) same point.0)
    (subst (λ (ps : List (List Entry)). AllWithin (λ page. ends_before e page ≡ false) ps count (length ps)) same point.1)
    (omega (arith, c.in_ok-last.ensures))
    (omega arith)
    (c.min.ensures ∙ ap (λ k. min count k) (omega (arith, c.in_ok-last.ensures)))
