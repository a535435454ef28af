use Rattle.std.proofs.Common.{◌≡◌, ◌+◌, length, All}
use Rattle.transition_table.specs.Seen.{IsFit}
use Rattle.job_plans.proofs.News.{AreFound}
use Rattle.job_plans.proofs.enqueue.all_accepted.Given as goal

abbrev pub invariant-loop-new : goal.invariant-loop-new
invariant-loop-new l = record {
  count : length l.accepted_news.items + length l.new-iterator.rest.items ≡ length l.fn.news.items;
  found : AreFound l.scene l.fn.news.items l.new-iterator.rest.items l.accepted_news.items;
  fit : All (λ new. IsFit new.row.limited) l.accepted_news.items;
}
