use Rattle.queue_selector.proofs.Counting.{count_of-groups, count_of-once}
use Rattle.queue_selector.proofs.groups.polled_once.Goals as goal

pub returns : goal.returns
returns c = record {
  as_often = λ items names paused name. count_of-groups name items names paused;
  once = count_of-once;
}
