use Rattle.std.proofs.lemmas.List.Elements.{All-push}
use Rattle.queue_config.specs.Ranges.{IsTask}
use Rattle.queue_config.proofs.task.TaskElementIndexClass.read.Goals as goal

pub returns-clause-holds : goal.returns-clause-holds
returns-clause-holds c = All-push (IsTask c.args.classes.now) _ _ c.requires (record {
  key = c.in_ok-key.ensures.name;
  class = c.in_ok-class.ensures.name;
  schedule = c.in_ok-timed.ensures.read;
  queue = c.in_ok-queue.ensures.name;
  text = c.in_ok-args.ensures.text;
  args = c.in_ok-args.ensures.accepted;
})
