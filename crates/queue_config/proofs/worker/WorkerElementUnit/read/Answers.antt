use Rattle.std.proofs.Common.{rules, refl, arith}
use Rattle.std.proofs.lemmas.List.Elements.{All-push}
use Rattle.std.proofs.lemmas.List.Sums.{sum_by_push}
use Rattle.queue_config.specs.Ranges.{IsWorker}
use Rattle.queue_config.specs.Settings.{worker_of}
use Rattle.queue_config.proofs.worker.WorkerElementUnit.read.Goals as goal

pub returns-in_err-polling_ms-clause-given : goal.returns-in_err-polling_ms-clause-given
unfolding worker_of
returns-in_err-polling_ms-clause-given c =
    let queues = rw c.optional.ensures at c.in_ok-queues.ensures.given in
    rw (c.in_ok-table.ensures, queues, c.in_ok-threads.ensures.given, c.in_ok-claim.ensures.given) (search rules)

pub returns-clause-given : goal.returns-clause-given
unfolding worker_of
returns-clause-given c =
    let queues = rw c.optional.ensures at c.in_ok-queues.ensures.given in
    rw (c.in_ok-table.ensures, queues, c.in_ok-threads.ensures.given, c.in_ok-claim.ensures.given, c.in_ok-polling_ms.ensures.given) refl

pub returns-clause-holds : goal.returns-clause-holds
returns-clause-holds c =
    let least = c.in_ok-threads.ensures.least in
    let most = c.in_ok-threads.ensures.most in
    record {
      each = All-push IsWorker _ _ c.requires.each (record {
        queues = c.in_ok-queues.ensures.list;
        threads = (omega arith, omega arith);
        claim = search rules;
        polling_ms = search rules;
      });
      threads = rw sum_by_push most;
    }
