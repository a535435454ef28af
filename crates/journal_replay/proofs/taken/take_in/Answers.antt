use Rattle.std.proofs.Common.{sym, ◌∙◌, refl}
use Rattle.journal_replay.proofs.Replayed.{nothing}
use Rattle.journal_replay.proofs.Spelled.{illegal}
use Rattle.queue_model.specs.Replay.{replay}
use Rattle.journal_replay.proofs.taken.take_in.Goals as goal

pub returns-else-branch-clause-fault : goal.returns-else-branch-clause-fault
returns-else-branch-clause-fault c =
    let w = c.args.tables.now.world in
    let txs = c.in_ok-txs.txs.items in
    (refl, illegal c.one_text.ensures c.args.bytes.now w txs c.in_ok-txs.ensures.spelled (nothing (replay w txs) (sym c.in_ok-replay.ensures.legal ∙ c.if-branch.false)))
