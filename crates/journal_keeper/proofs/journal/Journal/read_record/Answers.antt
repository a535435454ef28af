use Rattle.std.proofs.Common.{◌∙◌, ap, Err}
use Rattle.std.proofs.lemmas.Result.{err_from_is_err_and}
use Rattle.journal_keeper.specs.declared.frame.Frame.TheVariants.{Closed, Broken, Open}
use Rattle.journal_keeper.proofs.RecordReads.{record_failed, record_closed, record_broken, record_short, record_taken, framed_ahead}
use Rattle.journal_keeper.proofs.journal.Journal.read_record.Goals as goal

pub returns-in_err-fill-clause-read : goal.returns-in_err-fill-clause-read
returns-in_err-fill-clause-read g c =
    let p = err_from_is_err_and c.from_residual.result c.from_residual.ensures.1 in
    record_failed 5 c.self.inside.end c.self.inside.stage c.self.inside.window c.fill.new.self _ c.self.view_is _ _ c.fill.ensures.kept c.fill.ensures.ahead _ _ _ _ (p.1 ∙ ap Err p.2) c.in_err-fill.ensures.cause.failed

pub returns-in-Closed-clause-read : goal.returns-in-Closed-clause-read
returns-in-Closed-clause-read g c =
    record_closed 5 c.self.inside.end c.self.inside.stage c.self.inside.window c.fill.new.self _ c.self.view_is _ _ c.fill.ensures.kept c.fill.ensures.ahead (framed_ahead _ _ Closed c.as_slice.ensures c.in-Closed.ensures) c.in_ok-fill.ensures.filled

pub returns-in-Broken-clause-read : goal.returns-in-Broken-clause-read
returns-in-Broken-clause-read g c =
    record_broken 5 c.self.inside.end c.self.inside.stage c.self.inside.window c.fill.new.self _ c.self.view_is _ _ c.fill.ensures.kept c.fill.ensures.ahead (framed_ahead _ _ Broken c.as_slice.ensures c.in-Broken.ensures) c.in_ok-fill.ensures.filled

pub returns-in_err-payload-in-Open-clause-read : goal.returns-in_err-payload-in-Open-clause-read
returns-in_err-payload-in-Open-clause-read g c =
    let p = err_from_is_err_and c.from_residual-in_err-payload-in-Open.result c.from_residual-in_err-payload-in-Open.ensures.1 in
    record_short 5 c.self.inside.end c.self.inside.stage c.self.inside.window c.fill.new.self _ c.self.view_is _ _ c.fill.ensures.kept c.fill.ensures.ahead c.in-Open.n (framed_ahead _ _ (Open c.in-Open.n) c.as_slice.ensures c.in-Open.ensures) c.in_ok-fill.ensures.filled _ _ (p.1 ∙ ap Err p.2) _ _ c.in_err-payload-in-Open.ensures.taken

pub returns-in_ok-payload-in-Open-clause-read : goal.returns-in_ok-payload-in-Open-clause-read
returns-in_ok-payload-in-Open-clause-read g c =
    record_taken 5 c.self.inside.end c.self.inside.stage c.self.inside.window c.fill.new.self _ c.self.view_is _ _ c.fill.ensures.kept c.fill.ensures.ahead c.in-Open.n (framed_ahead _ _ (Open c.in-Open.n) c.as_slice.ensures c.in-Open.ensures) c.in_ok-fill.ensures.filled c.in_ok-payload-in-Open.payload _ _ c.in_ok-payload-in-Open.ensures.taken
