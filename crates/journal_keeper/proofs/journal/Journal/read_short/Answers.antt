use Rattle.std.proofs.Common.{◌≡◌, ◌≤◌, ◌+◌, ◌-◌, ◌∙◌, ap, length, take, drop, subst, sym, arith, ℕ, List, Ok, Err}
use Rattle.std.proofs.lemmas.Result.{err_from_is_err_and}
use Rattle.journal_keeper.specs.Reading.{TakesPayload}
use Rattle.journal_keeper.proofs.RecordReads.{take_failed, take_done}
use Rattle.journal_keeper.proofs.journal.Journal.read_short.Goals as goal

pub returns-in_err-fill-clause-taken : goal.returns-in_err-fill-clause-taken
returns-in_err-fill-clause-taken g c =
    let p = err_from_is_err_and c.from_residual.result c.from_residual.ensures.1 in
    take_failed c.args.n c.self.inside.end c.self.inside.stage c.self.inside.window c.fill.new.self _ c.self.view_is _ _ c.fill.ensures.kept c.fill.ensures.ahead _ _ _ _ (p.1 ∙ ap Err p.2) c.in_err-fill.ensures.cause.failed

pub returns-clause-taken : goal.returns-clause-taken
returns-clause-taken g c =
    let all : c.args.n + 5 - 5 ≡ c.args.n = omega arith in
    let payload : c.in_ok-payload.payload ≡ take c.args.n (drop 5 c.fill.new.self) =
    c.in_ok-payload.ensures ∙ ap (λ (k : ℕ). take k (drop 5 c.as_slice-ahead.result.now)) all ∙ ap (λ (l : List ℕ). take c.args.n (drop 5 l)) c.as_slice-ahead.ensures in
    let long : c.args.n + 5 ≤ length c.fill.new.self = omega (arith, c.if-ahead-n.false, ap length c.as_slice-ahead.ensures) in
    let done = take_done c.args.n c.self.inside.end c.self.inside.stage c.self.inside.window c.fill.new.self _ c.self.view_is _ _ c.fill.ensures.kept c.fill.ensures.ahead c.in_ok-payload.payload long payload in
    subst (λ (w : List ℕ). TakesPayload c.args.n c.args.self.now (g.D.Disk.history c.args.disk.now) (Ok c.in_ok-payload.payload) (record { end = c.self.inside.end + (5 + c.args.n); stage = c.self.inside.stage; ahead = w }) (g.D.Disk.history c.fill.new.disk)) (sym c.pass.ensures) done
