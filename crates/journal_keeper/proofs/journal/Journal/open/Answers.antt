use Rattle.journal_keeper.proofs.Opening.{keeps_then}
use Rattle.journal_keeper.proofs.Standing.{live_stands, made_stands}
use Rattle.journal_keeper.proofs.journal.Journal.open.Goals as goal

pub returns-in_err-make_kept-in-Idle-clause-any_moment : goal.returns-in_err-make_kept-in-Idle-clause-any_moment
returns-in_err-make_kept-in-Idle-clause-any_moment g c = keeps_then _ _ _ c.read_heading.ensures.any_moment c.in_err-make_kept-in-Idle.ensures.any_moment

pub returns-in-Live-clause-stands : goal.returns-in-Live-clause-stands
returns-in-Live-clause-stands g c = live_stands _ _ c.in-Live.turn _ _ c.at_start.ensures c.in-Live.is c.in_ok-read_heading.ensures.other c.in_ok-read_heading.ensures.heading c.in_ok-read_heading.ensures.synced

pub returns-in_ok-make_kept-in-Idle-clause-stands : goal.returns-in_ok-make_kept-in-Idle-clause-stands
returns-in_ok-make_kept-in-Idle-clause-stands g c = made_stands _ _ _ c.at_start-in-Idle.ensures c.in_ok-make_kept-in-Idle.ensures.other c.in_ok-make_kept-in-Idle.ensures.made

pub returns-in_ok-make_kept-in-Idle-clause-any_moment : goal.returns-in_ok-make_kept-in-Idle-clause-any_moment
returns-in_ok-make_kept-in-Idle-clause-any_moment g c = keeps_then _ _ _ c.read_heading.ensures.any_moment c.in_ok-make_kept-in-Idle.ensures.any_moment
