use Rattle.journal_keeper.proofs.Making.{closing, laid, begun_anew, laid_is}
use Rattle.journal_keeper.proofs.make.make.Goals as goal

pub returns-in_err-shut-clause-any_moment : goal.returns-in_err-shut-clause-any_moment
returns-in_err-shut-clause-any_moment g c = closing _ _ c.in_err-shut.ensures.any_moment

pub returns-in_err-lay-clause-any_moment : goal.returns-in_err-lay-clause-any_moment
returns-in_err-lay-clause-any_moment g c = laid _ _ _ c.in_ok-shut.ensures.any_moment c.in_err-lay.ensures.any_moment

pub returns-in_err-put-clause-any_moment : goal.returns-in_err-put-clause-any_moment
returns-in_err-put-clause-any_moment g c =
    begun_anew _ _ _ _ c.in_ok-shut.ensures.any_moment c.in_ok-lay.ensures.any_moment (laid_is _ _ c.in_ok-lay.ensures.other c.in_ok-lay.ensures.laid) c.in_err-put.ensures.any_moment

pub returns-clause-any_moment : goal.returns-clause-any_moment
returns-clause-any_moment g c =
    begun_anew _ _ _ _ c.in_ok-shut.ensures.any_moment c.in_ok-lay.ensures.any_moment (laid_is _ _ c.in_ok-lay.ensures.other c.in_ok-lay.ensures.laid) c.in_ok-put.ensures.any_moment
