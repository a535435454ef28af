use Rattle.journal_keeper.proofs.Replaced.{putting, unchanged, ajar_by}
use Rattle.journal_keeper.proofs.loose.shut.Goals as goal

pub returns-in_err-is_shut-clause-any_moment : goal.returns-in_err-is_shut-clause-any_moment
returns-in_err-is_shut-clause-any_moment g c = unchanged c.args.place _ _ c.in_err-is_shut.ensures.kept c.requires.settled

pub returns-in_err-put-clause-any_moment : goal.returns-in_err-put-clause-any_moment
returns-in_err-put-clause-any_moment g c =
    putting c.args.place _ _ _ c.in_ok-is_shut.ensures.kept c.requires.settled c.requires.within (ajar_by c.args.place _ _ c.if-not-branch.true c.in_ok-is_shut.ensures.shut) c.in_err-put.ensures.any_moment

pub returns-in_ok-put-clause-any_moment : goal.returns-in_ok-put-clause-any_moment
returns-in_ok-put-clause-any_moment g c =
    putting c.args.place _ _ _ c.in_ok-is_shut.ensures.kept c.requires.settled c.requires.within (ajar_by c.args.place _ _ c.if-not-branch.true c.in_ok-is_shut.ensures.shut) c.in_ok-put.ensures.any_moment

pub returns-else-not-branch-clause-any_moment : goal.returns-else-not-branch-clause-any_moment
returns-else-not-branch-clause-any_moment g c = unchanged c.args.place _ _ c.in_ok-is_shut.ensures.kept c.requires.settled
