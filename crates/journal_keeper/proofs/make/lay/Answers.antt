use Rattle.sq_outside.proofs.Rising.{through}
use Rattle.journal_keeper.specs.Making.{IsUnmade}
use Rattle.journal_keeper.proofs.Making.{half_cut, cut_unsynced, cut_synced, is_cut, one_there, laying}
use Rattle.journal_keeper.proofs.make.lay.Goals as goal

pub returns-in_err-cut-clause-any_moment : goal.returns-in_err-cut-clause-any_moment
returns-in_err-cut-clause-any_moment g c = half_cut _ _ c.requires c.in_err-cut.ensures.in_doubt

pub returns-in_err-sync-clause-any_moment : goal.returns-in_err-sync-clause-any_moment
returns-in_err-sync-clause-any_moment g c = cut_unsynced _ _ c.requires _ c.in_ok-cut.ensures.cut c.in_err-sync.ensures.in_doubt

pub put-requires : goal.put-requires
put-requires g c = one_there _ (is_cut _ _ _ c.requires c.in_ok-cut.ensures.cut c.in_ok-sync.ensures.certain)

pub returns-in_err-put-clause-any_moment : goal.returns-in_err-put-clause-any_moment
returns-in_err-put-clause-any_moment g c =
    through (λ _ image. IsUnmade image.0) 0 0 0 _ _ _ (cut_synced _ _ _ c.requires c.in_ok-cut.ensures.cut c.in_ok-sync.ensures.certain)
    (laying _ _ _ (is_cut _ _ _ c.requires c.in_ok-cut.ensures.cut c.in_ok-sync.ensures.certain) c.in_err-put.ensures.other c.in_err-put.ensures.any_moment)

pub returns-clause-any_moment : goal.returns-clause-any_moment
returns-clause-any_moment g c =
    through (λ _ image. IsUnmade image.0) 0 0 0 _ _ _ (cut_synced _ _ _ c.requires c.in_ok-cut.ensures.cut c.in_ok-sync.ensures.certain)
    (laying _ _ _ (is_cut _ _ _ c.requires c.in_ok-cut.ensures.cut c.in_ok-sync.ensures.certain) c.in_ok-put.ensures.other c.in_ok-put.ensures.any_moment)
