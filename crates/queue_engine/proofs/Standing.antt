-- When an engine stands on a disk.
use Rattle.std.proofs.Common.{◌≡◌, ℕ, true, List, Option, None, Some, IfSome, ap, sym, ◌∙◌, subst}
use Rattle.job_states.specs.declared.transition.Transaction.{Transaction}
use Rattle.journal_keeper.specs.Kept.{IsKept}
use Rattle.journal_keeper.specs.Stands as keeper
use Rattle.journal_keeper.specs.Stands.{Keeper, Stands, is_read}
use Rattle.journal_replay.specs.Kept.{AreKeptFor, MayFollow, text_of}
use Rattle.journal_replay.specs.Records.{StandFor}
use Rattle.queue_engine.specs.Calls.{StaysStanding}
use Rattle.queue_engine.specs.Running.{Store}
use Rattle.queue_engine.specs.Standing.{StandsOn}
use Rattle.queue_model.specs.World.{World}
use Rattle.situation_model.specs.Situations.{Doubt}
use Rattle.sq_outside.specs.Disk.{History, Leaves}

-- what the keeper's law says of a journal that stands on a disk
abbrev pub StandsKept : Type 0
StandsKept = (journal : Keeper) (payloads : List (List ℕ)) (doubt : Option (List ℕ)) (history : History) → is_read journal.stage ≡ true → keeper.StandsOn journal payloads doubt history.now.0
    → Leaves (λ image. IsKept payloads doubt image.0) history.now

none_follow : (w : World) (txs : List Transaction) → ◌≡◌ {A = Doubt} None (Some txs) → ⊥
none_follow w txs e = cc

pub nothing_follows : (w : World) → MayFollow w None
nothing_follows w = λ txs e. absurd (none_follow w txs e)

pub stands_on : StandsKept → (s : Store) (doubt : Doubt) (history : Option History) (payloads : List (List ℕ)) → StandFor payloads s.book.world → MayFollow s.book.world doubt
    → Stands s.journal payloads (text_of doubt) history → is_read s.journal.stage ≡ true → StandsOn s doubt history
stands_on law s doubt history payloads stand_for follows stands read = record {
  payloads = payloads;
  stand_for = stand_for;
  follows = follows;
  journal = stands;
  read = read;
  kept = by history stands;
}
  where
    by : (h : Option History) → Stands s.journal payloads (text_of doubt) h → IfSome h (λ (h : History). AreKeptFor s.book.world doubt h.now)
    by None stands = tt
    by (Some h) stands = record { payloads = payloads; stand_for = stand_for; follows = follows; kept = law s.journal payloads (text_of doubt) h read stands }

-- the world and the journal are as they were
pub stays : (old new : Store) → new.book.world ≡ old.book.world → new.journal ≡ old.journal → StaysStanding old new
stays old new world journal = λ doubt history on. record {
  payloads = on.payloads;
  stand_for = subst (StandFor on.payloads) (sym world) on.stand_for;
  follows = subst (λ (w : World). MayFollow w doubt) (sym world) on.follows;
  journal = subst (λ (k : Keeper). Stands k on.payloads (text_of doubt) history) (sym journal) on.journal;
  read = ap (λ (k : Keeper). is_read k.stage) journal ∙ on.read;
  kept = subst (λ (w : World). IfSome history (λ (h : History). AreKeptFor w doubt h.now)) (sym world) on.kept;
}
