-- When an engine stands on a disk.
use Rattle.std.specs.Prelude.{◌≡◌, ℕ, true, List, Option, IfSome}
use Rattle.journal_keeper.specs.Stands.{Stands, is_read}
use Rattle.journal_replay.specs.Kept.{AreKeptFor, MayFollow, text_of}
use Rattle.journal_replay.specs.Records.{StandFor}
use Rattle.queue_engine.specs.Running.{Store}
use Rattle.situation_model.specs.Situations.{Doubt}
use Rattle.sq_outside.specs.Disk.{History}

-- The journal stands there with records that stand for the engine's world, and with this record in doubt. The disk is kept
-- for this world and the doubt.
pub record StandsOn (s : Store) (doubt : Doubt) (history : Option History) : Type 0 where
  pub payloads : List (List ℕ)
  pub stand_for : StandFor payloads s.book.world
  pub follows : MayFollow s.book.world doubt
  pub journal : Stands s.journal payloads (text_of doubt) history
  pub read : is_read s.journal.stage ≡ true
  pub kept : IfSome history (λ h. AreKeptFor s.book.world doubt h.now)

-- with some record in doubt, or none
abbrev pub IsStanding : Store → Option History → Type 0
IsStanding s history = (doubt : Doubt) × StandsOn s doubt history
