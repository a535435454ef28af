-- What a stream exposes of itself.
use Rattle.std.specs.Prelude.{ℕ, List, Option}

pub record SourceState : Type 0 where
  -- the bytes that are left, where the source exposes them
  pub left : Option (List ℕ)
  -- how many calls have failed, up to the greatest u64
  pub faults : ℕ

pub record SinkState : Type 0 where
  -- the bytes that were written, where the sink exposes them
  pub written : Option (List ℕ)
  -- how many calls have failed or taken nothing, up to the greatest u64
  pub faults : ℕ
