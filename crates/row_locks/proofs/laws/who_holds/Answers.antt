use Rattle.row_locks.proofs.Takings.{compatible, holds_filter, holds_more}
use Rattle.row_locks.proofs.laws.who_holds.Goals as goal

pub returns : goal.returns
returns c = record {
  taken = λ old new seat rows takes. holds_more old new seat rows takes.taken;
  freed = λ locks seat by row mode. holds_filter seat locks by row mode;
  compatible = compatible;
}
