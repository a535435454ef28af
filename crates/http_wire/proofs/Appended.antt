-- Pieces that are appended one after another.
use Rattle.std.proofs.Common.{◌≡◌, ℕ, ◌+◌, ◌-◌, List, length, take, drop, sym, arith, Option}
use Rattle.std.proofs.KnownBytes.{Appends-trans, Appends-kept}
use Rattle.std.proofs.Math.Seq.{take-add}
use Rattle.std.proofs.lemmas.List.{take-append-drop}
use Rattle.std.proofs.lemmas.Grind.{common_steps}
use Rattle.std.specs.Io.KnownBytes.{Appends, Keeps}
use Rattle.http_wire.specs.Reply.{AppendsPrefix}

-- after the first n bytes of a piece, m of those after them
pub Appends-more : (old mid new : Option (List ℕ)) (n m : ℕ) (piece : List ℕ) → Appends old mid (take n piece) → Appends mid new (take m (take (length piece - n) (drop n piece)))
    → Appends old new (take (n + m) piece)
Appends-more old mid new n m piece first second =
    let later : take (length piece - n) (drop n piece) ≡ drop n piece = grind (arith, common_steps) in
    rw take-add (Appends-trans old mid new (take n piece) (take m (drop n piece)) first (rw later at second))

-- the first n bytes of a piece are a prefix of it
pub AppendsPrefix-taken : (old mid new : Option (List ℕ)) (n : ℕ) (piece : List ℕ) → Appends old mid (take n piece) → Keeps mid new → AppendsPrefix old new piece
AppendsPrefix-taken old mid new n piece first kept = record {
  prefix = take n piece;
  rest = drop n piece;
  parts = sym (take-append-drop n piece);
  added = Appends-kept old mid new (take n piece) first kept;
}

pub AppendsPrefix-more : (old mid new : Option (List ℕ)) (n m : ℕ) (piece : List ℕ) → Appends old mid (take n piece) → Appends mid new (take m (take (length piece - n) (drop n piece)))
    → AppendsPrefix old new piece
AppendsPrefix-more old mid new n m piece first second = record {
  prefix = take (n + m) piece;
  rest = drop (n + m) piece;
  parts = sym (take-append-drop (n + m) piece);
  added = Appends-more old mid new n m piece first second;
}

pub ruleset writing = (Appends-more, AppendsPrefix-taken, AppendsPrefix-more)
