use Rattle.std.proofs.Common.{◌≡◌, ℕ, ◌+◌, ◌-◌, ◌≤◌, List, ◌++◌, length, take, drop, sym, ◌∙◌, ap, arith, length-drop}
use Rattle.std.proofs.lemmas.List.{append-nil, drop-drop, drop_at, drop_all, take_all, length-take-le, length-take}
use Rattle.sq_outside.proofs.host.file_disk.read_all_at.Goals as goal

-- what stands after the bytes that were read is as it was
filled_more : (buf old part : List ℕ) (at n : ℕ) → at ≤ length buf → drop at buf ≡ drop at old → drop n part ≡ drop n (take (length buf - at) (drop at buf))
    → drop (at + n) (take at buf ++ (part ++ drop (length buf - at) (drop at buf))) ≡ drop (at + n) old
filled_more buf old part at n within after same =
    let rest = drop at buf in
    let long : length rest ≤ length buf - at = omega (arith, length-drop at buf) in
    sym (drop-drop n at (take at buf ++ (part ++ drop (length buf - at) rest)))
    ∙ ap (drop n) (drop_at (take at buf) (part ++ drop (length buf - at) rest) at (length-take-le at buf within)
    ∙ ap (λ (l : List ℕ). part ++ l) (drop_all (length buf - at) rest long) ∙ append-nil part)
    ∙ same ∙ ap (drop n) (take_all (length buf - at) rest long ∙ after) ∙ drop-drop n at old

pub loop-filled-preserved : goal.loop-filled-preserved
loop-filled-preserved g c =
    let filled = c.loop-filled.filled in
    let read = c.in_ok-n.ensures in
    let whole = c.loop-filled.auto.buf in
    record {
      within = omega (arith, read.within, length-take (length c.loop-filled.buf - filled) (drop filled c.loop-filled.buf), length-drop filled c.loop-filled.buf);
      after = filled_more c.loop-filled.buf c.args.buf.now c.read_some_at.new.buf filled c.in_ok-n.n (omega arith) c.loop-filled.invariant.after read.after;
    }
