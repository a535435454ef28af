use Rattle.std.proofs.Common.{Bool, true, false, not, refl, subst, sym}
use Rattle.std.specs.Prelude.{IsTrue}
use Rattle.sq_outside.specs.File.{File, IsOutside}
use Rattle.sq_outside.proofs.Outside.{within_not_outside}
use Rattle.sq_outside.proofs.memory.file.MemFile.is_certain.Goals as goal

refuted : (b : Bool) → (IsTrue b → ⊥) → IsTrue (not b)
refuted true denied = absurd (denied refl)
refuted false denied = refl

pub returns-then-place-self : goal.returns-then-place-self
returns-then-place-self c = λ below outside. refuted _ (λ within.
    within_not_outside c.deref.result.now c.args.place (c.is_within.ensures.0 within)
    (rw c.deref.ensures.value (subst (λ (f : File). IsOutside f.unsynced.written c.args.place) (sym c.self.view_is) outside)))
