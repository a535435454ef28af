-- The other file stays, call after call.
use Rattle.std.proofs.Common.{◌≡◌, inl, inr, Option, None, Some, IfSome, refl, sym, ◌∙◌, subst}
use Rattle.sq_outside.specs.File.{File}
use Rattle.sq_outside.specs.Disk.{History, GoesOn, MayGoOn}
use Rattle.journal_keeper.specs.Writes.{IsOtherKept}

pub same : (before : Option History) → IsOtherKept before before
same None = refl
same (Some old) = refl

pub stays : (before new : Option History) → new ≡ before → IsOtherKept before new
stays before new is = subst (IsOtherKept before) (sym is) (same before)

pub goes : (step : File → File → Type 0) (before new : Option History) → GoesOn 0 step before new → IsOtherKept before new
goes step None new call = call
goes step (Some old) None call = absurd call
goes step (Some old) (Some new) call = call.1.other

pub may_go : (step : File → File → Type 0) (before new : Option History) → MayGoOn 0 step before new → IsOtherKept before new
may_go step before new (inl is) = stays before new is
may_go step before new (inr call) = goes step before new call

pub through : (before mid new : Option History) → IsOtherKept before mid → IsOtherKept mid new → IsOtherKept before new
through None mid new first second = subst (λ (m : Option History). IsOtherKept m new) first second
through (Some old) None new first second = absurd first
through (Some old) (Some then) None first second = absurd second
through (Some old) (Some then) (Some new) first second = second ∙ first

pub none_some : (after : History) → Some after ≡ None → ⊥
none_some after e = cc

-- a disk goes on to expose its history
pub told : (P : History → Type 0) (before new : Option History) → IsOtherKept before new → IfSome before (λ _. IfSome new P) → IfSome new P
told P None None kept h = tt
told P None (Some after) kept h = absurd (none_some after kept)
told P (Some old) new kept h = h

pub still : (X : Type 0) (old : History) (mid : Option History) → IsOtherKept (Some old) mid → IfSome mid (λ _. X) → X
still X old None kept h = absurd kept
still X old (Some then) kept h = h
