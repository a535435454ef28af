-- The gate at the end is closed.
use Rattle.std.proofs.Common.{◌≡◌, inl, inr, ⊎_elim, ℕ, ◌≤◌, List, [], ◌∷◌, ◌++◌, length, Option, None, Some, IfSome, refl, sym, ◌∙◌, ap, subst, arith, length-append}
use Rattle.journal_format.specs.Records.{framed}
use Rattle.sq_outside.specs.File.{File, IsImage, Syncs, HalfSyncs, settled, overwritten}
use Rattle.sq_outside.specs.Disk.{Two, AreSound, History, GoesOn, MayGoOn, LeavesOnly}
use Rattle.sq_outside.proofs.Rising.{rising_here, through, only_weaker, on_sync, on_failed_sync}
use Rattle.sq_outside.proofs.Written.{overwritten_at}
use Rattle.journal_keeper.specs.Stages.{IsReclosed}
use Rattle.journal_keeper.specs.Texts.{IsClosed, IsInDoubt, Holds, IsSettled}
use Rattle.journal_keeper.specs.Writes.{IsReplaced, IsOtherKept}
use Rattle.journal_keeper.proofs.KeptLaws.{closed_long}
use Rattle.journal_keeper.proofs.Others.{told}

-- each image of file 0 reaches the gate
abbrev pub Reaches : ℕ → Option History → Type 0
Reaches gate before = IfSome before (λ h. (image : List ℕ) → IsImage h.now.0.unsynced image → gate ≤ length image)

abbrev pub Reclosing : ℕ → Option History → Option History → Type 0
Reclosing gate before after = IfSome before (λ h. LeavesOnly (λ image. IsReclosed gate h.now.0.unsynced image.0) before after)

module _ (gate : ℕ) where
  abbrev R : History → Two (List ℕ) → Type 0
  R old image = IsReclosed gate old.now.0.unsynced image.0

  begun : (old : History) → LeavesOnly (R old) (Some old) (Some old)
  begun old = rising_here (λ _. R old) 0 old (λ image are. (image.0, (are.0, inl refl)))

  pub unsynced : (before after : Option History) → MayGoOn 0 HalfSyncs before after → Reclosing gate before after
  unsynced None after call = tt
  unsynced (Some old) after call = on_failed_sync (λ _. R old) 0 0 0 (Some old) (Some old) after (omega arith) (begun old) call

  synced_run : (old : History) (mid : Option History) → AreSound old.now → GoesOn 0 Syncs (Some old) mid → LeavesOnly (R old) (Some old) mid
  synced_run old mid sound call = on_sync (λ _ file. IsReclosed gate old.now.0.unsynced file) 0 0 0 0 (Some old) (Some old) mid (omega arith) (begun old) call (old.now.0.reads, (sound.0.reads, inl refl))

  pub is_settled : (before mid : Option History) → IsOtherKept before mid → GoesOn 0 Syncs before mid → IfSome mid (λ h. IsSettled h.now.0)
  is_settled before mid other call = told (λ h. IsSettled h.now.0) before mid other (by_both before mid call)
    where
      by_both : (b m : Option History) → GoesOn 0 Syncs b m → IfSome b (λ _. IfSome m (λ h. IsSettled h.now.0))
      by_both None m c = tt
      by_both (Some old) None c = absurd c
      by_both (Some old) (Some then) c = c.1.this ∙ ap settled (sym (ap (λ (f : File). f.reads) c.1.this))

  pub is_within : (before mid : Option History) → IsOtherKept before mid → IfSome before (λ h. AreSound h.now) → Reaches gate before → GoesOn 0 Syncs before mid → IfSome mid (λ h. gate ≤ length h.now.0.reads)
  is_within before mid other sound reaches call = told (λ h. gate ≤ length h.now.0.reads) before mid other (by_both before mid sound reaches call)
    where
      by_both : (b m : Option History) → IfSome b (λ h. AreSound h.now) → Reaches gate b → GoesOn 0 Syncs b m → IfSome b (λ _. IfSome m (λ h. gate ≤ length h.now.0.reads))
      by_both None m s r c = tt
      by_both (Some old) None s r c = absurd c
      by_both (Some old) (Some then) s r c = let e = ap (λ (f : File). length f.reads) c.1.this in let l = r old.now.0.reads s.0.reads in omega (arith, e, l)

  pub reclosing : (before mid after : Option History) → IfSome before (λ h. AreSound h.now) → GoesOn 0 Syncs before mid
      → IfSome mid (λ h. LeavesOnly (λ image. IsReplaced gate h.now.0.reads image.0) mid after) → Reclosing gate before after
  reclosing None mid after sound call run = tt
  reclosing (Some old) None after sound call run = absurd call
  reclosing (Some old) (Some then) after sound call run = through (λ _. R old) 0 0 0 (Some old) (Some then) after (synced_run old (Some then) sound call)
      (only_weaker _ (R old) (Some then) after (λ image is. (old.now.0.reads, (sound.0.reads, subst (λ (f : File). IsReplaced gate f.reads image.0) call.1.this is))) run)

  pub is_closed_now : (before mid after : Option History) → IfSome before (λ h. AreSound h.now) → GoesOn 0 Syncs before mid
      → IfSome mid (λ h. IfSome after (λ new. new.now.0 ≡ settled (overwritten h.now.0.reads gate (0 ∷ []))))
      → IfSome before (λ h. IfSome after (λ new. (was : List ℕ) × (IsImage h.now.0.unsynced was × (new.now.0 ≡ settled (overwritten was gate (0 ∷ []))))))
  is_closed_now None mid after sound call shut = tt
  is_closed_now (Some old) None after sound call shut = absurd call
  is_closed_now (Some old) (Some then) None sound call shut = tt
  is_closed_now (Some old) (Some then) (Some new) sound call shut = (old.now.0.reads, (sound.0.reads, shut ∙ ap (λ (f : File). settled (overwritten f.reads gate (0 ∷ []))) call.1.this))

-- what becomes of a text's gate
module _ (text : List ℕ) where
  shut_at : (byte : ℕ) (more was : List ℕ) → was ≡ text ++ (byte ∷ more) → (new : ℕ) → overwritten was (length text) (new ∷ []) ≡ text ++ (new ∷ more)
  shut_at byte more was is new = ap (λ (l : List ℕ). overwritten l (length text) (new ∷ [])) is ∙ overwritten_at text (byte ∷ more) (new ∷ [])

  pub holds_shut : (doubt : Option (List ℕ)) (was : List ℕ) → Holds text doubt was → IsClosed text (overwritten was (length text) (0 ∷ []))
  holds_shut None was closed = record { rest = closed.rest; is = shut_at 0 closed.rest was closed.is 0 }
  holds_shut (Some payload) was (inl closed) = record { rest = closed.rest; is = shut_at 0 closed.rest was closed.is 0 }
  holds_shut (Some payload) was (inr doubt) = record { rest = framed payload ++ (0 ∷ doubt.rest); is = shut_at doubt.gate (framed payload ++ (0 ∷ doubt.rest)) was doubt.is 0 }

  closed_replaced : (was image : List ℕ) → IsClosed text was → IsReplaced (length text) was image → IsClosed text image
  closed_replaced was image closed (inl same) = subst (IsClosed text) (sym same) closed
  closed_replaced was image closed (inr other) =
      let long = closed_long text closed.rest was closed.is in
      absurd (⊎_elim (λ at_end. omega (arith, at_end, long.0)) (λ loose. loose long.1) other.0)

  pub holds_replaced : (doubt : Option (List ℕ)) (was image : List ℕ) → Holds text doubt was → IsReplaced (length text) was image → Holds text doubt image
  holds_replaced None was image closed replaced = closed_replaced was image closed replaced
  holds_replaced (Some payload) was image (inl closed) replaced = inl (closed_replaced was image closed replaced)
  holds_replaced (Some payload) was image (inr doubt) (inl same) = inr (subst (IsInDoubt text payload) (sym same) doubt)
  holds_replaced (Some payload) was image (inr doubt) (inr other) = inr (record {
    fits = doubt.fits;
    gate = other.1.0;
    rest = doubt.rest;
    is = other.1.2 ∙ shut_at doubt.gate (framed payload ++ (0 ∷ doubt.rest)) was doubt.is other.1.0;
  })

  pub holds_long : (doubt : Option (List ℕ)) (was : List ℕ) → Holds text doubt was → length text ≤ length was
  holds_long None was closed = let l = closed_long text closed.rest was closed.is in omega (arith, l.0)
  holds_long (Some payload) was (inl closed) = let l = closed_long text closed.rest was closed.is in omega (arith, l.0)
  holds_long (Some payload) was (inr doubt) = let e = ap length doubt.is in let a = length-append text (doubt.gate ∷ (framed payload ++ (0 ∷ doubt.rest))) in omega (arith, e, a)
