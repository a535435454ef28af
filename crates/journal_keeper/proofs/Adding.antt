-- A record is written after a closed gate, and then the gate is opened.
use Rattle.std.proofs.Common.{◌≡◌, inr, ℕ, ◌+◌, ◌<◌, ◌≤◌, List, [], ◌∷◌, ◌++◌, length, take, drop, Option, None, Some, IfSome, refl, sym, ◌∙◌, ap, subst, arith, append_assoc, length-append}
use Rattle.std.proofs.lemmas.List.{length-take-le}
use Rattle.journal_format.specs.Records.{framed}
use Rattle.sq_outside.specs.File.{File, Unsynced, IsImage, settled, in_doubt, overwritten}
use Rattle.sq_outside.specs.Disk.{Two, History, LeavesOnly, LeavesRising}
use Rattle.sq_outside.proofs.Rising.{only_weaker, only_rises, through, rising_up}
use Rattle.sq_outside.proofs.Written.{one_write, one_written, gate_torn}
use Rattle.journal_keeper.specs.Records.{IsPayload}
use Rattle.journal_keeper.proofs.Others.{told, still}
use Rattle.journal_keeper.specs.Writes.{IsOtherKept}
use Rattle.journal_keeper.specs.Texts.{IsClosed, IsInDoubt, IsSettled, HoldsAt, with_record}

-- while these are asked for each image of file 0 is one of the file with them in doubt
abbrev pub Putting : ℕ → ℕ → Option History → Option History → Type 0
Putting place n before new = IfSome before (λ old. LeavesOnly (λ image. IsImage (in_doubt (record { at = place; count = n }) old.now.0.unsynced) image.0) before new)

abbrev pub IsPut : ℕ → List ℕ → Option History → Option History → Type 0
IsPut place piece before new = IfSome before (λ old. IfSome new (λ after. after.now.0 ≡ settled (overwritten old.now.0.reads place piece)))

module _ (text payload piece : List ℕ) (fits : IsPayload payload) (written : piece ≡ framed payload ++ 0 ∷ []) (rest : List ℕ) where
  abbrev left : List ℕ
  left = drop (length piece) rest

  -- the record after the closed gate
  abbrev staged : List ℕ
  staged = 0 ∷ (framed payload ++ (0 ∷ left))

  gate_in : text ++ (0 ∷ rest) ≡ (text ++ 0 ∷ []) ++ rest
  gate_in = sym (append_assoc text (0 ∷ []) rest)

  after_gate : length text + 1 ≡ length (text ++ 0 ∷ [])
  after_gate = let t = length-append text (0 ∷ []) in omega (arith, t)

  torn_after : (file : Unsynced) → file ≡ in_doubt (record { at = length text + 1; count = length piece }) (settled (text ++ (0 ∷ rest))).unsynced → (image : List ℕ) → IsImage file image → IsClosed text image
  torn_after file asked image is =
      let torn = one_write (text ++ 0 ∷ []) rest (text ++ (0 ∷ rest)) (length text + 1) (length piece) file gate_in after_gate asked image is in
      record { rest = torn.bytes ++ left; is = torn.text ∙ append_assoc text (0 ∷ []) (torn.bytes ++ left) }

  staged_is : overwritten (text ++ (0 ∷ rest)) (length text + 1) piece ≡ text ++ staged
  staged_is =
      one_written (text ++ 0 ∷ []) rest (text ++ (0 ∷ rest)) piece (length text + 1) gate_in after_gate
      ∙ append_assoc text (0 ∷ []) (piece ++ left)
      ∙ ap (λ (l : List ℕ). text ++ (0 ∷ l)) (ap (λ (l : List ℕ). l ++ left) written ∙ append_assoc (framed payload) (0 ∷ []) left)

  torn_gate : (file : Unsynced) → file ≡ in_doubt (record { at = length text; count = 1 }) (settled (text ++ staged)).unsynced → (image : List ℕ) → IsImage file image → IsInDoubt text payload image
  torn_gate file asked image is =
      let byte = gate_torn text (framed payload ++ (0 ∷ left)) image 0 (one_write text staged (text ++ staged) (length text) 1 file refl refl asked image is) in
      record { fits = fits; gate = byte.0; rest = left; is = byte.1 }

  opened_is : overwritten (text ++ staged) (length text) (0x52 ∷ []) ≡ text ++ (0x52 ∷ (framed payload ++ (0 ∷ left)))
  opened_is = one_written text staged (text ++ staged) (0x52 ∷ []) (length text) refl refl

  abbrev P : ℕ → Two (List ℕ) → Type 0
  P n image = HoldsAt text payload n image.0

  module _ (old : History) (mid : Option History) (synced : IsSettled old.now.0) (here : old.now.0.reads ≡ text ++ (0 ∷ rest)) where
    settled_here : old.now.0 ≡ settled (text ++ (0 ∷ rest))
    settled_here = synced ∙ ap settled here

    first : Putting (length text + 1) (length piece) (Some old) mid → LeavesRising P 0 0 (Some old) mid
    first run = only_rises P 0 (Some old) mid (only_weaker _ (P 0) (Some old) mid (λ image is.
        torn_after (in_doubt (record { at = length text + 1; count = length piece }) old.now.0.unsynced) (ap (λ (f : File). in_doubt (record { at = length text + 1; count = length piece }) f.unsynced) settled_here) image.0 is) run)

    pub half : Putting (length text + 1) (length piece) (Some old) mid → LeavesRising P 0 1 (Some old) mid
    half run = rising_up P 0 0 1 (Some old) mid (omega arith) (first run)

    staged_there : IsPut (length text + 1) piece (Some old) mid → IfSome mid (λ then. then.now.0 ≡ settled (text ++ staged))
    staged_there put = by_mid mid put
      where
        by_mid : (m : Option History) → IsPut (length text + 1) piece (Some old) m → IfSome m (λ then. then.now.0 ≡ settled (text ++ staged))
        by_mid None p = tt
        by_mid (Some then) p = p ∙ ap (λ (l : List ℕ). settled (overwritten l (length text + 1) piece)) here ∙ ap settled staged_is

    pub whole : (new : Option History) → Putting (length text + 1) (length piece) (Some old) mid → IsPut (length text + 1) piece (Some old) mid → Putting (length text) 1 mid new → LeavesRising P 0 1 (Some old) new
    whole new run put second = through P 0 1 1 (Some old) mid new (half run) (only_rises P 1 mid new (by_mid mid (staged_there put) second))
      where
        by_mid : (m : Option History) → IfSome m (λ then. then.now.0 ≡ settled (text ++ staged)) → Putting (length text) 1 m new → LeavesOnly (P 1) m new
        by_mid None there run2 = tt
        by_mid (Some then) there run2 = only_weaker _ (P 1) (Some then) new (λ image is.
            inr (torn_gate (in_doubt (record { at = length text; count = 1 }) then.now.0.unsynced) (ap (λ (f : File). in_doubt (record { at = length text; count = 1 }) f.unsynced) there) image.0 is)) run2

    pub added : (new : Option History) → IsPut (length text + 1) piece (Some old) mid → IsPut (length text) (0x52 ∷ []) mid new → IfSome mid (λ _. IfSome new (λ after. IsSettled after.now.0 × IsClosed (with_record text payload) after.now.0.reads))
    added new put second = by_both mid new (staged_there put) second
      where
        by_both : (m n : Option History) → IfSome m (λ then. then.now.0 ≡ settled (text ++ staged)) → IsPut (length text) (0x52 ∷ []) m n → IfSome m (λ _. IfSome n (λ after. IsSettled after.now.0 × IsClosed (with_record text payload) after.now.0.reads))
        by_both None n there p = tt
        by_both (Some then) None there p = tt
        by_both (Some then) (Some after) there p =
            let now : after.now.0 ≡ settled (text ++ (0x52 ∷ (framed payload ++ (0 ∷ left)))) = p ∙ ap (λ (f : File). settled (overwritten f.reads (length text) (0x52 ∷ []))) there ∙ ap settled opened_is in
            let reads = ap (λ (f : File). f.reads) now in
            (now ∙ ap settled (sym reads), record { rest = left; is = reads ∙ sym (append_assoc text (0x52 ∷ framed payload) (0 ∷ left)) })

-- the gate stands there still
pub gate_within : (gate : ℕ) (piece : List ℕ) (before mid : Option History) → IsOtherKept before mid → IfSome before (λ h. gate < length h.now.0.reads) → IsPut (gate + 1) piece before mid → IfSome mid (λ h. gate ≤ length h.now.0.reads)
gate_within gate piece before mid other within put = told (λ h. gate ≤ length h.now.0.reads) before mid other (by_both before mid within put)
  where
    by_both : (b m : Option History) → IfSome b (λ h. gate < length h.now.0.reads) → IsPut (gate + 1) piece b m → IfSome b (λ _. IfSome m (λ h. gate ≤ length h.now.0.reads))
    by_both None m w p = tt
    by_both (Some old) None w p = tt
    by_both (Some old) (Some then) w p =
        let long = ap (λ (f : File). length f.reads) p in
        let a = length-append (take (gate + 1) old.now.0.reads ++ piece) (drop (gate + 1 + length piece) old.now.0.reads) in
        let b = length-append (take (gate + 1) old.now.0.reads) piece in
        let t = length-take-le (gate + 1) old.now.0.reads (omega (arith, w)) in
        omega (arith, long, a, b, t)

-- the same of histories that may not be exposed
module _ (gate : ℕ) (piece : List ℕ) (before mid : Option History) (synced : IfSome before (λ h. IsSettled h.now.0)) (text payload : List ℕ) (long : length text ≡ gate) (written : piece ≡ framed payload ++ 0 ∷ []) where
  abbrev Rising : Option History → Option History → Type 0
  Rising b new = IfSome b (λ h. IsClosed text h.now.0.reads → LeavesRising (λ n image. HoldsAt text payload n image.0) 0 1 b new)

  pub failed_first : IsPayload payload → Putting (gate + 1) (length piece) before mid → Rising before mid
  failed_first fits run = by_before before synced (subst (λ (k : ℕ). Putting (k + 1) (length piece) before mid) (sym long) run)
    where
      by_before : (b : Option History) → IfSome b (λ h. IsSettled h.now.0) → Putting (length text + 1) (length piece) b mid → Rising b mid
      by_before None s r = tt
      by_before (Some old) s r = λ closed. half text payload piece fits written closed.rest old mid s closed.is r

  pub both_put : IsPayload payload → (new : Option History) → Putting (gate + 1) (length piece) before mid → IsPut (gate + 1) piece before mid → Putting gate 1 mid new → Rising before new
  both_put fits new run put second = by_before before synced (subst (λ (k : ℕ). Putting (k + 1) (length piece) before mid) (sym long) run) (subst (λ (k : ℕ). IsPut (k + 1) piece before mid) (sym long) put)
    where
      by_before : (b : Option History) → IfSome b (λ h. IsSettled h.now.0) → Putting (length text + 1) (length piece) b mid → IsPut (length text + 1) piece b mid → Rising b new
      by_before None s r p = tt
      by_before (Some old) s r p = λ closed. whole text payload piece fits written closed.rest old mid s closed.is new r p (subst (λ (k : ℕ). Putting k 1 mid new) (sym long) second)

  pub is_added : IsPayload payload → (new : Option History) → IsOtherKept before mid → IsPut (gate + 1) piece before mid → IsPut gate (0x52 ∷ []) mid new
      → IfSome before (λ h. IsClosed text h.now.0.reads → IfSome new (λ after. IsSettled after.now.0 × IsClosed (with_record text payload) after.now.0.reads))
  is_added fits new other put second = by_before before synced other (subst (λ (k : ℕ). IsPut (k + 1) piece before mid) (sym long) put)
    where
      by_before : (b : Option History) → IfSome b (λ h. IsSettled h.now.0) → IsOtherKept b mid → IsPut (length text + 1) piece b mid
          → IfSome b (λ h. IsClosed text h.now.0.reads → IfSome new (λ after. IsSettled after.now.0 × IsClosed (with_record text payload) after.now.0.reads))
      by_before None s o p = tt
      by_before (Some old) s o p = λ closed. still (IfSome new (λ after. IsSettled after.now.0 × IsClosed (with_record text payload) after.now.0.reads)) old mid o
          (added text payload piece fits written closed.rest old mid s closed.is new p (subst (λ (k : ℕ). IsPut k (0x52 ∷ []) mid new) (sym long) second))
