-- One byte of a synced file is written.
use Rattle.std.proofs.Common.{◌≡◌, inl, inr, Bool, true, false, MatchBool, ℕ, zero, suc, ◌+◌, ◌-◌, ◌<◌, ◌≤◌, List, [], ◌∷◌, ◌++◌, length, get_or, take, drop, Option, None, Some, IfSome, refl, sym, ◌∙◌, ap, subst, arith, append_assoc, length-append, length-drop}
use Rattle.std.proofs.lemmas.List.{take-append-drop, length-take-le, get_or-append_right}
use Rattle.std.proofs.Math.Seq.{drop-append-add}
use Rattle.sq_outside.specs.File.{File, IsImage, settled, in_doubt}
use Rattle.sq_outside.specs.Disk.{History, LeavesOnly}
use Rattle.sq_outside.proofs.Images.{settled_image}
use Rattle.sq_outside.proofs.Rising.{rising_here, only_weaker}
use Rattle.sq_outside.proofs.Written.{one_write}
use Rattle.journal_keeper.specs.Kept.{IsAjar}
use Rattle.journal_keeper.specs.Texts.{IsSettled}
use Rattle.journal_keeper.specs.Writes.{IsReplaced}

module _ (reads : List ℕ) (place : ℕ) (within : place ≤ length reads) (ajar : IsAjar place reads) where
  prefix_long : length (take place reads) ≡ place
  prefix_long = length-take-le place reads within

  module _ (image : List ℕ) (is : IsImage (in_doubt (record { at = place; count = 1 }) (settled reads).unsynced) image) where
    whole : drop 1 (drop place reads) ≡ drop (place + 1) reads
    whole = sym at_seam ∙ ap (λ (l : List ℕ). drop (place + 1) l) (take-append-drop place reads)
      where
        at_seam : drop (place + 1) (take place reads ++ drop place reads) ≡ drop 1 (drop place reads)
        at_seam = ap (λ (k : ℕ). drop (k + 1) (take place reads ++ drop place reads)) (sym prefix_long) ∙ drop-append-add (take place reads) (drop place reads) 1

    by_bytes : (bytes : List ℕ) → image ≡ take place reads ++ (bytes ++ drop 1 (drop place reads)) → (1 ≤ length (drop place reads) → length bytes ≡ 1) → IsReplaced place reads image
    by_bytes [] text long =
        inl (text ∙ ap (λ (l : List ℕ). take place reads ++ l) (nothing (drop place reads) long) ∙ take-append-drop place reads)
      where
        nothing : (l : List ℕ) → (1 ≤ length l → zero ≡ suc zero) → drop 1 l ≡ l
        nothing [] h = refl
        nothing (x ∷ l) h = absurd (let e = h (omega arith) in omega (arith, e))
    by_bytes (byte ∷ []) text long = inr (ajar, (byte, small, text ∙ sym (append_assoc (take place reads) (byte ∷ []) (drop 1 (drop place reads))) ∙ ap (λ (l : List ℕ). (take place reads ++ byte ∷ []) ++ l) whole))
      where
        small : byte < 256
        small =
            let none : place - place ≡ 0 = omega arith in
            let here : get_or image place 0 ≡ byte =
            ap (λ (l : List ℕ). get_or l place 0) text ∙ get_or-append_right (take place reads) (byte ∷ drop 1 (drop place reads)) place place 0 prefix_long (omega arith) ∙ ap (λ (k : ℕ). get_or (byte ∷ drop 1 (drop place reads)) k 0) none in
            subst (λ (b : ℕ). b < 256) here (is.bytes place)
    by_bytes (byte ∷ other ∷ more) text long = absurd (
        let p = prefix_long in
        let d = length-drop place reads in
        let e = length-drop 1 (drop place reads) in
        let t = ap length text in
        let a = length-append (take place reads) ((byte ∷ other ∷ more) ++ drop 1 (drop place reads)) in
        let b = length-append (byte ∷ other ∷ more) (drop 1 (drop place reads)) in
        omega (arith, is.no_longer, t, a, b, d, e, p))

    pub replaced : IsReplaced place reads image
    replaced =
        let torn = one_write (take place reads) (drop place reads) reads place 1 (in_doubt (record { at = place; count = 1 }) (settled reads).unsynced) (sym (take-append-drop place reads)) (sym prefix_long) refl image is in
        by_bytes torn.bytes torn.text torn.long

-- the same of the files of a disk
pub putting : (place : ℕ) (before mid new : Option History) → mid ≡ before → IfSome before (λ old. IsSettled old.now.0) → IfSome before (λ old. place ≤ length old.now.0.reads) → IfSome before (λ old. place ≤ length old.now.0.reads → IsAjar place old.now.0.reads)
    → IfSome mid (λ old. LeavesOnly (λ image. IsImage (in_doubt (record { at = place; count = 1 }) old.now.0.unsynced) image.0) mid new)
    → IfSome before (λ old. LeavesOnly (λ image. IsReplaced place old.now.0.reads image.0) before new)
putting place None mid new same synced within ajar run = tt
putting place (Some old) None new same synced within ajar run = let e : Some old ≡ None = sym same in cc
putting place (Some old) (Some then) new same synced within ajar run =
    let back = subst (λ (h : Option History). IfSome h (λ then. LeavesOnly (λ image. IsImage (in_doubt (record { at = place; count = 1 }) then.now.0.unsynced) image.0) h new)) same run in
    only_weaker _ _ (Some old) new (λ image is.
    replaced old.now.0.reads place within (ajar within) image.0 (subst (λ (f : File). IsImage (in_doubt (record { at = place; count = 1 }) f.unsynced) image.0) synced is)) back

pub unchanged : (place : ℕ) (before new : Option History) → new ≡ before → IfSome before (λ old. IsSettled old.now.0) → IfSome before (λ old. LeavesOnly (λ image. IsReplaced place old.now.0.reads image.0) before new)
unchanged place None new same synced = tt
unchanged place (Some old) new same synced = subst (LeavesOnly (λ image. IsReplaced place old.now.0.reads image.0) (Some old)) (sym same)
    (rising_here (λ _ image. IsReplaced place old.now.0.reads image.0) 0 old (λ image are. inl (settled_image old.now.0.reads image.0 (subst (λ (f : File). IsImage f.unsynced image.0) synced are.0))))

-- what a byte that isn't `00` says
pub ajar_by : (place : ℕ) (before : Option History) (shut : Bool) → shut ≡ false
    → IfSome before (λ h. MatchBool shut ((place < length h.now.0.reads) × (get_or h.now.0.reads place 0 ≡ 0)) (place ≤ length h.now.0.reads → IsAjar place h.now.0.reads))
    → IfSome before (λ h. place ≤ length h.now.0.reads → IsAjar place h.now.0.reads)
ajar_by place before true other h = absurd (let e : true ≡ false = other in cc)
ajar_by place before false other h = h
