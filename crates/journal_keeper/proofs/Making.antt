-- File 0 is made: what a crash leaves after each call.
use Rattle.std.proofs.Common.{◌≡◌, inl, inr, ℕ, ◌≤◌, List, [], ◌∷◌, length, get_or, take, drop, Option, None, Some, IfSome, refl, ◌∙◌, ap, subst, arith}
use Rattle.sq_outside.specs.File.{File, IsImage, Cuts, HalfCuts, Syncs, HalfSyncs, settled, shortened, in_doubt}
use Rattle.sq_outside.specs.Disk.{Two, History, GoesOn, MayGoOn, LeavesOnly}
use Rattle.sq_outside.proofs.Images.{settled_image}
use Rattle.sq_outside.proofs.Rising.{begin, through, only_weaker, on_cut, on_failed_cut, on_sync, on_failed_sync}
use Rattle.sq_outside.proofs.Written.{one_write, gate_torn}
use Rattle.journal_keeper.specs.Making.{new_journal, IsUnmade, IsMaking}
use Rattle.journal_keeper.specs.Writes.{IsReplaced, IsOtherKept}
use Rattle.journal_keeper.proofs.Others.{told}

abbrev P : Two (List ℕ) → Type 0
P image = IsUnmade image.0

abbrev Q : ℕ → List ℕ → Type 0
Q n file = IsUnmade file

-- the file is synced, and begins with `00`
abbrev pub IsZeroed : Option History → Type 0
IsZeroed h = IfSome h (λ h. (rest : List ℕ) × (h.now.0 ≡ settled (0 ∷ rest)))

begun : (before : Option History) → IsZeroed before → LeavesOnly P before before
begun None zeroed = tt
begun (Some old) zeroed = begin (λ _. P) 0 (Some old) (λ image are.
    ap (λ (l : List ℕ). get_or l 0 0) (settled_image (0 ∷ zeroed.0) image.0 (subst (λ (f : File). IsImage f.unsynced image.0) zeroed.1 are.0)))

cut_has : (before : Option History) → IsZeroed before → IfSome before (λ old. (image : List ℕ) → IsImage (shortened 1 old.now.0.unsynced) image → IsUnmade image)
cut_has None zeroed = tt
cut_has (Some old) zeroed = λ image is.
    let there = subst (λ (f : File). IsImage (shortened 1 f.unsynced) image) zeroed.1 is in
    there.stays 0 (omega arith) tt

module _ (before mid : Option History) (zeroed : IsZeroed before) where
  pub half_cut : MayGoOn 0 (HalfCuts 1) before mid → LeavesOnly P before mid
  half_cut call = on_failed_cut Q 0 0 0 0 before before mid (omega arith) (begun before zeroed) 1 call (cut_has before zeroed)

  cut_made : GoesOn 0 (Cuts 1) before mid → LeavesOnly P before mid
  cut_made call = on_cut Q 0 0 0 0 before before mid (omega arith) (begun before zeroed) 1 call (cut_has before zeroed)

  pub cut_unsynced : (new : Option History) → GoesOn 0 (Cuts 1) before mid → MayGoOn 0 HalfSyncs mid new → LeavesOnly P before new
  cut_unsynced new cut call = on_failed_sync (λ _. P) 0 0 0 before mid new (omega arith) (cut_made cut) call

one_left : (before mid : Option History) → IsZeroed before → GoesOn 0 (Cuts 1) before mid → IfSome mid (λ then. then.now.0.reads ≡ 0 ∷ [])
one_left None None zeroed cut = tt
one_left None (Some then) zeroed cut = absurd (let e : Some then ≡ None = cut in cc)
one_left (Some old) None zeroed cut = absurd cut
one_left (Some old) (Some then) zeroed cut = cut.1.this.reads ∙ ap (λ (f : File). take 1 f.reads) zeroed.1

synced_left : (mid new : Option History) → IfSome mid (λ then. then.now.0.reads ≡ 0 ∷ []) → GoesOn 0 Syncs mid new → IfSome new (λ h. h.now.0 ≡ settled (0 ∷ []))
synced_left None None left sync = tt
synced_left None (Some now) left sync = absurd (let e : Some now ≡ None = sync in cc)
synced_left (Some then) None left sync = absurd sync
synced_left (Some then) (Some now) left sync = sync.1.this ∙ ap settled left

pub is_cut : (before mid new : Option History) → IsZeroed before → GoesOn 0 (Cuts 1) before mid → GoesOn 0 Syncs mid new → IfSome new (λ h. h.now.0 ≡ settled (0 ∷ []))
is_cut before mid new zeroed cut sync = synced_left mid new (one_left before mid zeroed cut) sync

pub one_there : (h : Option History) → IfSome h (λ h. h.now.0 ≡ settled (0 ∷ [])) → IfSome h (λ h. 1 ≤ length h.now.0.reads)
one_there None is = tt
one_there (Some h) is = let e = ap (λ (f : File). length f.reads) is in omega (arith, e)

zero_reads : (mid : Option History) → IfSome mid (λ then. then.now.0.reads ≡ 0 ∷ []) → IfSome mid (λ then. IsUnmade then.now.0.reads)
zero_reads None left = tt
zero_reads (Some then) left = ap (λ (l : List ℕ). get_or l 0 0) left

pub cut_synced : (before mid new : Option History) → IsZeroed before → GoesOn 0 (Cuts 1) before mid → GoesOn 0 Syncs mid new → LeavesOnly P before new
cut_synced before mid new zeroed cut sync = on_sync Q 0 0 0 0 before mid new (omega arith) (cut_made before mid zeroed cut) sync (zero_reads mid (one_left before mid zeroed cut))

-- what is written after the first byte leaves it
pub laying : (n : ℕ) (before new : Option History) → IfSome before (λ h. h.now.0 ≡ settled (0 ∷ [])) → IsOtherKept before new
    → IfSome before (λ old. LeavesOnly (λ image. IsImage (in_doubt (record { at = 1; count = n }) old.now.0.unsynced) image.0) before new) → LeavesOnly P before new
laying n None new is other run = tt
laying n (Some old) new is other run = only_weaker _ P (Some old) new (λ image are.
    let there = subst (λ (f : File). IsImage (in_doubt (record { at = 1; count = n }) f.unsynced) image.0) is are in
    there.stays 0 (omega arith) (inl (omega arith), tt)) run

-- one run of writes after another
pub join : (P : History → Two (List ℕ) → Type 0) (before mid new : Option History) → IfSome before (λ old. LeavesOnly (P old) before mid) → ((old : History) → LeavesOnly (P old) mid new) → IfSome before (λ old. LeavesOnly (P old) before new)
join P None mid new first second = tt
join P (Some old) mid new first second = through (λ _. P old) 0 0 0 (Some old) mid new first (second old)

abbrev Made : History → Two (List ℕ) → Type 0
Made old image = IsMaking old.now.0.reads image.0

pub closing : (before mid : Option History) → IfSome before (λ old. LeavesOnly (λ image. IsReplaced 0 old.now.0.reads image.0) before mid) → IfSome before (λ old. LeavesOnly (Made old) before mid)
closing None mid run = tt
closing (Some old) mid run = only_weaker _ (Made old) (Some old) mid (λ image is. inl is) run

pub laid : (before mid then : Option History) → IfSome before (λ old. LeavesOnly (λ image. IsReplaced 0 old.now.0.reads image.0) before mid) → LeavesOnly P mid then → IfSome before (λ old. LeavesOnly (Made old) before then)
laid before mid then first second = join Made before mid then (closing before mid first) (λ old. only_weaker P (Made old) mid then (λ image is. inr (inl is)) second)

opening : (then new : Option History) (old : History) → IfSome then (λ h. h.now.0 ≡ settled (0 ∷ drop 1 new_journal))
    → IfSome then (λ h. LeavesOnly (λ image. IsImage (in_doubt (record { at = 0; count = 1 }) h.now.0.unsynced) image.0) then new) → LeavesOnly (Made old) then new
opening None new old is run = tt
opening (Some h) new old is run = only_weaker _ (Made old) (Some h) new (λ image are.
    let there = subst (λ (f : File). IsImage (in_doubt (record { at = 0; count = 1 }) f.unsynced) image.0) is are in
    inr (inr (gate_torn [] (drop 1 new_journal) image.0 0 (one_write [] (0 ∷ drop 1 new_journal) (0 ∷ drop 1 new_journal) 0 1 _ refl refl refl image.0 there)))) run

pub begun_anew : (before mid then new : Option History) → IfSome before (λ old. LeavesOnly (λ image. IsReplaced 0 old.now.0.reads image.0) before mid) → LeavesOnly P mid then
    → IfSome then (λ h. h.now.0 ≡ settled (0 ∷ drop 1 new_journal)) → IfSome then (λ h. LeavesOnly (λ image. IsImage (in_doubt (record { at = 0; count = 1 }) h.now.0.unsynced) image.0) then new)
    → IfSome before (λ old. LeavesOnly (Made old) before new)
begun_anew before mid then new first second is third = join Made before then new (laid before mid then first second) (λ old. opening then new old is third)

pub laid_is : (mid then : Option History) → IsOtherKept mid then → IfSome mid (λ _. IfSome then (λ h. h.now.0 ≡ settled (0 ∷ drop 1 new_journal))) → IfSome then (λ h. h.now.0 ≡ settled (0 ∷ drop 1 new_journal))
laid_is mid then other is = told (λ h. h.now.0 ≡ settled (0 ∷ drop 1 new_journal)) mid then other is
