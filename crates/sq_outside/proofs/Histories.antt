-- How the history of a disk goes on from call to call.
use Rattle.std.proofs.Common.{◌≡◌, ℕ, zero, suc, ◌≤◌, List, refl, sym, subst, arith}
use Rattle.sq_outside.specs.File.{File, Unsynced, IsImage, IsSound, HalfSyncs, settled}
use Rattle.sq_outside.specs.Disk.{Two, nth, Leaves, AreSound, Changes}
use Rattle.sq_outside.proofs.Images.{settled_image}

-- each image of one file
pub leaves_nth : (file : ℕ) (Q : List ℕ → Type 0) (files : Two File) → ((image : List ℕ) → IsImage (nth file files).unsynced image → Q image) → Leaves (λ image. Q (nth file image)) files
leaves_nth zero Q files h = λ image are. h image.0 are.0
leaves_nth (suc n) Q files h = λ image are. h image.1 are.1

-- what holds of each image of one file, since the other one has an image too
pub one_leaves : (file : ℕ) (Q : List ℕ → Type 0) (files : Two File) → AreSound files → Leaves (λ image. Q (nth file image)) files → (image : List ℕ) → IsImage (nth file files).unsynced image → Q image
one_leaves zero Q files sound leaves image is = leaves (image, files.1.reads) (is, sound.1.reads)
one_leaves (suc n) Q files sound leaves image is = leaves (files.0.reads, image) (sound.0.reads, is)

pub sound_nth : (file : ℕ) (files : Two File) → AreSound files → IsSound (nth file files)
sound_nth zero files sound = sound.0
sound_nth (suc n) files sound = sound.1

-- what is read is one of the images
pub read_has : (file : ℕ) (Q : List ℕ → Type 0) (files : Two File) → AreSound files → Leaves (λ image. Q (nth file image)) files → Q (nth file files).reads
read_has file Q files sound leaves = one_leaves file Q files sound leaves (nth file files).reads (sound_nth file files sound).reads

-- the one image of a file that is synced
pub synced_has : (bytes : List ℕ) (file : File) (Q : List ℕ → Type 0) → file ≡ settled bytes → Q bytes → (image : List ℕ) → IsImage file.unsynced image → Q image
synced_has bytes file Q synced here image is = subst Q (sym (settled_image bytes image (subst (λ (f : File). IsImage f.unsynced image) synced is))) here

-- files of which a crash leaves the same
same_leaves : (P : Two (List ℕ) → Type 0) (old new : Two File) → new.0.unsynced ≡ old.0.unsynced → new.1.unsynced ≡ old.1.unsynced → Leaves P old → Leaves P new
same_leaves P old new zeroth first leaves = λ image are. leaves image (subst (λ (u : Unsynced). IsImage u image.0) zeroth are.0, subst (λ (u : Unsynced). IsImage u image.1) first are.1)

unsynced_same : (old new : File) → new ≡ old → new.unsynced ≡ old.unsynced
unsynced_same old new same = subst (λ (f : File). f.unsynced ≡ old.unsynced) (sym same) refl

-- a failed sync takes nothing from what a crash leaves
pub half_synced_leaves : (file : ℕ) (P : Two (List ℕ) → Type 0) (old new : Two File) → file ≤ 1 → Changes file HalfSyncs old new → Leaves P old → Leaves P new
half_synced_leaves zero P old new small change leaves = same_leaves P old new change.this (unsynced_same old.1 new.1 change.other) leaves
half_synced_leaves (suc zero) P old new small change leaves = same_leaves P old new (unsynced_same old.0 new.0 change.other) change.this leaves
half_synced_leaves (suc (suc n)) P old new small change leaves = absurd (omega arith)
