-- What the images of one file have in common.
use Rattle.std.proofs.Common.{◌≡◌, ◌⊎◌, inl, inr, ⊎_elim, ℕ, zero, suc, ◌<◌, ◌≤◌, List, length, get_or, take, sym, ◌∙◌, arith}
use Rattle.std.proofs.lemmas.List.{ext_get_or, length-take-le, get_or-take}
use Rattle.sq_outside.specs.File.{IsImage, settled}

pub below_or_from : (k n : ℕ) → (k < n) ⊎ (n ≤ k)
below_or_from k zero = inr (omega arith)
below_or_from zero (suc n) = inl (omega arith)
below_or_from (suc k) (suc n) = ⊎_elim (λ below. inl (omega arith)) (λ from. inr (omega arith)) (below_or_from k n)

-- bytes that are alike place by place
pub same_prefix : (n : ℕ) (xs ys : List ℕ) → n ≤ length xs → n ≤ length ys → ((place : ℕ) → place < n → get_or xs place 0 ≡ get_or ys place 0) → take n xs ≡ take n ys
same_prefix n xs ys long_xs long_ys same =
    let xs_long = length-take-le n xs long_xs in
    let ys_long = length-take-le n ys long_ys in
    ext_get_or 0 (take n xs) (take n ys) (xs_long ∙ sym ys_long)
    (λ place h. let below : place < n = omega arith in get_or-take n xs place 0 below ∙ same place below ∙ sym (get_or-take n ys place 0 below))

-- a file that is settled has one image
pub settled_image : (bytes image : List ℕ) → IsImage (settled bytes).unsynced image → image ≡ bytes
settled_image bytes image is =
    let long : length image ≡ length bytes = omega (arith, is.no_shorter, is.no_longer) in
    ext_get_or 0 image bytes long (λ place h. is.stays place (omega arith) tt)
