-- An image after a write was asked for is one from before it, with other bytes in the range.
use Rattle.std.proofs.Common.{◌≡◌, ◌⊎◌, inl, inr, ℕ, zero, suc, ◌+◌, ◌<◌, ◌≤◌, min, List, [], ◌∷◌, ◌++◌, length, get_or, refl, sym, ◌∙◌, arith}
use Rattle.std.proofs.lemmas.List.{get_or_append_left, get_or_past, length_push, get_or_push}
use Rattle.sq_outside.specs.File.{Unsynced, IsOutside, IsImage, IsTorn, AreBytes, in_doubt}
use Rattle.sq_outside.specs.declared.memory.range.Range.{Range}
use Rattle.sq_outside.proofs.Images.{below_or_from}

listed : (ℕ → ℕ) → ℕ → List ℕ
listed f zero = []
listed f (suc n) = listed f n ++ f n ∷ []

length-listed : (f : ℕ → ℕ) (n : ℕ) → length (listed f n) ≡ n
unfolding listed
length-listed f zero = refl
length-listed f (suc n) = omega (arith, length_push (listed f n) (f n), length-listed f n)

get_or-listed : (f : ℕ → ℕ) (n place : ℕ) → place < n → get_or (listed f n) place 0 ≡ f place
unfolding listed
get_or-listed f zero place below = absurd (omega arith)
get_or-listed f (suc n) place below = elim (below_or_from place n) [
  | inl before ↦ let long = length-listed f n in get_or_append_left (listed f n) (f n ∷ []) 0 place (omega arith) ∙ get_or-listed f n place before
  | inr from ↦ let last : place ≡ n = omega arith in rw last (get_or_push (listed f n) (f n) 0 n (length-listed f n))
]

choose : {A B : Type 0} → A ⊎ B → ℕ → ℕ → ℕ
choose (inl a) x y = x
choose (inr b) x y = y

left : {A B : Type 0} (d : A ⊎ B) (x y : ℕ) → (B → ⊥) → choose d x y ≡ x
unfolding choose
left (inl a) x y not_right = refl
left (inr b) x y not_right = absurd (not_right b)

right : {A B : Type 0} (d : A ⊎ B) (x y : ℕ) → (A → ⊥) → choose d x y ≡ y
unfolding choose
right (inl a) x y not_left = absurd (not_left a)
right (inr b) x y not_left = refl

either : {A B : Type 0} (P : ℕ → Type 0) (d : A ⊎ B) (x y : ℕ) → P x → P y → P (choose d x y)
unfolding choose
either P (inl a) x y p q = p
either P (inr b) x y p q = q

module _ (range : Range) (file : Unsynced) (bytes : AreBytes file.synced) (lengths : file.shortest ≤ file.greatest) (within : range.at ≤ file.greatest) (image : List ℕ) (is : IsImage (in_doubt range file) image) where
  -- in the range as synced
  older_byte : ℕ → ℕ
  older_byte place = choose (below_or_from place range.at) (get_or image place 0) (choose (below_or_from place (range.at + range.count)) (get_or file.synced place 0) (get_or image place 0))

  elsewhere : (place : ℕ) → (place < range.at) ⊎ (range.at + range.count ≤ place) → older_byte place ≡ get_or image place 0
  unfolding older_byte
  elsewhere place (inl before) = left (below_or_from place range.at) _ _ (λ from. omega arith)
  elsewhere place (inr past) = right (below_or_from place range.at) _ _ (λ below. omega arith) ∙ right (below_or_from place (range.at + range.count)) _ _ (λ below. omega arith)

  inside : (place : ℕ) → range.at ≤ place → place < range.at + range.count → older_byte place ≡ get_or file.synced place 0
  unfolding older_byte
  inside place from below = right (below_or_from place range.at) _ _ (λ before. omega arith) ∙ left (below_or_from place (range.at + range.count)) _ _ (λ past. omega arith)

  are_bytes : (place : ℕ) → older_byte place < 256
  unfolding older_byte
  are_bytes place = let P : ℕ → Type 0 = λ b. b < 256 in either P _ _ _ (is.bytes place) (either P _ _ _ (bytes place) (is.bytes place))

  older_length : ℕ
  older_length = min (length image) file.greatest

  older : List ℕ
  older = listed older_byte older_length

  older_long : length older ≡ min (length image) file.greatest
  unfolding older older_length
  older_long = length-listed older_byte older_length

  older_at : (place : ℕ) → place < length older → get_or older place 0 ≡ older_byte place
  unfolding older
  older_at place below = get_or-listed older_byte older_length place (let long = length-listed older_byte older_length in omega arith)

  pub torn : (image_before : List ℕ) × IsImage file image_before × IsTorn range image_before image
  torn = (
    older,
    record {
      no_shorter = let long = older_long in omega (arith, is.no_shorter);
      no_longer = let long = older_long in omega arith;
      stays = λ place below outside. let long = older_long in
          older_at place (omega (arith, is.no_shorter)) ∙ as_synced place below outside;
      bytes = λ place. elim (below_or_from place (length older)) [
        | inl below ↦ rw (older_at place below) (are_bytes place)
        | inr past ↦ rw (get_or_past older place 0 past) (omega arith)
      ];
    },
    record {
      no_shorter = let long = older_long in omega arith;
      no_longer = let long = older_long in omega (arith, is.no_longer);
      elsewhere = λ place apart. elim (below_or_from place (length older)) [
        | inl below ↦ sym (elsewhere place apart) ∙ sym (older_at place below)
        | inr past ↦ get_or_past image place 0 (ends place apart past) ∙ sym (get_or_past older place 0 past)
      ];
    },
  )
    where
      as_synced : (place : ℕ) → place < file.shortest → IsOutside file.written place → older_byte place ≡ get_or file.synced place 0
      as_synced place below outside = elim (below_or_from place range.at) [
        | inl before ↦ elsewhere place (inl before) ∙ is.stays place below (inl before, outside)
        | inr from ↦ elim (below_or_from place (range.at + range.count)) [
          | inl within_range ↦ inside place from within_range
          | inr past ↦ elsewhere place (inr past) ∙ is.stays place below (inr past, outside)
        ]
      ]

      ends : (place : ℕ) → (place < range.at) ⊎ (range.at + range.count ≤ place) → length older ≤ place → length image ≤ place
      ends place (inl before) past = let long = older_long in omega arith
      ends place (inr after) past = let long = older_long in omega (arith, is.no_longer)
