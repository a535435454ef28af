-- The one write since a sync: what is read then, and what a crash may leave.
use Rattle.std.proofs.Common.{◌≡◌, inl, inr, ℕ, ◌+◌, ◌<◌, ◌≤◌, List, [], ◌∷◌, ◌++◌, length, get_or, take, drop, refl, subst, sym, ◌∙◌, ap, arith, append_assoc, length-append, length-drop}
use Rattle.std.proofs.lemmas.List.{ext_get_or, take-append-drop, length-take-le, get_or-take, get_or-drop, get_or-append_right, get_or_append_left}
use Rattle.std.proofs.Math.Seq.{take-append_seam, drop-append-add}
use Rattle.sq_outside.specs.File.{Unsynced, IsImage, settled, in_doubt, overwritten}

pub overwritten_at : (prefix rest piece : List ℕ) → overwritten (prefix ++ rest) (length prefix) piece ≡ prefix ++ (piece ++ drop (length piece) rest)
overwritten_at prefix rest piece =
    ap (λ (l : List ℕ). l ++ piece ++ drop (length prefix + length piece) (prefix ++ rest)) (take-append_seam prefix rest)
    ∙ ap (λ (l : List ℕ). (prefix ++ piece) ++ l) (drop-append-add prefix rest (length piece))
    ∙ append_assoc prefix piece (drop (length piece) rest)

module _ (prefix more image : List ℕ) (n : ℕ) (is : IsImage (in_doubt (record { at = length prefix; count = n }) (settled (prefix ++ more)).unsynced) image) where
  total : length (prefix ++ more) ≡ length prefix + length more
  total = length-append prefix more

  abbrev changed : List ℕ
  changed = take n (drop (length prefix) image)

  in_prefix : take (length prefix) image ≡ prefix
  in_prefix =
      let t = total in
      let long = length-take-le (length prefix) image (omega (arith, is.no_shorter)) in
      ext_get_or 0 (take (length prefix) image) prefix long (λ k h.
      let below : k < length prefix = omega arith in
      get_or-take (length prefix) image k 0 below ∙ is.stays k (omega arith) (inl below, tt) ∙ get_or_append_left prefix more 0 k below)

  after : drop n (drop (length prefix) image) ≡ drop n more
  after =
      let t = total in
      let a = length-drop (length prefix) image in
      let b = length-drop n (drop (length prefix) image) in
      let c = length-drop n more in
      ext_get_or 0 (drop n (drop (length prefix) image)) (drop n more) (omega (arith, is.no_shorter, is.no_longer)) (λ k h.
      get_or-drop n (drop (length prefix) image) k 0
      ∙ get_or-drop (length prefix) image (n + k) 0
      ∙ is.stays (length prefix + (n + k)) (omega (arith, is.no_shorter, is.no_longer)) (inr (omega arith), tt)
      ∙ get_or-append_right prefix more (length prefix) (length prefix + (n + k)) 0 refl (omega arith)
      ∙ ap (λ (i : ℕ). get_or more i 0) (omega arith)
      ∙ sym (get_or-drop n more k 0))

  pub changed_within : image ≡ prefix ++ (changed ++ drop n more)
  changed_within =
      sym (take-append-drop (length prefix) image)
      ∙ ap (λ (l : List ℕ). l ++ drop (length prefix) image) in_prefix
      ∙ ap (λ (l : List ℕ). prefix ++ l) (sym (take-append-drop n (drop (length prefix) image)) ∙ ap (λ (l : List ℕ). changed ++ l) after)

  pub changed_long : n ≤ length more → length changed ≡ n
  changed_long within =
      let t = total in
      length-take-le n (drop (length prefix) image) (omega (arith, length-drop (length prefix) image, is.no_shorter))

pub record Changed (prefix more : List ℕ) (n : ℕ) (image : List ℕ) : Type 0 where
  pub bytes : List ℕ
  pub text : image ≡ prefix ++ (bytes ++ drop n more)
  pub long : n ≤ length more → length bytes ≡ n

-- a write of n bytes in a file that was synced with these bytes
pub one_write : (prefix more bytes : List ℕ) (at n : ℕ) (file : Unsynced) → bytes ≡ prefix ++ more → at ≡ length prefix → file ≡ in_doubt (record { at = at; count = n }) (settled bytes).unsynced
    → (image : List ℕ) → IsImage file image → Changed prefix more n image
one_write prefix more bytes at n file are here asked image is =
    let same : file ≡ in_doubt (record { at = length prefix; count = n }) (settled (prefix ++ more)).unsynced =
    asked ∙ ap (λ (a : ℕ). in_doubt (record { at = a; count = n }) (settled bytes).unsynced) here ∙ ap (λ (b : List ℕ). in_doubt (record { at = length prefix; count = n }) (settled b).unsynced) are in
    let fits : IsImage (in_doubt (record { at = length prefix; count = n }) (settled (prefix ++ more)).unsynced) image = subst (λ (u : Unsynced). IsImage u image) same is in
    record {
      bytes = take n (drop (length prefix) image);
      text = changed_within prefix more image n fits;
      long = changed_long prefix more image n fits;
    }

-- what is read after it
pub one_written : (prefix more bytes piece : List ℕ) (at : ℕ) → bytes ≡ prefix ++ more → at ≡ length prefix → overwritten bytes at piece ≡ prefix ++ (piece ++ drop (length piece) more)
one_written prefix more bytes piece at are here =
    ap (λ (a : ℕ). overwritten bytes a piece) here ∙ ap (λ (b : List ℕ). overwritten b (length prefix) piece) are ∙ overwritten_at prefix more piece

one_byte : (bytes : List ℕ) → length bytes ≡ 1 → (b : ℕ) × (bytes ≡ b ∷ [])
one_byte [] long = absurd (omega arith)
one_byte (b ∷ []) long = (b, refl)
one_byte (b ∷ c ∷ bytes) long = absurd (omega arith)

-- a write of one byte over another
pub gate_torn : (prefix more image : List ℕ) (closed : ℕ) → Changed prefix (closed ∷ more) 1 image → (gate : ℕ) × (image ≡ prefix ++ (gate ∷ more))
gate_torn prefix more image closed is =
    let byte = one_byte is.bytes (is.long (omega arith)) in
    (byte.0, is.text ∙ ap (λ (l : List ℕ). prefix ++ (l ++ more)) byte.1)
