-- Bytes after a write.
use Rattle.std.proofs.Common.{◌≡◌, inl, inr, ℕ, ◌+◌, ◌-◌, ◌<◌, ◌≤◌, max, List, ◌++◌, length, get_or, take, drop, ◌∙◌, ap, arith, length-append, length-drop}
use Rattle.std.proofs.lemmas.List.{length-take-le, get_or-take, get_or-drop, get_or_append_left, get_or-append_right}
use Rattle.sq_outside.specs.File.{AreBytes, overwritten}
use Rattle.sq_outside.proofs.Images.{below_or_from}

module _ (bytes piece : List ℕ) (at : ℕ) (within : at ≤ length bytes) where
  prefix_long : length (take at bytes) ≡ at
  prefix_long = length-take-le at bytes within

  joined_long : length (take at bytes ++ piece) ≡ at + length piece
  joined_long = let f = prefix_long in omega (arith, length-append (take at bytes) piece)

  pub length-overwritten : length (overwritten bytes at piece) ≡ max (length bytes) (at + length piece)
  length-overwritten = let j = joined_long in omega (arith, length-append (take at bytes ++ piece) (drop (at + length piece) bytes), length-drop (at + length piece) bytes)

  pub before_overwritten : (place : ℕ) → place < at → get_or (overwritten bytes at piece) place 0 ≡ get_or bytes place 0
  before_overwritten place below =
      let f = prefix_long in
      let j = joined_long in
      get_or_append_left (take at bytes ++ piece) (drop (at + length piece) bytes) 0 place (omega arith)
      ∙ get_or_append_left (take at bytes) piece 0 place (omega arith)
      ∙ get_or-take at bytes place 0 below

  pub within_overwritten : (place : ℕ) → place < length piece → get_or (overwritten bytes at piece) (at + place) 0 ≡ get_or piece place 0
  within_overwritten place below =
      let j = joined_long in
      get_or_append_left (take at bytes ++ piece) (drop (at + length piece) bytes) 0 (at + place) (omega arith)
      ∙ get_or-append_right (take at bytes) piece at (at + place) 0 prefix_long (omega arith)
      ∙ ap (λ (i : ℕ). get_or piece i 0) (omega arith)

  pub after_overwritten : (place : ℕ) → at + length piece ≤ place → get_or (overwritten bytes at piece) place 0 ≡ get_or bytes place 0
  after_overwritten place from =
      get_or-append_right (take at bytes ++ piece) (drop (at + length piece) bytes) (at + length piece) place 0 joined_long from
      ∙ get_or-drop (at + length piece) bytes (place - (at + length piece)) 0
      ∙ ap (λ (i : ℕ). get_or bytes i 0) (omega arith)

  pub bytes_overwritten : AreBytes bytes → AreBytes piece → AreBytes (overwritten bytes at piece)
  bytes_overwritten old added place = elim (below_or_from place at) [
    | inl before ↦ rw (before_overwritten place before) (old place)
    | inr from ↦ elim (below_or_from place (at + length piece)) [
      | inl within ↦
          let here : get_or (overwritten bytes at piece) place 0 ≡ get_or piece (place - at) 0 =
          ap (λ (i : ℕ). get_or (overwritten bytes at piece) i 0) (omega arith) ∙ within_overwritten (place - at) (omega arith) in
          rw here (added (place - at))
      | inr past ↦ rw (after_overwritten place past) (old place)
    ]
  ]
