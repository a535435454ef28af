-- What sixteen bytes say of their file.
use Rattle.std.proofs.Common.{◌≡◌, ℕ, zero, suc, add-one, drop-cons, ◌+◌, ◌<◌, ◌≤◌, List, [], ◌∷◌, ◌++◌, length, get_or, take, drop, refl, sym, ap, ◌∙◌, arith, lit<, length-drop, true, false, not}
use Rattle.std.specs.Int.{w32, from_be_bytes}
use Rattle.std.specs.Cmp.Lexicographic.{same_text}
use Rattle.std.specs.Str.{bytes_eq}
use Rattle.std.proofs.lemmas.Bool.{not-false}
use Rattle.std.proofs.lemmas.Nat.{be_bytes_4}
use Rattle.std.proofs.lemmas.List.{take-append-drop, take_all}
use Rattle.journal_format.specs.Header.{magic, header, EndsAsHeader}
use Rattle.journal_format.specs.Spelling.{big_endian}

-- the bytes after the first one are those of a header
pub ends_from : (bytes live : List ℕ) (turn : ℕ) → length bytes ≡ 16 → turn ≤ 2 → live ≡ header turn → true ≡ bytes_eq (take 15 (drop 1 bytes)) (take 15 (drop 1 live)) → EndsAsHeader bytes turn
ends_from bytes live turn len le is e = (
  omega arith,
  sym (take_all 15 (drop 1 bytes) (let z = length-drop 1 bytes in omega arith))
      ∙ same_text (take 15 (drop 1 bytes)) (take 15 (drop 1 live)) e ∙ ap (λ (l : List ℕ). take 15 (drop 1 l)) is,
)

-- four bytes of a longer list
four_of : (bytes : List ℕ) (i : ℕ) → i + 4 ≤ length bytes → drop i bytes ≡ get_or bytes i 0 ∷ get_or bytes (i + 1) 0 ∷ get_or bytes (i + 2) 0 ∷ get_or bytes (i + 3) 0 ∷ drop (i + 4) bytes
four_of bytes i le =
    step i (omega arith) ∙ ap (λ (l : List ℕ). get_or bytes i 0 ∷ l) (step (i + 1) (omega arith) ∙ ap (λ (l : List ℕ). get_or bytes (i + 1) 0 ∷ l) (at (i + 1 + 1) (i + 2) (omega arith)
    ∙ step (i + 2) (omega arith) ∙ ap (λ (l : List ℕ). get_or bytes (i + 2) 0 ∷ l) (at (i + 2 + 1) (i + 3) (omega arith) ∙ step (i + 3) (omega arith) ∙ ap (λ (l : List ℕ). get_or bytes (i + 3) 0 ∷ l) (at (i + 3 + 1) (i + 4) (omega arith)))))
  where
    at : (j k : ℕ) → j ≡ k → drop j bytes ≡ drop k bytes
    at j k e = ap (λ (n : ℕ). drop n bytes) e

    step : (j : ℕ) → j < length bytes → drop j bytes ≡ get_or bytes j 0 ∷ drop (j + 1) bytes
    step j lt = rw add-one (drop-cons bytes j 0 lt)

pub version_text : (bytes live : List ℕ) (n : ℕ) → length bytes ≡ 16 → ((i : ℕ) → get_or bytes i 0 < 256) → live ≡ header 0 → false ≡ not (bytes_eq (take 8 bytes) (take 8 live))
    → n ≡ from_be_bytes w32 (get_or bytes 8 0 ∷ get_or bytes 9 0 ∷ get_or bytes 10 0 ∷ get_or bytes 11 0 ∷ []) → bytes ≡ magic ++ (big_endian 4 n ++ drop 12 bytes)
version_text bytes live n len fits is e value =
    let first : take 8 bytes ≡ magic = same_text (take 8 bytes) (take 8 live) (sym (not-false (bytes_eq (take 8 bytes) (take 8 live)) (sym e))) ∙ ap (take 8) is in
    let four : List ℕ = get_or bytes 8 0 ∷ get_or bytes 9 0 ∷ get_or bytes 10 0 ∷ get_or bytes 11 0 ∷ [] in
    let same : big_endian 4 n ≡ four = be_bytes_4 four n refl small value in
    sym (take-append-drop 8 bytes) ∙ ap (λ (l : List ℕ). l ++ drop 8 bytes) first ∙ ap (λ (l : List ℕ). magic ++ l) (four_of bytes 8 (omega arith) ∙ ap (λ (l : List ℕ). l ++ drop 12 bytes) (sym same))
  where
    small : (i : ℕ) → get_or (get_or bytes 8 0 ∷ get_or bytes 9 0 ∷ get_or bytes 10 0 ∷ get_or bytes 11 0 ∷ []) i 0 < 256
    small zero = fits 8
    small (suc zero) = fits 9
    small (suc (suc zero)) = fits 10
    small (suc (suc (suc zero))) = fits 11
    small (suc (suc (suc (suc i)))) = lit< tt
