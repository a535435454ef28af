-- A number whose bytes are all there.
use Rattle.std.proofs.Common.{◌≡◌, ℕ, zero, suc, ◌+◌, ◌-◌, ◌^◌, ◌<◌, ◌≤◌, List, [], ◌∷◌, ◌++◌, length, get_or, take, drop, replicate, Result, Ok, Err, refl, sym, ap, subst, ◌∙◌, arith, lit<, length-append, length-drop}
use Rattle.std.specs.Prelude.{if◌then◌else◌, is_ok, OnOk}
use Rattle.std.specs.Int.{w64, bytes_high_first, from_be_bytes}
use Rattle.std.proofs.lemmas.Nat.{be_bytes_8}
use Rattle.std.proofs.lemmas.List.{drop_at, take_all, take-append-drop, length-take, nil_from_length, append-nil}
use borrow.Rule.Slice.PartMut.{put_mid}
use Rattle.journal_format.specs.Reading.{number}
use Rattle.journal_format.specs.Spelling.{big_endian}
use Rattle.journal_format.proofs.TestLaws.{within-parts, within-from}
use Rattle.journal_format.proofs.PartLaws.{number_lawful}

-- the last bytes of a number are those of its low part
pub drop-big_endian : (more width n : ℕ) → drop more (bytes_high_first (more + width) n) ≡ bytes_high_first width n
drop-big_endian zero width n = ap (λ (k : ℕ). bytes_high_first k n) (let z : 0 + width ≡ width = omega arith in z)
drop-big_endian (suc more) width n = ap (λ (k : ℕ). drop (suc more) (bytes_high_first k n)) (let z : suc more + width ≡ suc (more + width) = omega arith in z) ∙ drop-big_endian more width n

pub low_bytes : (width n : ℕ) → width ≤ 8 → drop (8 - width) (bytes_high_first 8 n) ≡ big_endian width n
low_bytes width n le = ap (λ (k : ℕ). drop (8 - width) (bytes_high_first k n)) (let z : 8 ≡ 8 - width + width = omega arith in z) ∙ drop-big_endian (8 - width) width n

pub low_slice : (width n : ℕ) (bytes : List ℕ) → width ≤ 8 → bytes ≡ bytes_high_first 8 n → take (8 - (8 - width)) (drop (8 - width) bytes) ≡ big_endian width n
low_slice width n bytes le is =
    let all : take (8 - (8 - width)) (drop (8 - width) bytes) ≡ drop (8 - width) bytes = take_all (8 - (8 - width)) (drop (8 - width) bytes) (let z = length-drop (8 - width) bytes in let y : length bytes ≡ 8 = ap length is in omega arith) in
    all ∙ ap (drop (8 - width)) is ∙ low_bytes width n le

pub read_whole : (width least most n : ℕ) (bytes rest : List ℕ) → least ≤ most → most < 256 ^ width → least ≤ n → n ≤ most → bytes ≡ big_endian width n ++ rest → number width least most bytes ≡ Ok (n, rest)
read_whole width least most n bytes rest le lt low high all = ap (number width least most) all ∙ (number_lawful width least most le lt).again n rest (within-from least most n low high)

pub number_range : (width least most n : ℕ) (bytes rest : List ℕ) → least ≤ most → most < 256 ^ width → number width least most bytes ≡ Ok (n, rest) → (least ≤ n) × (n ≤ most)
number_range width least most n bytes rest le lt e = within-parts least most n ((number_lawful width least most le lt).found bytes n rest e).0

-- ---- a number whose bytes were copied to the end of eight zeros

abbrev Small : List ℕ → Type 0
Small bytes = (i : ℕ) → get_or bytes i 0 < 256

small_take : (n : ℕ) (bytes : List ℕ) → Small bytes → Small (take n bytes)
small_take zero bytes h i = lit< tt
small_take (suc n) [] h i = lit< tt
small_take (suc n) (b ∷ bytes) h zero = h 0
small_take (suc n) (b ∷ bytes) h (suc i) = small_take n bytes (λ j. h (suc j)) i

small_append : (xs ys : List ℕ) → Small xs → Small ys → Small (xs ++ ys)
small_append [] ys h k i = k i
small_append (x ∷ xs) ys h k zero = h 0
small_append (x ∷ xs) ys h k (suc i) = small_append xs ys (λ j. h (suc j)) k i

small_zeros : (n : ℕ) → Small (replicate n 0)
small_zeros zero i = lit< tt
small_zeros (suc n) zero = lit< tt
small_zeros (suc n) (suc i) = small_zeros n i

lengths : (k : ℕ) (zs : List ℕ) → length zs ≡ 8 → k ≤ 8 → (length (take k zs) ≡ k) × (length (drop (8 - k) (drop k zs)) ≡ 0)
lengths k zs e le = (let z = length-take k zs in omega arith, let y = length-drop k zs in let z = length-drop (8 - k) (drop k zs) in omega arith)

padded_number : (width n : ℕ) (head : List ℕ) → width ≤ 8 → length head ≡ width → Small head → n ≡ from_be_bytes w64 (take (8 - width) (replicate 8 0) ++ head) → big_endian width n ≡ head
padded_number width n head le size small value =
    let zeros : List ℕ = take (8 - width) (replicate 8 0) in
    let before : length zeros ≡ 8 - width = (lengths (8 - width) (replicate 8 0) refl (omega arith)).0 in
    let eight : length (zeros ++ head) ≡ 8 = let z = length-append zeros head in omega arith in
    sym (low_bytes width n le)
    ∙ ap (drop (8 - width)) (be_bytes_8 (zeros ++ head) n eight (small_append zeros head (small_take (8 - width) (replicate 8 0) (small_zeros 8)) small) value)
    ∙ drop_at zeros head (8 - width) before

pub number_at : (width n : ℕ) (bytes head rest copied : List ℕ) → width ≤ 8 → Small bytes → head ≡ take width bytes → rest ≡ drop width bytes → length head ≡ width → copied ≡ head
    → n ≡ from_be_bytes w64 (put_mid (8 - width) (8 - (8 - width)) (replicate 8 0) copied) → bytes ≡ big_endian width n ++ rest
number_at width n bytes head rest copied le small is rest_is size same value =
    let none : drop (8 - (8 - width)) (drop (8 - width) (replicate 8 0)) ≡ [] =
    nil_from_length (drop (8 - (8 - width)) (drop (8 - width) (replicate 8 0))) (lengths (8 - width) (replicate 8 0) refl (omega arith)).1 in
    let padded : put_mid (8 - width) (8 - (8 - width)) (replicate 8 0) copied ≡ take (8 - width) (replicate 8 0) ++ head =
    ap (λ (l : List ℕ). take (8 - width) (replicate 8 0) ++ l) (ap (λ (l : List ℕ). copied ++ l) none ∙ append-nil copied ∙ same) in
    let number_is : big_endian width n ≡ head =
    padded_number width n head le size (subst Small (sym is) (small_take width bytes small)) (value ∙ ap (from_be_bytes w64) padded) in
    sym (take-append-drop width bytes) ∙ ap (λ (l : List ℕ). l ++ drop width bytes) (sym is ∙ sym number_is) ∙ ap (λ (l : List ℕ). big_endian width n ++ l) (sym rest_is)

-- what was appended, where it was
pub on_ok : {T E : Type 0} (r : Result T E) (new old appended same : List ℕ) → new ≡ (if is_ok r then old ++ appended else old) → appended ≡ same → OnOk r (new ≡ old ++ same)
on_ok (Ok x) new old appended same e is = e ∙ ap (λ (bytes : List ℕ). old ++ bytes) is
on_ok (Err d) new old appended same e is = tt
