-- The records after open gates are one list for a text.
use Rattle.std.proofs.Common.{◌≡◌, ℕ, true, false, List, [], ◌∷◌, ◌++◌, length, take, drop, refl, sym, ap, ◌∙◌, append_assoc, lit≤, lit<}
use Rattle.std.proofs.Math.Seq.{take-append_seam, drop-append_seam}
use Rattle.std.proofs.lemmas.List.Elements.{recursion_from_All}
use Rattle.std.specs.List.{AllByRecursion}
use Rattle.job_states.specs.Length.{is_within}
use Rattle.journal_format.specs.Reading.{number}
use Rattle.journal_format.specs.Records.{framed, records, is_closed, HoldsRecords}
use Rattle.journal_format.specs.Spelling.{big_endian}
use Rattle.journal_format.proofs.Lawful.{ok_parts}
use Rattle.journal_format.proofs.PartLaws.{number_lawful}

abbrev IsLength : List ℕ → Type 0
IsLength payload = is_within 1 16_777_216 (length payload) ≡ true

seam : (p q x y : List ℕ) → length p ≡ length q → p ++ x ≡ q ++ y → (p ≡ q) × (x ≡ y)
seam p q x y len e = (
  sym (take-append_seam p x) ∙ ap (take (length p)) e ∙ ap (λ (n : ℕ). take n (q ++ y)) len ∙ take-append_seam q y,
  sym (drop-append_seam p x) ∙ ap (drop (length p)) e ∙ ap (λ (n : ℕ). drop n (q ++ y)) len ∙ drop-append_seam q y,
)

pub frame_once : (p q x y : List ℕ) → IsLength p → IsLength q → framed p ++ x ≡ framed q ++ y → (p ≡ q) × (x ≡ y)
frame_once p q x y fit_p fit_q e =
    let L = number_lawful 4 1 16_777_216 (lit≤ tt) (lit< tt) in
    let one = L.again (length p) (p ++ x) fit_p in
    let two = L.again (length q) (q ++ y) fit_q in
    let same : big_endian 4 (length p) ++ (p ++ x) ≡ big_endian 4 (length q) ++ (q ++ y) = sym (append_assoc (big_endian 4 (length p)) p x) ∙ e ∙ append_assoc (big_endian 4 (length q)) q y in
    let parts = ok_parts (length p) (length q) (p ++ x) (q ++ y) (sym one ∙ ap (number 4 1 16_777_216) same ∙ two) in
    seam p q x y parts.0 parts.1

not_closed : (x y : List ℕ) → is_closed x ≡ true → x ≡ 0x52 ∷ y → ⊥
not_closed x y closed is = let z : true ≡ false = sym closed ∙ ap is_closed is in cc

tail_is : (x y : List ℕ) → 0x52 ∷ x ≡ 0x52 ∷ y → x ≡ y
tail_is x y e = cc

records_once : (ps qs : List (List ℕ)) (x y : List ℕ) → AllByRecursion IsLength ps → AllByRecursion IsLength qs → is_closed x ≡ true → is_closed y ≡ true → records ps ++ x ≡ records qs ++ y → ps ≡ qs
records_once [] [] x y hp hq cx cy e = refl
records_once [] (q ∷ qs) x y hp hq cx cy e = absurd (not_closed x _ cx e)
records_once (p ∷ ps) [] x y hp hq cx cy e = absurd (not_closed y _ cy (sym e))
records_once (p ∷ ps) (q ∷ qs) x y hp hq cx cy e =
    let rest : framed p ++ (records ps ++ x) ≡ framed q ++ (records qs ++ y) = sym (append_assoc (framed p) (records ps) x) ∙ tail_is _ _ e ∙ append_assoc (framed q) (records qs) y in
    let parts = frame_once p q (records ps ++ x) (records qs ++ y) hp.0 hq.0 rest in
    let others = records_once ps qs x y hp.1 hq.1 cx cy parts.1 in
    ap (λ (l : List ℕ). l ∷ ps) parts.0 ∙ ap (λ (ls : List (List ℕ)). q ∷ ls) others

pub records_unique : (text : List ℕ) (a b : List (List ℕ)) → HoldsRecords text a → HoldsRecords text b → a ≡ b
records_unique text a b h k = records_once a b h.rest k.rest (recursion_from_All IsLength a h.lengths) (recursion_from_All IsLength b k.lengths) h.closed k.closed (sym h.text_is ∙ k.text_is)
