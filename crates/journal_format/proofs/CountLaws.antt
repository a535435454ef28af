-- The counts of a row: no two of their lists are the same.
use Rattle.std.proofs.Common.{◌≡◌, ℕ, zero, suc, ◌+◌, ◌-◌, ◌<◌, ◌≤◌, Bool, true, false, not, ◌||◌, cond, leb, List, [], ◌∷◌, ◌++◌, length, drop, Ok, Err, refl, sym, ap, subst, ◌∙◌, arith, lit≤, lit<, inl, inr, length-append}
use Rattle.std.specs.Str.{IsUtf8, is_utf8, bytes_eq}
use Rattle.std.specs.List.{flat_map, list_all, AllByRecursion}
use Rattle.std.proofs.lemmas.Bool.{and_from, and_parts, or_from, or_parts, not_from_false, not-true, false_from_ne_true}
use Rattle.std.proofs.lemmas.List.{drop_at, nil_from_length, append_cancel_right}
use Rattle.std.proofs.lemmas.Str.{IsUtf8-from_is_utf8, is_utf8-from_IsUtf8}
use Rattle.std.proofs.lemmas.List.Folds.{list_any-append}
use Rattle.std.proofs.lemmas.Slice.Eq.{bytes_eq-Decides}
use Rattle.job_states.specs.declared.job.Counted.{Counted}
use Rattle.job_states.specs.Length.{is_within}
use Rattle.job_states.specs.Ranges.{is_counted, are_counts, texts_of_counts}
use Rattle.job_states.specs.Texts.{is_among, are_apart}
use Rattle.journal_format.specs.Reading.{Read, given, prepend}
use Rattle.journal_format.specs.Spelling
use Rattle.journal_format.specs.Spelling.{big_endian, counted}
use Rattle.journal_format.specs.Utf8.{text_of}
use Rattle.journal_format.specs.Grammar.{other_text, counted_at, counts_after, counts_at}
use Rattle.journal_format.proofs.TestLaws.{Passes, parts3, from3, within-parts, within_zero-parts, within_zero-from}
use Rattle.journal_format.proofs.Lawful.{Lawful, IsStuck, IsMadeOf, both_lawful, made_lawful, given_lawful, fits_lawful, both_fit, bind_ok, bind_err, ok_parts}
use Rattle.journal_format.proofs.TextLaws.{itself}
use Rattle.journal_format.proofs.Utf8Laws.{utf8_from_ends}
use Rattle.journal_format.proofs.PartLaws.{most_lawful, text_lawful, then_lawful, sized_lawful}
use Rattle.journal_format.proofs.TextFans.{Fan, stops_fan, reads_fan, fan}
use Rattle.journal_format.proofs.Pigeonholes.{one_outside}

-- the text is none of these
abbrev IsOther : List (List ℕ) → List ℕ → Type 0
IsOther texts t = is_among texts t ≡ false

abbrev IsOtherText : List (List ℕ) → ℕ → List ℕ → Type 0
IsOtherText texts len t = (length t ≡ len) × IsUtf8 t × IsOther texts t

abbrev checked : List (List ℕ) → List ℕ → List ℕ × List ℕ → Read (List ℕ)
checked texts at_last t = cond (is_among texts t.0) (Err at_last) (Ok t)

-- some text goes on from here that is none of these
pub record Other (texts : List (List ℕ)) (prefix : List ℕ) (len : ℕ) : Type 0 where
  pub more : List ℕ
  pub is : IsOtherText texts len (prefix ++ more)

other_of : (texts : List (List ℕ)) (prefix : List ℕ) (len : ℕ) → length texts < 32 → Fan prefix len 0 0x80 0xBF → Other texts prefix len
other_of texts prefix len lt f =
    let k = one_outside texts 32 (λ i. prefix ++ f.more i) (λ i j il jl e. f.apart i j e) lt in
    let e = f.ends k.0 k.1 in
    record { more = f.more k.0; is = (e.0, utf8_from_ends (prefix ++ f.more k.0) e.1, k.2) }

checked_ok : (texts : List (List ℕ)) (at_last t rest u v : List ℕ) → checked texts at_last (t, rest) ≡ Ok (u, v) → (is_among texts t ≡ false) × (t ≡ u) × (rest ≡ v)
checked_ok texts at_last t rest u v e = by (is_among texts t) refl e
  where
    by : (b : Bool) → is_among texts t ≡ b → cond b (Err at_last) (let r : Read (List ℕ) = Ok (t, rest) in r) ≡ Ok (u, v) → (is_among texts t ≡ false) × (t ≡ u) × (rest ≡ v)
    by true is h = absurd cc
    by false is h = let p = ok_parts t u rest v h in (is, p.0, p.1)

checked_err : (texts : List (List ℕ)) (at_last t rest d : List ℕ) → checked texts at_last (t, rest) ≡ Err d → (is_among texts t ≡ true) × (at_last ≡ d)
checked_err texts at_last t rest d e = by (is_among texts t) refl e
  where
    by : (b : Bool) → is_among texts t ≡ b → cond b (Err at_last) (let r : Read (List ℕ) = Ok (t, rest) in r) ≡ Err d → (is_among texts t ≡ true) × (at_last ≡ d)
    by true is h = (is, cc)
    by false is h = absurd cc

other_found : (texts : List (List ℕ)) (len : ℕ) (bytes t rest : List ℕ) → other_text texts len bytes ≡ Ok (t, rest) → IsOtherText texts len t × (bytes ≡ itself t ++ rest)
unfolding other_text
other_found texts len bytes t rest e =
    let x = bind_ok (text_of len bytes) (checked texts (drop (len - 1) bytes)) (t, rest) e in
    let c = checked_ok texts (drop (len - 1) bytes) x.0.0 x.0.1 t rest x.2 in
    let f = (text_lawful len).found bytes x.0.0 x.0.1 x.1 in
    (subst (λ (y : List ℕ). IsOtherText texts len y) c.1 (f.0.0, f.0.1, c.0), f.1 ∙ ap (λ (y : List ℕ). y ++ x.0.1) c.1 ∙ ap (λ (y : List ℕ). t ++ y) c.2)

other_again : (texts : List (List ℕ)) (len : ℕ) (t rest : List ℕ) → IsOtherText texts len t → other_text texts len (itself t ++ rest) ≡ Ok (t, rest)
unfolding other_text
other_again texts len t rest fit = rw ((text_lawful len).again t rest (fit.0, fit.1)) (rw fit.2 refl)

-- a list that is longer begins with no text of its own length but itself
ends_here : (prefix : List ℕ) (b last len : ℕ) (a more : List ℕ) → length a ≡ len → length (prefix ++ last ∷ []) ≡ len → a ≡ prefix ++ (b ∷ more) → more ≡ []
ends_here prefix b last len a more al tl e =
    nil_from_length more (let x = length-append prefix (b ∷ more) in let y = length-append prefix (last ∷ []) in let z = ap length e in omega arith)

other_stuck : (texts : List (List ℕ)) (len : ℕ) → length texts < 32 → (bytes rest : List ℕ) → other_text texts (suc len) bytes ≡ Err rest → IsStuck itself (IsOtherText texts (suc len)) bytes rest
unfolding other_text
other_stuck texts len few bytes rest e = elim (bind_err (text_of (suc len) bytes) (checked texts (drop len' bytes)) rest e) [
  | inl short ↦
      let k = stops_fan (suc len) 0 0x80 0xBF bytes rest (omega arith) (lit≤ tt) (λ h. lit≤ tt) short in
      let s = (text_lawful (suc len)).stuck bytes rest short in
      let o = other_of texts k.prefix (suc len) few k.texts in
      record {
        prefix = k.prefix;
        whole = k.whole;
        value = k.prefix ++ o.more;
        more = o.more;
        is_fit = o.is;
        goes_on = refl;
        ends = λ a b later more at_rest fit text. s.ends a b later more at_rest (fit.0, fit.1) (text ∙ ap (λ (f : List ℕ). f ++ (b ∷ more)) (same_front k.prefix s.prefix rest bytes k.whole s.whole));
      }
  | inr (t, read, off) ↦
      let k = reads_fan len 0 0x80 0xBF bytes t.0 t.1 (omega arith) (lit≤ tt) (λ h. lit≤ tt) read in
      let c = checked_err texts (drop len' bytes) t.0 t.1 rest off in
      let f = (text_lawful (suc len)).found bytes t.0 t.1 read in
      let size : length (k.prefix ++ k.last ∷ []) ≡ suc len = ap length (sym k.is) ∙ f.0.0 in
      let at_last : k.last ∷ t.1 ≡ rest = last_at len' bytes k.prefix k.last t.1 (let z = length-append k.prefix (k.last ∷ []) in omega arith) k.whole ∙ c.1 in
      let o = other_of texts k.prefix (suc len) few k.texts in
      record {
        prefix = k.prefix;
        whole = k.whole ∙ ap (λ (y : List ℕ). k.prefix ++ y) at_last;
        value = k.prefix ++ o.more;
        more = o.more;
        is_fit = o.is;
        goes_on = refl;
        ends = λ a b later more at_rest fit text.
            let z : k.last ∷ t.1 ≡ b ∷ later = at_last ∙ at_rest in
            let lb : k.last ≡ b = cc in
            let none = ends_here k.prefix b k.last (suc len) a more fit.0 size text in
            let same : a ≡ t.0 = text ∙ ap (λ (y : List ℕ). k.prefix ++ (b ∷ y)) none ∙ ap (λ (c : ℕ). k.prefix ++ (c ∷ [])) (sym lb) ∙ sym k.is in
            let listed : is_among texts a ≡ true = ap (λ (y : List ℕ). is_among texts y) same ∙ c.0 in
            let no' : false ≡ true = sym fit.2 ∙ listed in
            cc;
      }
]
  where
    len' : ℕ
    len' = suc len - 1

    same_front : (x y rest bytes : List ℕ) → bytes ≡ x ++ rest → bytes ≡ y ++ rest → x ≡ y
    same_front x y rest bytes p q = append_cancel_right x y rest (sym p ∙ q)

    last_at : (n : ℕ) (bytes prefix : List ℕ) (last : ℕ) (rest : List ℕ) → length prefix ≡ n → bytes ≡ prefix ++ (last ∷ rest) → last ∷ rest ≡ drop n bytes
    last_at n bytes prefix last rest is e = sym (ap (drop n) e ∙ drop_at prefix (last ∷ rest) n is)

other_lawful : (texts : List (List ℕ)) (len : ℕ) → length texts < 32 → Lawful itself (IsOtherText texts (suc len)) (other_text texts (suc len))
other_lawful texts len few =
    let o = other_of texts [] (suc len) few (fan len 0 0x80 0xBF (omega arith) (lit≤ tt) (λ h. lit≤ tt)) in
    record {
      some = o.more;
      some_fits = o.is;
      again = other_again texts (suc len);
      found = other_found texts (suc len);
      stuck = other_stuck texts len few;
    }

any_length : (texts : List (List ℕ)) (len : ℕ) → length texts < 32 → 1 ≤ len → Lawful itself (IsOtherText texts len) (other_text texts len)
any_length texts zero few le = absurd (omega arith)
any_length texts (suc len) few le = other_lawful texts len few

abbrev IsNext : List (List ℕ) → Counted → Type 0
IsNext before c = Passes is_counted c × Passes is_utf8 c.list × IsOther before c.list

counted_lawful : (before : List (List ℕ)) → length before < 32 → Lawful counted (IsNext before) (counted_at before)
unfolding counted_at
counted_lawful before few =
    let other = sized_lawful 2 1 1024 length itself (λ t. IsUtf8 t × IsOther before t) (other_text before) (lit≤ tt) (lit< tt)
    (λ n fit. fits_lawful itself _ _ _ (any_length before n few (within-parts 1 1024 n fit).0) (λ t h. (h.0, (h.1, h.2))) (λ t h. (h.0, h.1.0, h.1.1))) in
    let whole = then_lawful _ _ _ _ _ _ other (most_lawful 2 65_535 (lit< tt)) in
    let a = made_lawful {B = Counted} (λ p. record { list = p.0; count = p.1 }) _ _ _ counted whole (λ p fit. refl) in
    fits_lawful _ _ (IsNext before) _ a
    (λ c m. subst (λ (x : Counted). IsNext before x) (sym m.2) (and_from _ _ m.1.0.0 m.1.1, is_utf8-from_IsUtf8 _ m.1.0.1.0, m.1.0.1.1))
    (λ c h. let p = and_parts (is_within 1 1024 (length c.list)) (leb c.count 65_535) h.0 in ((c.list, c.count), ((p.0, (IsUtf8-from_is_utf8 c.list h.1, h.2)), p.1), refl))

-- ---- lists that are none of those before, and differ among themselves

abbrev AreOther : List (List ℕ) → List Counted → Type 0
AreOther before cs = AllByRecursion (λ c. IsOther before c.list) cs

differs-sym : (x y : List ℕ) → bytes_eq x y ≡ false → bytes_eq y x ≡ false
differs-sym x y e = false_from_ne_true (bytes_eq y x) (λ is. let t : bytes_eq x y ≡ true = (bytes_eq-Decides x y).1 (sym ((bytes_eq-Decides y x).0 is)) in let z : true ≡ false = sym t ∙ e in cc)

among-append : (before : List (List ℕ)) (t x : List ℕ) → is_among (before ++ t ∷ []) x ≡ (is_among before x || (bytes_eq t x || false))
among-append before t x = list_any-append (λ known. bytes_eq known x) before (t ∷ [])

-- one list more before them
other-more : (before : List (List ℕ)) (t : List ℕ) (cs : List Counted) → AreOther before cs → is_among (texts_of_counts cs) t ≡ false → AreOther (before ++ t ∷ []) cs
other-more before t [] h e = tt
other-more before t (c ∷ cs) h e =
    let p = or_parts (bytes_eq c.list t) (is_among (texts_of_counts cs) t) e in
    (among-append before t c.list ∙ or_from _ _ h.0 (or_from _ _ (differs-sym c.list t p.0) refl), other-more before t cs h.1 p.1)

other-parts : (before : List (List ℕ)) (t : List ℕ) (cs : List Counted) → AreOther (before ++ t ∷ []) cs → AreOther before cs × (is_among (texts_of_counts cs) t ≡ false)
other-parts before t [] h = (tt, refl)
other-parts before t (c ∷ cs) h =
    let p = or_parts (is_among before c.list) (bytes_eq t c.list || false) (sym (among-append before t c.list) ∙ h.0) in
    let q = or_parts (bytes_eq t c.list) false p.1 in
    let r = other-parts before t cs h.1 in
    ((p.0, r.0), or_from (bytes_eq c.list t) (is_among (texts_of_counts cs) t) (differs-sym t c.list q.0) r.1)

none_before : (cs : List Counted) → AreOther [] cs
none_before [] = tt
none_before (c ∷ cs) = (refl, none_before cs)

record AreNext (before : List (List ℕ)) (cs : List Counted) : Type 0 where
  counted : list_all is_counted cs ≡ true
  utf8 : Passes (list_all is_utf8) (texts_of_counts cs)
  apart : are_apart (texts_of_counts cs) ≡ true
  other : AreOther before cs

next-cons : (before : List (List ℕ)) (c : Counted) (cs : List Counted) → IsNext before c → AreNext (before ++ c.list ∷ []) cs → AreNext before (c ∷ cs)
next-cons before c cs h k =
    let p = other-parts before c.list cs k.other in
    record { counted = and_from _ _ h.0 k.counted; utf8 = and_from _ _ h.1 k.utf8; apart = and_from _ _ (not_from_false _ p.1) k.apart; other = (h.2, p.0) }

next-parts : (before : List (List ℕ)) (c : Counted) (cs : List Counted) → AreNext before (c ∷ cs) → IsNext before c × AreNext (before ++ c.list ∷ []) cs
next-parts before c cs k =
    let p = and_parts (is_counted c) (list_all is_counted cs) k.counted in
    let q = and_parts (not (is_among (texts_of_counts cs) c.list)) (are_apart (texts_of_counts cs)) k.apart in
    let u = and_parts (is_utf8 c.list) (list_all is_utf8 (texts_of_counts cs)) k.utf8 in
    ((p.0, u.0, k.other.0), record { counted = p.1; utf8 = u.1; apart = q.1; other = other-more before c.list cs k.other.1 (not-true (is_among (texts_of_counts cs) c.list) q.0) })

counts_after_lawful : (before : List (List ℕ)) (n : ℕ) → length before + n ≤ 32 → Lawful (flat_map counted) (λ cs. (length cs ≡ n) × AreNext before cs) (counts_after before n)
unfolding counts_after
counts_after_lawful before zero few =
    fits_lawful (flat_map counted) (λ cs. cs ≡ []) (λ cs. (length cs ≡ 0) × AreNext before cs) (given []) (given_lawful (flat_map counted) [] refl)
    (λ cs is. subst (λ (x : List Counted). (length x ≡ 0) × AreNext before x) (sym is) (refl, record { counted = refl; utf8 = refl; apart = refl; other = tt })) (λ cs h. nil_from_length cs h.0)
counts_after_lawful before (suc n) few =
    let two = both_lawful counted (IsNext before) (counted_at before) (λ _. flat_map counted) (λ c cs. (length cs ≡ n) × AreNext (before ++ c.list ∷ []) cs) (λ c. counts_after (before ++ c.list ∷ []) n)
    (counted_lawful before (omega arith)) (λ c fit. counts_after_lawful (before ++ c.list ∷ []) n (let z = length-append before (c.list ∷ []) in omega arith)) in
    let three = made_lawful (prepend {A = Counted}) _ _ _ (flat_map counted) two (λ p fit. refl) in
    fits_lawful _ _ (λ cs. (length cs ≡ suc n) × AreNext before cs) _ three
    (λ cs m. subst (λ (x : List Counted). (length x ≡ suc n) × AreNext before x) (sym m.2) (ap suc m.1.1.0, next-cons before m.0.0 m.0.1 m.1.0 m.1.1.1))
    (after_from before n)
  where
    after_from : (before : List (List ℕ)) (n : ℕ) (cs : List Counted) → (length cs ≡ suc n) × AreNext before cs → IsMadeOf prepend (both_fit (IsNext before) (λ c cs. (length cs ≡ n) × AreNext (before ++ c.list ∷ []) cs)) cs
    after_from before n [] h = absurd (let z : 0 ≡ suc n = h.0 in omega arith)
    after_from before n (c ∷ cs) h = let p = next-parts before c cs h.1 in ((c, cs), (p.0, (let z : suc (length cs) ≡ suc n = h.0 in omega arith, p.1)), refl)

abbrev pub AreFitCounts : List Counted → Type 0
AreFitCounts cs = Passes are_counts cs × Passes (list_all is_utf8) (texts_of_counts cs)

pub counts_lawful : Lawful Spelling.counts AreFitCounts counts_at
counts_lawful =
    fits_lawful _ _ AreFitCounts _
    (sized_lawful 1 0 32 length (flat_map counted) (AreNext []) (counts_after []) (lit≤ tt) (lit< tt) (λ n fit. counts_after_lawful [] n (omega (arith, (within-parts 0 32 n fit).1))))
    (λ cs h. (from3 _ _ _ (within_zero-parts 32 (length cs) h.0) h.1.counted h.1.apart, h.1.utf8))
    (λ cs h. let p = parts3 (leb (length cs) 32) (list_all is_counted cs) (are_apart (texts_of_counts cs)) h.0 in
    (within_zero-from 32 (length cs) p.0, record { counted = p.1; utf8 = h.1; apart = p.2; other = none_before cs }))
