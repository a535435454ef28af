-- The laws of rows, transitions, transactions and payloads.
use Rattle.std.proofs.Common.{◌≡◌, ℕ, ◌^◌, Bool, true, false, ◌&&◌, not, cond, leb, ltb, List, [], ◌∷◌, ◌++◌, length, Option, Some, None, refl, sym, ap, subst, ◌∙◌, arith, lit≤, lit<, Fits}
use Rattle.std.specs.Prelude.{◌==◌, ℤ, pos, negsuc}
use Rattle.std.specs.Int.{w32, cast_signed, cast_unsigned}
use Rattle.std.specs.Int.RustNames.{FitsSigned}
use Rattle.std.specs.List.{flat_map, list_all}
use Rattle.std.specs.Str.{is_utf8}
use Rattle.std.proofs.lemmas.Bool.{and_parts, and_from, leb-true, le-leb}
use Rattle.std.proofs.lemmas.Int.{of_z-to_z, to_z-of_z}
use Rattle.std.proofs.lemmas.List.Folds.{list_all-append}
use Rattle.std.proofs.Math.Facts.{sfits_to_z, Fits-of_z}
use Rattle.job_states.specs.Length.{is_within, is_name}
use Rattle.job_states.specs.Moment.{is_moment}
use Rattle.job_states.specs.Ranges.{is_number, is_some_number, is_message, is_count, are_counts, is_limited, is_priority, is_envelope, is_row, is_put, is_scheduled, is_away, are_counters, is_in_range, is_transaction, texts_of_counts, texts_of_limited, texts_of_counters, texts_of_row, has_texts}
use Rattle.job_states.specs.declared.command.Kind.{Kind}
use Rattle.job_states.specs.declared.job.Counted.{Counted}
use Rattle.job_states.specs.declared.job.JobRow.{JobRow}
use Rattle.job_states.specs.declared.job.Limited.{Limited}
use Rattle.job_states.specs.declared.transition.Counters.{Counters}
use Rattle.job_states.specs.declared.transition.Transaction.{Transaction}
use Rattle.job_states.specs.declared.transition.Transition.{Transition}
use Rattle.job_states.specs.declared.transition.Transition.TheVariants.{Enqueue, Dispatch, Claim, Done, Fail, Release, Unblock, Retry, Discard, Clear, Register, Beat, Deregister, Pause, Resume, Expire, Run}
use Rattle.journal_format.specs.Spelling.{big_endian, payload, transaction, transition, fields, tag, row, counters, limited}
use Rattle.journal_format.specs.Payload.{HasText}
use Rattle.journal_format.specs.Grammar.{list_at, limited_at, priority_at, row_at, counters_at, enqueue_at, dispatch_at, claim_at, unblock_at, retry_at, fail_at, register_at, run_at, fields_of, transition_at, transaction_at, payload_at}
use Rattle.journal_format.proofs.TestLaws.{Passes, parts3, from3, parts4, from4, parts9, from9, below-parts, below-from, all-parts, all-from}
use Rattle.journal_format.proofs.Lawful.{Lawful, IsMadeOf, made_lawful, fits_lawful, both_fit}
use Rattle.journal_format.proofs.PartLaws.{number_lawful, most_lawful, text_at_lawful, text_most_lawful, IsAtMost, then_lawful, list_lawful, OfTag, tagged_lawful, tag_or, sized}
use Rattle.journal_format.proofs.FieldLaws.{always, made_tag, id_lawful, moment_lawful, IsFitName, name_lawful, flag_lawful, option_lawful, some_id_lawful, IfAny, kind_lawful, is_allowed, allowed-parts, allowed-from, place_lawful}
use Rattle.journal_format.proofs.CountLaws.{counts_lawful}

-- ---- the parts of a row

abbrev IsFitLimited : Limited → Type 0
IsFitLimited l = Passes is_limited (Some l) × Passes is_utf8 l.key

limited_lawful : Lawful limited IsFitLimited limited_at
unfolding limited_at
limited_lawful =
    let d = then_lawful _ _ _ _ _ _ (most_lawful 8 18_446_744_073_709_551_615 (lit< tt)) flag_lawful in
    let c = then_lawful _ _ _ _ _ _ (number_lawful 2 1 65_535 (lit≤ tt) (lit< tt)) d in
    let b = then_lawful _ _ _ _ _ _ (text_at_lawful 2 3 257 (lit≤ tt) (lit< tt)) c in
    let a = made_lawful {B = Limited} (λ p. record { key = p.0; to = p.1.0; duration = p.1.1.0; discard = p.1.1.1 }) _ _ _ limited b (λ p fit. refl) in
    fits_lawful _ _ IsFitLimited _ a
    (λ l m. subst (λ (x : Limited). IsFitLimited x) (sym m.2) (from3 _ _ _ m.1.0.0 m.1.1.0 (below-from 18_446_744_073_709_551_615 (2 ^ 64) m.0.1.1.0 refl m.1.1.1.0), m.1.0.1))
    (λ l h. let p = parts3 (is_within 3 257 (length l.key)) (is_within 1 65_535 l.to) (ltb l.duration (2 ^ 64)) h.0 in
    ((l.key, (l.to, (l.duration, l.discard))), ((p.0, h.1), (p.1, (below-parts 18_446_744_073_709_551_615 (2 ^ 64) l.duration refl p.2, tt))), refl))

some_limited : (o : Option Limited) → IfAny IsFitLimited o → Passes is_limited o × Passes (list_all is_utf8) (texts_of_limited o)
some_limited None h = (refl, refl)
some_limited (Some l) h = (h.0, and_from (is_utf8 l.key) true h.1 refl)

limited_or_none : (o : Option Limited) → Passes is_limited o → Passes (list_all is_utf8) (texts_of_limited o) → IfAny IsFitLimited o
limited_or_none None e h = tt
limited_or_none (Some l) e h = (e, (and_parts (is_utf8 l.key) true h).0)

priority_lawful : Lawful (λ p. big_endian 4 (cast_unsigned w32 p)) (Passes is_priority) priority_at
unfolding priority_at
priority_lawful =
    fits_lawful _ _ (Passes is_priority) _
    (made_lawful (cast_signed w32) _ _ _ (λ p. big_endian 4 (cast_unsigned w32 p)) (most_lawful 4 4_294_967_295 (lit< tt)) (λ n fit. ap (big_endian 4) (of_z-to_z w32 n (fits_32 n fit).fits)))
    (λ p m. subst (λ (x : ℤ). Passes is_priority x) (sym m.2) (signed_from (cast_signed w32 m.0) (sfits_to_z (fits_32 m.0 m.1))))
    (λ p h. (cast_unsigned w32 p, below_32 p (signed_parts p h), sym (to_z-of_z w32 p (signed_parts p h))))
  where
    fits_32 : (n : ℕ) → leb n 4_294_967_295 ≡ true → Fits w32 n
    fits_32 n e = record { fits = omega (arith, leb-true n 4_294_967_295 e) }

    signed_from : (p : ℤ) → FitsSigned w32 p → is_priority p ≡ true
    signed_from (pos n) h = le-leb n 2_147_483_647 (omega (arith, h.sfits))
    signed_from (negsuc n) h = and_from (leb n 2_147_483_647) true (le-leb n 2_147_483_647 (omega (arith, h.sfits))) refl

    signed_parts : (p : ℤ) → is_priority p ≡ true → FitsSigned w32 p
    signed_parts (pos n) e = record { sfits = omega (arith, leb-true n 2_147_483_647 e) }
    signed_parts (negsuc n) e = record { sfits = omega (arith, leb-true n 2_147_483_647 (and_parts (leb n 2_147_483_647) true e).0) }

    below_32 : (p : ℤ) → FitsSigned w32 p → leb (cast_unsigned w32 p) 4_294_967_295 ≡ true
    below_32 p h = let f : Fits w32 (cast_unsigned w32 p) = Fits-of_z h in le-leb (cast_unsigned w32 p) 4_294_967_295 (omega arith)

abbrev IsFitRow : JobRow → Type 0
IsFitRow r = Passes is_row r × Passes (list_all is_utf8) (texts_of_row r)

row_texts-from : (r : JobRow) → is_utf8 r.class ≡ true → is_utf8 r.queue ≡ true → is_utf8 r.active_id ≡ true → Passes (list_all is_utf8) (texts_of_counts r.counts) → Passes (list_all is_utf8) (texts_of_limited r.limited) → Passes (list_all is_utf8) (texts_of_row r)
row_texts-from r p q s t u =
    and_from (is_utf8 r.class) _ p (and_from (is_utf8 r.queue) _ q (and_from (is_utf8 r.active_id) _ s (list_all-append is_utf8 (texts_of_counts r.counts) (texts_of_limited r.limited) ∙ and_from _ _ t u)))

row_texts-parts : (r : JobRow) → Passes (list_all is_utf8) (texts_of_row r) → (is_utf8 r.class ≡ true) × (is_utf8 r.queue ≡ true) × (is_utf8 r.active_id ≡ true) × Passes (list_all is_utf8) (texts_of_counts r.counts) × Passes (list_all is_utf8) (texts_of_limited r.limited)
row_texts-parts r h =
    let rest = list_all is_utf8 (texts_of_counts r.counts ++ texts_of_limited r.limited) in
    let p = and_parts (is_utf8 r.class) (is_utf8 r.queue && (is_utf8 r.active_id && rest)) h in
    let q = and_parts (is_utf8 r.queue) (is_utf8 r.active_id && rest) p.1 in
    let s = and_parts (is_utf8 r.active_id) rest q.1 in
    let t = and_parts (list_all is_utf8 (texts_of_counts r.counts)) (list_all is_utf8 (texts_of_limited r.limited)) (sym (list_all-append is_utf8 (texts_of_counts r.counts) (texts_of_limited r.limited)) ∙ s.1) in
    (p.0, q.0, s.0, t.0, t.1)

abbrev row_of : ℕ × (List ℕ × (List ℕ × (ℤ × (List ℕ × (List ℕ × (ℕ × (List Counted × Option Limited))))))) → JobRow
row_of p = record { id = p.0; class = p.1.0; queue = p.1.1.0; priority = p.1.1.1.0; active_id = p.1.1.1.1.0; envelope = p.1.1.1.1.1.0; executions = p.1.1.1.1.1.1.0; counts = p.1.1.1.1.1.1.1.0; limited = p.1.1.1.1.1.1.1.1 }

row_lawful : Lawful row IsFitRow row_at
unfolding row_at
row_lawful =
    let i = then_lawful _ _ _ _ _ _ counts_lawful (option_lawful limited IsFitLimited limited_at limited_lawful) in
    let h = then_lawful _ _ _ _ _ _ (most_lawful 2 65_535 (lit< tt)) i in
    let g = then_lawful _ _ _ _ _ _ (text_most_lawful 8192 (lit< tt)) h in
    let f = then_lawful _ _ _ _ _ _ name_lawful g in
    let e = then_lawful _ _ _ _ _ _ priority_lawful f in
    let d = then_lawful _ _ _ _ _ _ name_lawful e in
    let c = then_lawful _ _ _ _ _ _ name_lawful d in
    let b = then_lawful _ _ _ _ _ _ id_lawful c in
    let a = made_lawful {B = JobRow} row_of _ _ _ row b (λ p fit. refl) in
    fits_lawful _ _ IsFitRow _ a
    (λ r m. let p = m.1 in let q = p.1.1.1.1.1 in let l = some_limited m.0.1.1.1.1.1.1.1.1 q.1.1.1 in
    subst (λ (x : JobRow). IsFitRow x) (sym m.2) (
      from9 _ _ _ _ _ _ _ _ _ p.0 p.1.0.0 p.1.1.0.0 p.1.1.1.0 p.1.1.1.1.0.0 (and_from _ _ q.0.0 q.0.1) q.1.0 q.1.1.0.0 l.0,
      row_texts-from (row_of m.0) p.1.0.1 p.1.1.0.1 p.1.1.1.1.0.1 q.1.1.0.1 l.1,
    ))
    (λ r h. let p = parts9 (is_number r.id) (is_name r.class) (is_name r.queue) (is_priority r.priority) (is_name r.active_id) (is_envelope r.envelope) (is_count r.executions) (are_counts r.counts) (is_limited r.limited) h.0 in
    let u = row_texts-parts r h.1 in let e = and_parts (leb (length r.envelope) 8192) (is_utf8 r.envelope) p.5 in (
      (r.id, (r.class, (r.queue, (r.priority, (r.active_id, (r.envelope, (r.executions, (r.counts, r.limited)))))))),
      (p.0, ((p.1, u.0), ((p.2, u.1), (p.3, ((p.4, u.2), (e, (p.6, ((p.7, u.3), limited_or_none r.limited p.8 u.4)))))))),
      refl,
    ))

abbrev IsFitCounters : Counters → Type 0
IsFitCounters c = Passes are_counters (Some c) × Passes (list_all is_utf8) (texts_of_counts c.counts)

counters_lawful : Lawful counters IsFitCounters counters_at
unfolding counters_at
counters_lawful =
    let b = then_lawful _ _ _ _ _ _ (most_lawful 2 65_535 (lit< tt)) counts_lawful in
    let a = made_lawful {B = Counters} (λ p. record { executions = p.0; counts = p.1 }) _ _ _ counters b (λ p fit. refl) in
    fits_lawful _ _ IsFitCounters _ a (λ c m. subst (λ (x : Counters). IsFitCounters x) (sym m.2) (and_from _ _ m.1.0 m.1.1.0, m.1.1.1))
    (λ c h. let p = and_parts (is_count c.executions) (are_counts c.counts) h.0 in ((c.executions, c.counts), (p.0, (p.1, h.1)), refl))

some_counters : (o : Option Counters) → IfAny IsFitCounters o → Passes are_counters o × Passes (list_all is_utf8) (texts_of_counters o)
some_counters None h = (refl, refl)
some_counters (Some c) h = h

counters_or_none : (o : Option Counters) → Passes are_counters o → Passes (list_all is_utf8) (texts_of_counters o) → IfAny IsFitCounters o
counters_or_none None e h = tt
counters_or_none (Some c) e h = (e, h)

-- ---- transitions

abbrev IsFit : Transition → Type 0
IsFit t = Passes is_in_range t × Passes has_texts t

-- one text
one-from : (t : List ℕ) → is_utf8 t ≡ true → Passes (list_all is_utf8) (t ∷ [])
one-from t e = and_from (is_utf8 t) true e refl

one-parts : (t : List ℕ) → Passes (list_all is_utf8) (t ∷ []) → is_utf8 t ≡ true
one-parts t e = (and_parts (is_utf8 t) true e).0

of_1 : OfTag tag fields IsFit 1 (fields_of 1)
unfolding fields_of enqueue_at
of_1 = made_tag tag fields IsFit 1 (λ p. Enqueue p.0 p.1) _ _ _ (then_lawful _ _ _ _ _ _ row_lawful (place_lawful true false)) (λ p. refl) (λ p h. ((let q = allowed-parts true false p.1 h.1 in (from3 _ _ _ h.0.0 q.0 q.2, h.0.1)), refl)) only
  where
    only : (t : Transition) → IsFit t → tag t ≡ 1 → IsMadeOf (λ p. Enqueue p.0 p.1) (both_fit IsFitRow (λ _. Passes (is_allowed true false))) t
    only (Enqueue x y) p e = let q = parts3 (is_row x) (is_put y) (not (is_away y)) p.0 in ((x, y), ((q.0, p.1), allowed-from true false y q.1 refl q.2), refl)
    only t p e = absurd (omega arith)

of_2 : OfTag tag fields IsFit 2 (fields_of 2)
unfolding fields_of dispatch_at
of_2 = made_tag tag fields IsFit 2 (λ p. Dispatch p.0 p.1) _ _ _ (then_lawful _ _ _ _ _ _ id_lawful (place_lawful false true)) (λ p. refl) (λ p h. ((let q = allowed-parts false true p.1 h.1 in (from3 _ _ _ h.0 q.0 q.1, refl)), refl)) only
  where
    only : (t : Transition) → IsFit t → tag t ≡ 2 → IsMadeOf (λ p. Dispatch p.0 p.1) (both_fit (Passes is_number) (λ _. Passes (is_allowed false true))) t
    only (Dispatch x y) p e = let q = parts3 (is_number x) (is_put y) (not (is_scheduled y)) p.0 in ((x, y), (q.0, allowed-from false true y q.1 q.2 refl), refl)
    only t p e = absurd (omega arith)

of_3 : OfTag tag fields IsFit 3 (fields_of 3)
unfolding fields_of claim_at
of_3 = made_tag tag fields IsFit 3 (λ p. Claim p.0 p.1) _ _ _ (then_lawful _ _ _ _ _ _ id_lawful id_lawful) (λ p. refl) (λ p h. ((and_from _ _ h.0 h.1, refl), refl)) only
  where
    only : (t : Transition) → IsFit t → tag t ≡ 3 → IsMadeOf (λ p. Claim p.0 p.1) (both_fit (Passes is_number) (λ _. Passes is_number)) t
    only (Claim x y) p e = let q = and_parts (is_number x) (is_number y) p.0 in ((x, y), (q.0, q.1), refl)
    only t p e = absurd (omega arith)

of_4 : OfTag tag fields IsFit 4 (fields_of 4)
unfolding fields_of
of_4 = made_tag tag fields IsFit 4 Done _ _ _ id_lawful (λ p. refl) (λ p h. ((h, refl), refl)) only
  where
    only : (t : Transition) → IsFit t → tag t ≡ 4 → IsMadeOf Done (Passes is_number) t
    only (Done x) p e = (x, p.0, refl)
    only t p e = absurd (omega arith)

of_5 : OfTag tag fields IsFit 5 (fields_of 5)
unfolding fields_of fail_at
of_5 = made_tag tag fields IsFit 5 (λ p. Fail p.0 p.1.0 p.1.1.0 p.1.1.1) _ _ _ (then_lawful _ _ _ _ _ _ id_lawful (then_lawful _ _ _ _ _ _ name_lawful (then_lawful _ _ _ _ _ _ (text_most_lawful 1024 (lit< tt)) (option_lawful counters IsFitCounters counters_at counters_lawful)))) (λ p. refl) (λ p h. ((let c = some_counters p.1.1.1 h.1.1.1 in (from4 _ _ _ _ h.0 h.1.0.0 h.1.1.0.0 c.0, and_from (is_utf8 p.1.0) _ h.1.0.1 (and_from (is_utf8 p.1.1.0) _ h.1.1.0.1 c.1))), refl)) only
  where
    only : (t : Transition) → IsFit t → tag t ≡ 5 → IsMadeOf (λ p. Fail p.0 p.1.0 p.1.1.0 p.1.1.1) (both_fit (Passes is_number) (λ _. both_fit IsFitName (λ _. both_fit (IsAtMost 1024) (λ _. IfAny IsFitCounters)))) t
    only (Fail x y z w) p e =
        let q = parts4 (is_number x) (is_name y) (is_message z) (are_counters w) p.0 in
        let u = and_parts (is_utf8 y) (is_utf8 z && list_all is_utf8 (texts_of_counters w)) p.1 in
        let v = and_parts (is_utf8 z) (list_all is_utf8 (texts_of_counters w)) u.1 in
        ((x, (y, (z, w))), (q.0, ((q.1, u.0), ((q.2, v.0), counters_or_none w q.3 v.1))), refl)
    only t p e = absurd (omega arith)

of_6 : OfTag tag fields IsFit 6 (fields_of 6)
unfolding fields_of
of_6 = made_tag tag fields IsFit 6 Release _ _ _ id_lawful (λ p. refl) (λ p h. ((h, refl), refl)) only
  where
    only : (t : Transition) → IsFit t → tag t ≡ 6 → IsMadeOf Release (Passes is_number) t
    only (Release x) p e = (x, p.0, refl)
    only t p e = absurd (omega arith)

of_7 : OfTag tag fields IsFit 7 (fields_of 7)
unfolding fields_of unblock_at
of_7 = made_tag tag fields IsFit 7 (λ p. Unblock p.0 p.1) _ _ _ (then_lawful _ _ _ _ _ _ id_lawful id_lawful) (λ p. refl) (λ p h. ((and_from _ _ h.0 h.1, refl), refl)) only
  where
    only : (t : Transition) → IsFit t → tag t ≡ 7 → IsMadeOf (λ p. Unblock p.0 p.1) (both_fit (Passes is_number) (λ _. Passes is_number)) t
    only (Unblock x y) p e = let q = and_parts (is_number x) (is_number y) p.0 in ((x, y), (q.0, q.1), refl)
    only t p e = absurd (omega arith)

of_8 : OfTag tag fields IsFit 8 (fields_of 8)
unfolding fields_of retry_at
of_8 = made_tag tag fields IsFit 8 (λ p. Retry p.0 p.1) _ _ _ (then_lawful _ _ _ _ _ _ id_lawful (place_lawful false false)) (λ p. refl) (λ p h. ((let q = allowed-parts false false p.1 h.1 in (from4 _ _ _ _ h.0 q.0 q.1 q.2, refl)), refl)) only
  where
    only : (t : Transition) → IsFit t → tag t ≡ 8 → IsMadeOf (λ p. Retry p.0 p.1) (both_fit (Passes is_number) (λ _. Passes (is_allowed false false))) t
    only (Retry x y) p e = let q = parts4 (is_number x) (is_put y) (not (is_scheduled y)) (not (is_away y)) p.0 in ((x, y), (q.0, allowed-from false false y q.1 q.2 q.3), refl)
    only t p e = absurd (omega arith)

of_9 : OfTag tag fields IsFit 9 (fields_of 9)
unfolding fields_of
of_9 = made_tag tag fields IsFit 9 Discard _ _ _ id_lawful (λ p. refl) (λ p h. ((h, refl), refl)) only
  where
    only : (t : Transition) → IsFit t → tag t ≡ 9 → IsMadeOf Discard (Passes is_number) t
    only (Discard x) p e = (x, p.0, refl)
    only t p e = absurd (omega arith)

of_10 : OfTag tag fields IsFit 10 (fields_of 10)
unfolding fields_of
of_10 = made_tag tag fields IsFit 10 Clear _ _ _ id_lawful (λ p. refl) (λ p h. ((h, refl), refl)) only
  where
    only : (t : Transition) → IsFit t → tag t ≡ 10 → IsMadeOf Clear (Passes is_number) t
    only (Clear x) p e = (x, p.0, refl)
    only t p e = absurd (omega arith)

of_11 : OfTag tag fields IsFit 11 (fields_of 11)
unfolding fields_of register_at
of_11 = made_tag {A = ℕ × (Kind × List ℕ)} tag fields IsFit 11 (λ p. Register p.0 p.1.0 p.1.1) _ _ _ (then_lawful _ _ _ _ _ _ id_lawful (then_lawful _ _ _ _ _ _ kind_lawful name_lawful)) (λ p. refl) (λ p h. ((and_from _ _ h.0 h.1.1.0, one-from p.1.1 h.1.1.1), refl)) only
  where
    only : (t : Transition) → IsFit t → tag t ≡ 11 → IsMadeOf (λ p. Register p.0 p.1.0 p.1.1) (both_fit (Passes is_number) (λ _. both_fit (always {A = Kind}) (λ _. IsFitName))) t
    only (Register x y z) p e = let q = and_parts (is_number x) (is_name z) p.0 in ((x, (y, z)), (q.0, (tt, (q.1, one-parts z p.1))), refl)
    only t p e = absurd (omega arith)

of_12 : OfTag tag fields IsFit 12 (fields_of 12)
unfolding fields_of
of_12 = made_tag tag fields IsFit 12 Beat _ _ _ id_lawful (λ p. refl) (λ p h. ((h, refl), refl)) only
  where
    only : (t : Transition) → IsFit t → tag t ≡ 12 → IsMadeOf Beat (Passes is_number) t
    only (Beat x) p e = (x, p.0, refl)
    only t p e = absurd (omega arith)

of_13 : OfTag tag fields IsFit 13 (fields_of 13)
unfolding fields_of
of_13 = made_tag tag fields IsFit 13 Deregister _ _ _ id_lawful (λ p. refl) (λ p h. ((h, refl), refl)) only
  where
    only : (t : Transition) → IsFit t → tag t ≡ 13 → IsMadeOf Deregister (Passes is_number) t
    only (Deregister x) p e = (x, p.0, refl)
    only t p e = absurd (omega arith)

of_14 : OfTag tag fields IsFit 14 (fields_of 14)
unfolding fields_of
of_14 = made_tag tag fields IsFit 14 Pause _ _ _ name_lawful (λ p. refl) (λ p h. ((h.0, one-from p h.1), refl)) only
  where
    only : (t : Transition) → IsFit t → tag t ≡ 14 → IsMadeOf Pause IsFitName t
    only (Pause x) p e = (x, (p.0, one-parts x p.1), refl)
    only t p e = absurd (omega arith)

of_15 : OfTag tag fields IsFit 15 (fields_of 15)
unfolding fields_of
of_15 = made_tag tag fields IsFit 15 Resume _ _ _ name_lawful (λ p. refl) (λ p h. ((h.0, one-from p h.1), refl)) only
  where
    only : (t : Transition) → IsFit t → tag t ≡ 15 → IsMadeOf Resume IsFitName t
    only (Resume x) p e = (x, (p.0, one-parts x p.1), refl)
    only t p e = absurd (omega arith)

of_16 : OfTag tag fields IsFit 16 (fields_of 16)
unfolding fields_of
of_16 = made_tag tag fields IsFit 16 Expire _ _ _ (text_most_lawful 65_535 (lit< tt)) (λ p. refl) (λ p h. ((h.0, one-from p h.1), refl)) only
  where
    only : (t : Transition) → IsFit t → tag t ≡ 16 → IsMadeOf Expire (IsAtMost 65_535) t
    only (Expire x) p e = (x, (p.0, one-parts x p.1), refl)
    only t p e = absurd (omega arith)

of_17 : OfTag tag fields IsFit 17 (fields_of 17)
unfolding fields_of run_at
of_17 = made_tag tag fields IsFit 17 (λ p. Run p.0 p.1.0 p.1.1) _ _ _ (then_lawful _ _ _ _ _ _ name_lawful (then_lawful _ _ _ _ _ _ moment_lawful some_id_lawful)) (λ p. refl) (λ p h. ((from3 _ _ _ h.0.0 h.1.0 h.1.1, one-from p.0 h.0.1), refl)) only
  where
    only : (t : Transition) → IsFit t → tag t ≡ 17 → IsMadeOf (λ p. Run p.0 p.1.0 p.1.1) (both_fit IsFitName (λ _. both_fit (Passes is_moment) (λ _. Passes is_some_number))) t
    only (Run x y z) p e = let q = parts3 (is_name x) (is_moment y) (is_some_number z) p.0 in ((x, (y, z)), ((q.0, one-parts x p.1), (q.1, q.2)), refl)
    only t p e = absurd (omega arith)

none : (t : ℕ) → (t ≡ 1 → ⊥) → (t ≡ 2 → ⊥) → (t ≡ 3 → ⊥) → (t ≡ 4 → ⊥) → (t ≡ 5 → ⊥) → (t ≡ 6 → ⊥) → (t ≡ 7 → ⊥) → (t ≡ 8 → ⊥) → (t ≡ 9 → ⊥) → (t ≡ 10 → ⊥) → (t ≡ 11 → ⊥) → (t ≡ 12 → ⊥) → (t ≡ 13 → ⊥) → (t ≡ 14 → ⊥) → (t ≡ 15 → ⊥) → (t ≡ 16 → ⊥) → (t ≡ 17 → ⊥) → (x : Transition) → IsFit x → tag x ≡ t → ⊥
none t no1 no2 no3 no4 no5 no6 no7 no8 no9 no10 no11 no12 no13 no14 no15 no16 no17 (Enqueue row put) p e = no1 (sym e)
none t no1 no2 no3 no4 no5 no6 no7 no8 no9 no10 no11 no12 no13 no14 no15 no16 no17 (Dispatch id put) p e = no2 (sym e)
none t no1 no2 no3 no4 no5 no6 no7 no8 no9 no10 no11 no12 no13 no14 no15 no16 no17 (Claim id pid) p e = no3 (sym e)
none t no1 no2 no3 no4 no5 no6 no7 no8 no9 no10 no11 no12 no13 no14 no15 no16 no17 (Done id) p e = no4 (sym e)
none t no1 no2 no3 no4 no5 no6 no7 no8 no9 no10 no11 no12 no13 no14 no15 no16 no17 (Fail id error message c) p e = no5 (sym e)
none t no1 no2 no3 no4 no5 no6 no7 no8 no9 no10 no11 no12 no13 no14 no15 no16 no17 (Release id) p e = no6 (sym e)
none t no1 no2 no3 no4 no5 no6 no7 no8 no9 no10 no11 no12 no13 no14 no15 no16 no17 (Unblock id generation) p e = no7 (sym e)
none t no1 no2 no3 no4 no5 no6 no7 no8 no9 no10 no11 no12 no13 no14 no15 no16 no17 (Retry id put) p e = no8 (sym e)
none t no1 no2 no3 no4 no5 no6 no7 no8 no9 no10 no11 no12 no13 no14 no15 no16 no17 (Discard id) p e = no9 (sym e)
none t no1 no2 no3 no4 no5 no6 no7 no8 no9 no10 no11 no12 no13 no14 no15 no16 no17 (Clear id) p e = no10 (sym e)
none t no1 no2 no3 no4 no5 no6 no7 no8 no9 no10 no11 no12 no13 no14 no15 no16 no17 (Register pid k n) p e = no11 (sym e)
none t no1 no2 no3 no4 no5 no6 no7 no8 no9 no10 no11 no12 no13 no14 no15 no16 no17 (Beat pid) p e = no12 (sym e)
none t no1 no2 no3 no4 no5 no6 no7 no8 no9 no10 no11 no12 no13 no14 no15 no16 no17 (Deregister pid) p e = no13 (sym e)
none t no1 no2 no3 no4 no5 no6 no7 no8 no9 no10 no11 no12 no13 no14 no15 no16 no17 (Pause q) p e = no14 (sym e)
none t no1 no2 no3 no4 no5 no6 no7 no8 no9 no10 no11 no12 no13 no14 no15 no16 no17 (Resume q) p e = no15 (sym e)
none t no1 no2 no3 no4 no5 no6 no7 no8 no9 no10 no11 no12 no13 no14 no15 no16 no17 (Expire key) p e = no16 (sym e)
none t no1 no2 no3 no4 no5 no6 no7 no8 no9 no10 no11 no12 no13 no14 no15 no16 no17 (Run task time id) p e = no17 (sym e)

each_tag : (t : ℕ) → OfTag tag fields IsFit t (fields_of t)
unfolding fields_of
each_tag t =
    tag_or tag fields IsFit 1 t _ _ of_1 (λ no1.
    tag_or tag fields IsFit 2 t _ _ of_2 (λ no2.
    tag_or tag fields IsFit 3 t _ _ of_3 (λ no3.
    tag_or tag fields IsFit 4 t _ _ of_4 (λ no4.
    tag_or tag fields IsFit 5 t _ _ of_5 (λ no5.
    tag_or tag fields IsFit 6 t _ _ of_6 (λ no6.
    tag_or tag fields IsFit 7 t _ _ of_7 (λ no7.
    tag_or tag fields IsFit 8 t _ _ of_8 (λ no8.
    tag_or tag fields IsFit 9 t _ _ of_9 (λ no9.
    tag_or tag fields IsFit 10 t _ _ of_10 (λ no10.
    tag_or tag fields IsFit 11 t _ _ of_11 (λ no11.
    tag_or tag fields IsFit 12 t _ _ of_12 (λ no12.
    tag_or tag fields IsFit 13 t _ _ of_13 (λ no13.
    tag_or tag fields IsFit 14 t _ _ of_14 (λ no14.
    tag_or tag fields IsFit 15 t _ _ of_15 (λ no15.
    tag_or tag fields IsFit 16 t _ _ of_16 (λ no16.
    tag_or tag fields IsFit 17 t _ _ of_17 (λ no17.
    none t no1 no2 no3 no4 no5 no6 no7 no8 no9 no10 no11 no12 no13 no14 no15 no16 no17)))))))))))))))))

transition_lawful : Lawful transition IsFit transition_at
unfolding transition_at
transition_lawful = tagged_lawful tag fields IsFit fields_of (Done 1) (refl, refl) each_tag

abbrev IsFitTransaction : Transaction → Type 0
IsFitTransaction tx = Passes is_transaction tx × Passes (list_all has_texts) tx.steps

transaction_lawful : Lawful transaction IsFitTransaction transaction_at
unfolding transaction_at
transaction_lawful =
    let b = then_lawful _ _ _ _ _ _ moment_lawful (list_lawful 2 1 2000 transition IsFit transition_at (lit≤ tt) (lit< tt) transition_lawful) in
    let a = made_lawful {B = Transaction} (λ p. record { moment = p.0; steps = p.1 }) _ _ _ transaction b (λ p fit. refl) in
    fits_lawful _ _ IsFitTransaction _ a
    (λ tx m. let each = all-parts is_in_range has_texts m.0.1 m.1.1.1 in
    subst (λ (x : Transaction). IsFitTransaction x) (sym m.2) (from3 _ _ _ m.1.0 m.1.1.0 each.0, each.1))
    (λ tx h. let p = parts3 (is_moment tx.moment) (is_within 1 2000 (length tx.steps)) (list_all is_in_range tx.steps) h.0 in
    ((tx.moment, tx.steps), (p.0, (p.1, all-from is_in_range has_texts tx.steps p.2 h.1)), refl))

abbrev version : List Transaction → ℕ
version txs = 1

abbrev has_all_texts : Transaction → Bool
has_all_texts tx = list_all has_texts tx.steps

pub payload_lawful : Lawful payload HasText payload_at
unfolding payload_at
payload_lawful =
    tagged_lawful version (sized 1 length (flat_map transaction)) HasText (λ t. cond (t == 1) (Some (list_at 1 1 64 transaction_at)) None) body.some body.some_fits (λ t.
    tag_or version (sized 1 length (flat_map transaction)) HasText 1 t _ _
    (fits_lawful (sized 1 length (flat_map transaction)) HasText (λ x. HasText x × (version x ≡ 1)) (list_at 1 1 64 transaction_at) body (λ x h. (h, refl)) (λ x h. h.0))
    (λ no x p e. no (sym e)))
  where
    body : Lawful (sized 1 length (flat_map transaction)) HasText (list_at 1 1 64 transaction_at)
    body = fits_lawful _ _ HasText _ (list_lawful 1 1 64 transaction IsFitTransaction transaction_at (lit≤ tt) (lit< tt) transaction_lawful)
        (λ txs h. let each = all-parts is_transaction has_all_texts txs h.1 in record { in_range = and_from _ _ h.0 each.0; texts = each.1 })
        (λ txs h. let p = and_parts (is_within 1 64 (length txs)) (list_all is_transaction txs) h.in_range in (p.0, all-from is_transaction has_all_texts txs p.1 h.texts))
