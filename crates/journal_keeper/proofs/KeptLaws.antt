-- What is kept whatever becomes of loose bytes.
use Rattle.std.proofs.Common.{◌≡◌, ◌≢◌, ◌⊎◌, inl, inr, ⊎_elim, ℕ, ◌+◌, ◌-◌, ◌<◌, true, not, List, [], ◌∷◌, ◌++◌, length, get_or, take, drop, Option, None, Some, refl, sym, ◌∙◌, ap, subst, arith, append_assoc, length-append, length-take}
use Rattle.std.proofs.lemmas.List.{append-nil, get_or-append_right}
use Rattle.std.proofs.lemmas.List.Elements.{All-append, All-cons, All-nil}
use Rattle.std.proofs.lemmas.Bool.{cases_eq, ne_eqb}
use Rattle.std.proofs.Math.Seq.{take-append_seam, drop-append_seam}
use Rattle.std.specs.List.{All}
use Rattle.journal_format.specs.Header.{header}
use Rattle.journal_format.specs.Records.{framed, records, is_closed, HoldsRecords}
use Rattle.sq_outside.specs.File.{overwritten}
use Rattle.sq_outside.proofs.Written.{overwritten_at}
use Rattle.journal_keeper.specs.Files.{IsLiveFile, IsIdleFile}
use Rattle.journal_keeper.specs.Kept.{HoldsPayloads, Recovers, RecoversWith, IsAjar, IsLooseGate, IsLooseStart, Loosens, IsKept}
use Rattle.journal_keeper.specs.Records.{IsPayload}
use Rattle.journal_keeper.specs.Texts.{IsText, IsClosed, IsInDoubt, Holds, with_record}

-- what stays in a shape that recovers the payloads is kept
pub by_shape : (payloads : List (List ℕ)) (doubt : Option (List ℕ)) (Q : List ℕ → Type 0) → ((file : List ℕ) → Q file → RecoversWith payloads doubt file)
    → ((file next : List ℕ) → Q file → Loosens file next → Q next) → (file : List ℕ) → Q file → IsKept payloads doubt file
by_shape payloads doubt Q recovers stays file here [] last is = subst (RecoversWith payloads doubt) (sym is) (recovers file here)
by_shape payloads doubt Q recovers stays file here (next ∷ more) last is = by_shape payloads doubt Q recovers stays next (stays file next here is.0) more last is.1

pub with_doubt : (payloads : List (List ℕ)) (doubt : Option (List ℕ)) (file : List ℕ) → Recovers payloads file → RecoversWith payloads doubt file
with_doubt payloads None file recovers = recovers
with_doubt payloads (Some doubt) file recovers = inl recovers

-- without a doubt, also with one
pub weaker : (payloads : List (List ℕ)) (doubt : Option (List ℕ)) (file : List ℕ) → IsKept payloads None file → IsKept payloads doubt file
weaker payloads doubt file kept = λ steps last from. with_doubt payloads doubt last (kept steps last from)

-- what is accepted was in doubt
pub accepted : (payloads : List (List ℕ)) (added file : List ℕ) → IsKept (payloads ++ added ∷ []) None file → IsKept payloads (Some added) file
accepted payloads added file kept = λ steps last from. inr (kept steps last from)

pub live_not_idle : (turn : ℕ) (file : List ℕ) → IsLiveFile turn file → IsIdleFile file → ⊥
live_not_idle turn file live (inl short) = let t = ap length live.1 in let n = length-take 16 file in omega (arith, t, n, short)
live_not_idle turn file live (inr (inl zeroed)) = let t = sym (ap (λ (l : List ℕ). get_or l 0 0) live.1) ∙ zeroed in omega (arith, t)
live_not_idle turn file live (inr (inr other)) = other.0 (ap (λ (l : List ℕ). get_or l 0 0) live.1)

pub records_snoc : (payloads : List (List ℕ)) (payload : List ℕ) → records (payloads ++ payload ∷ []) ≡ records payloads ++ (0x52 ∷ framed payload)
records_snoc [] payload = ap (λ (l : List ℕ). 0x52 ∷ l) (append-nil (framed payload))
records_snoc (first ∷ payloads) payload = ap (λ (l : List ℕ). 0x52 ∷ framed first ++ l) (records_snoc payloads payload) ∙ ap (λ (l : List ℕ). 0x52 ∷ l) (sym (append_assoc (framed first) (records payloads) (0x52 ∷ framed payload)))

one_payload : (payload : List ℕ) → IsPayload payload → All IsPayload (payload ∷ [])
one_payload payload fits = All-cons IsPayload payload [] fits (All-nil IsPayload)

-- a text with a record more
pub more_text : (payloads : List (List ℕ)) (payload text : List ℕ) → IsPayload payload → IsText payloads text → IsText (payloads ++ payload ∷ []) (with_record text payload)
more_text payloads payload text fits is = record {
  turn = is.turn;
  small = is.small;
  lengths = All-append IsPayload payloads (payload ∷ []) is.lengths (one_payload payload fits);
  is = ap (λ (l : List ℕ). l ++ (0x52 ∷ framed payload)) is.is ∙ append_assoc (header is.turn) (records payloads) (0x52 ∷ framed payload) ∙ ap (λ (l : List ℕ). header is.turn ++ l) (sym (records_snoc payloads payload));
}

pub text_long : (payloads : List (List ℕ)) (text : List ℕ) → IsText payloads text → length text ≡ 16 + length (records payloads)
text_long payloads text is = ap length is.is ∙ length-append (header is.turn) (records payloads)

-- a text, and after it no open gate
pub held : (payloads : List (List ℕ)) (text rest file : List ℕ) → IsText payloads text → is_closed rest ≡ true → file ≡ text ++ rest → HoldsPayloads payloads file
held payloads text rest file is closed same =
    let all : file ≡ header is.turn ++ (records payloads ++ rest) = same ∙ ap (λ (l : List ℕ). l ++ rest) is.is ∙ append_assoc (header is.turn) (records payloads) rest in
    record {
      turn = is.turn;
      live = (is.small, ap (take 16) all ∙ take-append_seam (header is.turn) (records payloads ++ rest));
      records = record { rest = rest; lengths = is.lengths; text_is = ap (drop 16) all ∙ drop-append_seam (header is.turn) (records payloads ++ rest); closed = closed };
    }

not_open : (gate : ℕ) (rest : List ℕ) → gate ≢ 0x52 → is_closed (gate ∷ rest) ≡ true
not_open gate rest other = ap not (ne_eqb gate 0x52 other)

pub closed_long : (text rest file : List ℕ) → file ≡ text ++ (0 ∷ rest) → (length text < length file) × (get_or file (length text) 0 ≡ 0)
closed_long text rest file is = (
  let t = ap length is in let a = length-append text (0 ∷ rest) in omega (arith, t, a),
  let none : length text - length text ≡ 0 = omega arith in
      ap (λ (l : List ℕ). get_or l (length text) 0) is ∙ get_or-append_right text (0 ∷ rest) (length text) (length text) 0 refl (omega arith) ∙ ap (λ (k : ℕ). get_or (0 ∷ rest) k 0) none,
)

module _ (unique : (text : List ℕ) (a b : List (List ℕ)) → HoldsRecords text a → HoldsRecords text b → a ≡ b) where
  pub same_payloads : (a b : List (List ℕ)) (file : List ℕ) → HoldsPayloads a file → HoldsPayloads b file → a ≡ b
  same_payloads a b file one two = unique (drop 16 file) a b one.records two.records

  -- a file recovers one list of payloads
  pub one_list : (a b : List (List ℕ)) (file : List ℕ) → Recovers a file → Recovers b file → a ≡ b
  one_list a b file (inl one) (inl two) = same_payloads a b file one two
  one_list a b file (inl one) (inr two) = absurd (live_not_idle one.turn file one.live two.0)
  one_list a b file (inr one) (inl two) = absurd (live_not_idle two.turn file two.live one.0)
  one_list a b file (inr one) (inr two) = one.1 ∙ sym two.1

  -- a live file's loose byte is its first closed gate
  at_gate : (payloads : List (List ℕ)) (text file next : List ℕ) → IsText payloads text → HoldsPayloads payloads file → (loosens : Loosens file next) → (loosens.place ≡ length text) × IsAjar loosens.place file
  at_gate payloads text file next is holds loosens = by_place loosens.place loosens.loose
    where
      by_place : (place : ℕ) → IsLooseGate place file ⊎ IsLooseStart place file → (place ≡ length text) × IsAjar place file
      by_place place (inl gate) = (
        gate.here ∙ ap (λ (ps : List (List ℕ)). 16 + length (records ps)) (same_payloads gate.payloads payloads file gate.holds holds) ∙ sym (text_long payloads text is),
        gate.ajar,
      )
      by_place place (inr start) = absurd (live_not_idle holds.turn file holds.live start.idle)

  -- nothing is loose after a gate that is `00`
  pub closed_stays : (payloads : List (List ℕ)) (text file next : List ℕ) → IsText payloads text → IsClosed text file → Loosens file next → ⊥
  closed_stays payloads text file next is closed loosens =
      let found = at_gate payloads text file next is (held payloads text (0 ∷ closed.rest) file is refl closed.is) loosens in
      let long = closed_long text closed.rest file closed.is in
      ⊎_elim (λ at_end. absurd (omega (arith, at_end, found.0, long.0))) (λ other. other (ap (λ (k : ℕ). get_or file k 0) found.0 ∙ long.1)) found.1

  open_closed : (text payload file : List ℕ) → (doubt : IsInDoubt text payload file) → doubt.gate ≡ 0x52 → IsClosed (with_record text payload) file
  open_closed text payload file doubt opened = record {
    rest = doubt.rest;
    is = doubt.is ∙ ap (λ (g : ℕ). text ++ (g ∷ (framed payload ++ (0 ∷ doubt.rest)))) opened ∙ sym (append_assoc text (0x52 ∷ framed payload) (0 ∷ doubt.rest));
  }

  doubt_stays : (payloads : List (List ℕ)) (payload text file next : List ℕ) → IsText payloads text → IsInDoubt text payload file → Loosens file next → IsInDoubt text payload next
  doubt_stays payloads payload text file next is doubt loosens = elim (cases_eq doubt.gate 0x52) [
    | inl opened ↦ absurd (closed_stays (payloads ++ payload ∷ []) (with_record text payload) file next (more_text payloads payload text doubt.fits is) (open_closed text payload file doubt opened) loosens)
    | inr shut ↦
        let more = framed payload ++ (0 ∷ doubt.rest) in
        let found = at_gate payloads text file next is (held payloads text (doubt.gate ∷ more) file is (not_open doubt.gate more shut) doubt.is) loosens in
        record {
          fits = doubt.fits;
          gate = loosens.byte;
          rest = doubt.rest;
          is = loosens.becomes ∙ ap (λ (k : ℕ). overwritten file k (loosens.byte ∷ [])) found.0 ∙ ap (λ (l : List ℕ). overwritten l (length text) (loosens.byte ∷ [])) doubt.is ∙ overwritten_at text (doubt.gate ∷ more) (loosens.byte ∷ []);
        }
  ]

  module _ (payloads : List (List ℕ)) (text : List ℕ) (is : IsText payloads text) where
    closed_recovers : (file : List ℕ) → IsClosed text file → Recovers payloads file
    closed_recovers file closed = inl (held payloads text (0 ∷ closed.rest) file is refl closed.is)

    doubt_recovers : (payload file : List ℕ) → IsInDoubt text payload file → RecoversWith payloads (Some payload) file
    doubt_recovers payload file doubt = elim (cases_eq doubt.gate 0x52) [
      | inl opened ↦
          let closed = open_closed text payload file doubt opened in
          inr (inl (held (payloads ++ payload ∷ []) (with_record text payload) (0 ∷ closed.rest) file (more_text payloads payload text doubt.fits is) refl closed.is))
      | inr shut ↦
          let more = framed payload ++ (0 ∷ doubt.rest) in
          inl (inl (held payloads text (doubt.gate ∷ more) file is (not_open doubt.gate more shut) doubt.is))
    ]

    -- what the keeper leaves is kept
    pub kept : (doubt : Option (List ℕ)) (file : List ℕ) → Holds text doubt file → IsKept payloads doubt file
    kept None file holds = by_shape payloads None (Holds text None) closed_recovers (λ old next closed loosens. absurd (closed_stays payloads text old next is closed loosens)) file holds
    kept (Some payload) file holds = by_shape payloads (Some payload) (Holds text (Some payload)) recovers stays file holds
      where
        recovers : (old : List ℕ) → Holds text (Some payload) old → RecoversWith payloads (Some payload) old
        recovers old (inl closed) = inl (closed_recovers old closed)
        recovers old (inr doubt) = doubt_recovers payload old doubt

        stays : (old next : List ℕ) → Holds text (Some payload) old → Loosens old next → Holds text (Some payload) next
        stays old next (inl closed) loosens = absurd (closed_stays payloads text old next is closed loosens)
        stays old next (inr doubt) loosens = inr (doubt_stays payloads payload text old next is doubt loosens)
