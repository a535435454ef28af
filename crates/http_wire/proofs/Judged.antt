-- Every stream is judged, and in one way outside two corners.
use Rattle.std.proofs.Common.{◌≡◌, ◌<◌, ◌≤◌, ◌+◌, ◌-◌, ◌⊎◌, ℕ, Bool, true, false, List, [], ◌∷◌, ◌++◌, length, take, drop, append-nil, append_assoc, Result, Ok, Err, IsOkAnd, inl, inr, refl, ap, sym, ◌∙◌, subst, arith, length-append, length-take}
use Rattle.std.specs.List.{list_all, flat_map}
use Rattle.std.proofs.lemmas.Bool.{cases_lt}
use Rattle.std.proofs.lemmas.List.{take-append-drop, take-append-le, take_all}
use Rattle.std.proofs.Math.Seq.{take-append-add, take-append_seam}
use Rattle.httparse.specs.Grammar.{RequestHead, ReadsRequest, HasNoRequest, NeverHasRequest, MayBecomeRequest, EndsInTarget, print_request, print_blank, print_version, print_end, print_field, lf}
use Rattle.httparse.specs.Spans.{RequestExceeds, RequestOverflows}
use Rattle.httparse.proofs.GrammarLemmas.{request_unique, ReadsRequest-append}
use Rattle.http_wire.specs.Head.{BeginsWith, body_length, path_of, query_of}
use Rattle.http_wire.specs.Stream.{IsEnd, is_line_byte, IsBroken, IsOpen, IsUnfinished, HasNoHead, HasRefusedHead, IsRefused, IsRefusedTwice, IsJudged}
use Rattle.http_wire.specs.declared.head.Refusal.{Refusal}
use Rattle.http_wire.specs.declared.head.Refusal.TheVariants.{Bad, TooLarge, Unsupported}
use Rattle.http_wire.proofs.PrefixLemmas.{begins_more}
use Rattle.http_wire.proofs.StreamLaws.{one_head, no_head_refused, unfinished_body}

-- Two ways.

twice : (bytes : List ℕ) (len : ℕ) → IsBroken (take 16384 bytes) → HasNoHead bytes (TooLarge len) → IsRefusedTwice bytes
twice bytes len broken (gap, full, is) = record { full = full; partly = gap; corner = corner broken gap.1 }
  where
    corner : IsBroken (take 16384 bytes) → MayBecomeRequest (take 16384 bytes) → RequestExceeds 64 (take 16384 bytes) ⊎ (EndsInTarget (take 16384 bytes) × NeverHasRequest (take 16384 bytes))
    corner (inl never) (inl (more, h, reads)) = absurd (never more h [] reads)
    corner (inl never) (inr target) = inr (target, never)
    corner (inr (exceeds, overflows)) may = inl exceeds

no_two_heads : (bytes : List ℕ) (a b : Refusal) → HasNoHead bytes a → HasNoHead bytes b → (a ≡ b) ⊎ IsRefusedTwice bytes
no_two_heads bytes Bad Bad first second = inl refl
no_two_heads bytes Bad (TooLarge len) first second = inr (twice bytes len first second)
no_two_heads bytes Bad Unsupported first second = absurd second
no_two_heads bytes (TooLarge len) Bad first second = inr (twice bytes len second first)
no_two_heads bytes (TooLarge len) (TooLarge other) first second = inl (ap TooLarge (first.2 ∙ sym second.2))
no_two_heads bytes (TooLarge len) Unsupported first second = absurd second
no_two_heads bytes Unsupported other first second = absurd first

two_heads : (bytes : List ℕ) (a b : Refusal) → HasRefusedHead bytes a → HasRefusedHead bytes b → a ≡ b
two_heads bytes a b x y = same (body_length y.head) a b (ap body_length (sym (one_head bytes x.head y.head x.rest y.rest x.begins y.begins).0) ∙ x.refused) y.refused
  where
    same : (r : Result ℕ Refusal) (a b : Refusal) → r ≡ Err a → r ≡ Err b → a ≡ b
    same r a b first second = cc

not_partly : (bytes : List ℕ) (a : Refusal) → HasRefusedHead bytes a → IsUnfinished bytes → ⊥
not_partly bytes a x partly =
    let none = unfinished_body bytes x.head x.rest x.begins partly in
    let P : Result ℕ Refusal → Type 0 = λ r. IsOkAnd r (λ len. length none.rest < len) in
    subst P (ap body_length (one_head bytes none.head x.head none.rest x.rest none.begins x.begins).0 ∙ x.refused) none.short

not_long : (bytes : List ℕ) (len : ℕ) → (IsEnd bytes → ⊥) → HasNoHead bytes (TooLarge len) → IsUnfinished bytes → ⊥
not_long bytes len goes_on none (inl end) = goes_on end
not_long bytes len goes_on (gap, full, is) (inr (inl (gap', short))) = absurd (omega (arith, full, short))
not_long bytes len goes_on none (inr (inr partly)) = no_head_refused bytes partly.head partly.rest (TooLarge len) partly.begins none

no_head_partly : (bytes : List ℕ) (a : Refusal) → (IsEnd bytes → ⊥) → HasNoHead bytes a → IsUnfinished bytes → a ≡ Bad
no_head_partly bytes Bad goes_on none partly = refl
no_head_partly bytes (TooLarge len) goes_on none partly = absurd (not_long bytes len goes_on none partly)
no_head_partly bytes Unsupported goes_on none partly = absurd none

abbrev Cause : List ℕ → Refusal → Type 0
Cause bytes refusal = HasNoHead bytes refusal ⊎ (HasRefusedHead bytes refusal ⊎ ((refusal ≡ Bad) × IsUnfinished bytes))

same_cause : (bytes : List ℕ) (a b : Refusal) → (IsEnd bytes → ⊥) → Cause bytes a → Cause bytes b → (a ≡ b) ⊎ IsRefusedTwice bytes
same_cause bytes a b goes_on (inl x) (inl y) = no_two_heads bytes a b x y
same_cause bytes a b goes_on (inl x) (inr (inl y)) = absurd (no_head_refused bytes y.head y.rest a y.begins x)
same_cause bytes a b goes_on (inl x) (inr (inr (is, partly))) = inl (no_head_partly bytes a goes_on x partly ∙ sym is)
same_cause bytes a b goes_on (inr (inl x)) (inl y) = absurd (no_head_refused bytes x.head x.rest b x.begins y)
same_cause bytes a b goes_on (inr (inl x)) (inr (inl y)) = inl (two_heads bytes a b x y)
same_cause bytes a b goes_on (inr (inl x)) (inr (inr (is, partly))) = absurd (not_partly bytes a x partly)
same_cause bytes a b goes_on (inr (inr (is, partly))) (inl y) = inl (is ∙ sym (no_head_partly bytes b goes_on y partly))
same_cause bytes a b goes_on (inr (inr (is, partly))) (inr (inl y)) = absurd (not_partly bytes b y partly)
same_cause bytes a b goes_on (inr (inr (is, partly))) (inr (inr (is', partly'))) = inl (is ∙ sym is')

pub refused_once : (bytes : List ℕ) (a b : Refusal) → IsRefused bytes a → IsRefused bytes b → (a ≡ b) ⊎ IsRefusedTwice bytes
refused_once bytes a b x y = same_cause bytes a b x.goes_on x.cause y.cause

-- Every way.

-- a head in the first bytes has more fields than it may
exceeds : (bytes : List ℕ) (h : RequestHead) (rest : List ℕ) → ReadsRequest bytes h rest → 64 < length h.fields → RequestExceeds 64 bytes
unfolding print_request
exceeds bytes h rest (parts, is) many =
    let line = (((print_blank h.blank ++ h.method) ++ 32 ∷ h.target) ++ 32 ∷ print_version h.minor) ++ print_end h.line_end in
    let fields = flat_map print_field h.fields in (
      line ++ fields,
      print_end h.last ++ rest,
      is ∙ ap (λ w. w ++ rest) (sym (append_assoc line fields (print_end h.last))) ∙ append_assoc (line ++ fields) (print_end h.last) rest,
      record h { last = lf },
      (record { method = parts.method; target = parts.target; target_text = parts.target_text; minor = parts.minor; fields = parts.fields }, append_assoc line fields (print_end lf) ∙ sym (append-nil (line ++ (fields ++ print_end lf)))),
      many,
    )

overflows : (bytes : List ℕ) (h : RequestHead) (rest : List ℕ) → ReadsRequest bytes h rest → 64 < length h.fields → RequestOverflows 64 bytes
overflows bytes h rest reads many more other rest' reads' =
    let same : h ≡ other = (request_unique (bytes ++ more) h other (rest ++ more) rest' (ReadsRequest-append bytes h rest more reads) reads').0 in
    let P : RequestHead → Type 0 = λ h. 64 < length h.fields in
    subst P same many

-- what a head that is taken announces is judged
announced_judged : (bytes : List ℕ) (h : RequestHead) (rest : List ℕ) (r : Result ℕ Refusal) → (IsEnd bytes → ⊥) → BeginsWith bytes h rest → body_length h ≡ r → IsJudged bytes
announced_judged bytes h rest (Err refusal) goes_on begins is = inr (inr (refusal, record { goes_on = goes_on; cause = inr (inl (record { head = h; rest = rest; begins = begins; refused = is })) }))
announced_judged bytes h rest (Ok n) goes_on begins is = by_length (grind arith)
  where
    by_length : (n ≤ length rest) ⊎ (length rest < n) → IsJudged bytes
    by_length (inl enough) =
        let P : List ℕ → Type 0 = BeginsWith bytes h in inl (
          record { method = h.method; path = path_of h.target; query = query_of h.target; body = take n rest },
          drop n rest,
          record {
            head = h;
            begins = subst P (sym (take-append-drop n rest)) begins;
            body = is ∙ ap Ok (sym (let sized : length (take n rest) ≡ n = omega (arith, length-take n rest) in sized));
            method = refl;
            path = refl;
            query = refl;
          },
        )
    by_length (inr short) =
        let P : Result ℕ Refusal → Type 0 = λ r. IsOkAnd r (λ len. length rest < len) in
        inr (inr (Bad, record { goes_on = goes_on; cause = inr (inr (refl, inr (inr (record { head = h; rest = rest; begins = begins; short = subst P (sym is) short })))) }))

head_judged : (bytes : List ℕ) (h : RequestHead) (rest : List ℕ) → (IsEnd bytes → ⊥) → ReadsRequest (take 16384 bytes) h rest → IsJudged bytes
head_judged bytes h rest goes_on reads = by_fields (grind arith)
  where
    size : length (print_request h) ≤ 16384
    size = omega (arith, ap length reads.1, length-append (print_request h) rest, length-take 16384 bytes)

    by_fields : (length h.fields ≤ 64) ⊎ (64 < length h.fields) → IsJudged bytes
    by_fields (inl few) =
        let P : List ℕ → Type 0 = λ all. BeginsWith all h (rest ++ drop 16384 bytes) in
        announced_judged bytes h (rest ++ drop 16384 bytes) (body_length h) goes_on (subst P (take-append-drop 16384 bytes) (begins_more (take 16384 bytes) (drop 16384 bytes) h rest (record { reads = reads; few = few; short = size }))) refl
    by_fields (inr many) = inr (inr (Bad, record { goes_on = goes_on; cause = inl (inr (exceeds (take 16384 bytes) h rest reads many, overflows (take 16384 bytes) h rest reads many)) }))

open_judged : (bytes : List ℕ) → (IsEnd bytes → ⊥) → IsOpen (take 16384 bytes) → IsJudged bytes
open_judged bytes goes_on gap = by_length (cases_lt (length bytes) 16384)
  where
    by_length : (length bytes < 16384) ⊎ (16384 ≤ length bytes) → IsJudged bytes
    by_length (inr full) = inr (inr (TooLarge 16384, record { goes_on = goes_on; cause = inl (gap, full, refl) }))
    by_length (inl short) =
        let P : List ℕ → Type 0 = IsOpen in
        inr (inr (Bad, record { goes_on = goes_on; cause = inr (inr (refl, inr (inl (subst P (take_all 16384 bytes (omega arith)) gap, short)))) }))

-- a head that ends in what follows is one that the bytes may become
may_become : (bytes more : List ℕ) (h : RequestHead) (rest : List ℕ) → HasNoRequest bytes → ReadsRequest (bytes ++ more) h rest → MayBecomeRequest bytes
may_become bytes more h rest none (parts, is) = by_length (grind arith)
  where
    by_length : (length (print_request h) ≤ length bytes) ⊎ (length bytes ≤ length (print_request h)) → MayBecomeRequest bytes
    by_length (inl within) =
        let k = length (print_request h) in
        let first : take k bytes ≡ print_request h = sym (take-append-le k bytes more within) ∙ ap (take k) is ∙ take-append_seam (print_request h) rest in
        absurd (none h (drop k bytes) (parts, sym (take-append-drop k bytes) ∙ ap (λ w. w ++ drop k bytes) first))
    by_length (inr beyond) =
        let j = length (print_request h) - length bytes in
        let span : length (print_request h) ≡ length bytes + j = omega (arith, beyond) in
        let whole : bytes ++ take j more ≡ print_request h =
        sym (take-append-add bytes more j) ∙ ap (λ k. take k (bytes ++ more)) (sym span) ∙ ap (take (length (print_request h))) is ∙ take-append_seam (print_request h) rest in
        inl (take j more, h, (parts, whole ∙ sym (append-nil (print_request h))))

pub judged : (bytes : List ℕ) → (IsJudged bytes → ⊥) → ⊥
judged bytes refute = by_end (list_all is_line_byte bytes) refl
  where
    others : (IsEnd bytes → ⊥) → ⊥
    others goes_on =
        let prefix = take 16384 bytes in
        let none : HasNoRequest prefix = λ h rest reads. refute (head_judged bytes h rest goes_on reads) in
        let never : NeverHasRequest prefix = λ more h rest reads. refute (open_judged bytes goes_on (none, may_become prefix more h rest none reads)) in
        refute (inr (inr (Bad, record { goes_on = goes_on; cause = inl (inl never) })))

    by_end : (b : Bool) → list_all is_line_byte bytes ≡ b → ⊥
    by_end true end = refute (inr (inl end))
    by_end false other = others (λ end. (let differ : true ≡ false = sym end ∙ other in cc))
