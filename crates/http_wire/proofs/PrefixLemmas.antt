-- What the first bytes of a stream say of all of it.
use Rattle.std.proofs.Common.{◌≡◌, ◌<◌, ◌≤◌, ◌+◌, ◌-◌, ℕ, List, [], ◌∷◌, ◌++◌, length, take, drop, Bool, true, false, ◌&&◌, ◌⊎◌, inl, inr, refl, ap, sym, ◌∙◌, subst, arith, append_assoc, append-nil, length-append}
use Rattle.std.proofs.lemmas.List.{take-append-drop, take-append-le, drop-append-le, take_all}
use Rattle.std.proofs.Math.Seq.{take-append-add}
use Rattle.std.proofs.lemmas.List.Folds.{list_all-append}
use Rattle.std.proofs.lemmas.List.Elements.{All-get_or}
use Rattle.std.proofs.lemmas.Bool.Decides.{nat_tests}
use Rattle.httparse.proofs.GrammarLemmas.{ReadsRequest-append}
use Rattle.httparse.specs.Grammar.{is_token_byte, IsToken, print_blank, print_version, print_end, print_section, print_request, RequestHead, IsRequestHead, ReadsRequest, HasNoRequest, NeverHasRequest}
use Rattle.httparse.specs.Spans.{RequestExceeds, RequestOverflows}
use Rattle.http_wire.specs.Head.{BeginsWith}
use Rattle.http_wire.specs.Stream.{IsEnd, is_line_byte, IsBroken, IsOpen, HasNoHead, HasRefusedHead}
use Rattle.http_wire.specs.Reading.{IsHeadOf}
use Rattle.http_wire.specs.declared.head.Refusal.{Refusal}
use Rattle.http_wire.specs.declared.head.Refusal.TheVariants.{Bad, TooLarge, Unsupported}
use Rattle.http_wire.specs.declared.head.Head.{Head}

-- A prefix of bytes says what all of them are.

pub begins_more : (prefix more : List ℕ) (tree : RequestHead) (rest : List ℕ) → BeginsWith prefix tree rest → BeginsWith (prefix ++ more) tree (rest ++ more)
begins_more prefix more tree rest begins = record {
  reads = ReadsRequest-append prefix tree rest more begins.reads;
  few = begins.few;
  short = begins.short;
}

never_more : (prefix more : List ℕ) → NeverHasRequest prefix → NeverHasRequest (prefix ++ more)
never_more prefix more never further = let P : List ℕ → Type 0 = HasNoRequest in subst P (sym (append_assoc prefix more further)) (never (more ++ further))

exceeds_more : (room : ℕ) (prefix more : List ℕ) → RequestExceeds room prefix → RequestExceeds room (prefix ++ more)
exceeds_more room prefix more (lines, rest, parts, h, reads, many) = (lines, rest ++ more, ap (λ w. w ++ more) parts ∙ append_assoc lines rest more, h, reads, many)

overflows_more : (room : ℕ) (prefix more : List ℕ) → RequestOverflows room prefix → RequestOverflows room (prefix ++ more)
overflows_more room prefix more overflows further h rest reads = overflows (more ++ further) h rest (let P : List ℕ → Type 0 = λ bytes. ReadsRequest bytes h rest in subst P (append_assoc prefix more further) reads)

broken_more : (prefix more : List ℕ) → IsBroken prefix → IsBroken (prefix ++ more)
broken_more prefix more (inl never) = inl (never_more prefix more never)
broken_more prefix more (inr (exceeds, overflows)) = inr (exceeds_more _ prefix more exceeds, overflows_more _ prefix more overflows)

pub head_more : (prefix more : List ℕ) (head : Head) → IsHeadOf prefix head → IsHeadOf (prefix ++ more) head
head_more prefix more head found = record {
  tree = found.tree;
  begins = let P : List ℕ → Type 0 = BeginsWith (prefix ++ more) found.tree in subst P (sym (drop-append-le head.len prefix more found.within)) (begins_more prefix more found.tree (drop head.len prefix) found.begins);
  len = found.len;
  within = omega (arith, length-append prefix more, found.within);
  body = found.body;
  method = found.method;
  path = found.path;
  query = found.query;
}

refused_more : (prefix more : List ℕ) (refusal : Refusal) → HasRefusedHead prefix refusal → HasRefusedHead (prefix ++ more) refusal
refused_more prefix more refusal refused = record {
  head = refused.head;
  rest = refused.rest ++ more;
  begins = begins_more prefix more refused.head refused.rest refused.begins;
  refused = refused.refused;
}

-- bytes that aren't line ends alone are not the end, whatever stands round them
all_first : (a b : Bool) → (a && b) ≡ true → a ≡ true
all_first true b both = refl
all_first false b both = both

all_second : (a b : Bool) → (a && b) ≡ true → b ≡ true
all_second true b both = both
all_second false b both = (let differ : false ≡ true = both in cc)

pub end_first : (prefix more : List ℕ) → IsEnd (prefix ++ more) → IsEnd prefix
end_first prefix more end = all_first _ _ (sym (list_all-append is_line_byte prefix more) ∙ end)

pub end_second : (prefix more : List ℕ) → IsEnd (prefix ++ more) → IsEnd more
end_second prefix more end = all_second _ _ (sym (list_all-append is_line_byte prefix more) ∙ end)

pub not_end : (n : ℕ) (bytes : List ℕ) → (IsEnd (take n bytes) → ⊥) → IsEnd bytes → ⊥
not_end n bytes other end = let P : List ℕ → Type 0 = IsEnd in other (end_first (take n bytes) (drop n bytes) (subst P (sym (take-append-drop n bytes)) end))

-- line ends alone are no head: its method has another byte
line_byte : (b : ℕ) → is_line_byte b ≡ true → (b ≡ 13) ⊎ (b ≡ 10)
line_byte b line = grind (arith, nat_tests)

no_token : (b : ℕ) → (b ≡ 13) ⊎ (b ≡ 10) → is_token_byte b ≡ true → ⊥
unfolding is_token_byte
no_token b (inl cr) token = let P : ℕ → Type 0 = λ b. is_token_byte b ≡ true in let at : false ≡ true = subst P cr token in (cc)
no_token b (inr lf) token = let P : ℕ → Type 0 = λ b. is_token_byte b ≡ true in let at : false ≡ true = subst P lf token in (cc)

no_method : (method : List ℕ) → IsToken method → IsEnd method → ⊥
no_method [] token end = absurd (omega (arith, token.0))
no_method (b ∷ method) token end = no_token b (line_byte b (all_first _ _ end)) (All-get_or (λ b. is_token_byte b ≡ true) (b ∷ method) 0 0 token.0 token.1)

pub blank_is_no_head : (bytes : List ℕ) (head : RequestHead) (rest : List ℕ) → IsEnd bytes → ReadsRequest bytes head rest → ⊥
unfolding print_request
blank_is_no_head bytes head rest end (parts, is) =
    let P : List ℕ → Type 0 = IsEnd in
    let start = print_blank head.blank ++ head.method in
    let target = start ++ 32 ∷ head.target in
    let version = target ++ 32 ∷ print_version head.minor in
    let line = version ++ print_end head.line_end in
    no_method head.method parts.method (end_second (print_blank head.blank) head.method
    (end_first start (32 ∷ head.target) (end_first target (32 ∷ print_version head.minor) (end_first version (print_end head.line_end)
    (end_first line (print_section head.fields head.last) (end_first (print_request head) rest (subst P is end)))))))

-- the first bytes of more bytes
first_at : (n : ℕ) (a b : List ℕ) → (n ≤ length a) ⊎ (length a ≤ n) → (more : List ℕ) × (take n (a ++ b) ≡ take n a ++ more)
first_at n a b (inl short) = ([], take-append-le n a b short ∙ sym (append-nil (take n a)))
first_at n a b (inr long) =
    let over : n ≡ length a + (n - length a) = omega arith in
    (take (n - length a) b, ap (λ k. take k (a ++ b)) over ∙ take-append-add a b (n - length a) ∙ ap (λ w. w ++ take (n - length a) b) (sym (take_all n a long)))

first_of_rest : (ahead left : List ℕ) → (more : List ℕ) × (take 16384 (ahead ++ left) ≡ take 16384 ahead ++ more)
first_of_rest ahead left = first_at 16384 ahead left (grind arith)

no_head_more : (bytes more : List ℕ) (refusal : Refusal) → HasNoHead bytes refusal → HasNoHead (bytes ++ more) refusal
no_head_more bytes more Bad broken =
    let parts = first_of_rest bytes more in
    let P : List ℕ → Type 0 = IsBroken in
    subst P (sym parts.1) (broken_more (take 16384 bytes) parts.0 broken)
no_head_more bytes more (TooLarge len) (is_open, full, is) =
    let P : List ℕ → Type 0 = IsOpen in
    (subst P (sym (take-append-le 16384 bytes more full)) is_open, omega (arith, length-append bytes more), is)
no_head_more bytes more Unsupported none = none

pub refused_whole : (n : ℕ) (bytes : List ℕ) (refusal : Refusal) → HasRefusedHead (take n bytes) refusal → HasRefusedHead bytes refusal
refused_whole n bytes refusal refused =
    let P : List ℕ → Type 0 = λ all. HasRefusedHead all refusal in
    subst P (take-append-drop n bytes) (refused_more (take n bytes) (drop n bytes) refusal refused)

pub head_whole : (n : ℕ) (bytes : List ℕ) (head : Head) → IsHeadOf (take n bytes) head → IsHeadOf bytes head
head_whole n bytes head found =
    let P : List ℕ → Type 0 = λ all. IsHeadOf all head in
    subst P (take-append-drop n bytes) (head_more (take n bytes) (drop n bytes) head found)

pub cause_more : (bytes more : List ℕ) (refusal : Refusal) → HasNoHead bytes refusal ⊎ HasRefusedHead bytes refusal → HasNoHead (bytes ++ more) refusal ⊎ HasRefusedHead (bytes ++ more) refusal
cause_more bytes more refusal (inl none) = inl (no_head_more bytes more refusal none)
cause_more bytes more refusal (inr refused) = inr (refused_more bytes more refusal refused)

-- a head isn't empty: it has a method
pub head_length : (head : RequestHead) → IsRequestHead head → 0 < length (print_request head)
unfolding print_request
head_length head parts =
    let start = print_blank head.blank ++ head.method in
    let target = start ++ 32 ∷ head.target in
    let version = target ++ 32 ∷ print_version head.minor in
    let line = version ++ print_end head.line_end in
    omega (arith, parts.method.0, length-append line (print_section head.fields head.last), length-append version (print_end head.line_end), length-append target (32 ∷ print_version head.minor), length-append start (32 ∷ head.target), length-append (print_blank head.blank) head.method)

pub head_some : (bytes : List ℕ) (head : Head) → IsHeadOf bytes head → 0 < head.len
head_some bytes head found = omega (arith, found.len, head_length found.tree found.begins.reads.0)
