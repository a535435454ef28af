-- A stream is read in one way.
use Rattle.std.proofs.Common.{◌≡◌, ◌<◌, ◌≤◌, ◌+◌, ◌-◌, ◌⊎◌, ℕ, List, [], ◌++◌, length, take, drop, append-nil, append_assoc, Result, Ok, Err, IsOkAnd, inl, inr, ap, sym, ◌∙◌, subst, arith, length-append}
use Rattle.std.proofs.lemmas.List.{take-append-drop}
use Rattle.std.proofs.Math.Seq.{take-append-add, take-append_seam, drop-append_seam}
use Rattle.httparse.specs.Grammar.{RequestHead, ReadsRequest, HasNoRequest, print_request}
use Rattle.httparse.proofs.GrammarLemmas.{request_unique}
use Rattle.http_wire.specs.Head.{BeginsWith, body_length, path_of, query_of}
use Rattle.http_wire.specs.Stream.{IsRequest, IsEnd, IsBroken, IsUnfinished, HasOpenBody, HasNoHead, HasRefusedHead, IsRefused}
use Rattle.http_wire.specs.declared.head.Refusal.{Refusal}
use Rattle.http_wire.specs.declared.head.Refusal.TheVariants.{Bad, TooLarge, Unsupported}
use Rattle.http_wire.specs.declared.request.Request.{Request}
use Rattle.http_wire.proofs.PrefixLemmas.{blank_is_no_head, begins_more}

-- two lists that agree, where their prefixes are equally long
same_prefix : (a old body new : List ℕ) → a ++ old ≡ body ++ new → length a ≡ length body → (a ≡ body) × (old ≡ new)
same_prefix a old body new same long =
    let first : a ≡ body = sym (take-append_seam a old) ∙ ap (take (length a)) same ∙ ap (λ n. take n (body ++ new)) long ∙ take-append_seam body new in
    let back : old ≡ new = sym (drop-append_seam a old) ∙ ap (drop (length a)) same ∙ ap (λ n. drop n (body ++ new)) long ∙ drop-append_seam body new in
    (first, back)

pub one_head : (bytes : List ℕ) (a b : RequestHead) (rest more : List ℕ) → BeginsWith bytes a rest → BeginsWith bytes b more → (a ≡ b) × (rest ≡ more)
one_head bytes a b rest more x y = request_unique bytes a b rest more x.reads y.reads

ok_same : (r : Result ℕ Refusal) (m n : ℕ) → r ≡ Ok m → r ≡ Ok n → m ≡ n
ok_same r m n first second = cc

same_request : (a b : Request) → a.method ≡ b.method → a.path ≡ b.path → a.query ≡ b.query → a.body ≡ b.body → a ≡ b
same_request a b method path query body = λ i. record { method = method i; path = path i; query = query i; body = body i }

pub one_request : (bytes : List ℕ) (a b : Request) (rest more : List ℕ) → IsRequest bytes a rest → IsRequest bytes b more → (a ≡ b) × (rest ≡ more)
one_request bytes a b rest more x y =
    let heads = one_head bytes x.head y.head (a.body ++ rest) (b.body ++ more) x.begins y.begins in
    let long : length a.body ≡ length b.body = ok_same _ _ _ x.body (ap body_length heads.0 ∙ y.body) in
    let parts = same_prefix a.body rest b.body more heads.1 long in
    (same_request a b (x.method ∙ ap (λ h. h.method) heads.0 ∙ sym y.method) (x.path ∙ ap (λ h. path_of h.target) heads.0 ∙ sym y.path) (x.query ∙ ap (λ h. query_of h.target) heads.0 ∙ sym y.query) parts.0, parts.1)

pub request_goes_on : (bytes : List ℕ) (a : Request) (rest : List ℕ) → IsRequest bytes a rest → IsEnd bytes → ⊥
request_goes_on bytes a rest x end = blank_is_no_head bytes x.head (a.body ++ rest) end x.begins.reads

-- the first bytes of a request have its head
prefix_reads : (bytes : List ℕ) (head : RequestHead) (rest : List ℕ) → BeginsWith bytes head rest → ReadsRequest (take 16384 bytes) head (take (16384 - length (print_request head)) rest)
prefix_reads bytes head rest begins =
    let k = 16384 - length (print_request head) in
    let room : 16384 ≡ length (print_request head) + k = omega (arith, begins.short) in
    (begins.reads.0, ap (take 16384) begins.reads.1 ∙ ap (λ n. take n (print_request head ++ rest)) room ∙ take-append-add (print_request head) rest k)

not_broken : (bytes : List ℕ) (head : RequestHead) (rest : List ℕ) → BeginsWith bytes head rest → IsBroken (take 16384 bytes) → ⊥
not_broken bytes head rest begins (inl never) =
    let P : List ℕ → Type 0 = HasNoRequest in
    subst P (append-nil (take 16384 bytes)) (never []) head _ (prefix_reads bytes head rest begins)
not_broken bytes head rest begins (inr (exceeds, overflows)) =
    let P : List ℕ → Type 0 = λ all. ReadsRequest all head rest in
    let many : 64 < length head.fields = overflows (drop 16384 bytes) head rest (subst P (sym (take-append-drop 16384 bytes)) begins.reads) in
    absurd (omega (arith, many, begins.few))

pub no_head_refused : (bytes : List ℕ) (head : RequestHead) (rest : List ℕ) (refusal : Refusal) → BeginsWith bytes head rest → HasNoHead bytes refusal → ⊥
no_head_refused bytes head rest Bad begins broken = not_broken bytes head rest begins broken
no_head_refused bytes head rest (TooLarge len) begins (gap, long, is) = gap.0 head _ (prefix_reads bytes head rest begins)
no_head_refused bytes head rest Unsupported begins none = none

-- bytes that begin with a head are unfinished only for want of the body
pub unfinished_body : (bytes : List ℕ) (head : RequestHead) (rest : List ℕ) → BeginsWith bytes head rest → IsUnfinished bytes → HasOpenBody bytes
unfinished_body bytes head rest begins (inl end) = absurd (blank_is_no_head bytes head rest end begins.reads)
unfinished_body bytes head rest begins (inr (inl (gap, short))) = absurd (gap.0 head rest begins.reads)
unfinished_body bytes head rest begins (inr (inr partly)) = partly

body_there : (r : Result ℕ Refusal) (n after : ℕ) → r ≡ Ok n → n ≤ after → IsOkAnd r (λ len. after < len) → ⊥
body_there r n after ok enough short =
    let P : Result ℕ Refusal → Type 0 = λ r. IsOkAnd r (λ len. after < len) in
    let less : after < n = subst P ok short in
    absurd (omega (arith, less))

pub request_finished : (bytes : List ℕ) (a : Request) (rest : List ℕ) → IsRequest bytes a rest → IsUnfinished bytes → ⊥
request_finished bytes a rest x partly =
    let none = unfinished_body bytes x.head (a.body ++ rest) x.begins partly in
    let heads = one_head bytes none.head x.head none.rest (a.body ++ rest) none.begins x.begins in
    body_there (body_length none.head) (length a.body) (length none.rest) (ap body_length heads.0 ∙ x.body) (omega (arith, ap length heads.1, length-append a.body rest)) none.short

cause_refused : (bytes : List ℕ) (a : Request) (rest : List ℕ) (refusal : Refusal) → IsRequest bytes a rest → HasNoHead bytes refusal ⊎ (HasRefusedHead bytes refusal ⊎ ((refusal ≡ Bad) × IsUnfinished bytes)) → ⊥
cause_refused bytes a rest refusal x (inl none) = no_head_refused bytes x.head (a.body ++ rest) refusal x.begins none
cause_refused bytes a rest refusal x (inr (inl refused)) =
    let heads = one_head bytes refused.head x.head refused.rest (a.body ++ rest) refused.begins x.begins in
    ok_not_err (body_length x.head) (length a.body) refusal x.body (ap body_length (sym heads.0) ∙ refused.refused)
  where
    ok_not_err : (r : Result ℕ Refusal) (n : ℕ) (refusal : Refusal) → r ≡ Ok n → r ≡ Err refusal → ⊥
    ok_not_err r n refusal ok err = cc
cause_refused bytes a rest refusal x (inr (inr (bad, partly))) = request_finished bytes a rest x partly

pub request_not_refused : (bytes : List ℕ) (a : Request) (rest : List ℕ) (refusal : Refusal) → IsRequest bytes a rest → IsRefused bytes refusal → ⊥
request_not_refused bytes a rest refusal x refused = cause_refused bytes a rest refusal x refused.cause

-- bytes that follow a request come after it
pub request_more : (bytes : List ℕ) (a : Request) (rest more : List ℕ) → IsRequest bytes a rest → IsRequest (bytes ++ more) a (rest ++ more)
request_more bytes a rest more x =
    let P : List ℕ → Type 0 = BeginsWith (bytes ++ more) x.head in record {
      head = x.head;
      begins = subst P (append_assoc a.body rest more) (begins_more bytes more x.head (a.body ++ rest) x.begins);
      body = x.body;
      method = x.method;
      path = x.path;
      query = x.query;
    }
