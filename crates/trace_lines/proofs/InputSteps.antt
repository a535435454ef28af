-- The steps of a call for the next line, one after another.
use Rattle.std.proofs.Common.{◌≡◌, ◌≢◌, ◌≤◌, ◌+◌, ℕ, false, List, [], ◌∷◌, ◌++◌, length, Option, None, Some, IfSome, Result, Ok, Err, inl, inr, refl, ap, sym, ◌∙◌, subst, arith, append_assoc, append-nil, length-append}
use Rattle.std.specs.Io.KnownBytes.{Consumes, prepend_known}
use Rattle.sq_outside.specs.Streams.{SourceState}
use Rattle.http_wire.specs.Stream.{HasReadAll}
use Rattle.http_wire.proofs.ReadLemmas.{none_read, all_then, read_then, rose_before, past_then}
use Rattle.trace_lines.specs.Input.{Ahead, Input, input_of, taken_of, IsUnfinished, IsBroken, IsBad, HasReadOn, EndsInput, StaysAhead, HasInputCause, FailsWith, ReadsNext, LooksAhead, ReadsAhead, ReadsOn, EndsAhead}
use Rattle.trace_lines.specs.declared.line.Line.{Line}
use Rattle.trace_lines.specs.declared.input.InputFault.{InputFault}
use Rattle.trace_lines.specs.declared.input.InputFault.TheVariants as faults
use Rattle.trace_lines.proofs.InputLaws.{broken_more}

-- ---- after bytes that stay ahead

stays_then : (a b c : Ahead) (xs ys : List ℕ) → StaysAhead a xs b → StaysAhead b ys c → StaysAhead a (xs ++ ys) c
stays_then a b c xs ys first second = record {
  bytes = second.bytes ∙ ap (λ w. w ++ ys) first.bytes ∙ append_assoc a.bytes xs ys;
  at = second.at ∙ first.at;
}

-- where nothing was read, what stood ahead is what stands ahead
same_ahead : (P : List ℕ → Type 0) (a b : Ahead) (xs : List ℕ) → StaysAhead a xs b → xs ≡ [] → P b.bytes → P a.bytes
same_ahead P a b xs stays none holds = subst P (stays.bytes ∙ ap (λ w. a.bytes ++ w) none ∙ append-nil a.bytes) holds

more_ahead : (P : List ℕ → Type 0) (a b : Ahead) (xs ys : List ℕ) → StaysAhead a xs b → P (b.bytes ++ ys) → P (a.bytes ++ (xs ++ ys))
more_ahead P a b xs ys stays holds = subst P (ap (λ w. w ++ ys) stays.bytes ∙ append_assoc a.bytes xs ys) holds

sum_ahead : (a b : Ahead) (xs : List ℕ) → StaysAhead a xs b → taken_of b ≡ taken_of a + length xs
sum_ahead a b xs stays = omega (arith, stays.at, ap length stays.bytes, length-append a.bytes xs)

on_then : (old mid new : Input) (xs ys : List ℕ) → ReadsAhead old xs mid → HasReadOn mid ys new → HasReadOn old (xs ++ ys) new
on_then old mid new xs ys on read =
    read_then old.source mid.source new.source xs ys (IsUnfinished old.ahead.bytes) (IsUnfinished mid.ahead.bytes) on.has_read read
    (λ none partly. same_ahead IsUnfinished old.ahead mid.ahead xs on.stays none partly)

ahead_then : (old mid new : Input) (xs ys : List ℕ) → ReadsAhead old xs mid → ReadsAhead mid ys new → ReadsAhead old (xs ++ ys) new
ahead_then old mid new xs ys first second = record {
  has_read = on_then old mid new xs ys first second.has_read;
  stays = stays_then old.ahead mid.ahead new.ahead xs ys first.stays second.stays;
}

bad_then : (left left' : Option (List ℕ)) (bytes bytes' xs : List ℕ) → Consumes left left' xs → bytes' ≡ bytes ++ xs
    → IfSome (prepend_known bytes' left') IsBad → IfSome (prepend_known bytes left) IsBad
bad_then None left' bytes bytes' xs consumed same bad = tt
bad_then (Some ls) None bytes bytes' xs consumed same bad = absurd consumed
bad_then (Some ls) (Some rs) bytes bytes' xs consumed same bad =
    let P : List ℕ → Type 0 = IsBad in
    subst P (ap (λ w. w ++ rs) same ∙ append_assoc bytes xs rs ∙ ap (λ w. bytes ++ w) (sym consumed)) bad

cause_then : (old mid new : Input) (xs ys : List ℕ) (fault : InputFault) → ReadsAhead old xs mid → HasInputCause mid ys new fault
    → HasInputCause old (xs ++ ys) new fault
cause_then old mid new xs ys (faults.BadLine at) on (place, bad) =
    let rest = bad_then old.source.left mid.source.left old.ahead.bytes mid.ahead.bytes xs on.has_read.consumed on.stays.bytes bad in
    (place ∙ on.stays.at, rest)
cause_then old mid new xs ys faults.ReadFault on (rose, partly) =
    let later = rose_before old.source.faults mid.source.faults new.source.faults on.has_read.count rose in
    (later, more_ahead IsUnfinished old.ahead mid.ahead xs ys on.stays partly)
cause_then old mid new xs ys faults.InputTooLong on past =
    past_then (taken_of old.ahead) (taken_of mid.ahead) xs ys
    (λ zs. IsUnfinished (mid.ahead.bytes ++ zs)) (λ zs. IsUnfinished (old.ahead.bytes ++ zs)) (sum_ahead old.ahead mid.ahead xs on.stays)
    (λ zs partly. more_ahead IsUnfinished old.ahead mid.ahead xs zs on.stays partly) past
cause_then old mid new xs ys faults.NoMemory on stays = stays_then old.ahead mid.ahead new.ahead xs ys on.stays stays

pub fails_then : (old mid new : Input) (xs : List ℕ) (fault : InputFault) → ReadsAhead old xs mid → FailsWith mid fault new
    → FailsWith old fault new
fails_then old mid new xs fault on fails = record {
  read = xs ++ fails.read;
  has_read = on_then old mid new xs fails.read on fails.has_read;
  within = omega (arith, fails.within, sum_ahead old.ahead mid.ahead xs on.stays, length-append xs fails.read);
  cause = cause_then old mid new xs fails.read fault on fails.cause;
}

-- ---- a look at the bytes ahead

broken_rest : (bytes : List ℕ) (left : Option (List ℕ)) → IsBroken bytes → IfSome (prepend_known bytes left) IsBad
broken_rest bytes None broken = tt
broken_rest bytes (Some ls) broken = inl (broken_more bytes ls broken)

fails_now : (ahead ahead' : Ahead) (a : SourceState) (fault : InputFault) → taken_of ahead ≤ 1073741824 → LooksAhead ahead (Err fault) ahead'
    → FailsWith (input_of ahead a) fault (input_of ahead' a)
fails_now ahead ahead' a (faults.BadLine at) within (place, broken) = record {
  read = [];
  has_read = none_read a (IsUnfinished ahead.bytes);
  within = omega arith;
  cause = (place, broken_rest ahead.bytes a.left broken);
}
fails_now ahead ahead' a faults.ReadFault within none = absurd none
fails_now ahead ahead' a faults.InputTooLong within none = absurd none
fails_now ahead ahead' a faults.NoMemory within same = record {
  read = [];
  has_read = none_read a (IsUnfinished ahead.bytes);
  within = omega arith;
  cause = record { bytes = ap (λ (w : Ahead). w.bytes) same ∙ sym (append-nil ahead.bytes); at = ap (λ (w : Ahead). w.at) same };
}

pub look_fails : (old : Input) (ahead ahead' : Ahead) (a : SourceState) (xs : List ℕ) (fault : InputFault) → ReadsAhead old xs (input_of ahead a)
    → taken_of ahead ≤ 1073741824 → LooksAhead ahead (Err fault) ahead' → FailsWith old fault (input_of ahead' a)
look_fails old ahead ahead' a xs fault on within looks =
    fails_then old (input_of ahead a) (input_of ahead' a) xs fault on (fails_now ahead ahead' a fault within looks)

-- what is unfinished stays ahead
pub look_on : (old : Input) (ahead ahead' : Ahead) (a : SourceState) (xs : List ℕ) → ReadsAhead old xs (input_of ahead a)
    → LooksAhead ahead (Ok None) ahead' → ReadsAhead old xs (input_of ahead' a) × IsUnfinished ahead'.bytes
look_on old ahead ahead' a xs on (same, partly) = rw same (on, partly)

-- ---- the end of the source

nothing : (xs ys : List ℕ) → xs ++ ys ≡ [] → (xs ≡ []) × (ys ≡ [])
nothing [] ys none = (refl, none)
nothing (x ∷ xs) ys none = absurd (let differ : x ∷ (xs ++ ys) ≡ [] = none in cc)

same_record : (a b : Ahead) → a.bytes ≡ b.bytes → a.at ≡ b.at → a ≡ b
same_record a b bytes at = λ i. record { bytes = bytes i; at = at i }

ends_input : (old new : Input) (read : List ℕ) → ReadsAhead old read new → HasReadAll old.source.left read → taken_of new.ahead ≤ 1073741824
    → new.ahead.bytes ≡ [] → EndsInput old new
ends_input old new read on all within none =
    let parts = nothing old.ahead.bytes read (sym on.stays.bytes ∙ none) in
    let P : List ℕ → Type 0 = λ read. HasReadOn old read new in
    let Q : List ℕ → Type 0 = HasReadAll old.source.left in
    record {
      has_read = subst P parts.1 on.has_read;
      none_ahead = parts.0;
      all = subst Q parts.1 all;
      same = same_record new.ahead old.ahead (none ∙ sym parts.0) on.stays.at;
      within = omega (arith, within, sum_ahead old.ahead new.ahead read on.stays);
    }

cut_rest : (bytes read : List ℕ) (left : Option (List ℕ)) → HasReadAll left read → IsUnfinished (bytes ++ read) → bytes ++ read ≢ []
    → IfSome (prepend_known bytes left) IsBad
cut_rest bytes read None all partly some = tt
cut_rest bytes read (Some ls) all partly some = let P : List ℕ → Type 0 = λ w. IsBad (bytes ++ w) in subst P (sym all) (inr (partly, some))

cut_fails : (old new : Input) (read : List ℕ) → ReadsAhead old read new → HasReadAll old.source.left read → taken_of new.ahead ≤ 1073741824
    → IsUnfinished new.ahead.bytes → new.ahead.bytes ≢ [] → FailsWith old (faults.BadLine new.ahead.at) new
cut_fails old new read on all within partly some =
    let P : List ℕ → Type 0 = IsUnfinished in
    let Q : List ℕ → Type 0 = λ w. w ≢ [] in
    let bad = cut_rest old.ahead.bytes read old.source.left all (subst P on.stays.bytes partly) (subst Q on.stays.bytes some) in
    record {
      read = read;
      has_read = on.has_read;
      within = omega (arith, within, sum_ahead old.ahead new.ahead read on.stays);
      cause = (on.stays.at, bad);
    }

ends_so : (old new : Input) (read : List ℕ) (result : Result (Option Line) InputFault) → ReadsAhead old read new → HasReadAll old.source.left read
    → taken_of new.ahead ≤ 1073741824 → IsUnfinished new.ahead.bytes → EndsAhead new.ahead result → ReadsNext old result new
ends_so old new read (Ok (Some line)) on all within partly ends = absurd ends
ends_so old new read (Ok None) on all within partly none = ends_input old new read on all within none
ends_so old new read (Err fault) on all within partly (some, is) =
    let P : InputFault → Type 0 = λ fault. FailsWith old fault new in subst P (sym is) (cut_fails old new read on all within partly some)

-- the source is at its end after bytes that are unfinished
pub end_answers : (old mid new : Input) (xs : List ℕ) (result : Result (Option Line) InputFault) → ReadsAhead old xs mid
    → IsUnfinished mid.ahead.bytes → ReadsOn mid false new → EndsAhead new.ahead result → ReadsNext old result new
end_answers old mid new xs result on partly reads ends =
    let end = reads.none refl in
    let P : List ℕ → Type 0 = HasReadAll mid.source.left in
    let Q : List ℕ → Type 0 = IsUnfinished in
    let same : new.ahead.bytes ≡ mid.ahead.bytes = reads.reads.stays.bytes ∙ ap (λ w. mid.ahead.bytes ++ w) end.0 ∙ append-nil mid.ahead.bytes in
    ends_so old new (xs ++ reads.read) result (ahead_then old mid new xs reads.read on reads.reads)
    (all_then old.source.left mid.source.left xs reads.read on.has_read.consumed (subst P (sym end.0) end.1)) reads.within (subst Q (sym same) partly) ends
