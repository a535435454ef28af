-- The steps of a call for the next request, one after another.
use Rattle.std.proofs.Common.{◌≡◌, ◌<◌, ◌≤◌, ◌+◌, ◌-◌, ◌⊎◌, ℕ, min, List, [], ◌∷◌, ◌++◌, length, take, drop, Bool, true, false, Option, None, Some, IfSome, Result, Ok, Err, IsOkAnd, inl, inr, refl, ap, ap₂, sym, ◌∙◌, subst, arith, append_assoc, append-nil, length-append, length-take, length-drop}
use Rattle.std.proofs.lemmas.List.{take_all, drop_all, drop-drop, drop-append-le, take-append-drop}
use Rattle.std.specs.Io.KnownBytes.{Consumes, prepend_known}
use Rattle.sq_outside.specs.Streams.{SourceState}
use Rattle.http_wire.specs.Ahead.{Ahead}
use Rattle.http_wire.specs.Stream.{Input, input_of, taken_of, IsEnd, IsOpen, IsUnfinished, IsRefused, HasRead, HasReadAll, HasReadOn, StaysAhead, IsRefusedAt, HasWireCause, most_taken, EndsInput, FailsWith, HasNoHead, HasRefusedHead, fault_at, IsRequest, TakesRequest, ReadsNext}
use Rattle.http_wire.specs.Reading.{HasReadCause, StopsReading, HasFillCause, Fills, ReadsOn, EndsAhead, HasBodyCause, ReadsBody, LacksBody, MeetsOther, IsHeadOf, HasHead, HasHeadCause, IsRefusalAt, ReadsAhead, HeadsOn, FindsHead, TakesBody}
use Rattle.http_wire.specs.Head.{BeginsWith}
use Rattle.http_wire.specs.declared.carry.Pause.{Pause}
use Rattle.http_wire.specs.declared.carry.Pause.TheVariants.{Line, End, Fault}
use Rattle.http_wire.specs.declared.head.Head.{Head}
use Rattle.http_wire.specs.declared.head.Refusal.{Refusal}
use Rattle.http_wire.specs.declared.head.Refusal.TheVariants.{Bad, TooLarge, Unsupported}
use Rattle.http_wire.specs.declared.request.Request.{Request}
use Rattle.http_wire.specs.declared.request.WireFault.{WireFault}
use Rattle.http_wire.specs.declared.request.WireFault.TheVariants as faults
use Rattle.http_wire.proofs.PrefixLemmas.{end_first, end_second, not_end, blank_is_no_head, cause_more, refused_whole, head_more, head_some}
use Rattle.http_wire.proofs.ReadLemmas.{none_read, end_append, all_then, read_then, read_for, rose_before, past_then}

-- After bytes that stay ahead.

stays_then : (a b c : Ahead) (xs ys : List ℕ) → StaysAhead a xs b → StaysAhead b ys c → StaysAhead a (xs ++ ys) c
stays_then a b c xs ys first second = record {
  bytes = second.bytes ∙ ap (λ w. w ++ ys) first.bytes ∙ append_assoc a.bytes xs ys;
  at = second.at ∙ first.at;
}

-- where nothing was read, what stood ahead is what stands ahead
same_ahead : (P : List ℕ → Type 0) (a b : Ahead) (xs : List ℕ) → StaysAhead a xs b → xs ≡ [] → P b.bytes → P a.bytes
same_ahead P a b xs stays none holds = subst P (stays.bytes ∙ ap (λ w. a.bytes ++ w) none ∙ append-nil a.bytes) holds

more_ahead : (P : List ℕ → Type 0) (a b : Ahead) (xs ys : List ℕ) → StaysAhead a xs b → P (b.bytes ++ ys) → P (a.bytes ++ (xs ++ ys))
more_ahead P a b xs ys stays holds = subst P (ap (λ w. w ++ ys) stays.bytes ∙ append_assoc a.bytes xs ys) holds

sum_ahead : (a b : Ahead) (xs : List ℕ) → StaysAhead a xs b → taken_of b ≡ taken_of a + length xs
sum_ahead a b xs stays = omega (arith, stays.at, ap length stays.bytes, length-append a.bytes xs)

pub on_then : (old mid new : Input) (xs ys : List ℕ) → ReadsAhead old xs mid → HasReadOn mid ys new → HasReadOn old (xs ++ ys) new
on_then old mid new xs ys ahead read =
    read_then old.source mid.source new.source xs ys (IsUnfinished old.ahead.bytes) (IsUnfinished mid.ahead.bytes) ahead.has_read read (λ none partly. same_ahead IsUnfinished old.ahead mid.ahead xs ahead.stays none partly)

pub ahead_then : (old mid new : Input) (xs ys : List ℕ) → ReadsAhead old xs mid → ReadsAhead mid ys new → ReadsAhead old (xs ++ ys) new
ahead_then old mid new xs ys first second = record {
  has_read = on_then old mid new xs ys first second.has_read;
  stays = stays_then old.ahead mid.ahead new.ahead xs ys first.stays second.stays;
}

rest_kept : (P : List ℕ → Type 0) (left left' : Option (List ℕ)) (bytes bytes' xs : List ℕ) → Consumes left left' xs → bytes' ≡ bytes ++ xs → IfSome (prepend_known bytes' left') P → IfSome (prepend_known bytes left) P
rest_kept P None left' bytes bytes' xs consumed same holds = tt
rest_kept P (Some ls) None bytes bytes' xs consumed same holds = absurd consumed
rest_kept P (Some ls) (Some rs) bytes bytes' xs consumed same holds = subst P (ap (λ w. w ++ rs) same ∙ append_assoc bytes xs rs ∙ ap (λ w. bytes ++ w) (sym consumed)) holds

refused_then : (old mid : Input) (xs : List ℕ) (at : ℕ) (refusal : Refusal) → ReadsAhead old xs mid → IsRefusedAt mid at refusal → IsRefusedAt old at refusal
refused_then old mid xs at refusal ahead (place, refused) =
    (place ∙ ahead.stays.at, rest_kept (λ bytes. IsRefused bytes refusal) old.source.left mid.source.left old.ahead.bytes mid.ahead.bytes xs ahead.has_read.consumed ahead.stays.bytes refused)

cause_then : (old mid new : Input) (xs ys : List ℕ) (fault : WireFault) → ReadsAhead old xs mid → HasWireCause mid ys new fault → HasWireCause old (xs ++ ys) new fault
cause_then old mid new xs ys (faults.BadRequest at) ahead refused = refused_then old mid xs at Bad ahead refused
cause_then old mid new xs ys (faults.TooLarge at len) ahead refused = refused_then old mid xs at (TooLarge len) ahead refused
cause_then old mid new xs ys (faults.Unsupported at) ahead refused = refused_then old mid xs at Unsupported ahead refused
cause_then old mid new xs ys faults.ReadFault ahead (rose, partly) = (rose_before old.source.faults mid.source.faults new.source.faults ahead.has_read.count rose, more_ahead IsUnfinished old.ahead mid.ahead xs ys ahead.stays partly)
cause_then old mid new xs ys faults.InputTooLong ahead past =
    past_then (taken_of old.ahead) (taken_of mid.ahead) xs ys (λ zs. IsUnfinished (mid.ahead.bytes ++ zs)) (λ zs. IsUnfinished (old.ahead.bytes ++ zs)) (sum_ahead old.ahead mid.ahead xs ahead.stays)
    (λ zs partly. more_ahead IsUnfinished old.ahead mid.ahead xs zs ahead.stays partly) past
cause_then old mid new xs ys faults.NoMemory ahead stays = stays_then old.ahead mid.ahead new.ahead xs ys ahead.stays stays

pub fails_then : (old mid new : Input) (xs : List ℕ) (fault : WireFault) → ReadsAhead old xs mid → FailsWith mid fault new → FailsWith old fault new
fails_then old mid new xs fault ahead fails = record {
  read = xs ++ fails.read;
  has_read = on_then old mid new xs fails.read ahead fails.has_read;
  within = omega (arith, fails.within, sum_ahead old.ahead mid.ahead xs ahead.stays, length-append xs fails.read);
  cause = cause_then old mid new xs fails.read fault ahead fails.cause;
}

pub ends_then : (old mid new : Input) (xs : List ℕ) → ReadsAhead old xs mid → EndsInput mid new → EndsInput old new
ends_then old mid new xs ahead ends = record {
  read = xs ++ ends.read;
  has_read = on_then old mid new xs ends.read ahead ends.has_read;
  blank = more_ahead IsEnd old.ahead mid.ahead xs ends.read ahead.stays ends.blank;
  all = all_then old.source.left mid.source.left xs ends.read ahead.has_read.consumed ends.all;
  none_ahead = ends.none_ahead;
  place = omega (arith, ends.place, sum_ahead old.ahead mid.ahead xs ahead.stays, length-append xs ends.read);
  within = ends.within;
}

pub finds_then : (old mid new : Input) (xs : List ℕ) (result : Result (Option Head) WireFault) → ReadsAhead old xs mid → FindsHead mid result new → FindsHead old result new
finds_then old mid new xs (Ok (Some head)) ahead found = record {
  read = xs ++ found.read;
  reads = ahead_then old mid new xs found.read ahead found.reads;
  found = found.found;
}
finds_then old mid new xs (Ok None) ahead ends = ends_then old mid new xs ahead ends
finds_then old mid new xs (Err fault) ahead fails = fails_then old mid new xs fault ahead fails

-- Where no head or body comes.

pub none_ahead : (ahead : Ahead) (a : SourceState) → ReadsAhead (input_of ahead a) [] (input_of ahead a)
none_ahead ahead a = record { has_read = none_read a (IsUnfinished ahead.bytes); stays = record { bytes = sym (append-nil ahead.bytes); at = refl } }

-- a read stopped after bytes that are unfinished
pub stops_fails : (ahead ahead' : Ahead) (a b : SourceState) (fault : WireFault) (IsSo : List ℕ → Type 0) (Q : Type 0) → StopsReading (taken_of ahead) a fault b IsSo Q
    → ((zs : List ℕ) → IsSo zs → IsUnfinished (ahead.bytes ++ zs)) → (Q → IsUnfinished ahead.bytes) → FailsWith (input_of ahead a) fault (input_of ahead' b)
stops_fails ahead ahead' a b fault IsSo Q stops partly needed = record {
  read = stops.read;
  has_read = read_for a b stops.read (IsUnfinished ahead.bytes) Q stops.has_read needed;
  within = stops.within;
  cause = cause_of fault stops.read stops.cause;
}
  where
    cause_of : (fault : WireFault) (ys : List ℕ) → HasReadCause (taken_of ahead) a ys b IsSo fault → HasWireCause (input_of ahead a) ys (input_of ahead' b) fault
    cause_of (faults.BadRequest at) ys cause = absurd cause
    cause_of (faults.TooLarge at len) ys cause = absurd cause
    cause_of (faults.Unsupported at) ys cause = absurd cause
    cause_of faults.ReadFault ys (rose, is) = (rose, partly ys is)
    cause_of faults.InputTooLong ys past = record { prefix = past.prefix; extra = past.extra; parts = past.parts; full = past.full; so = partly past.prefix past.so }
    cause_of faults.NoMemory ys cause = absurd cause

-- there was no memory, and what stood ahead still does
pub memory_fails : (ahead ahead' : Ahead) (a b : SourceState) → b ≡ a → ahead'.bytes ≡ ahead.bytes → ahead'.at ≡ ahead.at → taken_of ahead ≤ 1073741824 → FailsWith (input_of ahead a) faults.NoMemory (input_of ahead' b)
memory_fails ahead ahead' a b same bytes at within = record {
  read = [];
  has_read = (let P : SourceState → Type 0 = λ s. HasRead a [] s (IsUnfinished ahead.bytes) in subst P (sym same) (none_read a (IsUnfinished ahead.bytes)));
  within = omega arith;
  cause = record { bytes = bytes ∙ sym (append-nil ahead.bytes); at = at };
}

wire_cause : (old new : Input) (read : List ℕ) (at : ℕ) (refusal : Refusal) → IsRefusedAt old at refusal → HasWireCause old read new (fault_at at refusal)
wire_cause old new read at Bad refused = refused
wire_cause old new read at (TooLarge len) refused = refused
wire_cause old new read at Unsupported refused = refused

most_refused : (at : ℕ) (refusal : Refusal) → most_taken (fault_at at refusal) ≡ 1073741824
most_refused at Bad = refl
most_refused at (TooLarge len) = refl
most_refused at Unsupported = refl

refused_rest : (bytes xs : List ℕ) (left left' : Option (List ℕ)) (refusal : Refusal) → Consumes left left' xs → (IsEnd (bytes ++ xs) → ⊥) → HasNoHead (bytes ++ xs) refusal ⊎ HasRefusedHead (bytes ++ xs) refusal
    → IfSome (prepend_known bytes left) (λ all. IsRefused all refusal)
refused_rest bytes xs None left' refusal consumed other cause = tt
refused_rest bytes xs (Some ls) None refusal consumed other cause = absurd consumed
refused_rest bytes xs (Some ls) (Some rs) refusal consumed other cause =
    let P : List ℕ → Type 0 = λ all. IsRefused all refusal in
    subst P (append_assoc bytes xs rs ∙ ap (λ w. bytes ++ w) (sym consumed)) (refused_all (bytes ++ xs) rs other (cause_more (bytes ++ xs) rs refusal cause))
  where
    refused_all : (all more : List ℕ) → (IsEnd all → ⊥) → HasNoHead (all ++ more) refusal ⊎ HasRefusedHead (all ++ more) refusal → IsRefused (all ++ more) refusal
    refused_all all more other (inl none) = record { goes_on = λ end. other (end_first all more end); cause = inl none }
    refused_all all more other (inr refused) = record { goes_on = λ end. other (end_first all more end); cause = inr (inl refused) }

-- what was read is refused as it stands
pub refusal_fails : (ahead ahead' : Ahead) (a b : SourceState) (xs : List ℕ) (fault : WireFault) → HasRead a xs b (IsUnfinished ahead.bytes) → taken_of ahead + length xs ≤ 1073741824
    → IsRefusalAt ahead.at (ahead.bytes ++ xs) fault → (IsEnd (ahead.bytes ++ xs) → ⊥) → FailsWith (input_of ahead a) fault (input_of ahead' b)
refusal_fails ahead ahead' a b xs fault read within refused other =
    let P : WireFault → Type 0 = λ f. FailsWith (input_of ahead a) f (input_of ahead' b) in
    subst P (sym refused.is) (record {
      read = xs;
      has_read = read;
      within = omega (arith, most_refused ahead.at refused.refusal);
      cause = wire_cause (input_of ahead a) (input_of ahead' b) xs ahead.at refused.refusal (refl, refused_rest ahead.bytes xs a.left b.left refused.refusal read.consumed other refused.cause);
    })

cut_rest : (bytes xs : List ℕ) (left : Option (List ℕ)) → HasReadAll left xs → (IsEnd (bytes ++ xs) → ⊥) → IsUnfinished (bytes ++ xs) → IfSome (prepend_known bytes left) (λ all. IsRefused all Bad)
cut_rest bytes xs None all other partly = tt
cut_rest bytes xs (Some ls) all other partly =
    let P : List ℕ → Type 0 = λ w. IsRefused (bytes ++ w) Bad in
    subst P (sym all) (record { goes_on = other; cause = inr (inr (refl, partly)) })

-- the source ended within a request
pub cut_fails : (ahead ahead' : Ahead) (a b : SourceState) (xs : List ℕ) → HasRead a xs b (IsUnfinished ahead.bytes) → taken_of ahead + length xs ≤ 1073741824 → HasReadAll a.left xs
    → (IsEnd (ahead.bytes ++ xs) → ⊥) → IsUnfinished (ahead.bytes ++ xs) → FailsWith (input_of ahead a) (faults.BadRequest ahead.at) (input_of ahead' b)
cut_fails ahead ahead' a b xs read within all other partly = record {
  read = xs;
  has_read = read;
  within = within;
  cause = (refl, cut_rest ahead.bytes xs a.left all other partly);
}

-- Heads.

refusal_of : (at : ℕ) (bytes : List ℕ) (refusal : Refusal) → HasNoHead bytes refusal ⊎ HasRefusedHead bytes refusal → IsRefusalAt at bytes (fault_at at refusal)
refusal_of at bytes refusal cause = record { refusal = refusal; is = refl; cause = cause }

-- what the first bytes are refused as, where there was memory
head_cause : (at : ℕ) (bytes : List ℕ) (fault : WireFault) → HasHeadCause at (take 16384 bytes) fault → ((fault ≡ faults.NoMemory) × HasHead (take 16384 bytes)) ⊎ IsRefusalAt at bytes fault
head_cause at bytes (faults.BadRequest place) (is, inl broken) = let P : ℕ → Type 0 = λ p. IsRefusalAt at bytes (faults.BadRequest p) in inr (subst P (sym is) (refusal_of at bytes Bad (inl broken)))
head_cause at bytes (faults.BadRequest place) (is, inr head) = let P : ℕ → Type 0 = λ p. IsRefusalAt at bytes (faults.BadRequest p) in inr (subst P (sym is) (refusal_of at bytes Bad (inr (refused_whole 16384 bytes Bad head))))
head_cause at bytes (faults.TooLarge place len) (is, head) =
    let P : ℕ → Type 0 = λ p. IsRefusalAt at bytes (faults.TooLarge p len) in inr (subst P (sym is) (refusal_of at bytes (TooLarge len) (inr (refused_whole 16384 bytes (TooLarge len) head))))
head_cause at bytes (faults.Unsupported place) (is, head) =
    let P : ℕ → Type 0 = λ p. IsRefusalAt at bytes (faults.Unsupported p) in inr (subst P (sym is) (refusal_of at bytes Unsupported (inr (refused_whole 16384 bytes Unsupported head))))
head_cause at bytes faults.ReadFault cause = absurd cause
head_cause at bytes faults.InputTooLong cause = absurd cause
head_cause at bytes faults.NoMemory head = inl (refl, head)

-- line ends alone are refused without memory
pub head_refusal : (at : ℕ) (bytes : List ℕ) (fault : WireFault) → IsEnd (take 16384 bytes) → HasHeadCause at (take 16384 bytes) fault → IsRefusalAt at bytes fault
head_refusal at bytes fault blank cause = refused (head_cause at bytes fault cause)
  where
    refused : ((fault ≡ faults.NoMemory) × HasHead (take 16384 bytes)) ⊎ IsRefusalAt at bytes fault → IsRefusalAt at bytes fault
    refused (inl (memory, head)) = absurd (blank_is_no_head (take 16384 bytes) head.head head.rest blank head.begins.reads)
    refused (inr refusal) = refusal

pub long_refusal : (at : ℕ) (bytes : List ℕ) → IsOpen (take 16384 bytes) → 16384 ≤ length bytes → IsRefusalAt at bytes (faults.TooLarge at 16384)
long_refusal at bytes gap full = refusal_of at bytes (TooLarge 16384) (inl (gap, full, refl))

-- what stands ahead is refused without a read
pub refused_now : (ahead ahead' : Ahead) (a : SourceState) (fault : WireFault) → taken_of ahead ≤ 1073741824 → IsRefusalAt ahead.at ahead.bytes fault → (IsEnd ahead.bytes → ⊥) → FailsWith (input_of ahead a) fault (input_of ahead' a)
refused_now ahead ahead' a fault within refusal other =
    refusal_fails ahead ahead' a a [] fault (none_read a (IsUnfinished ahead.bytes)) (omega arith)
    (record { refusal = refusal.refusal; is = refusal.is; cause = cause_more ahead.bytes [] refusal.refusal refusal.cause }) (λ end. other (end_first ahead.bytes [] end))

-- why no head is ahead, which was found without a read
pub head_fails : (ahead : Ahead) (a : SourceState) (fault : WireFault) → taken_of ahead ≤ 1073741824 → HasHeadCause ahead.at (take 16384 ahead.bytes) fault → (IsEnd (take 16384 ahead.bytes) → ⊥)
    → FailsWith (input_of ahead a) fault (input_of ahead a)
head_fails ahead a fault within cause other = fails (head_cause ahead.at ahead.bytes fault cause)
  where
    fails : ((fault ≡ faults.NoMemory) × HasHead (take 16384 ahead.bytes)) ⊎ IsRefusalAt ahead.at ahead.bytes fault → FailsWith (input_of ahead a) fault (input_of ahead a)
    fails (inl (memory, head)) = let P : WireFault → Type 0 = λ f. FailsWith (input_of ahead a) f (input_of ahead a) in subst P (sym memory) (memory_fails ahead ahead a a refl refl refl within)
    fails (inr refusal) = refused_now ahead ahead a fault within refusal (not_end 16384 ahead.bytes other)

-- a head that is partly there, within its limit
pub partly_ahead : (bytes : List ℕ) → IsEnd (take 16384 bytes) ⊎ IsOpen (take 16384 bytes) → length bytes < 16384 → IsEnd bytes ⊎ (IsOpen bytes × (length bytes < 16384))
partly_ahead bytes (inl blank) short = let P : List ℕ → Type 0 = IsEnd in inl (subst P (take_all 16384 bytes (omega arith)) blank)
partly_ahead bytes (inr gap) short = let P : List ℕ → Type 0 = IsOpen in inr (subst P (take_all 16384 bytes (omega arith)) gap, short)

pub unfinished : (bytes : List ℕ) → IsEnd bytes ⊎ (IsOpen bytes × (length bytes < 16384)) → IsUnfinished bytes
unfinished bytes (inl blank) = inl blank
unfinished bytes (inr gap) = inr (inl gap)

-- no more could be read after bytes that are unfinished
pub fill_fails : (ahead ahead' : Ahead) (a b : SourceState) (total : ℕ) (fault : WireFault) → total ≡ taken_of ahead → total ≤ 1073741824 → ahead'.bytes ≡ ahead.bytes → ahead'.at ≡ ahead.at → IsUnfinished ahead.bytes
    → HasFillCause total a b fault → FailsWith (input_of ahead a) fault (input_of ahead' b)
fill_fails ahead ahead' a b total fault sum within bytes at partly cause = by_fault fault cause
  where
    stops : (fault : WireFault) → StopsReading total a fault b (λ read. read ≡ []) (Unit {0}) → FailsWith (input_of ahead a) fault (input_of ahead' b)
    stops fault stop =
        let P : ℕ → Type 0 = λ n. StopsReading n a fault b (λ read. read ≡ []) (Unit {0}) in
        let Q : List ℕ → Type 0 = λ w. IsUnfinished (ahead.bytes ++ w) in
        let R : List ℕ → Type 0 = IsUnfinished in
        stops_fails ahead ahead' a b fault (λ read. read ≡ []) (Unit {0}) (subst P sum stop) (λ zs none. subst Q (sym none) (subst R (sym (append-nil ahead.bytes)) partly)) (λ asked. partly)

    by_fault : (fault : WireFault) → HasFillCause total a b fault → FailsWith (input_of ahead a) fault (input_of ahead' b)
    by_fault faults.NoMemory same = memory_fails ahead ahead' a b same bytes at (omega arith)
    by_fault fault stop = stops fault stop

-- line ends that were passed over

pub lines_stop_fails : (ahead ahead' : Ahead) (a b : SourceState) (total : ℕ) (fault : WireFault) → total ≡ taken_of ahead → IsEnd ahead.bytes → StopsReading total a fault b IsEnd (Unit {0}) → FailsWith (input_of ahead a) fault (input_of ahead' b)
lines_stop_fails ahead ahead' a b total fault sum blank stops =
    let P : ℕ → Type 0 = λ n. StopsReading n a fault b IsEnd (Unit {0}) in
    stops_fails ahead ahead' a b fault IsEnd (Unit {0}) (subst P sum stops) (λ zs end. inl (end_append ahead.bytes zs blank end)) (λ asked. inl blank)

pub lines_meet_fails : (ahead ahead' : Ahead) (a b : SourceState) (total : ℕ) (fault : WireFault) → total ≡ taken_of ahead → IsEnd ahead.bytes → IsRefusalAt ahead.at ahead.bytes fault → MeetsOther total a b
    → FailsWith (input_of ahead a) fault (input_of ahead' b)
lines_meet_fails ahead ahead' a b total fault sum blank refusal meets =
    refusal_fails ahead ahead' a b meets.read fault (read_for a b meets.read (IsUnfinished ahead.bytes) (Unit {0}) meets.has_read (λ asked. inl blank)) (omega (arith, meets.within, sum))
    (record { refusal = refusal.refusal; is = refusal.is; cause = cause_more ahead.bytes meets.read refusal.refusal refusal.cause })
    (λ end. meets.other (end_second ahead.bytes meets.read end))

-- Bodies.

-- the head is there, and not all of its body
partly_body : (bytes zs : List ℕ) (head : Head) (held : ℕ) → IsHeadOf bytes head → held ≡ min head.body (length bytes - head.len) → held + length zs < head.body → IsUnfinished (bytes ++ zs)
partly_body bytes zs head held found is few =
    let more = head_more bytes zs head found in
    let short : length (drop head.len (bytes ++ zs)) < head.body = omega (arith, length-drop head.len (bytes ++ zs), length-append bytes zs, found.within) in
    let P : Result ℕ Refusal → Type 0 = λ r. IsOkAnd r (λ len. length (drop head.len (bytes ++ zs)) < len) in
    inr (inr (record { head = more.tree; rest = drop head.len (bytes ++ zs); begins = more.begins; short = subst P (sym more.body) short }))

partly_now : (bytes : List ℕ) (head : Head) (held : ℕ) → IsHeadOf bytes head → held ≡ min head.body (length bytes - head.len) → held < head.body → IsUnfinished bytes
partly_now bytes head held found is few = let P : List ℕ → Type 0 = IsUnfinished in subst P (append-nil bytes) (partly_body bytes [] head held found is (omega arith))

-- the bytes of the body that stand ahead
held_length : (bytes held : List ℕ) (head : Head) (n : ℕ) → IsHeadOf bytes head → n ≡ min head.body (length bytes - head.len) → held ≡ take n (drop head.len bytes) → length held ≡ n
held_length bytes held head n found is same = omega (arith, ap length same, length-take n (drop head.len bytes), length-drop head.len bytes, found.within)

pub body_fails : (ahead ahead' : Ahead) (a b : SourceState) (head : Head) (held : List ℕ) (n total : ℕ) (fault : WireFault) → IsHeadOf ahead.bytes head → n ≡ min head.body (length ahead.bytes - head.len) → held ≡ take n (drop head.len ahead.bytes)
    → total ≡ taken_of ahead → total ≤ 1073741824 → ahead'.bytes ≡ ahead.bytes → ahead'.at ≡ ahead.at → HasBodyCause held total a head.body b fault → FailsWith (input_of ahead a) fault (input_of ahead' b)
body_fails ahead ahead' a b head held n total fault found is same sum within bytes at cause = by_fault fault cause
  where
    size : length held ≡ n
    size = held_length ahead.bytes held head n found is same

    stops : (fault : WireFault) → StopsReading total a fault b (λ read. length held + length read < head.body) (length held < head.body) → FailsWith (input_of ahead a) fault (input_of ahead' b)
    stops fault stop =
        let P : ℕ → Type 0 = λ k. StopsReading k a fault b (λ read. length held + length read < head.body) (length held < head.body) in
        stops_fails ahead ahead' a b fault (λ read. length held + length read < head.body) (length held < head.body) (subst P sum stop)
        (λ zs few. partly_body ahead.bytes zs head n found is (omega (arith, size))) (λ few. partly_now ahead.bytes head n found is (omega (arith, size)))

    by_fault : (fault : WireFault) → HasBodyCause held total a head.body b fault → FailsWith (input_of ahead a) fault (input_of ahead' b)
    by_fault faults.NoMemory same = memory_fails ahead ahead' a b same bytes at (omega arith)
    by_fault fault stop = stops fault stop

pub body_lacks : (ahead ahead' : Ahead) (a b : SourceState) (head : Head) (held : List ℕ) (n total : ℕ) → IsHeadOf ahead.bytes head → n ≡ min head.body (length ahead.bytes - head.len) → held ≡ take n (drop head.len ahead.bytes)
    → total ≡ taken_of ahead → LacksBody held total a head.body b → FailsWith (input_of ahead a) (faults.BadRequest ahead.at) (input_of ahead' b)
body_lacks ahead ahead' a b head held n total found is same sum lacks =
    let size : length held ≡ n = held_length ahead.bytes held head n found is same in
    let more = head_more ahead.bytes lacks.read head found in
    cut_fails ahead ahead' a b lacks.read (read_for a b lacks.read (IsUnfinished ahead.bytes) (length held < head.body) lacks.has_read (λ few. partly_now ahead.bytes head n found is (omega (arith, size))))
    (omega (arith, lacks.within, sum)) lacks.all (λ end. blank_is_no_head (ahead.bytes ++ lacks.read) more.tree _ end more.begins.reads)
    (partly_body ahead.bytes lacks.read head n found is (omega (arith, size, lacks.short)))

-- the body, and what stands ahead after it
body_parts : (bytes read body : List ℕ) (len n size : ℕ) → len ≤ length bytes → n ≡ min size (length bytes - len) → body ≡ take n (drop len bytes) ++ read → length body ≡ size
    → (size ≤ length bytes - len) ⊎ (length bytes - len ≤ size) → drop len (bytes ++ read) ≡ body ++ drop (len + n) bytes
body_parts bytes read body len n size within is whole sized (inl all) =
    let none : read ≡ [] = empty read (omega (arith, ap length whole, length-append (take n (drop len bytes)) read, length-take n (drop len bytes), length-drop len bytes)) in
    drop-append-le len bytes read within ∙ ap (λ w. drop len bytes ++ w) none ∙ append-nil (drop len bytes) ∙ sym (take-append-drop n (drop len bytes))
    ∙ ap₂ (λ x y. x ++ y) (sym (whole ∙ ap (λ w. take n (drop len bytes) ++ w) none ∙ append-nil (take n (drop len bytes)))) (drop-drop n len bytes)
  where
    empty : (xs : List ℕ) → length xs ≡ 0 → xs ≡ []
    empty [] none = refl
    empty (x ∷ xs) none = absurd (omega arith)
body_parts bytes read body len n size within is whole sized (inr few) =
    let all : take n (drop len bytes) ≡ drop len bytes = take_all n (drop len bytes) (omega (arith, length-drop len bytes)) in
    let none : drop (len + n) bytes ≡ [] = drop_all (len + n) bytes (omega arith) in
    drop-append-le len bytes read within ∙ ap (λ w. w ++ read) (sym all) ∙ sym whole ∙ sym (append-nil body) ∙ ap (λ w. body ++ w) (sym none)

pub body_taken : (ahead ahead' : Ahead) (a b : SourceState) (head : Head) (held body : List ℕ) (n total : ℕ) → IsHeadOf ahead.bytes head → n ≡ min head.body (length ahead.bytes - head.len) → held ≡ take n (drop head.len ahead.bytes)
    → total ≡ taken_of ahead → ReadsBody held total a head.body body b → ahead'.bytes ≡ drop (head.len + n) ahead.bytes → ahead'.at ≡ ahead.at + head.len + head.body → TakesBody (input_of ahead a) head body (input_of ahead' b)
body_taken ahead ahead' a b head held body n total found is same sum reads rest place =
    let size : length held ≡ n = held_length ahead.bytes held head n found is same in record {
      read = reads.read;
      has_read = read_for a b reads.read (IsUnfinished ahead.bytes) (length held < head.body) reads.has_read (λ few. partly_now ahead.bytes head n found is (omega (arith, size)));
      parts = body_parts ahead.bytes reads.read body head.len n head.body found.within is (reads.whole ∙ ap (λ w. w ++ reads.read) same) reads.size (grind arith) ∙ ap (λ w. body ++ w) (sym rest);
      size = reads.size;
      place = place;
      within = omega (arith, reads.within, sum);
    }

-- A head and the body after it are a request.

pub takes_request : (old mid new : Input) (head : Head) (request : Request) → HeadsOn old head mid → TakesBody mid head request.body new → request.method ≡ head.method → request.path ≡ head.path → request.query ≡ head.query → TakesRequest old request new
takes_request old mid new head request heads takes method path query =
    let more = head_more mid.ahead.bytes takes.read head heads.found in
    let P : List ℕ → Type 0 = BeginsWith (mid.ahead.bytes ++ takes.read) more.tree in
    let Q : List ℕ → Type 0 = λ bytes. IsRequest bytes request new.ahead.bytes in
    let sum : taken_of mid.ahead ≡ taken_of old.ahead + length heads.read = sum_ahead old.ahead mid.ahead heads.read heads.reads.stays in
    let place : taken_of new.ahead ≡ taken_of mid.ahead + length takes.read =
    omega (arith, takes.place, takes.size, ap length takes.parts, length-drop head.len (mid.ahead.bytes ++ takes.read), length-append mid.ahead.bytes takes.read, length-append request.body new.ahead.bytes, heads.found.within) in
    record {
      read = heads.read ++ takes.read;
      has_read = on_then old mid new heads.read takes.read heads.reads takes.has_read;
      is_request = more_ahead Q old.ahead mid.ahead heads.read takes.read heads.reads.stays (record {
        head = more.tree;
        begins = subst P takes.parts more.begins;
        body = more.body ∙ ap Ok (sym takes.size);
        method = method ∙ more.method;
        path = path ∙ more.path;
        query = query ∙ more.query;
      });
      place = omega (arith, sum, place, length-append heads.read takes.read);
      moves = omega (arith, heads.reads.stays.at, takes.place, head_some mid.ahead.bytes head heads.found);
      within = omega (arith, place, takes.within);
    }

-- Reading on for a head.

-- so much was read on: nothing yet, or less than an input may have
pub record HasReadOnAhead (old new : Input) : Type 0 where
  pub read : List ℕ
  pub ahead : ReadsAhead old read new
  pub short : length new.ahead.bytes < 16384
  pub room : (read ≡ []) ⊎ (taken_of new.ahead < 1073741824)

-- a piece more stands ahead
piece_ahead : (old : Input) (ahead ahead' : Ahead) (a b : SourceState) (xs : List ℕ) (taken : ℕ) (more : Bool) → IsUnfinished old.ahead.bytes → ReadsAhead old xs (input_of ahead a) → (fills : Fills ahead.bytes taken a more ahead'.bytes b) → ahead'.at ≡ ahead.at
    → ReadsAhead old (xs ++ fills.read) (input_of ahead' b)
piece_ahead old ahead ahead' a b xs taken more partly reads fills at = record {
  has_read = read_then old.source a b xs fills.read (IsUnfinished old.ahead.bytes) (Unit {0}) reads.has_read fills.has_read (λ none asked. partly);
  stays = stays_then old.ahead ahead ahead' xs fills.read reads.stays (record { bytes = fills.bytes; at = at });
}

piece_within : (ahead ahead' : Ahead) (taken : ℕ) (a b : SourceState) (more : Bool) → taken ≡ taken_of ahead → Fills ahead.bytes taken a more ahead'.bytes b → ahead'.at ≡ ahead.at → taken_of ahead' ≤ 1073741824
piece_within ahead ahead' taken a b more sum fills at = omega (arith, fills.within, ap length fills.bytes, length-append ahead.bytes fills.read)

pub piece_ends : (old : Input) (ahead ahead' : Ahead) (a b : SourceState) (taken : ℕ) → taken ≡ taken_of ahead → IsUnfinished old.ahead.bytes → HasReadOnAhead old (input_of ahead a) → Fills ahead.bytes taken a false ahead'.bytes b → ahead'.at ≡ ahead.at → ReadsOn old End (input_of ahead' b)
piece_ends old ahead ahead' a b taken sum partly on fills at =
    let none = fills.none refl in
    let P : List ℕ → Type 0 = HasReadAll a.left in record {
      read = on.read ++ fills.read;
      ahead = piece_ahead old ahead ahead' a b on.read taken false partly on.ahead fills at;
      within = piece_within ahead ahead' taken a b false sum fills at;
      why = (omega (arith, on.short, ap length fills.bytes, length-append ahead.bytes fills.read, ap length none.0), all_then old.source.left a.left on.read fills.read on.ahead.has_read.consumed (subst P (sym none.0) none.1));
    }

pub piece_comes : (old : Input) (ahead ahead' : Ahead) (a b : SourceState) (taken : ℕ) → taken ≡ taken_of ahead → IsUnfinished old.ahead.bytes → HasReadOnAhead old (input_of ahead a) → Fills ahead.bytes taken a true ahead'.bytes b → ahead'.at ≡ ahead.at → ReadsOn old Line (input_of ahead' b)
piece_comes old ahead ahead' a b taken sum partly on fills at = record {
  read = on.read ++ fills.read;
  ahead = piece_ahead old ahead ahead' a b on.read taken true partly on.ahead fills at;
  within = piece_within ahead ahead' taken a b true sum fills at;
  why = omega (arith, fills.some refl, length-append on.read fills.read);
}

pub piece_on : (old new : Input) → ReadsOn old Line new → length new.ahead.bytes < 16384 → taken_of new.ahead < 1073741824 → HasReadOnAhead old new
piece_on old new on short room = record { read = on.read; ahead = on.ahead; short = short; room = inr room }

pub piece_fails : (old : Input) (ahead ahead' : Ahead) (a b : SourceState) (taken : ℕ) → taken ≡ taken_of ahead → taken ≤ 1073741824 → IsUnfinished old.ahead.bytes → HasReadOnAhead old (input_of ahead a) → StopsReading taken a faults.ReadFault b (λ read. read ≡ []) (Unit {0})
    → ahead'.bytes ≡ ahead.bytes → ahead'.at ≡ ahead.at → ReadsOn old Fault (input_of ahead' b)
piece_fails old ahead ahead' a b taken sum within partly on stops bytes at = record {
  read = on.read ++ stops.read;
  ahead = record {
    has_read = read_then old.source a b on.read stops.read (IsUnfinished old.ahead.bytes) (Unit {0}) on.ahead.has_read stops.has_read (λ none asked. partly);
    stays = stays_then old.ahead ahead ahead' on.read stops.read on.ahead.stays (record { bytes = bytes ∙ sym (append-nil ahead.bytes) ∙ ap (λ w. ahead.bytes ++ w) (sym stops.cause.1); at = at });
  };
  within = omega (arith, sum, ap length bytes);
  why = (omega (arith, on.short, ap length bytes), rose_before old.source.faults a.faults b.faults on.ahead.has_read.count stops.cause.0);
}

-- no more could be read, and the source didn't fail
pub piece_stops : (old : Input) (ahead ahead' : Ahead) (a b : SourceState) (taken : ℕ) (fault : WireFault) → IsUnfinished old.ahead.bytes → HasReadOnAhead old (input_of ahead a) → taken ≡ taken_of ahead → taken ≤ 1073741824
    → ahead'.bytes ≡ ahead.bytes → ahead'.at ≡ ahead.at → (fault ≡ faults.ReadFault → ⊥) → HasFillCause taken a b fault → FailsWith old fault (input_of ahead' b)
piece_stops old ahead ahead' a b taken (faults.BadRequest place) partly on sum within bytes at other cause = absurd cause.cause
piece_stops old ahead ahead' a b taken (faults.TooLarge place len) partly on sum within bytes at other cause = absurd cause.cause
piece_stops old ahead ahead' a b taken (faults.Unsupported place) partly on sum within bytes at other cause = absurd cause.cause
piece_stops old ahead ahead' a b taken faults.ReadFault partly on sum within bytes at other cause = absurd (other refl)
piece_stops old ahead ahead' a b taken faults.InputTooLong partly on sum within bytes at other cause =
    let past = cause.cause in
    let full : taken_of ahead ≡ 1073741824 = omega (arith, past.full, ap length past.so, sum) in
    fails_then old (input_of ahead a) (input_of ahead' b) on.read faults.InputTooLong on.ahead
    (fill_fails ahead ahead' a b taken faults.InputTooLong sum within bytes at (nothing_read on.room full) cause)
  where
    nothing_read : (on.read ≡ []) ⊎ (taken_of ahead < 1073741824) → taken_of ahead ≡ 1073741824 → IsUnfinished ahead.bytes
    nothing_read (inl none) full = let P : List ℕ → Type 0 = IsUnfinished in subst P (sym (on.ahead.stays.bytes ∙ ap (λ w. old.ahead.bytes ++ w) none ∙ append-nil old.ahead.bytes)) partly
    nothing_read (inr room) full = absurd (omega arith)
piece_stops old ahead ahead' a b taken faults.NoMemory partly on sum within bytes at other cause =
    fails_then old (input_of ahead a) (input_of ahead' b) on.read faults.NoMemory on.ahead (memory_fails ahead ahead' a b cause bytes at (omega arith))

-- what was found where no more comes

pub is_end : (pause : Pause) → (pause ≡ Line → ⊥) → (pause ≡ Fault → ⊥) → pause ≡ End
is_end Line line fault = absurd (line refl)
is_end End line fault = refl
is_end Fault line fault = absurd (fault refl)

pub last_fails : (old : Input) (ahead : Ahead) (a : SourceState) (pause : Pause) (fault : WireFault) → ReadsOn old pause (input_of ahead a) → HasHeadCause ahead.at (take 16384 ahead.bytes) fault
    → (IsEnd (take 16384 ahead.bytes) → ⊥) → FailsWith old fault (input_of ahead a)
last_fails old ahead a pause fault on cause other = fails_then old (input_of ahead a) (input_of ahead a) on.read fault on.ahead (head_fails ahead a fault on.within cause other)

pub fault_fails : (old : Input) (ahead : Ahead) (a : SourceState) → ReadsOn old Fault (input_of ahead a) → IsEnd (take 16384 ahead.bytes) ⊎ IsOpen (take 16384 ahead.bytes) → FailsWith old faults.ReadFault (input_of ahead a)
fault_fails old ahead a on partly =
    let P : List ℕ → Type 0 = IsUnfinished in record {
      read = on.read;
      has_read = on.ahead.has_read;
      within = omega (arith, on.within, sum_ahead old.ahead ahead on.read on.ahead.stays);
      cause = (on.why.1, subst P on.ahead.stays.bytes (unfinished ahead.bytes (partly_ahead ahead.bytes partly on.why.0)));
    }

pub end_finds : (old : Input) (ahead ahead' : Ahead) (a : SourceState) (result : Result (Option Head) WireFault) → ReadsOn old End (input_of ahead a) → IsEnd (take 16384 ahead.bytes) ⊎ IsOpen (take 16384 ahead.bytes)
    → EndsAhead ahead result ahead' → FindsHead old result (input_of ahead' a)
end_finds old ahead ahead' a (Ok (Some head)) on partly ends = absurd ends
end_finds old ahead ahead' a (Ok None) on partly (end, none, at) =
    let P : List ℕ → Type 0 = IsEnd in record {
      read = on.read;
      has_read = on.ahead.has_read;
      blank = subst P on.ahead.stays.bytes end;
      all = on.why.1;
      none_ahead = none;
      place = at ∙ sum_ahead old.ahead ahead on.read on.ahead.stays;
      within = omega (arith, on.within, at);
    }
end_finds old ahead ahead' a (Err fault) on partly (other, is) =
    let P : List ℕ → Type 0 = λ w. IsEnd w → ⊥ in
    let Q : List ℕ → Type 0 = IsUnfinished in
    let R : WireFault → Type 0 = λ f. FailsWith old f (input_of ahead' a) in
    subst R (sym (is ∙ ap faults.BadRequest on.ahead.stays.at)) (cut_fails old.ahead ahead' old.source a on.read on.ahead.has_read (omega (arith, on.within, sum_ahead old.ahead ahead on.read on.ahead.stays)) on.why.1
    (subst P on.ahead.stays.bytes other) (subst Q on.ahead.stays.bytes (unfinished ahead.bytes (partly_ahead ahead.bytes partly on.why.0))))

-- what is answered isn't changed by the fault that is kept
pub next_over : (old : Input) (result : Result (Option Request) WireFault) (ahead : Ahead) (over : Option WireFault) (a : SourceState) → ReadsNext old result (input_of ahead a) → ReadsNext old result (input_of (record ahead { over = over }) a)
next_over old (Ok (Some request)) ahead over a takes = record {
  read = takes.read;
  has_read = takes.has_read;
  is_request = takes.is_request;
  place = takes.place;
  moves = takes.moves;
  within = takes.within;
}
next_over old (Ok None) ahead over a ends = record {
  read = ends.read;
  has_read = ends.has_read;
  blank = ends.blank;
  all = ends.all;
  none_ahead = ends.none_ahead;
  place = ends.place;
  within = ends.within;
}
next_over old (Err fault) ahead over a fails = record { read = fails.read; has_read = fails.has_read; within = fails.within; cause = by_fault fault fails.read fails.cause }
  where
    by_fault : (fault : WireFault) (read : List ℕ) → HasWireCause old read (input_of ahead a) fault → HasWireCause old read (input_of (record ahead { over = over }) a) fault
    by_fault (faults.BadRequest at) read cause = cause
    by_fault (faults.TooLarge at len) read cause = cause
    by_fault (faults.Unsupported at) read cause = cause
    by_fault faults.ReadFault read cause = cause
    by_fault faults.InputTooLong read cause = cause
    by_fault faults.NoMemory read stays = record { bytes = stays.bytes; at = stays.at }
