-- One read after another, and what a read that stops means for the stream.
use Rattle.std.proofs.Common.{◌≡◌, ◌<◌, ◌≤◌, ◌+◌, ◌⊎◌, ◌↔◌, ℕ, List, [], ◌∷◌, ◌++◌, length, Option, None, Some, IfSome, inl, inr, refl, ap, ap₂, sym, ◌∙◌, subst, arith, append_assoc, length-append, length-take, take, Bool, true, false, cond, ◌&&◌, nat_lt, replicate}
use Rattle.std.specs.List.{list_all}
use Rattle.std.proofs.lemmas.List.Folds.{list_all-append}
use Rattle.std.proofs.lemmas.Bool.Decides.{nat_tests}
use Rattle.std.proofs.lemmas.List.{take-append-le, take-take}
use Rattle.std.proofs.Math.Seq.{take-append-add}
use borrow.Rule.Slice.PartMut.{put_mid, post_of}
use Rattle.std.specs.Io.KnownBytes.{Consumes}
use Rattle.std.proofs.KnownBytes.{Consumes-nil, Consumes-trans}
use Rattle.sq_outside.specs.Fault.{Rose}
use Rattle.sq_outside.specs.Streams.{SourceState}
use Rattle.http_wire.specs.Stream.{IsEnd, is_line_byte, HasRead, HasReadAll, IsPastLimit}
use Rattle.http_wire.specs.Reading.{HasReadCause, StopsReading, Fills, PassesLines, EndsInLines, MeetsOther}
use Rattle.http_wire.proofs.PrefixLemmas.{end_second}
use Rattle.http_wire.specs.declared.request.WireFault.{WireFault}
use Rattle.http_wire.specs.declared.request.WireFault.TheVariants as faults

pub none_read : (a : SourceState) (P : Type 0) → HasRead a [] a P
none_read a P = record { consumed = Consumes-nil a.left; count = omega arith; asked = inl (refl, refl) }

asked_then : (a b c : SourceState) (xs ys : List ℕ) (P Q : Type 0) → ((xs ≡ []) × (b ≡ a)) ⊎ P → ((ys ≡ []) × (c ≡ b)) ⊎ Q → (xs ≡ [] → Q → P) → ((xs ++ ys ≡ []) × (c ≡ a)) ⊎ P
asked_then a b c xs ys P Q (inl (none, same)) (inl (none', same')) lift = inl (ap₂ (λ x y. x ++ y) none none', same' ∙ same)
asked_then a b c xs ys P Q (inl (none, same)) (inr asked) lift = inr (lift none asked)
asked_then a b c xs ys P Q (inr asked) second lift = inr asked

pub read_then : (a b c : SourceState) (xs ys : List ℕ) (P Q : Type 0) → HasRead a xs b P → HasRead b ys c Q → (xs ≡ [] → Q → P) → HasRead a (xs ++ ys) c P
read_then a b c xs ys P Q first second lift = record {
  consumed = Consumes-trans a.left b.left c.left xs ys first.consumed second.consumed;
  count = omega (arith, first.count, second.count);
  asked = asked_then a b c xs ys P Q first.asked second.asked lift;
}

asked_for : (a b : SourceState) (xs : List ℕ) (P Q : Type 0) → ((xs ≡ []) × (b ≡ a)) ⊎ Q → (Q → P) → ((xs ≡ []) × (b ≡ a)) ⊎ P
asked_for a b xs P Q (inl same) lift = inl same
asked_for a b xs P Q (inr asked) lift = inr (lift asked)

-- the same read, with another reason
pub read_for : (a b : SourceState) (xs : List ℕ) (P Q : Type 0) → HasRead a xs b Q → (Q → P) → HasRead a xs b P
read_for a b xs P Q read lift = record { consumed = read.consumed; count = read.count; asked = asked_for a b xs P Q read.asked lift }

-- nothing was left where a read with room gave nothing
pub read_end : (left : Option (List ℕ)) (n room : ℕ) → IfSome left (λ bytes. 0 < room → (n ≡ 0) ↔ (bytes ≡ [])) → 0 < room → n ≡ 0 → HasReadAll left []
read_end None n room known some none = tt
read_end (Some bytes) n room known some none = (known some).0 none

pub all_then : (left left' : Option (List ℕ)) (xs ys : List ℕ) → Consumes left left' xs → HasReadAll left' ys → HasReadAll left (xs ++ ys)
all_then None left' xs ys consumed all = tt
all_then (Some ls) None xs ys consumed all = absurd consumed
all_then (Some ls) (Some rs) xs ys consumed all = consumed ∙ ap (λ w. xs ++ w) all

pub rose_before : (first before after : ℕ) → first ≤ before → Rose before after → Rose first after
rose_before first before after le rose = grind arith

pub past_then : (taken total : ℕ) (xs ys : List ℕ) (IsSo IsSo' : List ℕ → Type 0) → total ≡ taken + length xs → ((zs : List ℕ) → IsSo zs → IsSo' (xs ++ zs)) → IsPastLimit total ys IsSo → IsPastLimit taken (xs ++ ys) IsSo'
past_then taken total xs ys IsSo IsSo' sum so past = record {
  prefix = xs ++ past.prefix;
  extra = past.extra;
  parts = ap (λ w. xs ++ w) past.parts ∙ sym (append_assoc xs past.prefix (past.extra ∷ []));
  full = omega (arith, sum, past.full, length-append xs past.prefix);
  so = so past.prefix past.so;
}

cause_then : (taken total : ℕ) (a b c : SourceState) (xs ys : List ℕ) (fault : WireFault) (IsSo IsSo' : List ℕ → Type 0) → total ≡ taken + length xs → a.faults ≤ b.faults
    → ((zs : List ℕ) → IsSo zs → IsSo' (xs ++ zs)) → HasReadCause total b ys c IsSo fault → HasReadCause taken a (xs ++ ys) c IsSo' fault
cause_then taken total a b c xs ys (faults.BadRequest at) IsSo IsSo' sum le so cause = absurd cause
cause_then taken total a b c xs ys (faults.TooLarge at len) IsSo IsSo' sum le so cause = absurd cause
cause_then taken total a b c xs ys (faults.Unsupported at) IsSo IsSo' sum le so cause = absurd cause
cause_then taken total a b c xs ys faults.ReadFault IsSo IsSo' sum le so (rose, is) = (rose_before a.faults b.faults c.faults le rose, so ys is)
cause_then taken total a b c xs ys faults.InputTooLong IsSo IsSo' sum le so past = past_then taken total xs ys IsSo IsSo' sum so past
cause_then taken total a b c xs ys faults.NoMemory IsSo IsSo' sum le so cause = absurd cause

-- a read that stops after another read
pub stops_then : (taken total : ℕ) (a b c : SourceState) (xs : List ℕ) (fault : WireFault) (IsSo IsSo' : List ℕ → Type 0) (P Q : Type 0) → HasRead a xs b P → (xs ≡ [] → Q → P) → total ≡ taken + length xs
    → ((zs : List ℕ) → IsSo zs → IsSo' (xs ++ zs)) → StopsReading total b fault c IsSo Q → StopsReading taken a fault c IsSo' P
stops_then taken total a b c xs fault IsSo IsSo' P Q first lift sum so stops = record {
  read = xs ++ stops.read;
  has_read = read_then a b c xs stops.read P Q first stops.has_read lift;
  within = omega (arith, sum, stops.within, length-append xs stops.read);
  cause = cause_then taken total a b c xs stops.read fault IsSo IsSo' sum first.count so stops.cause;
}

-- Buffers.

take_filled : (a k n : ℕ) (xs ys : List ℕ) → a ≤ length xs → n ≤ length ys → take (a + n) (put_mid a k xs ys) ≡ take a xs ++ take n ys
take_filled a k n xs ys within fits =
    let first : length (take a xs) ≡ a = omega (arith, length-take a xs) in
    ap (λ m. take (m + n) (put_mid a k xs ys)) (sym first) ∙ take-append-add (take a xs) (ys ++ post_of a k xs) n ∙ ap (λ w. take a xs ++ w) (take-append-le n ys (post_of a k xs) fits)

pub filled_within : (a k n : ℕ) (xs ys : List ℕ) → a ≤ length xs → n ≤ length ys → a + n ≤ length (put_mid a k xs ys)
filled_within a k n xs ys within fits = omega (arith, length-append (take a xs) (ys ++ post_of a k xs), length-append ys (post_of a k xs), length-take a xs)

-- a buffer that is made longer holds what it held
pub resized : (b : Bool) (size held k : ℕ) (old new : List ℕ) → new ≡ cond b (take size old ++ replicate k 0) old → held ≤ length old → held ≤ size → (take held new ≡ take held old) × (held ≤ length new)
resized true size held k old new is within room =
    let fits : held ≤ length (take size old) = omega (arith, length-take size old) in
    let back : length (take held old) ≡ held = omega (arith, length-take held old) in
    (ap (take held) is ∙ take-append-le held (take size old) (replicate k 0) fits ∙ take-take held size old room, omega (arith, fits, ap length is, length-append (take size old) (replicate k 0)))
resized false size held k old new is within room = (ap (take held) is, omega (arith, ap length is))

-- n bytes were read into a buffer, after those that it holds
pub fills : (old items bytes : List ℕ) (held k n taken : ℕ) (before after : SourceState) → take held items ≡ old → held ≤ length items → n ≤ length bytes → taken + n ≤ 1073741824
    → Consumes before.left after.left (take n bytes) → (n ≡ 0 → HasReadAll before.left []) → before.faults ≤ after.faults → Fills old taken before (nat_lt 0 n) (take (held + n) (put_mid held k items bytes)) after
fills old items bytes held k n taken before after is within fits room consumed end count = record {
  read = take n bytes;
  has_read = record { consumed = consumed; count = count; asked = inr tt };
  bytes = take_filled held k n items bytes within fits ∙ ap (λ w. w ++ take n bytes) is;
  within = omega (arith, length-take n bytes);
  some = λ more. (let some : 0 < n = grind (arith, nat_tests) in omega (arith, length-take n bytes));
  none = λ no. (let none : n ≡ 0 = grind (arith, nat_tests) in (ap (λ m. take m bytes) none, end none));
}

-- more was read into a buffer, after the bytes that were read into it before
pub more_read : (a b c : SourceState) (done k n : ℕ) (xs ys : List ℕ) (P Q : Type 0) → done ≤ length xs → n ≤ length ys → HasRead a (take done xs) b P → Consumes b.left c.left (take n ys) → b.faults ≤ c.faults → Q
    → HasRead a (take (done + n) (put_mid done k xs ys)) c Q
more_read a b c done k n xs ys P Q within fits read consumed count asked = record {
  consumed = (let P : List ℕ → Type 0 = Consumes a.left c.left in subst P (sym (take_filled done k n xs ys within fits)) (Consumes-trans a.left b.left c.left (take done xs) (take n ys) read.consumed consumed));
  count = omega (arith, read.count);
  asked = inr asked;
}

-- a read stopped before the buffer was full
pub whole_stops : (taken done size : ℕ) (a b c : SourceState) (xs : List ℕ) (fault : WireFault) → HasRead a (take done xs) b (0 < length xs) → done < length xs → length xs ≡ size
    → StopsReading (taken + done) b fault c (λ read. read ≡ []) (Unit {0}) → StopsReading taken a fault c (λ read. length read < size) (0 < size)
whole_stops taken done size a b c xs fault read some same stops =
    stops_then taken (taken + done) a b c (take done xs) fault (λ zs. zs ≡ []) (λ zs. length zs < size) (0 < size) (Unit {0})
    (read_for a b (take done xs) (0 < size) (0 < length xs) read (λ some. omega arith)) (λ none asked. omega arith) (omega (arith, length-take done xs))
    (λ zs none. omega (arith, length-append (take done xs) zs, ap length none, length-take done xs)) stops

-- Line ends.

pub end_append : (xs ys : List ℕ) → IsEnd xs → IsEnd ys → IsEnd (xs ++ ys)
end_append xs ys first second = list_all-append is_line_byte xs ys ∙ ap₂ (λ a b. a && b) first second

one_read : (b c : SourceState) (ys : List ℕ) → Consumes b.left c.left ys → b.faults ≤ c.faults → HasRead b ys c (Unit {0})
one_read b c ys consumed count = record { consumed = consumed; count = count; asked = inr tt }

pub passes_more : (taken total n : ℕ) (a b c : SourceState) (bytes : List ℕ) → PassesLines taken a total b → n ≤ length bytes → total + n ≤ 1073741824 → Consumes b.left c.left (take n bytes) → b.faults ≤ c.faults
    → IsEnd (take n bytes) → PassesLines taken a (total + n) c
passes_more taken total n a b c bytes passes fits within consumed count blank = record {
  read = passes.read ++ take n bytes;
  has_read = read_then a b c passes.read (take n bytes) (Unit {0}) (Unit {0}) passes.has_read (one_read b c (take n bytes) consumed count) (λ none asked. tt);
  sum = omega (arith, passes.sum, length-append passes.read (take n bytes), length-take n bytes);
  within = within;
  blank = end_append passes.read (take n bytes) passes.blank blank;
}

pub lines_end : (taken total n : ℕ) (a b c : SourceState) (bytes : List ℕ) → PassesLines taken a total b → n ≡ 0 → Consumes b.left c.left (take n bytes) → b.faults ≤ c.faults → HasReadAll b.left [] → EndsInLines taken a total c
lines_end taken total n a b c bytes passes none consumed count all = record {
  passes = record {
    read = passes.read ++ [];
    has_read = read_then a b c passes.read [] (Unit {0}) (Unit {0}) passes.has_read (one_read b c [] (let P : ℕ → Type 0 = λ m. Consumes b.left c.left (take m bytes) in subst P none consumed) count) (λ none asked. tt);
    sum = omega (arith, passes.sum, length-append passes.read []);
    within = passes.within;
    blank = end_append passes.read [] passes.blank refl;
  };
  all = all_then a.left b.left passes.read [] passes.has_read.consumed all;
}

pub lines_other : (taken total n : ℕ) (a b c : SourceState) (bytes : List ℕ) → PassesLines taken a total b → n ≤ length bytes → total + n ≤ 1073741824 → Consumes b.left c.left (take n bytes) → b.faults ≤ c.faults
    → list_all is_line_byte (take n bytes) ≡ false → MeetsOther taken a c
lines_other taken total n a b c bytes passes fits within consumed count other = record {
  read = passes.read ++ take n bytes;
  has_read = read_then a b c passes.read (take n bytes) (Unit {0}) (Unit {0}) passes.has_read (one_read b c (take n bytes) consumed count) (λ none asked. tt);
  within = omega (arith, passes.sum, length-append passes.read (take n bytes), length-take n bytes);
  other = λ end. (let differ : true ≡ false = sym (end_second passes.read (take n bytes) end) ∙ other in cc);
}

pub lines_stop : (taken total : ℕ) (a b c : SourceState) (fault : WireFault) → PassesLines taken a total b → StopsReading total b fault c (λ read. read ≡ []) (Unit {0}) → StopsReading taken a fault c IsEnd (Unit {0})
lines_stop taken total a b c fault passes stops =
    stops_then taken total a b c passes.read fault (λ zs. zs ≡ []) IsEnd (Unit {0}) (Unit {0}) passes.has_read (λ none asked. tt) passes.sum
    (λ zs none. (let P : List ℕ → Type 0 = λ w. IsEnd (passes.read ++ w) in subst P (sym none) (end_append passes.read [] passes.blank refl))) stops
