-- A record is read from the bytes ahead.
use Rattle.std.proofs.Common.{◌≡◌, ℕ, ◌+◌, ◌-◌, ◌*◌, ◌/◌, ◌%◌, ◌^◌, ◌<◌, ◌≤◌, min, Bool, true, false, not, eqb, ◌&&◌, nat_le, IsTrue, List, [], ◌∷◌, ◌++◌, length, get_or, take, drop, Option, None, Some, IfSome, Result, Ok, Err, refl, sym, ◌∙◌, ap, subst, arith, append_assoc, length-append, length-take, length-drop}
use Rattle.std.proofs.lemmas.List.{drop-take, drop-drop, take-take, take-append-drop}
use Rattle.std.proofs.lemmas.Bool.{leb-true, le-leb}
use Rattle.job_states.specs.Length.{is_within}
use Rattle.journal_format.specs.Records.{framed, is_closed}
use Rattle.journal_format.specs.Spelling.{big_endian}
use Rattle.sq_outside.specs.Disk.{History}
use Rattle.journal_keeper.specs.declared.fault.OpenFault.{OpenFault}
use Rattle.journal_keeper.specs.declared.fault.OpenFault.TheVariants.{NotAJournal, Version, BadRecord, DiskFault, NoMemory}
use Rattle.journal_keeper.specs.declared.frame.Frame.{Frame}
use Rattle.journal_keeper.specs.declared.frame.Frame.TheVariants.{Closed, Broken, Open}
use Rattle.journal_keeper.specs.declared.journal.Stage.{Stage}
use Rattle.journal_keeper.specs.Answers.{IsReadCause, IsNext}
use Rattle.journal_keeper.specs.Reading.{IsFrame, IsShort, IsTaken, TakesPayload, ReadsRecord}
use Rattle.journal_keeper.specs.Records.{IsPayload, BeginsWithRecord}
use Rattle.journal_keeper.specs.Stands.{Keeper, IsAhead}

module _ (file ahead : List ℕ) (place m : ℕ) (here : IsAhead place file ahead) where
  abbrev more : ℕ
  more = length ahead - m

  dropped : m ≤ length ahead → drop m ahead ≡ take more (drop (place + m) file)
  dropped within =
      let whole : length ahead ≡ m + more = omega (arith, within) in
      ap (drop m) (here ∙ ap (λ (k : ℕ). take k (drop place file)) whole) ∙ drop-take m more (drop place file) ∙ ap (take more) (drop-drop m place file)

  pub ahead_slice : (j : ℕ) → m + j ≤ length ahead → take j (drop m ahead) ≡ take j (drop (place + m) file)
  ahead_slice j within = ap (take j) (dropped (omega (arith, within))) ∙ take-take j more (drop (place + m) file) (omega (arith, within))

  pub ahead_rest : m ≤ length ahead → IsAhead (place + m) file (drop m ahead)
  ahead_rest within = dropped within ∙ ap (λ (k : ℕ). take k (drop (place + m) file)) (sym (length-drop m ahead))

  pub ahead_within : length ahead ≤ length file - place
  ahead_within = let e = ap length here in let t = length-take (length ahead) (drop place file) in let d = length-drop place file in omega (arith, e, t, d)

short_by : (n place len before now : ℕ) (fault : OpenFault) → IsReadCause before now fault → IsShort n place len fault
short_by n place len before now (NotAJournal file) cause = cause
short_by n place len before now (Version file v) cause = cause
short_by n place len before now (BadRecord at) cause = absurd cause
short_by n place len before now DiskFault cause = tt
short_by n place len before now NoMemory cause = tt

next_by : (place : ℕ) (text : List ℕ) (before now : ℕ) (fault : OpenFault) → IsReadCause before now fault → IsNext place text (Err fault)
next_by place text before now (NotAJournal file) cause = cause
next_by place text before now (Version file v) cause = cause
next_by place text before now (BadRecord at) cause = absurd cause
next_by place text before now DiskFault cause = tt
next_by place text before now NoMemory cause = tt

-- how the bytes ahead were filled
abbrev pub Fills : ℕ → List ℕ → List ℕ → Option History → Type 0
Fills place old new before = IfSome before (λ h. IsAhead place h.now.0.reads old → IsAhead place h.now.0.reads new)

map_some : {A : Type 0} (o : Option A) (P Q : A → Type 0) → ((x : A) → P x → Q x) → IfSome o P → IfSome o Q
map_some None P Q f h = tt
map_some (Some x) P Q f h = f x h

map_two : {A : Type 0} (o : Option A) (P Q R : A → Type 0) → ((x : A) → P x → Q x → R x) → IfSome o P → IfSome o Q → IfSome o R
map_two None P Q R f h k = tt
map_two (Some x) P Q R f h k = f x h k

module _ (n end : ℕ) (stage : Stage) (window ahead : List ℕ) (old : Keeper) (view : record { end = end; stage = stage; ahead = window } ≡ old) (before after : Option History) (kept : after ≡ before) (fills : Fills end window ahead before) where
  abbrev as_kept : Keeper
  as_kept = record { end = end; stage = stage; ahead = ahead }

  pub take_failed : (result : Result (List ℕ) OpenFault) (fault : OpenFault) (count now : ℕ) → result ≡ Err fault → IsReadCause count now fault → TakesPayload n old before result as_kept after
  take_failed result fault count now is cause = subst (λ (k : Keeper). TakesPayload n k before result as_kept after) view (subst (λ (r : Result (List ℕ) OpenFault). TakesPayload n (record { end = end; stage = stage; ahead = window }) before r as_kept after) (sym is)
      (record { kept = kept; stage = refl; taken = map_some before _ _ (λ h f was. (short_by n end (length h.now.0.reads) count now fault cause, refl, f was)) fills }))

  pub record_failed : (result : Result (Option (List ℕ)) OpenFault) (fault : OpenFault) (count now : ℕ) → result ≡ Err fault → IsReadCause count now fault → ReadsRecord old before result as_kept after
  record_failed result fault count now is cause = subst (λ (k : Keeper). ReadsRecord k before result as_kept after) view (subst (λ (r : Result (Option (List ℕ)) OpenFault). ReadsRecord (record { end = end; stage = stage; ahead = window }) before r as_kept after) (sym is)
      (record { kept = kept; stage = refl; answer = map_some before _ _ (λ h f was. (next_by end (drop end h.now.0.reads) count now fault cause, refl, f was)) fills }))

  pub take_done : (payload : List ℕ) → n + 5 ≤ length ahead → payload ≡ take n (drop 5 ahead) → TakesPayload n old before (Ok payload) (record { end = end + (5 + n); stage = stage; ahead = drop (n + 5) ahead }) after
  take_done payload long is = subst (λ (k : Keeper). TakesPayload n k before (Ok payload) (record { end = end + (5 + n); stage = stage; ahead = drop (n + 5) ahead }) after) view
      (record { kept = kept; stage = refl; taken = map_some before _ _ (λ h f was. here h.now.0.reads (f was)) fills })
    where
      here : (file : List ℕ) → IsAhead end file ahead → IsTaken n end file (Ok payload) (record { end = end + (5 + n); stage = stage; ahead = drop (n + 5) ahead })
      here file there =
          let w = ahead_within file ahead end 5 there in
          let e : end + (n + 5) ≡ end + (5 + n) = omega arith in (
            omega (arith, w, long),
            is ∙ ahead_slice file ahead end 5 there n (omega (arith, long)),
            omega arith,
            subst (λ (k : ℕ). IsAhead k file (drop (n + 5) ahead)) e (ahead_rest file ahead end (n + 5) there long),
          )

  abbrev Filled : Type 0
  Filled = IfSome before (λ h. min 5 (length h.now.0.reads - end) ≤ length ahead)

  abbrev FrameOf : Frame → Type 0
  FrameOf frame = (text : List ℕ) → ahead ≡ take (length ahead) text → min 5 (length text) ≤ length ahead → IsFrame text frame

  frame_there : (frame : Frame) (h : History) → FrameOf frame → IsAhead end h.now.0.reads ahead → min 5 (length h.now.0.reads - end) ≤ length ahead → IsFrame (drop end h.now.0.reads) frame
  frame_there frame h frames there filled = frames (drop end h.now.0.reads) there (let d = length-drop end h.now.0.reads in omega (arith, d, filled))

  pub record_closed : FrameOf Closed → Filled → ReadsRecord old before (Ok None) as_kept after
  record_closed frames filled = subst (λ (k : Keeper). ReadsRecord k before (Ok None) as_kept after) view
      (record { kept = kept; stage = refl; answer = map_two before _ _ _ (λ h f full was. (frame_there Closed h frames (f was) full, refl, f was)) fills filled })

  pub record_broken : FrameOf Broken → Filled → ReadsRecord old before (Err (BadRecord end)) as_kept after
  record_broken frames filled = subst (λ (k : Keeper). ReadsRecord k before (Err (BadRecord end)) as_kept after) view
      (record { kept = kept; stage = refl; answer = map_two before _ _ _ (λ h f full was. let there = frame_there Broken h frames (f was) full in ((refl, there.0, there.1), refl, f was)) fills filled })

opened_text : (n : ℕ) (text : List ℕ) → take 5 text ≡ 0x52 ∷ big_endian 4 n → is_closed text ≡ false
opened_text n [] is = absurd (let e = ap length is in omega (arith, e))
opened_text n (gate ∷ text) is = ap (λ (g : ℕ). not (eqb g 0x52)) (ap (λ (l : List ℕ). get_or l 0 0) is)

bytes_of : (n : ℕ) → n < 2 ^ 32 → n ≡ n / 16777216 % 256 * 16777216 + n / 65536 % 256 * 65536 + n / 256 % 256 * 256 + n % 256
bytes_of n small = omega arith

and_right : (a b : Bool) → (a && b) ≡ true → b ≡ true
and_right true b h = h
and_right false b h = absurd (let e : false ≡ true = h in cc)

and_both : (a b : Bool) → a ≡ true → b ≡ true → (a && b) ≡ true
and_both a b h k = ap (λ (x : Bool). x && b) h ∙ k

fits_bound : (payload : List ℕ) → IsPayload payload → length payload ≤ 16777216
fits_bound payload fits = leb-true (length payload) 16777216 (and_right (nat_le 1 (length payload)) (nat_le (length payload) 16777216) fits)

within_true : (n : ℕ) → 1 ≤ n → n ≤ 16_777_216 → IsTrue (is_within 1 16_777_216 n)
within_true n low high = and_both (nat_le 1 n) (nat_le n 16777216) (le-leb 1 n low) (le-leb n 16777216 high)

-- the length that is read is that of the record
length_is : (n : ℕ) (payload text : List ℕ) → n ≤ 16_777_216 → take 5 text ≡ 0x52 ∷ big_endian 4 n → (begins : BeginsWithRecord payload text) → length payload ≡ n
length_is n payload text small is begins =
    let same : take 5 (0x52 ∷ framed payload ++ begins.rest) ≡ 0x52 ∷ big_endian 4 n = ap (take 5) (sym begins.is) ∙ is in
    let a = ap (λ (l : List ℕ). get_or l 1 0) same in
    let b = ap (λ (l : List ℕ). get_or l 2 0) same in
    let c = ap (λ (l : List ℕ). get_or l 3 0) same in
    let d = ap (λ (l : List ℕ). get_or l 4 0) same in
    let bound = fits_bound payload begins.fits in
    bytes_of (length payload) (omega (arith, bound)) ∙ omega (arith, a, b, c, d) ∙ sym (bytes_of n (omega (arith, small)))

record_long : (payload text : List ℕ) → (begins : BeginsWithRecord payload text) → 5 + length payload ≤ length text
record_long payload text begins =
    let e = ap length begins.is in
    let a = length-append (framed payload) begins.rest in
    let b = length-append (big_endian 4 (length payload)) payload in
    omega (arith, e, a, b)

short_next : (n place : ℕ) (file : List ℕ) (fault : OpenFault) → n ≤ 16_777_216 → take 5 (drop place file) ≡ 0x52 ∷ big_endian 4 n → IsShort n place (length file) fault → IsNext place (drop place file) (Err fault)
short_next n place file (NotAJournal f) small is short = short
short_next n place file (Version f v) small is short = short
short_next n place file (BadRecord at) small is short = (
  short.0,
  opened_text n (drop place file) is,
  λ payload begins.
      let same = length_is n payload (drop place file) small is begins in
      let long = record_long payload (drop place file) begins in
      let d = length-drop place file in
      omega (arith, same, long, d, short.1),
)
short_next n place file DiskFault small is short = tt
short_next n place file NoMemory small is short = tt

taken_next : (n place : ℕ) (file payload : List ℕ) → 1 ≤ n → n ≤ 16_777_216 → take 5 (drop place file) ≡ 0x52 ∷ big_endian 4 n → place + 5 + n ≤ length file → payload ≡ take n (drop (place + 5) file) → (length payload ≡ n) × BeginsWithRecord payload (drop place file)
taken_next n place file payload low high is within same =
    let d = length-drop (place + 5) file in
    let t = length-take n (drop (place + 5) file) in
    let e = ap length same in
    let long : length payload ≡ n = omega (arith, d, t, e, within) in
    let begins : take 5 (drop place file) ≡ 0x52 ∷ big_endian 4 (length payload) = is ∙ ap (λ (k : ℕ). 0x52 ∷ big_endian 4 k) (sym long) in
    let after : drop 5 (drop place file) ≡ payload ++ drop n (drop (place + 5) file) =
    drop-drop 5 place file ∙ sym (take-append-drop n (drop (place + 5) file)) ∙ ap (λ (l : List ℕ). l ++ drop n (drop (place + 5) file)) (sym same) in (
      long,
      record {
        fits = subst (λ (k : ℕ). IsTrue (is_within 1 16_777_216 k)) (sym long) (within_true n low high);
        rest = drop n (drop (place + 5) file);
        is = sym (take-append-drop 5 (drop place file)) ∙ ap (λ (l : List ℕ). l ++ drop 5 (drop place file)) begins ∙ ap (λ (l : List ℕ). (0x52 ∷ big_endian 4 (length payload)) ++ l) after ∙ sym (append_assoc (0x52 ∷ big_endian 4 (length payload)) payload (drop n (drop (place + 5) file)));
      },
    )

-- a frame of the slice is one of what is ahead
pub framed_ahead : (slice ahead : List ℕ) (frame : Frame) → slice ≡ ahead → ((text : List ℕ) → slice ≡ take (length slice) text → min 5 (length text) ≤ length slice → IsFrame text frame)
    → (text : List ℕ) → ahead ≡ take (length ahead) text → min 5 (length text) ≤ length ahead → IsFrame text frame
framed_ahead slice ahead frame same frames = subst (λ (l : List ℕ). (text : List ℕ) → l ≡ take (length l) text → min 5 (length text) ≤ length l → IsFrame text frame) same frames

module _ (m end : ℕ) (stage : Stage) (window ahead : List ℕ) (old : Keeper) (view : record { end = end; stage = stage; ahead = window } ≡ old) (before after : Option History) (kept : after ≡ before) (fills : Fills end window ahead before)
    (n : ℕ) (frames : (text : List ℕ) → ahead ≡ take (length ahead) text → min 5 (length text) ≤ length ahead → IsFrame text (Open n)) (filled : IfSome before (λ h. min 5 (length h.now.0.reads - end) ≤ length ahead)) where
  abbrev mid : Keeper
  mid = record { end = end; stage = stage; ahead = ahead }

  opened : (h : History) → min 5 (length h.now.0.reads - end) ≤ length ahead → IsAhead end h.now.0.reads ahead → IsFrame (drop end h.now.0.reads) (Open n)
  opened h full there = frames (drop end h.now.0.reads) there (let d = length-drop end h.now.0.reads in omega (arith, d, full))

  pub record_short : (result : Result (Option (List ℕ)) OpenFault) (fault : OpenFault) → result ≡ Err fault → (new : Keeper) (last : Option History) → TakesPayload n mid after (Err fault) new last → ReadsRecord old before result new last
  record_short result fault is new last takes = subst (λ (k : Keeper). ReadsRecord k before result new last) view (subst (λ (r : Result (Option (List ℕ)) OpenFault). ReadsRecord (record { end = end; stage = stage; ahead = window }) before r new last) (sym is)
      (record { kept = takes.kept ∙ kept; stage = takes.stage; answer = by_all before fills filled (subst (λ (b : Option History). IfSome b (λ h. IsAhead end h.now.0.reads ahead → IsTaken n end h.now.0.reads (Err fault) new)) kept takes.taken) }))
    where
      by_all : (b : Option History) → Fills end window ahead b → IfSome b (λ h. min 5 (length h.now.0.reads - end) ≤ length ahead) → IfSome b (λ h. IsAhead end h.now.0.reads ahead → IsTaken n end h.now.0.reads (Err fault) new)
          → IfSome b (λ h. IsAhead end h.now.0.reads window → IsNext end (drop end h.now.0.reads) (Err fault) × (new.end ≡ end) × IsAhead new.end h.now.0.reads new.ahead)
      by_all None f full taken = tt
      by_all (Some h) f full taken = λ was.
          let frame = opened h full (f was) in
          let t = taken (f was) in
          (short_next n end h.now.0.reads fault frame.1 frame.2 t.0, t.1, t.2)

  pub record_taken : (payload : List ℕ) (new : Keeper) (last : Option History) → TakesPayload n mid after (Ok payload) new last → ReadsRecord old before (Ok (Some payload)) new last
  record_taken payload new last takes = subst (λ (k : Keeper). ReadsRecord k before (Ok (Some payload)) new last) view
      (record { kept = takes.kept ∙ kept; stage = takes.stage; answer = by_all before fills filled (subst (λ (b : Option History). IfSome b (λ h. IsAhead end h.now.0.reads ahead → IsTaken n end h.now.0.reads (Ok payload) new)) kept takes.taken) })
    where
      by_all : (b : Option History) → Fills end window ahead b → IfSome b (λ h. min 5 (length h.now.0.reads - end) ≤ length ahead) → IfSome b (λ h. IsAhead end h.now.0.reads ahead → IsTaken n end h.now.0.reads (Ok payload) new)
          → IfSome b (λ h. IsAhead end h.now.0.reads window → BeginsWithRecord payload (drop end h.now.0.reads) × (new.end ≡ end + 5 + length payload) × IsAhead new.end h.now.0.reads new.ahead)
      by_all None f full taken = tt
      by_all (Some h) f full taken = λ was.
          let frame = opened h full (f was) in
          let t = taken (f was) in
          let next = taken_next n end h.now.0.reads payload frame.0 frame.1 frame.2 t.0 t.1 in
          (next.1, t.2 ∙ ap (λ (k : ℕ). end + 5 + k) (sym next.0), t.3)
