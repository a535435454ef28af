-- What the parser answers is a head that is taken.
use Rattle.std.proofs.Common.{◌≡◌, ◌≤◌, ℕ, List, length, map, take, drop, Ok, Err, cond, inr, refl, ap, sym, ◌∙◌, arith, length-take}
use Rattle.std.proofs.lemmas.List.{length-map}
use Rattle.httparse.specs.declared.spans.HeaderSpan.{HeaderSpan}
use Rattle.httparse.specs.declared.spans.RequestSpans.{RequestSpans}
use Rattle.httparse.specs.Grammar.{RequestHead}
use Rattle.httparse.specs.Spans.{IsRequestAt, IsRequestWithin, header_bytes, span_bytes, name_and_value}
use Rattle.http_wire.specs.declared.head.Refusal.TheVariants.{Bad, TooLarge, Unsupported}
use Rattle.http_wire.specs.declared.head.Refusal.{Refusal}
use Rattle.http_wire.specs.declared.head.Head.{Head}
use Rattle.http_wire.specs.Head.{BeginsWith, body_length, framed, is_path, path_of, query_of}
use Rattle.http_wire.specs.Reading.{IsHeadOf, HasHeadCause}
use Rattle.http_wire.specs.Stream.{HasRefusedHead, fault_at}

-- the fields are no more than the room for them
few_fields : (prefix : List ℕ) (spans : List HeaderSpan) (r : RequestSpans) (h : RequestHead) → IsRequestAt prefix spans r h → length spans ≤ 64 → length h.fields ≤ 64
few_fields prefix spans r h found room =
    let same : length (map (header_bytes prefix) (take r.headers spans)) ≡ length (map name_and_value h.fields) = ap length found.fields in
    omega (arith, same, length-map (take r.headers spans) (header_bytes prefix), length-map h.fields name_and_value, length-take r.headers spans)

pub begins_with : (prefix : List ℕ) (spans : List HeaderSpan) (r : RequestSpans) (h : RequestHead) → IsRequestAt prefix spans r h → IsRequestWithin prefix spans r → length spans ≤ 64 → length prefix ≤ 16384 → BeginsWith prefix h (drop r.len prefix)
begins_with prefix spans r h found within room short = record {
  reads = found.reads;
  few = few_fields prefix spans r h found room;
  short = omega (arith, found.len, within.section.len_fits);
}

-- what the spans announce is what the head announces
pub announced_by : (prefix : List ℕ) (spans : List HeaderSpan) (r : RequestSpans) (h : RequestHead) → IsRequestAt prefix spans r h
    → cond (is_path (span_bytes prefix r.path)) (framed (map (header_bytes prefix) (take r.headers spans))) (Err Bad) ≡ body_length h
announced_by prefix spans r h found = rw (found.path, found.fields) refl

pub head_of : (prefix : List ℕ) (spans : List HeaderSpan) (r : RequestSpans) → (h : RequestHead) × IsRequestAt prefix spans r h → IsRequestWithin prefix spans r → length spans ≤ 64 → length prefix ≤ 16384
    → (head : Head) → head.len ≡ r.len
    → cond (is_path (span_bytes prefix r.path)) (framed (map (header_bytes prefix) (take r.headers spans))) (Err Bad) ≡ Ok head.body
    → head.method ≡ span_bytes prefix r.method → head.path ≡ path_of (span_bytes prefix r.path) → head.query ≡ query_of (span_bytes prefix r.path)
    → IsHeadOf prefix head
head_of prefix spans r (h, found) within room short head len body method path query = record {
  tree = h;
  begins = rw len (begins_with prefix spans r h found within room short);
  len = len ∙ found.len;
  within = rw len within.section.len_fits;
  body = sym (announced_by prefix spans r h found) ∙ body;
  method = method ∙ found.method;
  path = path ∙ ap path_of found.path;
  query = query ∙ ap query_of found.path;
}

-- a head that announces what is refused
pub refused_head : (prefix : List ℕ) (spans : List HeaderSpan) (r : RequestSpans) → (h : RequestHead) × IsRequestAt prefix spans r h → IsRequestWithin prefix spans r → length spans ≤ 64 → length prefix ≤ 16384
    → (refusal : Refusal) → Err refusal ≡ cond (is_path (span_bytes prefix r.path)) (framed (map (header_bytes prefix) (take r.headers spans))) (Err Bad)
    → HasRefusedHead prefix refusal
refused_head prefix spans r (h, found) within room short refusal announced = record {
  head = h;
  rest = drop r.len prefix;
  begins = begins_with prefix spans r h found within room short;
  refused = sym (announced_by prefix spans r h found) ∙ sym announced;
}

pub fault_of_head : (at : ℕ) (prefix : List ℕ) (refusal : Refusal) → HasRefusedHead prefix refusal → HasHeadCause at prefix (fault_at at refusal)
fault_of_head at prefix Bad refused = (refl, inr refused)
fault_of_head at prefix (TooLarge len) refused = (refl, refused)
fault_of_head at prefix Unsupported refused = (refl, refused)
