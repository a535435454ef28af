-- The laws of payloads, as the public calls say them.
use Rattle.std.proofs.Common.{◌≡◌, ℕ, ◌+◌, ◌-◌, ◌<◌, ◌≤◌, List, [], ◌∷◌, ◌++◌, length, take, drop, Ok, Err, refl, sym, ap, ◌∙◌, append_assoc, arith, length-append}
use Rattle.std.proofs.lemmas.List.{take_at, drop_at}
use Rattle.job_states.specs.declared.transition.Transaction.{Transaction}
use Rattle.journal_format.specs.Spelling.{payload}
use Rattle.journal_format.specs.Grammar.{payload_at}
use Rattle.journal_format.specs.Payload.{HasText, StandsFirst, IsRefusedAt}
use Rattle.journal_format.proofs.Lawful.{ok_parts, ok_not_err}
use Rattle.journal_format.proofs.PayloadLaws.{payload_lawful}

split_length : (bytes prefix rest : List ℕ) → bytes ≡ prefix ++ rest → (length rest ≤ length bytes) × (length bytes - length rest ≡ length prefix)
split_length bytes prefix rest e = let z = ap length e in let y = length-append prefix rest in (omega arith, omega arith)

pub record IsFound (bytes : List ℕ) (txs : List Transaction) (rest : List ℕ) : Type 0 where
  pub shorter : length rest ≤ length bytes
  pub first : StandsFirst bytes txs (length bytes - length rest)

pub payload_found : (bytes : List ℕ) (txs : List Transaction) (rest : List ℕ) → payload_at bytes ≡ Ok (txs, rest) → IsFound bytes txs rest
payload_found bytes txs rest e =
    let f = payload_lawful.found bytes txs rest e in
    let s = split_length bytes (payload txs) rest f.1 in
    let after : drop (length bytes - length rest) bytes ≡ rest = ap (drop (length bytes - length rest)) f.1 ∙ drop_at (payload txs) rest (length bytes - length rest) (sym s.1) in
    record { shorter = s.0; first = record { has_text = f.0; len_is = s.1; text = f.1 ∙ ap (λ (t : List ℕ). payload txs ++ t) (sym after) } }

pub payload_only : (bytes : List ℕ) (txs : List Transaction) (rest others : List ℕ) (found : List Transaction) → payload_at bytes ≡ Ok (found, others) → HasText txs → bytes ≡ payload txs ++ rest → found ≡ txs
payload_only bytes txs rest others found e fits is = (ok_parts found txs others rest (sym e ∙ ap payload_at is ∙ payload_lawful.again txs rest fits)).0

pub payload_not_refused : (bytes : List ℕ) (txs : List Transaction) (rest others : List ℕ) → payload_at bytes ≡ Err others → HasText txs → bytes ≡ payload txs ++ rest → ⊥
payload_not_refused bytes txs rest others e fits is = ok_not_err (payload_at bytes) txs rest others (ap payload_at is ∙ payload_lawful.again txs rest fits) e

next_byte : (rest : List ℕ) → 0 < length rest → (b : ℕ) × (later : List ℕ) × (rest ≡ b ∷ later)
next_byte [] lt = absurd (omega arith)
next_byte (b ∷ later) lt = (b, later, refl)

pub record IsShort (bytes rest : List ℕ) : Type 0 where
  pub shorter : length rest ≤ length bytes
  pub refused : IsRefusedAt bytes (length bytes - length rest)

pub payload_refused : (bytes rest : List ℕ) → payload_at bytes ≡ Err rest → IsShort bytes rest
payload_refused bytes rest e =
    let k = payload_lawful.stuck bytes rest e in
    let s = split_length bytes k.prefix rest k.whole in
    let at = length bytes - length rest in
    let here : take at bytes ≡ k.prefix = ap (take at) k.whole ∙ take_at k.prefix rest at (sym s.1) in
    record {
      shorter = s.0;
      refused = record {
        within = omega arith;
        before = record { txs = k.value; more = k.more; has_text = k.is_fit; text = k.goes_on ∙ ap (λ (t : List ℕ). t ++ k.more) (sym here) };
        after = λ lt b.
            let n = next_byte rest (omega (arith, s.1, s.0)) in
            let longer : take (at + 1) bytes ≡ k.prefix ++ n.0 ∷ [] = one_more bytes k.prefix rest n.0 n.1 at k.whole n.2 s.1 in
            k.ends b.txs n.0 n.1 b.more n.2 b.has_text (b.text ∙ ap (λ (t : List ℕ). t ++ b.more) longer ∙ append_assoc k.prefix (n.0 ∷ []) b.more);
        none = λ txs others fits is. payload_not_refused bytes txs others rest e fits is;
      };
    }
  where
    one_more : (bytes prefix rest : List ℕ) (b : ℕ) (later : List ℕ) (at : ℕ) → bytes ≡ prefix ++ rest → rest ≡ b ∷ later → at ≡ length prefix → take (at + 1) bytes ≡ prefix ++ b ∷ []
    one_more bytes prefix rest b later at whole is len =
        let all : bytes ≡ (prefix ++ b ∷ []) ++ later = whole ∙ ap (λ (t : List ℕ). prefix ++ t) is ∙ sym (append_assoc prefix (b ∷ []) later) in
        ap (take (at + 1)) all ∙ take_at (prefix ++ b ∷ []) later (at + 1) (let z = length-append prefix (b ∷ []) in omega arith)

pub payload_once : (a b : List Transaction) (x y : List ℕ) → HasText a → HasText b → payload a ++ x ≡ payload b ++ y → (a ≡ b) × (x ≡ y)
payload_once a b x y p q e = ok_parts a b x y (sym (payload_lawful.again a x p) ∙ ap payload_at e ∙ payload_lawful.again b y q)
