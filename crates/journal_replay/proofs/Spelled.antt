-- The transactions that a record spells.
use Rattle.std.proofs.Common.{◌≡◌, ◌≢◌, ℕ, List, [], ◌++◌, length, drop, sym, ap, ◌∙◌, None}
use Rattle.std.proofs.lemmas.List.{append-nil}
use Rattle.job_states.specs.declared.transition.Transaction.{Transaction}
use Rattle.journal_format.specs.Payload.{HasText, IsRefusedAt, StandsFirst}
use Rattle.journal_format.specs.Spelling.{payload}
use Rattle.journal_replay.specs.Records.{Spells}
use Rattle.queue_model.specs.Replay.{replay}
use Rattle.queue_model.specs.World.{World}

-- what the law of texts says
abbrev pub OneText : Type 0
OneText = (a b : List Transaction) (x y : List ℕ) → HasText a → HasText b → payload a ++ x ≡ payload b ++ y → (a ≡ b) × (x ≡ y)

pub refused : (bytes : List ℕ) (at : ℕ) → IsRefusedAt bytes at → (txs : List Transaction) → Spells bytes txs → ⊥
refused bytes at fault txs spells = fault.none txs [] spells.has_text (spells.is ∙ sym (append-nil (payload txs)))

module _ (one : OneText) where
  -- bytes are left after those that spell them
  pub longer : (bytes : List ℕ) (first : List Transaction) (len : ℕ) → StandsFirst bytes first len → len ≢ length bytes → (txs : List Transaction) → Spells bytes txs → ⊥
  longer bytes first len stands ne txs spells =
      let same = one first txs (drop len bytes) [] stands.has_text spells.has_text (sym stands.text ∙ spells.is ∙ sym (append-nil (payload txs))) in
      ne (stands.len_is ∙ ap (λ ts. length (payload ts)) same.0 ∙ ap length (sym spells.is))

  pub once : (bytes : List ℕ) (a b : List Transaction) → Spells bytes a → Spells bytes b → a ≡ b
  once bytes a b this that = (one a b [] [] this.has_text that.has_text (ap (λ l. l ++ []) (sym this.is ∙ that.is))).0

  pub illegal : (bytes : List ℕ) (w : World) (txs : List Transaction) → Spells bytes txs → replay w txs ≡ None → (other : List Transaction) → Spells bytes other → replay w other ≡ None
  illegal bytes w txs spells refused other they = ap (replay w) (once bytes other txs they spells) ∙ refused
