-- Items back to back.
use Rattle.std.proofs.Common.{◌≡◌, ◌+◌, ℕ, List, [], ◌∷◌, ◌++◌, length, drop, ap, sym, ◌∙◌, subst, arith, append_assoc}
use Rattle.std.proofs.lemmas.Grind.{common_steps}
use Rattle.queue_cli.specs.Answering.{AreItems}
use Rattle.queue_cli.specs.Protocol.{Protocol}

-- an input is read in one way
pub record IsReadOneWay (p : Protocol) : Type 0 where
  -- an item is the same whatever follows
  pub longer : (bytes : List ℕ) (item : p.Item) (rest more : List ℕ) → p.IsItem bytes item rest → p.IsItem (bytes ++ more) item (rest ++ more)
  -- its bytes stand before the rest
  pub first : (bytes : List ℕ) (item : p.Item) (rest : List ℕ) → p.IsItem bytes item rest → (first : List ℕ) × (bytes ≡ first ++ rest)
  pub one : (bytes : List ℕ) (item other : p.Item) (rest more : List ℕ) → p.IsItem bytes item rest → p.IsItem bytes other more → (item ≡ other) × (rest ≡ more)
  pub goes_on : (bytes : List ℕ) (item : p.Item) (rest : List ℕ) → p.IsItem bytes item rest → p.IsEnd bytes → ⊥
  pub taken : (bytes : List ℕ) (item : p.Item) (rest : List ℕ) (why : p.Refusal) → p.IsItem bytes item rest → p.IsRefused bytes why → ⊥
  pub over : (bytes : List ℕ) (why : p.Refusal) → p.IsEnd bytes → p.IsRefused bytes why → ⊥

module _ (p : Protocol) (reads : IsReadOneWay p) where
  -- bytes that follow don't matter
  pub items_then : (bytes : List ℕ) (items : List p.Item) (rest more : List ℕ) → AreItems p bytes items rest → AreItems p (bytes ++ more) items (rest ++ more)
  items_then bytes [] rest more same = ap (λ w. w ++ more) same
  items_then bytes (item ∷ items) rest more (next, is, are) = (next ++ more, reads.longer bytes item next more is, items_then next items rest more are)

  -- what follows the items is the end of the bytes
  items_first : (bytes : List ℕ) (items : List p.Item) (rest : List ℕ) → AreItems p bytes items rest → (first : List ℕ) × (bytes ≡ first ++ rest)
  items_first bytes [] rest same = ([], same)
  items_first bytes (item ∷ items) rest (next, is, are) =
      let first = reads.first bytes item next is in
      let more = items_first next items rest are in
      (first.0 ++ more.0, first.1 ∙ ap (λ w. first.0 ++ w) more.1 ∙ sym (append_assoc first.0 more.0 rest))

  -- the place where the pending bytes begin
  pub pending_at : (at : ℕ) (taken : List ℕ) (items : List p.Item) (pending left : List ℕ) → AreItems p taken items pending → at + length pending ≡ length taken → drop at (taken ++ left) ≡ pending ++ left
  pending_at at taken items pending left are place =
      let first = items_first taken items pending are in
      let whole : length taken ≡ length first.0 + length pending = ap length first.1 ∙ (let P : List ℕ → Type 0 = λ w. length w ≡ length first.0 + length pending in grind (arith, common_steps)) in
      let here : at ≡ length first.0 = omega (arith, whole, place) in
      let parts : taken ++ left ≡ first.0 ++ (pending ++ left) = ap (λ w. w ++ left) first.1 ∙ append_assoc first.0 pending left in
      ap (drop at) parts ∙ dropped at first.0 (pending ++ left) here
    where
      dropped : (at : ℕ) (first rest : List ℕ) → at ≡ length first → drop at (first ++ rest) ≡ rest
      dropped at first rest is = grind (arith, common_steps, is)

  -- a sequence of items has no place where it is refused
  never_refused : (bytes : List ℕ) (items : List p.Item) (rest : List ℕ) (others : List p.Item) (more : List ℕ) (why : p.Refusal)
      → AreItems p bytes items rest → p.IsEnd rest → AreItems p bytes others more → p.IsRefused more why → ⊥
  never_refused bytes [] rest [] more why is end other refused =
      let same : rest ≡ more = sym is ∙ other in reads.over more why (subst p.IsEnd same end) refused
  never_refused bytes [] rest (other ∷ others) more why is end (mid, item, are) refused = reads.goes_on bytes other mid item (subst p.IsEnd (sym is) end)
  never_refused bytes (item ∷ items) rest [] more why (mid, is, are) end other refused =
      reads.taken bytes item mid why is (let P : List ℕ → Type 0 = λ b. p.IsRefused b why in subst P (sym other) refused)
  never_refused bytes (item ∷ items) rest (next ∷ others) more why (mid, is, are) end (mid', is', are') refused =
      let same = reads.one bytes item next mid mid' is is' in
      let P : List ℕ → Type 0 = λ b. AreItems p b others more in
      never_refused mid items rest others more why are end (subst P (sym same.1) are') refused

  -- nor where some of its items were taken
  pub not_refused : (bytes : List ℕ) (items : List p.Item) (rest taken : List ℕ) (others : List p.Item) (pending : List ℕ) (at : ℕ) (why : p.Refusal) (left : List ℕ)
      → AreItems p bytes items rest → p.IsEnd rest → bytes ≡ taken ++ left → AreItems p taken others pending → at + length pending ≡ length taken → p.IsRefused (drop at bytes) why → ⊥
  not_refused bytes items rest taken others pending at why left are end whole first place refused =
      let P : List ℕ → Type 0 = λ bytes. AreItems p bytes others (pending ++ left) in
      let Q : List ℕ → Type 0 = λ bytes. p.IsRefused bytes why in
      never_refused bytes items rest others (pending ++ left) why are end (subst P (sym whole) (items_then taken others pending left first))
      (subst Q (ap (drop at) whole ∙ pending_at at taken others pending left first place) refused)
