-- A file gives one verdict.
use Rattle.std.proofs.Common.{◌≡◌, ◌⊎◌, inl, inr, ℕ, ◌+◌, ◌*◌, ◌/◌, ◌%◌, ◌^◌, ◌<◌, true, false, List, [], ◌∷◌, ◌++◌, length, get_or, map, Option, None, Some, is_some, refl, sym, ◌∙◌, ap, subst, append_assoc, arith, length-take}
use Rattle.std.proofs.lemmas.Bool.{true≢false}
use Rattle.std.proofs.lemmas.Grind.{flat_map-append}
use Rattle.std.proofs.lemmas.List.{append_cancel_left}
use Rattle.std.proofs.lemmas.List.Elements.{All-head, All-tail}
use Rattle.std.specs.List.{All, flat_map}
use Rattle.job_states.specs.declared.transition.Transaction.{Transaction}
use Rattle.journal_format.specs.Payload.{HasText}
use Rattle.journal_format.specs.Records.{framed, is_closed, records}
use Rattle.journal_format.specs.Spelling.{payload}
use Rattle.journal_format.proofs.RecordLaws.{frame_once}
use Rattle.journal_keeper.specs.Files.{IsForeignFile, IsIdleFile, IsLiveFile, IsVersionFile}
use Rattle.journal_keeper.specs.Kept.{HoldsPayloads, Recovers}
use Rattle.journal_keeper.specs.Records.{BeginsWithRecord, IsPayload}
use Rattle.journal_keeper.proofs.KeptLaws.{live_not_idle}
use Rattle.queue_model.specs.Chain.{◌>>=◌}
use Rattle.queue_model.specs.Replay.{after, replay}
use Rattle.queue_model.specs.World.{World, empty}
use Rattle.queue_model.proofs.Steps.{same_Some, then}
use Rattle.journal_replay.specs.Records.{IsBadAt, RecoversWorld, Spells, StandFor}
use Rattle.journal_replay.proofs.Replayed.{in_turn}
use Rattle.journal_replay.proofs.Spelled.{OneText}

parts : {A : Type 0} (x y : A) (xs ys : List A) → x ∷ xs ≡ y ∷ ys → (x ≡ y) × (xs ≡ ys)
parts x y xs ys e = (cc, cc)

-- ---- one list of records goes on where another one ends

record GoesOn (p q : List (List ℕ)) (y : List ℕ) : Type 0 where
  bytes : List ℕ
  more : List (List ℕ)
  is : p ≡ q ++ bytes ∷ more
  here : BeginsWithRecord bytes y

one_more : (first : List ℕ) (p q : List (List ℕ)) (y : List ℕ) → GoesOn p q y → GoesOn (first ∷ p) (first ∷ q) y
one_more first p q y on = record { bytes = on.bytes; more = on.more; is = ap (λ (l : List (List ℕ)). first ∷ l) on.is; here = on.here }

first_record : (b : List ℕ) (bs : List (List ℕ)) (x y : List ℕ) → IsPayload b → records (b ∷ bs) ++ x ≡ y → GoesOn (b ∷ bs) [] y
first_record b bs x y fits e = record {
  bytes = b;
  more = bs;
  is = refl;
  here = record { fits = fits; rest = records bs ++ x; is = sym e ∙ ap (λ (l : List ℕ). 0x52 ∷ l) (append_assoc (framed b) (records bs) x) };
}

compare : (p q : List (List ℕ)) (x y : List ℕ) → All IsPayload p → All IsPayload q → records p ++ x ≡ records q ++ y → (p ≡ q) ⊎ (GoesOn p q y ⊎ GoesOn q p x)
compare [] [] x y hp hq e = inl refl
compare [] (b ∷ q) x y hp hq e = inr (inr (first_record b q y x (All-head IsPayload b q hq) (sym e)))
compare (a ∷ p) [] x y hp hq e = inr (inl (first_record a p x y (All-head IsPayload a p hp) e))
compare (a ∷ p) (b ∷ q) x y hp hq e =
    let rest : framed a ++ (records p ++ x) ≡ framed b ++ (records q ++ y) = sym (append_assoc (framed a) (records p) x) ∙ (parts 0x52 0x52 _ _ e).1 ∙ append_assoc (framed b) (records q) y in
    let same = frame_once a b (records p ++ x) (records q ++ y) (All-head IsPayload a p hp) (All-head IsPayload b q hq) rest in
    by same.0 (compare p q x y (All-tail IsPayload a p hp) (All-tail IsPayload b q hq) same.1)
  where
    by : a ≡ b → (p ≡ q) ⊎ (GoesOn p q y ⊎ GoesOn q p x) → (a ∷ p ≡ b ∷ q) ⊎ (GoesOn (a ∷ p) (b ∷ q) y ⊎ GoesOn (b ∷ q) (a ∷ p) x)
    by first (inl is) = inl (ap (λ (l : List ℕ). l ∷ p) first ∙ ap (λ (l : List (List ℕ)). b ∷ l) is)
    by first (inr (inl on)) = inr (inl (subst (λ (l : List ℕ). GoesOn (a ∷ p) (l ∷ q) y) first (one_more a p q y on)))
    by first (inr (inr on)) = inr (inr (subst (λ (l : List ℕ). GoesOn (l ∷ q) (a ∷ p) x) first (one_more a q p x on)))

-- ---- what the records spell

module _ (one : OneText) where
  abbrev flat : List (List Transaction) → List Transaction
  flat spelled = flat_map (λ t. t) spelled

  same_text : (a b : List Transaction) → HasText a → HasText b → payload a ≡ payload b → a ≡ b
  same_text a b ha hb e = (one a b [] [] ha hb (ap (λ l. l ++ []) e)).0

  same_lists : (s t : List (List Transaction)) → All HasText s → All HasText t → map payload s ≡ map payload t → s ≡ t
  same_lists [] [] hs ht e = refl
  same_lists [] (b ∷ t) hs ht e = cc
  same_lists (a ∷ s) [] hs ht e = cc
  same_lists (a ∷ s) (b ∷ t) hs ht e =
      let two = parts (payload a) (payload b) (map payload s) (map payload t) e in
      let first = same_text a b (All-head HasText a s hs) (All-head HasText b t ht) two.0 in
      let rest = same_lists s t (All-tail HasText a s hs) (All-tail HasText b t ht) two.1 in
      ap (λ (l : List Transaction). l ∷ s) first ∙ ap (λ (l : List (List Transaction)). b ∷ l) rest

  one_world : (p : List (List ℕ)) (w v : World) → StandFor p w → StandFor p v → w ≡ v
  one_world p w v this that =
      let same = same_lists this.spelled that.spelled this.have_texts that.have_texts (sym this.are ∙ that.are) in
      same_Some w v (sym this.world ∙ ap (λ s. replay empty (flat s)) same ∙ that.world)

  -- the transactions of one record more
  record Next (s t : List (List Transaction)) (bytes : List ℕ) : Type 0 where
    txs : List Transaction
    more : List (List Transaction)
    is : s ≡ t ++ txs ∷ more
    spells : Spells bytes txs

  next_of : (s t : List (List Transaction)) (bytes : List ℕ) (more : List (List ℕ)) → All HasText s → All HasText t → map payload s ≡ map payload t ++ bytes ∷ more → Next s t bytes
  next_of [] [] bytes more hs ht e = cc
  next_of [] (b ∷ t) bytes more hs ht e = cc
  next_of (a ∷ s) [] bytes more hs ht e = record { txs = a; more = s; is = refl; spells = record { has_text = All-head HasText a s hs; is = sym (parts (payload a) bytes (map payload s) more e).0 } }
  next_of (a ∷ s) (b ∷ t) bytes more hs ht e =
      let two = parts (payload a) (payload b) (map payload s) (map payload t ++ bytes ∷ more) e in
      let first = same_text a b (All-head HasText a s hs) (All-head HasText b t ht) two.0 in
      let next = next_of s t bytes more (All-tail HasText a s hs) (All-tail HasText b t ht) two.1 in
      record { txs = next.txs; more = next.more; is = ap (λ (l : List Transaction). l ∷ s) first ∙ ap (λ (l : List (List Transaction)). b ∷ l) next.is; spells = next.spells }

  begins_legal : (v w : World) (xs ys : List Transaction) → replay v (xs ++ ys) ≡ Some w → is_some (replay v xs) ≡ true
  begins_legal v w [] ys e = refl
  begins_legal v w (tx ∷ xs) ys e =
      let first = then (after v tx) (λ u. replay u (xs ++ ys)) w e in
      ap (λ (o : Option World). is_some (o >>= (λ u. replay u xs))) first.1 ∙ begins_legal first.0 w xs ys first.2

  -- records that stand for a world go on with no bad one
  not_bad : (p q : List (List ℕ)) (w v : World) (y : List ℕ) → StandFor p w → StandFor q v → GoesOn p q y
      → ((bytes : List ℕ) (txs : List Transaction) → BeginsWithRecord bytes y → Spells bytes txs → replay v txs ≡ None) → ⊥
  not_bad p q w v y this that on bad =
      let next = next_of this.spelled that.spelled on.bytes on.more this.have_texts that.have_texts (sym this.are ∙ on.is ∙ ap (λ (l : List (List ℕ)). l ++ on.bytes ∷ on.more) that.are) in
      let turns = ap flat next.is ∙ flat_map-append (λ t. t) that.spelled (next.txs ∷ next.more) in
      let legal = begins_legal v w next.txs (flat next.more) (sym (in_turn empty v (flat that.spelled) (next.txs ++ flat next.more) that.world) ∙ ap (replay empty) (sym turns) ∙ this.world) in
      true≢false (sym legal ∙ ap is_some (bad on.bytes next.txs on.here next.spells))

  -- ---- the verdict

  module _ (recovery : (a b : List (List ℕ)) (file : List ℕ) → Recovers a file → Recovers b file → a ≡ b) (file : List ℕ) where
    pub same_world : (w v : World) → RecoversWorld file w → RecoversWorld file v → w ≡ v
    same_world w v this that = one_world that.payloads w v (subst (λ (p : List (List ℕ)). StandFor p w) (recovery this.payloads that.payloads file this.recovers that.recovers) this.stand_for) that.stand_for

    open_at_end : (p : List (List ℕ)) (x y : List ℕ) → is_closed x ≡ true → is_closed y ≡ false → records p ++ x ≡ records p ++ y → ⊥
    open_at_end p x y closed is_open e = true≢false (sym closed ∙ ap is_closed (append_cancel_left (records p) x y e) ∙ is_open)

    not_closed : (bytes x : List ℕ) → BeginsWithRecord bytes x → is_closed x ≡ true → ⊥
    not_closed bytes x here closed = true≢false (sym closed ∙ ap is_closed here.is)

    pub not_refused : (w : World) (at : ℕ) → RecoversWorld file w → IsBadAt file at → ⊥
    not_refused w at found bad = by found.recovers
      where
        by_order : (holds : HoldsPayloads found.payloads file) → (found.payloads ≡ bad.payloads) ⊎ (GoesOn found.payloads bad.payloads bad.rest ⊎ GoesOn bad.payloads found.payloads holds.records.rest) → ⊥
        by_order holds (inl same) = open_at_end bad.payloads holds.records.rest bad.rest holds.records.closed bad.is_open (ap (λ (p : List (List ℕ)). records p ++ holds.records.rest) (sym same) ∙ sym holds.records.text_is ∙ bad.text)
        by_order holds (inr (inl on)) = not_bad found.payloads bad.payloads w bad.world bad.rest found.stand_for bad.stand_for on bad.bad
        by_order holds (inr (inr on)) = not_closed on.bytes holds.records.rest on.here holds.records.closed

        by : Recovers found.payloads file → ⊥
        by (inl holds) = by_order holds (compare found.payloads bad.payloads holds.records.rest bad.rest holds.records.lengths bad.lengths (sym holds.records.text_is ∙ bad.text))
        by (inr idle) = live_not_idle bad.turn file bad.live idle.0

    pub one_place : (at to : ℕ) → IsBadAt file at → IsBadAt file to → at ≡ to
    one_place at to this that = by (compare this.payloads that.payloads this.rest that.rest this.lengths that.lengths (sym this.text ∙ that.text))
      where
        by : (this.payloads ≡ that.payloads) ⊎ (GoesOn this.payloads that.payloads that.rest ⊎ GoesOn that.payloads this.payloads this.rest) → at ≡ to
        by (inl same) = this.here ∙ ap (λ (p : List (List ℕ)). 16 + length (records p)) same ∙ sym that.here
        by (inr (inl on)) = absurd (not_bad this.payloads that.payloads this.world that.world that.rest this.stand_for that.stand_for on that.bad)
        by (inr (inr on)) = absurd (not_bad that.payloads this.payloads that.world this.world this.rest that.stand_for this.stand_for on this.bad)

-- ---- what recovers is a journal of this version

pub not_foreign : (file : List ℕ) (w : World) → RecoversWorld file w → IsForeignFile file → ⊥
not_foreign file w found foreign = by found.recovers
  where
    by : Recovers found.payloads file → ⊥
    by (inl holds) = foreign.0 holds.turn holds.live
    by (inr idle) = foreign.1 idle.0

version_bytes : (n : ℕ) → n < 2 ^ 32 → n ≡ n / 16777216 % 256 * 16777216 + n / 65536 % 256 * 65536 + n / 256 % 256 * 256 + n % 256
version_bytes n small = omega arith

version_not_live : (file : List ℕ) (n turn : ℕ) → IsVersionFile n file → IsLiveFile turn file → ⊥
version_not_live file n turn version live =
    let is = sym version.2.1 ∙ live.1 in
    let a = ap (λ (l : List ℕ). get_or l 8 0) is in
    let b = ap (λ (l : List ℕ). get_or l 9 0) is in
    let c = ap (λ (l : List ℕ). get_or l 10 0) is in
    let d = ap (λ (l : List ℕ). get_or l 11 0) is in
    version.1 (version_bytes n version.0 ∙ omega (arith, a, b, c, d))

version_not_idle : (file : List ℕ) (n : ℕ) → IsVersionFile n file → IsIdleFile file → ⊥
version_not_idle file n version (inl short) = let t = ap length version.2.1 in let k = length-take 16 file in omega (arith, t, k, short)
version_not_idle file n version (inr (inl zeroed)) = let t = sym (ap (λ (l : List ℕ). get_or l 0 0) version.2.1) ∙ zeroed in omega (arith, t)
version_not_idle file n version (inr (inr other)) = other.0 (ap (λ (l : List ℕ). get_or l 0 0) version.2.1)

pub not_version : (file : List ℕ) (n : ℕ) (w : World) → RecoversWorld file w → IsVersionFile n file → ⊥
not_version file n w found version = by found.recovers
  where
    by : Recovers found.payloads file → ⊥
    by (inl holds) = version_not_live file n holds.turn version holds.live
    by (inr idle) = version_not_idle file n version idle.0
