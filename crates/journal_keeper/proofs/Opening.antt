-- What an opening keeps, call after call.
use Rattle.std.proofs.Common.{◌≡◌, ◌≢◌, inl, inr, ⊎_elim, ℕ, List, [], ◌∷◌, ◌++◌, length, drop, Option, None, Some, IfSome, refl, sym, ◌∙◌, ap, subst, arith}
use Rattle.std.proofs.lemmas.List.{append-nil, get_or-take}
use Rattle.std.proofs.lemmas.List.Elements.{All-nil}
use Rattle.std.proofs.lemmas.Bool.{cases_eq}
use Rattle.journal_format.specs.Header.{header}
use Rattle.journal_format.specs.Records.{HoldsRecords}
use Rattle.sq_outside.specs.File.{Syncs, HalfSyncs, overwritten}
use Rattle.sq_outside.specs.Disk.{Two, AreSound, History, GoesOn, MayGoOn, Leaves, LeavesOnly}
use Rattle.sq_outside.proofs.Histories.{read_has}
use Rattle.sq_outside.proofs.Rising.{rising_here, rising_last, through, only_weaker, on_sync, on_failed_sync}
use Rattle.journal_keeper.specs.Answers.{KeepsAll}
use Rattle.journal_keeper.specs.Files.{IsIdleFile}
use Rattle.journal_keeper.specs.Kept.{RecoversWith, Loosens, IsKept}
use Rattle.journal_keeper.specs.Making.{new_journal, IsUnmade, IsMaking}
use Rattle.journal_keeper.specs.Records.{IsPayload}
use Rattle.journal_keeper.specs.Texts.{IsText, IsClosed, IsSettled}
use Rattle.journal_keeper.specs.Writes.{IsReplaced}
use Rattle.journal_keeper.proofs.KeptLaws.{by_shape, one_list, with_doubt, live_not_idle, closed_stays, held}

module _ (payloads : List (List ℕ)) (doubt : Option (List ℕ)) where
  abbrev K : Two (List ℕ) → Type 0
  K image = IsKept payloads doubt image.0

  unsynced_keeps : (before after : Option History) → MayGoOn 0 HalfSyncs before after → IfSome before (λ old. Leaves K old.now → LeavesOnly K before after)
  unsynced_keeps None after call = tt
  unsynced_keeps (Some old) after call = λ leaves. on_failed_sync (λ _. K) 0 0 0 (Some old) (Some old) after (omega arith) (rising_here (λ _. K) 0 old leaves) call

  sync_keeps : (before after : Option History) → IfSome before (λ old. AreSound old.now) → GoesOn 0 Syncs before after → IfSome before (λ old. Leaves K old.now → LeavesOnly K before after)
  sync_keeps None after sound call = tt
  sync_keeps (Some old) after sound call = λ leaves.
      on_sync (λ _ file. IsKept payloads doubt file) 0 0 0 0 (Some old) (Some old) after (omega arith) (rising_here (λ _. K) 0 old leaves) call (read_has 0 (IsKept payloads doubt) old.now sound leaves)

  same_keeps : (before after : Option History) → after ≡ before → IfSome before (λ old. Leaves K old.now → LeavesOnly K before after)
  same_keeps None after same = tt
  same_keeps (Some old) after same = λ leaves. subst (LeavesOnly K (Some old)) (sym same) (rising_here (λ _. K) 0 old leaves)

  then_keeps : (before mid after : Option History) → IfSome before (λ old. Leaves K old.now → LeavesOnly K before mid) → IfSome mid (λ then. Leaves K then.now → LeavesOnly K mid after)
      → IfSome before (λ old. Leaves K old.now → LeavesOnly K before after)
  then_keeps None mid after first second = tt
  then_keeps (Some old) None after first second = λ leaves. absurd (first leaves)
  then_keeps (Some old) (Some then) after first second = λ leaves.
      let run = first leaves in
      through (λ _. K) 0 0 0 (Some old) (Some then) after run (second (rising_last (λ _. K) 0 0 old then run).leaves)

pub keeps_unsynced : (before after : Option History) → MayGoOn 0 HalfSyncs before after → KeepsAll before after
keeps_unsynced before after call = λ payloads doubt. unsynced_keeps payloads doubt before after call

pub keeps_synced : (before after : Option History) → IfSome before (λ old. AreSound old.now) → GoesOn 0 Syncs before after → KeepsAll before after
keeps_synced before after sound call = λ payloads doubt. sync_keeps payloads doubt before after sound call

pub keeps_same : (before after : Option History) → after ≡ before → KeepsAll before after
keeps_same before after same = λ payloads doubt. same_keeps payloads doubt before after same

pub keeps_then : (before mid after : Option History) → KeepsAll before mid → KeepsAll mid after → KeepsAll before after
keeps_then before mid after first second = λ payloads doubt. then_keeps payloads doubt before mid after (first payloads doubt) (second payloads doubt)

idle_zero : (file : List ℕ) → IsUnmade file → IsIdleFile file
idle_zero file zeroed = inr (inl (get_or-take 16 file 0 0 (omega arith) ∙ zeroed))

-- with no payloads
no_payloads : (doubt : Option (List ℕ)) (file : List ℕ) → IsIdleFile file → RecoversWith [] doubt file
no_payloads doubt file idle = with_doubt [] doubt file (inr (idle, refl))

pub zero_kept : (doubt : Option (List ℕ)) (file : List ℕ) → IsUnmade file → IsKept [] doubt file
zero_kept doubt file zeroed = by_shape [] doubt IsUnmade (λ f z. no_payloads doubt f (idle_zero f z)) stays file zeroed
  where
    stays : (f g : List ℕ) → IsUnmade f → Loosens f g → IsUnmade g
    stays f g z loosens = ⊎_elim (λ gate. absurd (live_not_idle gate.holds.turn f gate.holds.live (idle_zero f z))) (λ start. absurd (start.loose z)) loosens.loose

abbrev IsSingle : List ℕ → Type 0
IsSingle file = length file ≡ 1

single_kept : (doubt : Option (List ℕ)) (file : List ℕ) → IsSingle file → IsKept [] doubt file
single_kept doubt file single = by_shape [] doubt IsSingle (λ f one. no_payloads doubt f (inl (omega (arith, one)))) stays file single
  where
    one_more : (f : List ℕ) (place byte : ℕ) → IsSingle f → place ≡ 0 → IsSingle (overwritten f place (byte ∷ []))
    one_more [] place byte one at = absurd (omega (arith, one))
    one_more (x ∷ []) place byte one at = ap (λ (k : ℕ). length (overwritten (x ∷ []) k (byte ∷ []))) at
    one_more (x ∷ y ∷ f) place byte one at = absurd (omega (arith, one))

    stays : (f g : List ℕ) → IsSingle f → Loosens f g → IsSingle g
    stays f g one loosens = ⊎_elim (λ gate. absurd (live_not_idle gate.holds.turn f gate.holds.live (inl (omega (arith, one)))))
        (λ start. ap length loosens.becomes ∙ one_more f loosens.place loosens.byte one start.here) loosens.loose

module _ (unique : (text : List ℕ) (a b : List (List ℕ)) → HoldsRecords text a → HoldsRecords text b → a ≡ b) where
  abbrev IsBegun : List ℕ → Type 0
  IsBegun file = (byte : ℕ) × (file ≡ byte ∷ drop 1 new_journal)

  no_text : IsText [] (header 0)
  no_text = record { turn = 0; small = omega arith; lengths = All-nil IsPayload; is = sym (append-nil (header 0)) }

  begun_idle : (file : List ℕ) → (begun : IsBegun file) → begun.0 ≢ 0x53 → IsIdleFile file
  begun_idle file begun other = subst IsIdleFile (sym begun.1) (inr (inr (other, (0, (omega arith, refl)))))

  begun_is : (file : List ℕ) → (begun : IsBegun file) → begun.0 ≡ 0x53 → file ≡ header 0 ++ (0 ∷ [])
  begun_is file begun live = begun.1 ∙ ap (λ (b : ℕ). b ∷ drop 1 new_journal) live

  begun_closed : (file : List ℕ) → (begun : IsBegun file) → begun.0 ≡ 0x53 → IsClosed (header 0) file
  begun_closed file begun live = record { rest = []; is = begun_is file begun live }

  begun_kept : (doubt : Option (List ℕ)) (file : List ℕ) → IsBegun file → IsKept [] doubt file
  begun_kept doubt file begun = by_shape [] doubt IsBegun recovers stays file begun
    where
      recovers : (f : List ℕ) → IsBegun f → RecoversWith [] doubt f
      recovers f b = elim (cases_eq b.0 0x53) [
        | inl live ↦ with_doubt [] doubt f (inl (held [] (header 0) (0 ∷ []) f no_text refl (begun_is f b live)))
        | inr other ↦ no_payloads doubt f (begun_idle f b other)
      ]

      first_byte : (f : List ℕ) (place byte : ℕ) → IsBegun f → place ≡ 0 → IsBegun (overwritten f place (byte ∷ []))
      first_byte f place byte b at = (byte, ap (λ (k : ℕ). overwritten f k (byte ∷ [])) at ∙ ap (λ (l : List ℕ). overwritten l 0 (byte ∷ [])) b.1)

      stays : (f g : List ℕ) → IsBegun f → Loosens f g → IsBegun g
      stays f g b loosens = elim loosens.loose [
        | inl gate ↦ elim (cases_eq b.0 0x53) [
          | inl live ↦ absurd (closed_stays unique [] (header 0) f g no_text (begun_closed f b live) loosens)
          | inr other ↦ absurd (live_not_idle gate.holds.turn f gate.holds.live (begun_idle f b other))
        ]
        | inr start ↦ subst IsBegun (sym loosens.becomes) (first_byte f loosens.place loosens.byte b start.here)
      ]

  -- an idle file recovers no payloads
  idle_none : (payloads : List (List ℕ)) (doubt : Option (List ℕ)) (file : List ℕ) → IsIdleFile file → IsKept payloads doubt file → payloads ≡ []
  idle_none payloads None file idle kept = one_list unique payloads [] file (kept [] file refl) (inr (idle, refl))
  idle_none payloads (Some doubt) file idle kept = ⊎_elim (λ without. one_list unique payloads [] file without (inr (idle, refl)))
      (λ with_it. absurd (not_nil payloads (one_list unique (payloads ++ doubt ∷ []) [] file with_it (inr (idle, refl))))) (kept [] file refl)
    where
      not_nil : (ps : List (List ℕ)) → ps ++ doubt ∷ [] ≡ [] → ⊥
      not_nil [] e = let t = ap length e in omega (arith, t)
      not_nil (p ∷ ps) e = let t = ap length e in omega (arith, t)

  replaced_kept : (payloads : List (List ℕ)) (doubt : Option (List ℕ)) (file image : List ℕ) → IsIdleFile file → IsKept payloads doubt file → IsReplaced 0 file image → IsKept payloads doubt image
  replaced_kept payloads doubt file image idle kept (inl same) = subst (IsKept payloads doubt) (sym same) kept
  replaced_kept payloads doubt file image idle kept (inr other) = elim other.0 [
    | inl empty ↦ subst (λ (ps : List (List ℕ)). IsKept ps doubt image) (sym (idle_none payloads doubt file idle kept)) (single_kept doubt image (ap length other.1.2 ∙ lone file other.1.0 empty))
    | inr loose ↦ λ steps last from. kept (image ∷ steps) last (record { place = 0; loose = inr (record { idle = idle; here = refl; loose = loose }); byte = other.1.0; small = other.1.1; becomes = other.1.2 }, from)
  ]
    where
      lone : (f : List ℕ) (byte : ℕ) → 0 ≡ length f → length (overwritten f 0 (byte ∷ [])) ≡ 1
      lone [] byte e = refl
      lone (x ∷ f) byte e = absurd (omega (arith, e))

  making_kept : (payloads : List (List ℕ)) (doubt : Option (List ℕ)) (file image : List ℕ) → IsIdleFile file → IsKept payloads doubt file → IsMaking file image → IsKept payloads doubt image
  making_kept payloads doubt file image idle kept (inl replaced) = replaced_kept payloads doubt file image idle kept replaced
  making_kept payloads doubt file image idle kept (inr (inl zeroed)) = subst (λ (ps : List (List ℕ)). IsKept ps doubt image) (sym (idle_none payloads doubt file idle kept)) (zero_kept doubt image zeroed)
  making_kept payloads doubt file image idle kept (inr (inr begun)) = subst (λ (ps : List (List ℕ)). IsKept ps doubt image) (sym (idle_none payloads doubt file idle kept)) (begun_kept doubt image begun)

  pub keeps_making : (before after : Option History) → IfSome before (λ old. AreSound old.now) → IfSome before (λ old. IsSettled old.now.0 × IsIdleFile old.now.0.reads)
      → IfSome before (λ old. LeavesOnly (λ image. IsMaking old.now.0.reads image.0) before after) → KeepsAll before after
  keeps_making None after sound idle run = λ payloads doubt. tt
  keeps_making (Some old) after sound idle run = λ payloads doubt leaves. only_weaker (λ image. IsMaking old.now.0.reads image.0) (λ image. IsKept payloads doubt image.0) (Some old) after (λ image is.
      making_kept payloads doubt old.now.0.reads image.0 idle.1 (read_has 0 (IsKept payloads doubt) old.now sound leaves) is) run
