-- What a crash leaves at the moments of a run, call after call.
use Rattle.std.proofs.Common.{◌≡◌, inl, inr, ℕ, ◌≤◌, List, [], ◌∷◌, ◌++◌, length, Option, None, Some, IfSome, sym, ◌∙◌, ap, subst, arith, append_assoc}
use Rattle.std.proofs.lemmas.List.{append-nil, same_from_push}
use Rattle.sq_outside.specs.File.{File, Unsynced, IsImage, Writes, HalfWrites, Cuts, HalfCuts, Syncs, HalfSyncs, in_doubt, shortened}
use Rattle.sq_outside.specs.Disk.{Two, nth, Leaves, History, Changes, GoesOn, MayGoOn, Rises, moments_of, LeavesRising, LeavesOnly}
use Rattle.sq_outside.proofs.Histories.{leaves_nth, synced_has, half_synced_leaves}

module _ (P : ℕ → Two (List ℕ) → Type 0) where
  rises_up : (from n to : ℕ) (states : List (Two File)) → n ≤ to → Rises P from states n → Rises P from states to
  rises_up from n to [] up rises = omega (arith, rises, up)
  rises_up from n to (files ∷ more) up rises = (rises.0, rises.1, rises.2, rises_up rises.0 n to more up rises.3)

  rises_down : (from n to : ℕ) (states : List (Two File)) → from ≤ n → Rises P n states to → Rises P from states to
  rises_down from n to [] up rises = omega (arith, rises, up)
  rises_down from n to (files ∷ more) up rises = (rises.0, omega (arith, up, rises.1), rises.2, rises.3)

  rises_append : (from mid to : ℕ) (states others : List (Two File)) → Rises P from states mid → Rises P mid others to → Rises P from (states ++ others) to
  rises_append from mid to [] others first second = rises_down from mid to others first second
  rises_append from mid to (files ∷ more) others first second = (first.0, first.1, first.2, rises_append first.0 mid to more others first.3 second)

  -- the last of the moments, with the number that it has
  pub record Last (from to : ℕ) (states : List (Two File)) (now : Two File) : Type 0 where
    pub number : ℕ
    pub from_on : from ≤ number
    pub up_to : number ≤ to
    pub leaves : Leaves (P number) now
    pub rises : Rises P from states number

  last_of : (from to : ℕ) (before : List (Two File)) (files : Two File) (since earlier : List (Two File)) (now : Two File) → earlier ++ now ∷ [] ≡ (before ++ files ∷ []) ++ since → Rises P from (files ∷ since) to
      → Last from to (files ∷ since) now
  last_of from to before files [] earlier now same rises =
      let is = (same_from_push earlier before now files (same ∙ append-nil (before ++ files ∷ []))).1 in
      record { number = rises.0; from_on = rises.1; up_to = rises.3; leaves = subst (Leaves (P rises.0)) (sym is) rises.2; rises = (rises.0, rises.1, rises.2, omega arith) }
  last_of from to before files (next ∷ more) earlier now same rises =
      let found = last_of rises.0 to (before ++ files ∷ []) next more earlier now (same ∙ sym (append_assoc (before ++ files ∷ []) (next ∷ []) more)) rises.3 in
      record { number = found.number; from_on = omega (arith, rises.1, found.from_on); up_to = found.up_to; leaves = found.leaves; rises = (rises.0, rises.1, rises.2, found.rises) }

  -- no call yet
  pub rising_here : (number : ℕ) (old : History) → Leaves (P number) old.now → LeavesRising P number number (Some old) (Some old)
  rising_here number old here = ([], sym (append-nil (moments_of old)), (number, omega arith, here, omega arith))

  pub begin : (number : ℕ) (before : Option History) → IfSome before (λ old. Leaves (P number) old.now) → LeavesRising P number number before before
  begin number None here = tt
  begin number (Some old) here = rising_here number old here

  -- one moment more
  pub rising_on : (from n to : ℕ) (old mid new : History) → n ≤ to → LeavesRising P from n (Some old) (Some mid) → new.earlier ≡ moments_of mid → Leaves (P to) new.now → LeavesRising P from to (Some old) (Some new)
  rising_on from n to old mid new up so_far earlier here = (
    so_far.0 ++ new.now ∷ [],
    ap (λ (states : List (Two File)). states ++ new.now ∷ []) (earlier ∙ so_far.1) ∙ append_assoc (moments_of old) so_far.0 (new.now ∷ []),
    rises_append from to to (old.now ∷ so_far.0) (new.now ∷ []) (rises_up from n to (old.now ∷ so_far.0) up so_far.2) (to, omega arith, here, omega arith),
  )

  -- a higher number may be the last one
  pub rising_up : (from n to : ℕ) (before new : Option History) → n ≤ to → LeavesRising P from n before new → LeavesRising P from to before new
  rising_up from n to None new up run = tt
  rising_up from n to (Some old) None up run = absurd run
  rising_up from n to (Some old) (Some new) up run = (run.0, run.1, rises_up from n to (old.now ∷ run.0) up run.2)

  -- one run after the other
  pub through : (from mid to : ℕ) (before between new : Option History) → LeavesRising P from mid before between → LeavesRising P mid to between new → LeavesRising P from to before new
  through from mid to None between new first second = tt
  through from mid to (Some old) None new first second = absurd first
  through from mid to (Some old) (Some then) None first second = absurd second
  through from mid to (Some old) (Some then) (Some new) first second =
      let more = second.2 in (
        first.0 ++ second.0,
        second.1 ∙ ap (λ (states : List (Two File)). states ++ second.0) first.1 ∙ append_assoc (moments_of old) first.0 second.0,
        rises_append from mid to (old.now ∷ first.0) second.0 first.2 (rises_down mid more.0 to second.0 more.1 more.3),
      )

  -- what a crash leaves at last
  pub rising_last : (from to : ℕ) (old new : History) → (run : LeavesRising P from to (Some old) (Some new)) → Last from to (old.now ∷ run.0) new.now
  rising_last from to old new run = last_of from to old.earlier old.now run.0 new.earlier new.now run.1 run.2

  -- a call, made or failed
  pub on_step : (file : ℕ) (step : File → File → Type 0) (from n to : ℕ) (before mid new : Option History) → n ≤ to → LeavesRising P from n before mid → MayGoOn file step mid new
      → IfSome mid (λ then. (files : Two File) → Changes file step then.now files → Leaves (P to) files) → LeavesRising P from to before new
  on_step file step from n to None mid new up so_far call leaves = tt
  on_step file step from n to (Some old) None new up so_far call leaves = absurd so_far
  on_step file step from n to (Some old) (Some then) new up so_far (inl same) leaves = subst (LeavesRising P from to (Some old)) (sym same) (rising_up from n to (Some old) (Some then) up so_far)
  on_step file step from n to (Some old) (Some then) None up so_far (inr goes) leaves = absurd goes
  on_step file step from n to (Some old) (Some then) (Some new) up so_far (inr goes) leaves = rising_on from n to old then new up so_far goes.0 (leaves new.now goes.1)

  -- a failed sync: at the last number that was reached
  pub on_failed_sync : (file from n : ℕ) (before mid new : Option History) → file ≤ 1 → LeavesRising P from n before mid → MayGoOn file HalfSyncs mid new → LeavesRising P from n before new
  on_failed_sync file from n None mid new small so_far call = tt
  on_failed_sync file from n (Some old) None new small so_far call = absurd so_far
  on_failed_sync file from n (Some old) (Some then) new small so_far (inl same) = subst (LeavesRising P from n (Some old)) (sym same) so_far
  on_failed_sync file from n (Some old) (Some then) None small so_far (inr goes) = absurd goes
  on_failed_sync file from n (Some old) (Some then) (Some new) small so_far (inr goes) =
      let last = rising_last from n old then so_far in
      rising_up from last.number n (Some old) (Some new) last.up_to (rising_on from last.number last.number old then new (omega arith) (so_far.0, so_far.1, last.rises) goes.0
      (half_synced_leaves file (P last.number) then.now new.now small goes.1 last.leaves))

-- what has P has Q
pub rising_weaker : (P Q : ℕ → Two (List ℕ) → Type 0) (from to : ℕ) (before new : Option History) → ((number : ℕ) (image : Two (List ℕ)) → P number image → Q number image)
    → LeavesRising P from to before new → LeavesRising Q from to before new
rising_weaker P Q from to None new weaker run = tt
rising_weaker P Q from to (Some old) None weaker run = absurd run
rising_weaker P Q from to (Some old) (Some new) weaker run = (run.0, run.1, each from (old.now ∷ run.0) run.2)
  where
    each : (n : ℕ) (states : List (Two File)) → Rises P n states to → Rises Q n states to
    each n [] rises = rises
    each n (files ∷ more) rises = (rises.0, rises.1, (λ image are. weaker rises.0 image (rises.2 image are)), each rises.0 more rises.3)

pub only_weaker : (P Q : Two (List ℕ) → Type 0) (before new : Option History) → ((image : Two (List ℕ)) → P image → Q image) → LeavesOnly P before new → LeavesOnly Q before new
only_weaker P Q before new weaker run = rising_weaker (λ _. P) (λ _. Q) 0 0 before new (λ _. weaker) run

-- a run that keeps to one number
pub only_rises : (P : ℕ → Two (List ℕ) → Type 0) (number : ℕ) (before new : Option History) → LeavesOnly (P number) before new → LeavesRising P number number before new
only_rises P number None new run = tt
only_rises P number (Some old) None run = absurd run
only_rises P number (Some old) (Some new) run = (run.0, run.1, each 0 (old.now ∷ run.0) run.2)
  where
    each : (n : ℕ) (states : List (Two File)) → Rises (λ _. P number) n states 0 → Rises P number states number
    each n [] rises = omega arith
    each n (files ∷ more) rises = (number, omega arith, rises.2, each rises.0 more rises.3)

some_weaker : {A : Type 0} (o : Option A) (P Q : A → Type 0) → ((x : A) → P x → Q x) → IfSome o P → IfSome o Q
some_weaker None P Q weaker p = tt
some_weaker (Some x) P Q weaker p = weaker x p

-- what holds of the images of one file, call after call
module _ (Q : ℕ → List ℕ → Type 0) (file from n to : ℕ) (before mid new : Option History) (up : n ≤ to) (so_far : LeavesRising (λ number image. Q number (nth file image)) from n before mid) where
  abbrev Leads : Type 0
  Leads = LeavesRising (λ number image. Q number (nth file image)) from to before new

  -- each image that a file with this unsynced part has
  abbrev Has : Unsynced → Type 0
  Has unsynced = (image : List ℕ) → IsImage unsynced image → Q to image

  by_unsynced : (step : File → File → Type 0) (asked : Unsynced → Unsynced) → ((old now : File) → step old now → now.unsynced ≡ asked old.unsynced) → MayGoOn file step mid new
      → IfSome mid (λ then. Has (asked (nth file then.now).unsynced)) → Leads
  by_unsynced step asked is call has = on_step (λ number image. Q number (nth file image)) file step from n to before mid new up so_far call
      (some_weaker mid _ _ (λ then here files change. leaves_nth file (Q to) files (λ image left. here image (subst (λ (u : Unsynced). IsImage u image) (is (nth file then.now) (nth file files) change.this) left))) has)

  pub on_write : (at : ℕ) (piece : List ℕ) → GoesOn file (Writes at piece) mid new → IfSome mid (λ then. Has (in_doubt (record { at = at; count = length piece }) (nth file then.now).unsynced)) → Leads
  on_write at piece call has = by_unsynced (Writes at piece) (in_doubt (record { at = at; count = length piece })) (λ old now writes. writes.unsynced) (inr call) has

  pub on_failed_write : (at count : ℕ) → MayGoOn file (HalfWrites at count) mid new → IfSome mid (λ then. Has (in_doubt (record { at = at; count = count }) (nth file then.now).unsynced)) → Leads
  on_failed_write at count call has = by_unsynced (HalfWrites at count) (in_doubt (record { at = at; count = count })) (λ old now writes. writes.unsynced) call has

  pub on_cut : (len : ℕ) → GoesOn file (Cuts len) mid new → IfSome mid (λ then. Has (shortened len (nth file then.now).unsynced)) → Leads
  on_cut len call has = by_unsynced (Cuts len) (shortened len) (λ old now cuts. cuts.unsynced) (inr call) has

  pub on_failed_cut : (len : ℕ) → MayGoOn file (HalfCuts len) mid new → IfSome mid (λ then. Has (shortened len (nth file then.now).unsynced)) → Leads
  on_failed_cut len call has = by_unsynced (HalfCuts len) (shortened len) (λ old now cuts. cuts.unsynced) call has

  pub on_sync : GoesOn file Syncs mid new → IfSome mid (λ then. Q to (nth file then.now).reads) → Leads
  on_sync call here = on_step (λ number image. Q number (nth file image)) file Syncs from n to before mid new up so_far (inr call)
      (some_weaker mid _ _ (λ then reads files change. leaves_nth file (Q to) files (synced_has (nth file then.now).reads (nth file files) (Q to) change.this reads)) here)
