-- What a crash leaves while items are answered, and how many of them met a fault of the disk.
use Rattle.std.proofs.Common.{◌≡◌, ◌+◌, ◌-◌, ◌^◌, ◌≤◌, inl, inr, ℕ, Bool, true, false, cond, min, List, [], ◌∷◌, ◌++◌, length, length-append, Option, None, Some, IfSome, refl, ap, sym, ◌∙◌, subst, arith}
use Rattle.std.specs.List.{count_by}
use Rattle.std.proofs.lemmas.List.{take-append-le, take_all}
use Rattle.std.proofs.lemmas.List.Sums.{sum_by-append}
use Rattle.sq_outside.specs.Disk.{History, Leaves, LeavesRising, Rises, Two}
use Rattle.sq_outside.specs.Fault.{Rose}
use Rattle.sq_outside.specs.File.{File}
use Rattle.sq_outside.proofs.Rising.{begin, rising_up, rising_weaker, through}
use Rattle.job_states.specs.declared.transition.Transaction.{Transaction}
use Rattle.journal_replay.specs.Kept.{AreKeptFor, IsKeptFor}
use Rattle.queue_config.specs.declared.config.Config.{Config}
use Rattle.queue_engine.specs.Calls.{Writes, doubt_at}
use Rattle.queue_engine.specs.Running.{Running}
use Rattle.queue_http.specs.Service.{Service}
use Rattle.queue_http.specs.Steps.{MayTakeSteps}
use Rattle.queue_model.specs.Chain.{◌>>=◌}
use Rattle.queue_model.specs.Replay.{after, replay}
use Rattle.queue_model.specs.World.{World}
use Rattle.queue_model.proofs.Steps.{same_Some, then}
use Rattle.situation_model.specs.Situations.{Doubt, Situation}
use Rattle.situation_model.specs.Steps.{Step, accepted, after_steps}
use Rattle.queue_cli.specs.Answering.{CountsFaults, Exchange, IsKeptAfter, LeavesPrefixes, is_disk_fault}
use Rattle.queue_cli.specs.Protocol.{Protocol}

-- ---- runs of moments

-- a run whose moments have one number, whatever numbers they had
at_number : (P Q : ℕ → Two (List ℕ) → Type 0) (number from to : ℕ) (before new : Option History) → ((n : ℕ) (image : Two (List ℕ)) → Q n image → P number image)
    → LeavesRising Q from to before new → LeavesRising P number number before new
at_number P Q number from to None new weaker run = tt
at_number P Q number from to (Some old) None weaker run = absurd run
at_number P Q number from to (Some old) (Some new) weaker run = (run.0, run.1, each from (old.now ∷ run.0) run.2)
  where
    each : (n : ℕ) (states : List (Two File)) → Rises Q n states to → Rises P number states number
    each n [] rises = omega arith
    each n (files ∷ more) rises = (number, omega arith, (λ image are. weaker rises.0 image (rises.2 image are)), each rises.0 more rises.3)

-- one list of transactions, and then another one
in_turn : (w v : World) (first more : List Transaction) → replay w first ≡ Some v → replay w (first ++ more) ≡ replay v more
in_turn w v [] more e = ap (λ u. replay u more) (same_Some w v e)
in_turn w v (tx ∷ first) more e =
    let next = then (after w tx) (λ u. replay u first) v e in
    ap (λ o. o >>= (λ u. replay u (first ++ more))) next.1 ∙ in_turn next.0 v first more next.2

-- ---- what was accepted so far

-- the file is kept after so many of them, and there are so many
abbrev IsKeptWithin : World → List Transaction → ℕ → Two (List ℕ) → Type 0
IsKeptWithin w txs n image = (n ≤ length txs) × IsKeptAfter w txs n image.0

pub record Leaving (old new : Service) : Type 0 where
  pub accepted : List Transaction
  pub replayed : replay old.running.situation.book.world accepted ≡ Some new.running.situation.book.world
  pub moments : LeavesRising (IsKeptWithin old.running.situation.book.world accepted) 0 (length accepted) old.disk.history new.disk.history

kept_first : (w : World) (doubt : Doubt) (history : Option History) → IfSome history (λ h. AreKeptFor w doubt h.now) → IfSome history (λ h. Leaves (IsKeptWithin w [] 0) h.now)
kept_first w doubt None are = tt
kept_first w doubt (Some h) are = λ image left. (
  omega arith,
  record {
    world = w;
    replayed = refl;
    doubt = doubt;
    kept = record { payloads = are.payloads; stand_for = are.stand_for; follows = are.follows; kept = are.kept image left };
  },
)

-- nothing yet, on a disk that is kept
pub at_first : (s : Service) → IfSome s.disk.history (λ h. AreKeptFor s.running.situation.book.world s.running.situation.doubt h.now) → Leaving s s
at_first s kept =
    let w = s.running.situation.book.world in
    record {
      accepted = [];
      replayed = refl;
      moments = begin (IsKeptWithin w []) 0 s.disk.history (kept_first w s.running.situation.doubt s.disk.history kept);
    }

kept_after_all : (w v : World) (txs : List Transaction) (doubt : Doubt) (image : Two (List ℕ)) → replay w txs ≡ Some v → IsKeptFor v doubt image.0 → IsKeptWithin w txs (length txs) image
kept_after_all w v txs doubt image replayed kept = (
  omega arith,
  record { world = v; replayed = ap (replay w) (take_all (length txs) txs (omega arith)) ∙ replayed; doubt = doubt; kept = kept },
)

kept_with_more : (w : World) (txs more : List Transaction) (n : ℕ) (image : Two (List ℕ)) → IsKeptWithin w txs n image → IsKeptWithin w (txs ++ more) n image
kept_with_more w txs more n image within =
    let short = within.0 in
    let after = within.1 in (
      omega (arith, short, length-append txs more),
      record { world = after.world; replayed = ap (replay w) (take-append-le n txs more short) ∙ after.replayed; doubt = after.doubt; kept = after.kept },
    )

-- Meanwhile the disk is kept for the world before; then more transactions are accepted.
leaves_more : (old mid new : Service) (tx : Transaction) (more : List Transaction) → Leaving old mid → replay mid.running.situation.book.world more ≡ Some new.running.situation.book.world
    → Writes mid.running tx mid.disk.history new.disk.history → Leaving old new
leaves_more old mid new tx more so_far replayed writes =
    let w = old.running.situation.book.world in
    let v = mid.running.situation.book.world in
    let doubt = mid.running.situation.doubt in
    let txs = so_far.accepted in
    let n = length txs in
    let P : ℕ → Two (List ℕ) → Type 0 = IsKeptWithin w txs in
    let Q : ℕ → Two (List ℕ) → Type 0 = λ n image. IsKeptFor v (doubt_at doubt tx n) image.0 in
    let R : ℕ → Two (List ℕ) → Type 0 = IsKeptWithin w (txs ++ more) in
    let meanwhile = at_number P Q n 0 1 mid.disk.history new.disk.history (λ k image kept. kept_after_all w v txs (doubt_at doubt tx k) image so_far.replayed kept) writes.moments in
    let whole = through P 0 n n old.disk.history mid.disk.history new.disk.history so_far.moments meanwhile in
    record {
      accepted = txs ++ more;
      replayed = in_turn w v txs more so_far.replayed ∙ replayed;
      moments = rising_up R 0 n (length (txs ++ more)) old.disk.history new.disk.history (omega (arith, length-append txs more))
          (rising_weaker P R 0 n old.disk.history new.disk.history (kept_with_more w txs more) whole);
    }

-- the world and the disk stay the same
pub leaves_world : (old mid new : Service) → Leaving old mid → new.running.situation.book.world ≡ mid.running.situation.book.world → new.disk ≡ mid.disk → Leaving old new
leaves_world old mid new so_far world disk = record {
  accepted = so_far.accepted;
  replayed = so_far.replayed ∙ ap (λ (w : World). Some w) (sym world);
  moments = subst (λ d. LeavesRising (IsKeptWithin old.running.situation.book.world so_far.accepted) 0 (length so_far.accepted) old.disk.history d.history) (sym disk) so_far.moments;
}

-- nothing changes
pub leaves_same : (old mid new : Service) → Leaving old mid → new.running ≡ mid.running → new.disk ≡ mid.disk → Leaving old new
leaves_same old mid new so_far running disk = leaves_world old mid new so_far (ap (λ (r : Running). r.situation.book.world) running) disk

-- the world after steps is the replay of what they accepted
abbrev pub AreReplays : Type 0
AreReplays = (settings : Config) (s end : Situation) (steps : List Step) → after_steps settings s steps ≡ Some end → replay s.book.world (accepted settings s steps) ≡ Some end.book.world

-- one more item is answered, and this does nothing, or what steps do
pub leaves_on : AreReplays → (old mid new : Service) → Leaving old mid → MayTakeSteps mid new → Leaving old new
leaves_on replays old mid new so_far (inl same) = leaves_same old mid new so_far same.running same.disk
leaves_on replays old mid new so_far (inr takes) =
    let settings = mid.running.settings in
    let s = mid.running.situation in
    leaves_more old mid new takes.tx (accepted settings s takes.steps) so_far (replays settings s new.running.situation takes.steps takes.situation) takes.writes

-- as it is said in the end
pub prefixes : (old new : Service) → Leaving old new → LeavesPrefixes old new
prefixes old new leaving =
    let w = old.running.situation.book.world in
    let P : ℕ → Two (List ℕ) → Type 0 = IsKeptWithin w leaving.accepted in
    let Q : ℕ → Two (List ℕ) → Type 0 = λ n image. IsKeptAfter w leaving.accepted n image.0 in
    record {
      accepted = leaving.accepted;
      replayed = leaving.replayed;
      moments = rising_weaker P Q 0 (length leaving.accepted) old.disk.history new.disk.history (λ n image within. within.1) leaving.moments;
    }

-- ---- faults of the disk

counted : (first count mid new : ℕ) (b : Bool) → min (first + count) (2 ^ 64 - 1) ≤ mid → mid ≤ new → (b ≡ true → Rose mid new) → min (first + (count + cond b 1 0)) (2 ^ 64 - 1) ≤ new
counted first count mid new true so_far later rose = let more = rose refl in omega arith
counted first count mid new false so_far later rose = omega arith

pub faults_on : (p : Protocol) (old mid new : Service) (exchanges : List (Exchange p)) (exchange : Exchange p) → CountsFaults old exchanges mid → mid.disk.faults ≤ new.disk.faults
    → (p.is_fault exchange.reply ≡ true → Rose mid.disk.faults new.disk.faults) → CountsFaults old (exchanges ++ exchange ∷ []) new
faults_on p old mid new exchanges exchange so_far later rose =
    let more : count_by is_disk_fault (exchanges ++ exchange ∷ []) ≡ count_by is_disk_fault exchanges + cond (is_disk_fault exchange) 1 0
    = sum_by-append (λ (e : Exchange p). cond (is_disk_fault e) 1 0) exchanges (exchange ∷ []) ∙ grind arith in
    let P : ℕ → Type 0 = λ count. min (old.disk.faults + count) (2 ^ 64 - 1) ≤ new.disk.faults in
    subst P (sym more) (counted old.disk.faults (count_by is_disk_fault exchanges) mid.disk.faults new.disk.faults (is_disk_fault exchange) so_far later rose)
