-- What the end of a plan comes to, and what is written for it.
use Rattle.std.proofs.Common.{◌≡◌, ⊎_elim, ℕ, zero, suc, Bool, true, false, cond, List, [], ◌∷◌, ◌++◌, Option, None, Some, Result, Ok, Err, IsSome, ap, sym, ◌∙◌, refl, subst, arith}
use Rattle.std.specs.Prelude.{IsFalse, IsTrue}
use Rattle.std.proofs.lemmas.Bool.{true≢false}
use Rattle.std.proofs.lemmas.Option.{IfSome_then}
use Rattle.book_core.specs.Opening.{Applies}
use Rattle.job_states.specs.Moment.{is_moment}
use Rattle.job_states.specs.declared.answer.Answer.{Answer}
use Rattle.job_states.specs.declared.transition.Transaction.{Transaction}
use Rattle.job_states.specs.declared.transition.Transition.{Transition}
use Rattle.journal_format.specs.Payload.{HasText}
use Rattle.journal_format.specs.Spelling.{payload}
use Rattle.journal_keeper.specs.Answers.{Appends}
use Rattle.journal_keeper.specs.Kept.{IsKeptAt}
use Rattle.journal_keeper.specs.Stands.{Keeper, Stands}
use Rattle.journal_keeper.specs.declared.fault.DiskFault.{DiskFault}
use Rattle.journal_keeper.proofs.Others as others
use Rattle.journal_replay.specs.Kept.{IsKeptFor, MayFollow, text_of}
use Rattle.journal_replay.specs.Records.{StandFor}
use Rattle.journal_replay.proofs.KeptFor.{image_kept}
use Rattle.journal_replay.proofs.Stepping.{one_record}
use Rattle.plan_model.specs.Books.{Book, without_plan}
use Rattle.plan_model.specs.Plans.{Plan}
use Rattle.queue_engine.specs.Calls.{Ends, EndsPlan, Writes, doubt_at}
use Rattle.queue_engine.specs.Recorded.{AppendsAny, IsRecordOf}
use Rattle.queue_engine.specs.Running.{Store, running, store}
use Rattle.queue_engine.specs.Standing.{StandsOn}
use Rattle.queue_engine.proofs.Standing.{StandsKept, nothing_follows, stands_on, stays}
use Rattle.queue_model.specs.Chain.{◌>>=◌}
use Rattle.queue_model.specs.Map as map
use Rattle.queue_model.specs.Replay.{after, replay, steps}
use Rattle.queue_model.specs.World.{World}
use Rattle.queue_model.proofs.Steps.{passed, same_Some}
use Rattle.situation_model.specs.Situations.{Before, Doubt, Left, Own, Situation, committed, doubt_after, doubt_left, faulted, is_written, rolled_back}
use Rattle.sq_outside.specs.Disk.{History, Leaves, LeavesRising, Two}
use Rattle.sq_outside.proofs.Rising.{begin, rising_up, rising_weaker}

-- ---- a transaction that is legal

replays : (w v : World) (tx : Transaction) → after w tx ≡ Some v → replay w (tx ∷ []) ≡ Some v
replays w v tx legal = ap (λ (o : Option World). o >>= (λ u. replay u [])) legal

-- its record may follow
own_follows : (w v : World) (tx : Transaction) → HasText (tx ∷ []) → after w tx ≡ Some v → MayFollow w (Some (tx ∷ []))
own_follows w v tx has legal = λ txs e.
    subst (λ (l : List Transaction). HasText l × IsSome (replay w l)) (same_Some (tx ∷ []) txs e) (has, subst IsSome (sym (replays w v tx legal)) refl)

-- one record more
one_more : (w v : World) (tx : Transaction) (payloads : List (List ℕ)) → HasText (tx ∷ []) → after w tx ≡ Some v → StandFor payloads w
    → StandFor (payloads ++ payload (tx ∷ []) ∷ []) v
one_more w v tx payloads has legal stand_for =
    one_record (payload (tx ∷ [])) payloads w v stand_for (record { txs = tx ∷ []; spelled = record { has_text = has; is = refl }; world = replays w v tx legal })

-- without transitions the world stays
idle : (w v : World) (tx : Transaction) → IsFalse (is_written tx) → after w tx ≡ Some v → v ≡ w
idle w v tx unwritten legal = by tx.steps unwritten (passed (is_moment tx.moment) (steps w tx.moment tx.steps) v legal).1
  where
    by : (ts : List Transition) → IsFalse (is_written (record { moment = tx.moment; steps = ts })) → steps w tx.moment ts ≡ Some v → v ≡ w
    by [] unwritten legal = sym (same_Some w v legal)
    by (t ∷ ts) unwritten legal = absurd (true≢false unwritten)

-- ---- what is in doubt after a commit

abbrev doubt_by : Bool → Doubt → Doubt
doubt_by written before = cond written None before

none_left : (tx : Transaction) → doubt_after tx None ≡ None
none_left tx = by (is_written tx)
  where
    by : (b : Bool) → doubt_by b None ≡ None
    by true = refl
    by false = refl

module _ (s : Store) (seat : ℕ) where
  abbrev here : Doubt → Situation
  here doubt = (running s doubt).situation

  -- the engine with this book and journal
  abbrev with : Book → Keeper → Store
  with b journal = store s.settings b journal

  pub gives_up : (plan : Plan) → map.get s.book.open_plans seat ≡ Some plan → (new : Book) → new ≡ without_plan s.book seat → (journal : Keeper) (doubt : Doubt)
      → rolled_back (here doubt) seat ≡ Some (running (with new journal) doubt).situation
  gives_up plan found new is journal doubt = rw found (ap (λ (n : Book). Some (running (with n journal) doubt).situation) (sym is))

  module _ (new : Book) (answer : Answer) (applies : Applies s.book seat new answer) (journal : Keeper) where
    committed_to : (doubt left : Doubt) → doubt_after applies.plan.tx doubt ≡ left → committed (here doubt) seat ≡ Some (running (with new journal) left).situation
    committed_to doubt left same = rw (applies.opened, applies.world) (λ i. Some (record { book = sym applies.book i; doubt = same i }))

    -- where nothing is in doubt
    pub commits_to : committed (here None) seat ≡ Some (running (with new journal) None).situation
    commits_to = committed_to None None (none_left applies.plan.tx)

-- ---- what is written

module _ (s : Store) (tx : Transaction) (before new : Option History) where
  abbrev w : World
  w = s.book.world

  pub writes_none : IsFalse (is_written tx) → new ≡ before → (doubt : Doubt) → StandsOn s doubt before → Writes (running s doubt) tx before new
  writes_none unwritten same doubt on =
      let P : ℕ → Two (List ℕ) → Type 0 = λ n image. IsKeptFor w (doubt_at doubt tx n) image.0 in
      let kept = IfSome_then before on.kept (λ (h : History) are. let each : Leaves (P 0) h.now = λ image is. image_kept w doubt h.now image are is in each) in
      record {
        moments = subst (LeavesRising P 0 1 before) (sym same) (rising_up P 0 0 1 before before (omega arith) (begin P 0 before kept));
        unwritten = λ _. same;
        other = others.stays before new same;
      }

  module _ (v : World) (legal : after w tx ≡ Some v) (written : IsTrue (is_written tx)) (has : HasText (tx ∷ [])) (journal : Keeper) (result : Result (Unit {0}) DiskFault)
      (appends : Appends s.journal before (payload (tx ∷ [])) result journal new) (doubt : Doubt) (on : StandsOn s doubt before) where
    kept_at : (n : ℕ) (file : List ℕ) → IsKeptAt on.payloads (text_of doubt) (payload (tx ∷ [])) n file → IsKeptFor w (doubt_at doubt tx n) file
    kept_at zero file kept = record { payloads = on.payloads; stand_for = on.stand_for; follows = on.follows; kept = kept }
    kept_at (suc n) file kept = record { payloads = on.payloads; stand_for = on.stand_for; follows = own_follows w v tx has legal; kept = kept }

    pub writes_one : Writes (running s doubt) tx before new
    writes_one = record {
      moments = rising_weaker (λ n image. IsKeptAt on.payloads (text_of doubt) (payload (tx ∷ [])) n image.0) (λ n image. IsKeptFor w (doubt_at doubt tx n) image.0) 0 1 before new
          (λ n image. kept_at n image.0) (appends.moments on.payloads (text_of doubt) on.journal);
      unwritten = λ unwritten. absurd (true≢false (sym written ∙ unwritten));
      other = appends.other;
    }

-- ---- a commit, and a fault

module _ (law : StandsKept) (s : Store) (seat : ℕ) (before after_it : Option History) where
  pub commits : (new : Book) (answer : Answer) (applies : Applies s.book seat new answer) (text : Option (List ℕ)) → IsRecordOf applies.plan.tx text → (journal : Keeper)
      → AppendsAny text s.journal before (Ok tt) journal after_it → EndsPlan seat s before (Ok answer) (store s.settings new journal) after_it
  commits new answer applies None unwritten journal appends doubt on =
      let tx = applies.plan.tx in
      let there = store s.settings new journal in
      record {
        doubt = doubt;
        ends = record {
          plan = applies.plan;
          opened = applies.opened;
          settings = refl;
          situation = committed_to s seat new answer applies journal doubt doubt (ap (λ (b : Bool). doubt_by b doubt) unwritten);
          answered = applies.answered;
          writes = writes_none s tx before after_it unwritten appends.2 doubt on;
        };
        stands = subst (StandsOn there doubt) (sym appends.2) (stays s there (idle s.book.world new.world tx unwritten applies.world) appends.1 doubt before on);
      }
  commits new answer applies (Some text) is journal appends doubt on =
      let tx = applies.plan.tx in
      let has = is.1.has_text in
      let appended = subst (λ (added : List ℕ). Appends s.journal before added (Ok tt) journal after_it) is.1.payload appends in
      record {
        doubt = None;
        ends = record {
          plan = applies.plan;
          opened = applies.opened;
          settings = refl;
          situation = committed_to s seat new answer applies journal doubt None (ap (λ (b : Bool). doubt_by b doubt) is.0);
          answered = applies.answered;
          writes = writes_one s tx before after_it new.world applies.world is.0 has journal (Ok tt) appended doubt on;
        };
        stands = stands_on law (store s.settings new journal) None after_it (on.payloads ++ payload (tx ∷ []) ∷ [])
            (one_more s.book.world new.world tx on.payloads has applies.world on.stand_for) (nothing_follows new.world) (appended.stands on.payloads (text_of doubt) on.journal) appended.read;
      }

  module _ (plan : Plan) (found : map.get s.book.open_plans seat ≡ Some plan) (v : World) (legal : after s.book.world plan.tx ≡ Some v)
      (new : Book) (closed : new ≡ without_plan s.book seat) where
    faulted_to : IsTrue (is_written plan.tx) → (journal : Keeper) (doubt : Doubt) (left : Left)
        → faulted (here s seat doubt) seat left ≡ Some (running (store s.settings new journal) (doubt_left left plan.tx doubt)).situation
    faulted_to written journal doubt left = rw (found, written) (ap (λ (b : Book). Some (running (store s.settings b journal) (doubt_left left plan.tx doubt)).situation) (sym closed))

    pub faults : (text : Option (List ℕ)) → IsRecordOf plan.tx text → (journal : Keeper) (fault : DiskFault) → AppendsAny text s.journal before (Err fault) journal after_it
        → EndsPlan seat s before (Err fault) (store s.settings new journal) after_it
    faults None unwritten journal fault appends doubt on = absurd (let e = appends.0 in cc)
    faults (Some text) is journal fault appends doubt on = ⊎_elim (ends Before on.follows) (ends Own own) (appended.stands on.payloads (text_of doubt) on.journal)
      where
        has : HasText (plan.tx ∷ [])
        has = is.1.has_text

        own : MayFollow s.book.world (Some (plan.tx ∷ []))
        own = own_follows s.book.world v plan.tx has legal

        appended : Appends s.journal before (payload (plan.tx ∷ [])) (Err fault) journal after_it
        appended = subst (λ (added : List ℕ). Appends s.journal before added (Err fault) journal after_it) is.1.payload appends

        world : s.book.world ≡ new.world
        world = sym (ap (λ (b : Book). b.world) closed)

        ends : (left : Left) → MayFollow s.book.world (doubt_left left plan.tx doubt) → Stands journal on.payloads (text_of (doubt_left left plan.tx doubt)) after_it
            → Ends seat (running s doubt) before (Err fault) (store s.settings new journal) after_it
        ends left follows stands = record {
          doubt = doubt_left left plan.tx doubt;
          ends = record {
            plan = plan;
            opened = found;
            settings = refl;
            left = left;
            situation = faulted_to is.0 journal doubt left;
            writes = writes_one s plan.tx before after_it v legal is.0 has journal (Err fault) appended doubt on;
          };
          stands = stands_on law (store s.settings new journal) (doubt_left left plan.tx doubt) after_it on.payloads (subst (StandFor on.payloads) world on.stand_for)
              (subst (λ (u : World). MayFollow u (doubt_left left plan.tx doubt)) world follows) stands appended.read;
        }
