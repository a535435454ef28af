-- A situation stays good where a plan ends, and where the store is opened anew.
use Rattle.std.proofs.Common.{◌≡◌, ◌≢◌, ℕ, Bool, true, false, List, [], ◌∷◌, None, Some, IsSome, is_some, ap, sym, refl, subst, cond}
use Rattle.std.proofs.lemmas.Bool.{true≢false}
use Rattle.std.specs.Option.{ForSome}
use Rattle.job_states.specs.Moment.{is_moment}
use Rattle.job_states.specs.declared.transition.Transaction.{Transaction}
use Rattle.job_states.specs.declared.transition.Transition.{Transition}
use Rattle.queue_model.specs.Chain.{◌>>=◌}
use Rattle.queue_model.specs.Footprints.{IsPlanned}
use Rattle.queue_model.specs.GoodWorld.{IsGood}
use Rattle.queue_model.specs.Map as map
use Rattle.queue_model.specs.Replay.{after, replay, steps}
use Rattle.queue_model.specs.World.{World}
use Rattle.queue_model.proofs.Steps.{passed, same_Some, then}
use Rattle.plan_model.specs.Books.{Book, opened_over, with_applied, without_plan}
use Rattle.plan_model.specs.GoodBook.{IsGoodBook}
use Rattle.plan_model.specs.Plans.{Plan}
use Rattle.plan_model.proofs.BooksKept.{found_after_remove}
use Rattle.situation_model.specs.GoodSituation.{IsGoodSituation, IsNewTo}
use Rattle.situation_model.specs.Situations.{Before, Doubt, Left, Nothing, Own, Situation, checkpoint_faulted, committed, doubt_after, doubt_left, faulted, is_written, open_at, recovered, reopened, rolled_back, situation_over}
use Rattle.situation_model.proofs.Made.{Untouched, still_new}

-- ---- the record in doubt

abbrev IsLegal : World → Doubt → Type 0
IsLegal w doubt = ForSome doubt (λ txs. IsSome (replay w txs))

nothing_in_doubt : (w : World) → IsLegal w None
nothing_in_doubt w = λ txs e. absurd (true≢false (ap is_some (sym e)))

-- a plan without transitions leaves the world as it was
idle : (w end : World) (tx : Transaction) → is_written tx ≡ false → after w tx ≡ Some end → w ≡ end
idle w end tx e legal = by tx.steps e (passed (is_moment tx.moment) (steps w tx.moment tx.steps) end legal).1
  where
    by : (ts : List Transition) → is_written (record { moment = tx.moment; steps = ts }) ≡ false → steps w tx.moment ts ≡ Some end → w ≡ end
    by [] e legal = same_Some w end legal
    by (t ∷ ts) e legal = absurd (true≢false e)

after_commit : (w end : World) (tx : Transaction) (doubt : Doubt) → IsLegal w doubt → after w tx ≡ Some end → IsLegal end (doubt_after tx doubt)
after_commit w end tx doubt legal is = by (is_written tx) refl
  where
    by : (b : Bool) → is_written tx ≡ b → IsLegal end (cond b None doubt)
    by true e = nothing_in_doubt end
    by false e = subst (λ v. IsLegal v doubt) (idle w end tx e is) legal

after_fault : (w end : World) (tx : Transaction) (doubt : Doubt) (left : Left) → IsLegal w doubt → after w tx ≡ Some end → IsLegal w (doubt_left left tx doubt)
after_fault w end tx doubt Before legal is = legal
after_fault w end tx doubt Nothing legal is = nothing_in_doubt w
after_fault w end tx doubt Own legal is = λ txs e. subst (λ txs. IsSome (replay w txs)) (same_Some (tx ∷ []) txs e) (subst (λ o. IsSome (o >>= (λ v. replay v []))) (sym is) refl)

-- ---- what the laws of books say of the end of a plan

abbrev pub Opened : Type 0
Opened = (w : World) → IsGood w → IsGoodBook (opened_over w)

abbrev pub Applied : Type 0
Applied = (b : Book) (seat : ℕ) (plan : Plan) (end : World) → IsGoodBook b → map.get b.open_plans seat ≡ Some plan → after b.world plan.tx ≡ Some end → IsGoodBook (with_applied b seat end)

abbrev pub Without : Type 0
Without = (b : Book) (seat : ℕ) → IsGoodBook b → IsGoodBook (without_plan b seat)

abbrev pub Replayed : Type 0
Replayed = (w end : World) (txs : List Transaction) → IsGood w → replay w txs ≡ Some end → IsGood end

pub over_good : Opened → (w : World) → IsGood w → IsGoodSituation (situation_over w)
over_good opened w good = record { book = opened w good; doubt = nothing_in_doubt w; seats = λ seat plan e. absurd (true≢false (ap is_some (sym e))); new = λ seat plan e. absurd (true≢false (ap is_some (sym e))) }

module _ (s t : Situation) (good : IsGoodSituation s) where
  -- the doubt is this one, and the plan of a seat went
  gone : (b : Book) (seat : ℕ) (doubt : Doubt) → IsGoodBook b → b.open_plans ≡ map.remove s.book.open_plans seat → IsLegal b.world doubt → ((other : ℕ) (plan : Plan) → seat ≢ other → open_at s other ≡ Some plan → IsNewTo b.world plan) → IsGoodSituation (record { book = b; doubt = doubt })
  gone b seat doubt good_book is legal new = record {
    book = good_book;
    doubt = legal;
    seats = λ other plan e. good.seats other plan (found_after_remove s.book.open_plans seat other plan (subst (λ m. map.get m other ≡ Some plan) is e)).1;
    new = λ other plan e. let left = found_after_remove s.book.open_plans seat other plan (subst (λ m. map.get m other ≡ Some plan) is e) in new other plan left.0 left.1;
  }

  pub committed_good : Applied → Untouched → (seat : ℕ) → committed s seat ≡ Some t → IsGoodSituation t
  committed_good applied untouched seat e =
      let found = then (open_at s seat) _ t e in
      let legal = then (after s.book.world found.0.tx) _ t found.2 in
      let mine : IsPlanned s.book.world found.0.tx found.0.rows legal.0 = record { legal = legal.1; covered = (good.book.plans seat found.0 found.1).legal.1.covered } in
      subst IsGoodSituation (same_Some _ t legal.2)
      (gone (with_applied s.book seat legal.0) seat (doubt_after found.0.tx s.doubt)
      (applied s.book seat found.0 legal.0 good.book found.1 legal.1) refl
      (after_commit s.book.world legal.0 found.0.tx s.doubt good.doubt legal.1)
      (λ other theirs ne there. still_new untouched s.book.world legal.0 found.0 theirs mine (good.book.plans other theirs there).legal (good.book.compatible seat other found.0 theirs ne found.1 there) (good.new other theirs there)))

  pub faulted_good : Without → (seat : ℕ) (left : Left) → faulted s seat left ≡ Some t → IsGoodSituation t
  faulted_good without seat left e =
      let found = then (open_at s seat) _ t e in
      let written = passed (is_written found.0.tx) _ t found.2 in
      let legal = (good.book.plans seat found.0 found.1).legal in
      subst IsGoodSituation (same_Some _ t written.1)
      (gone (without_plan s.book seat) seat (doubt_left left found.0.tx s.doubt) (without s.book seat good.book) refl
      (after_fault s.book.world legal.0 found.0.tx s.doubt left good.doubt legal.1.legal) (λ other theirs ne there. good.new other theirs there))

  pub rolled_back_good : Without → (seat : ℕ) → rolled_back s seat ≡ Some t → IsGoodSituation t
  rolled_back_good without seat e =
      let found = then (open_at s seat) _ t e in
      subst IsGoodSituation (same_Some _ t found.2) (gone (without_plan s.book seat) seat s.doubt (without s.book seat good.book) refl good.doubt (λ other theirs ne there. good.new other theirs there))

  pub without_doubt : IsGoodSituation (record s { doubt = None })
  without_doubt = record { book = good.book; doubt = nothing_in_doubt s.book.world; seats = good.seats; new = good.new }

  pub checkpoint_faulted_good : (stays : Bool) → IsGoodSituation (checkpoint_faulted s stays)
  checkpoint_faulted_good true = good
  checkpoint_faulted_good false = without_doubt

  recovered_good : Replayed → (w : World) (takes_in : Bool) → recovered s takes_in ≡ Some w → IsGood w
  recovered_good replayed w false e = subst IsGood (same_Some s.book.world w e) good.book.world
  recovered_good replayed w true e =
      let found = then s.doubt _ w e in
      replayed s.book.world w found.0 good.book.world found.2

  pub reopened_good : Opened → Replayed → (takes_in : Bool) → reopened s takes_in ≡ Some t → IsGoodSituation t
  reopened_good opened replayed takes_in e =
      let found = then (recovered s takes_in) _ t e in
      subst IsGoodSituation (same_Some _ t found.2) (over_good opened found.0 (recovered_good replayed found.0 takes_in found.1))
