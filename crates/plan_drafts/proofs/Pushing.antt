-- A draft stays as it has to be where a transition is pushed.
use Rattle.std.proofs.Common.{◌≡◌, ◌≢◌, ◌≤◌, ◌<◌, ℕ, Bool, true, false, if◌then◌else◌, List, [], ◌∷◌, ◌++◌, Option, None, Some, is_some, ap, sym, ◌∙◌, refl, subst, ⊎_elim, arith}
use Rattle.std.proofs.lemmas.Bool.{true≢false, cases_eq, eqb-true, eq-eqb}
use Rattle.std.proofs.lemmas.List.Sums.{fold-append}
use Rattle.std.specs.Option.{option_map}
use Rattle.std.specs.Prelude.{◌==◌}
use Rattle.std.specs.Str.{bytes_eq}
use Rattle.job_states.specs.Moment.{IsMoment}
use Rattle.job_states.specs.declared.job.Limited.{Limited}
use Rattle.job_states.specs.declared.transition.Transition.{Transition}
use Rattle.job_states.specs.declared.transition.Transition.TheVariants.{Enqueue, Run}
use Rattle.queue_model.specs.Chain.{◌>>=◌}
use Rattle.queue_model.specs.GoodWorld.{IsGood}
use Rattle.queue_model.specs.Held.{holds}
use Rattle.queue_model.specs.Map.{get}
use Rattle.queue_model.specs.Named.{job_named, generation_named, noted, above}
use Rattle.queue_model.specs.Sights.{Rows, Sight, sees}
use Rattle.queue_model.specs.Transitions.{changes}
use Rattle.queue_model.specs.World.{World}
use Rattle.queue_model.specs.declared.Job.{Job}
use Rattle.queue_model.specs.declared.Numbers.{Numbers}
use Rattle.queue_model.proofs.Cases.{same_bytes, bytes_same}
use Rattle.queue_model.proofs.Fits.{named_or_other}
use Rattle.queue_model.proofs.Steps.{same_Some}
use Rattle.transition_table.specs.Seen.{found, job_seen, limited_of, stand_at, stand_of}
use Rattle.transition_table.specs.declared.found.Stand.{Stand}
use Rattle.plan_model.specs.Drafts.{Draft, moved, push}
use Rattle.plan_model.specs.GoodBook.{AreAbove}
use Rattle.plan_model.specs.GoodDraft.{IsFresh}
use Rattle.plan_model.proofs.AllowedSeen.{job_here, job_there, semaphore_here, semaphore_there}
use Rattle.plan_model.proofs.FreshLemmas.{fresh_over, stays_fresh}
use Rattle.plan_drafts.specs.Left.{world_after, left_at, stand_after, semaphore_after, found_at}
use Rattle.plan_drafts.specs.Made.{IsMade}
use Rattle.plan_drafts.specs.Pushes.{NamesNext, job_moved}
use Rattle.plan_drafts.specs.declared.pushed.Pushed.{Pushed}

-- ---- at the begin

past : (next given n : ℕ) → n < next → next ≤ given → given ≤ n → ⊥
past next given n below up le = omega arith

pub begun : (w : World) (m : ℕ) (given : Numbers) → IsGood w → IsMoment m → AreAbove w.numbers given → IsMade w m given []
begun w m given good moment above = record {
  good = good;
  moment = moment;
  above = above;
  fresh = fresh_over w given good above;
  jobs = λ id j e. ap job_seen e;
  semaphores = λ key. refl;
}

-- ---- what a legal change leaves

-- the limit of a job stays
limit_stays : (m : ℕ) (s : Sight) (t : Transition) (c : Rows) (limited : Option Limited) (j : Job) → changes m s t ≡ Some c → job_moved t ≢ None → ((o : Job) → s.rows.job ≡ Some o → o.row.limited ≡ limited) → c.job ≡ Some j → j.row.limited ≡ limited
limit_stays m s t c limited j h moves before e = grind arith

moved_named : (t : Transition) (id : ℕ) → job_moved t ≡ Some id → job_named t ≡ Some id
moved_named t id e = grind arith

run_keeps : (m : ℕ) (s : Sight) (task : List ℕ) (time : ℕ) (id : Option ℕ) (c : Rows) → changes m s (Run task time id) ≡ Some c → c.job ≡ s.rows.job
run_keeps m s task time id c h = grind arith

rises : (least next : ℕ) (named : Option ℕ) → least ≤ next → least ≤ above next named
rises least next None le = le
rises least next (Some n) le = omega arith

-- ---- jobs under their limit

limited_under : (limited : Option Limited) (stand : Option Stand) (j : Job) → Some (found j) ≡ found_at limited stand → j.row.limited ≡ limited
limited_under limited None j e = absurd (true≢false (ap is_some e))
limited_under limited (Some stand) j e = ap limited_of e

seen_under : (limited : Option Limited) (o : Option Job) → ((j : Job) → o ≡ Some j → j.row.limited ≡ limited) → job_seen o ≡ found_at limited (stand_at (job_seen o))
seen_under limited None h = refl
seen_under limited (Some j) h = ap (λ l. found_at l (Some (stand_of j.state))) (h j refl)

-- ---- what is left at a key

lands : {K X Y : Type 0} (f : X → Y) (is_key : K → Bool) (k : K) → ((a : K) → is_key a ≡ true → a ≡ k) → is_key k ≡ true → (o : Option K) (x now : X) (y : Y) → (o ≡ Some k → y ≡ f x) → (o ≢ Some k → y ≡ f now) → y ≡ f (left_at is_key (option_map (λ a. (a, x)) o) now)
lands f is_key k exact itself None x now y here there = there (λ e. true≢false (sym (ap is_some e)))
lands f is_key k exact itself (Some a) x now y here there = by (is_key a) refl
  where
    by : (b : Bool) → is_key a ≡ b → y ≡ f (if b then x else now)
    by true e = here (ap Some (exact a e))
    by false e = there (λ same. true≢false (sym (ap is_key (same_Some a k same) ∙ itself) ∙ e))

-- ---- one transition more

abbrev draft : World → Numbers → Draft
draft w given = record { world = w; steps = []; rows = []; given = given }

pub after_is : (w : World) (m : ℕ) (before : List Pushed) (p : Pushed) → world_after w m (before ++ p ∷ []) ≡ moved (world_after w m before) m p.step
after_is w m before p = fold-append (λ v q. moved v m q.step) w before (p ∷ [])

module _ (w : World) (m : ℕ) (given : Numbers) (before : List Pushed) (made : IsMade w m given before) where
  abbrev now : World
  now = world_after w m before

  abbrev d : Draft
  d = draft (world_after w m before) given

  -- a job that was there at the begin, and isn't the one that moves
  job_stays : (t : Transition) (c : Rows) → NamesNext given t → changes m (sees now (holds now t)) t ≡ Some c → (id : ℕ) (j : Job) → get w.jobs id ≡ Some j → job_moved t ≢ Some id → get (push m t d).world.jobs id ≡ get now.jobs id
  job_stays (Enqueue row put) c next legal id j there other = job_there m (Enqueue row put) d id (λ e. past w.numbers.job given.job id (made.good.jobs id j there).number.1 made.above.job (let new = next.job row.id refl in let same = same_Some row.id id e in omega (arith, new, same)))
  job_stays (Run task time o) c next legal id j there other = ⊎_elim (λ e. job_here m (Run task time o) d c legal id e ∙ run_keeps m (sees now (holds now (Run task time o))) task time o c legal ∙ ap (λ k. k >>= get now.jobs) e) (λ ne. job_there m (Run task time o) d id ne) (named_or_other cases_eq o id)
  job_stays t c next legal id j there other = job_there m t d id other

  module _ (p : Pushed) (c : Rows) (next : NamesNext given p.step) (legal : changes m (sees now (holds now p.step)) p.step ≡ Some c) where
    job_moves : (id : ℕ) (j : Job) → get w.jobs id ≡ Some j → job_moved p.step ≡ Some id → job_seen (get (push m p.step d).world.jobs id) ≡ found_at j.row.limited (stand_at (job_seen c.job))
    job_moves id j there moves =
        let named = moved_named p.step id moves in
        let under = λ (o : Job) (e : (job_named p.step >>= get now.jobs) ≡ Some o). limited_under j.row.limited (stand_after before id (Some (stand_of j.state))) o (ap job_seen (sym e ∙ ap (λ k. k >>= get now.jobs) named) ∙ made.jobs id j there) in
        ap job_seen (job_here m p.step d c legal id named)
        ∙ seen_under j.row.limited c.job (λ o e. limit_stays m (sees now (holds now p.step)) p.step c j.row.limited o legal (λ none. true≢false (sym (ap is_some (sym none ∙ moves)))) under e)

    jobs_after : p.job ≡ option_map (λ id. (id, stand_at (job_seen c.job))) (job_moved p.step) → (id : ℕ) (j : Job) → get w.jobs id ≡ Some j → job_seen (get (world_after w m (before ++ p ∷ [])).jobs id) ≡ found_at j.row.limited (stand_after (before ++ p ∷ []) id (Some (stand_of j.state)))
    jobs_after is id j there =
        ap (λ v. job_seen (get v.jobs id)) (after_is w m before p)
        ∙ lands (found_at j.row.limited) (λ other. other == id) id (λ a e. eqb-true a id e) (eq-eqb id id refl) (job_moved p.step) (stand_at (job_seen c.job)) (stand_after before id (Some (stand_of j.state))) (job_seen (get (push m p.step d).world.jobs id)) (job_moves id j there)
        (λ other. ap job_seen (job_stays p.step c next legal id j there other) ∙ made.jobs id j there)
        ∙ ap (λ o. found_at j.row.limited (left_at (λ other. other == id) o (stand_after before id (Some (stand_of j.state))))) (sym is)
        ∙ ap (found_at j.row.limited) (sym (fold-append (λ s q. left_at (λ other. other == id) q.job s) (Some (stand_of j.state)) before (p ∷ [])))

    semaphores_after : p.semaphore ≡ option_map (λ key. (key, c.semaphore)) (holds now p.step).key → (key : List ℕ) → get (world_after w m (before ++ p ∷ [])).semaphores key ≡ semaphore_after (before ++ p ∷ []) key (get w.semaphores key)
    semaphores_after is key =
        ap (λ v. get v.semaphores key) (after_is w m before p)
        ∙ lands (λ s. s) (λ other. bytes_eq other key) key (λ a e. same_bytes a key e) (bytes_same key) (holds now p.step).key c.semaphore (semaphore_after before key (get w.semaphores key)) (get (push m p.step d).world.semaphores key)
        (semaphore_here m p.step d c legal key) (λ other. semaphore_there m p.step d key other ∙ made.semaphores key)
        ∙ ap (λ o. left_at (λ other. bytes_eq other key) o (semaphore_after before key (get w.semaphores key))) (sym is)
        ∙ sym (fold-append (λ s q. left_at (λ other. bytes_eq other key) q.semaphore s) (get w.semaphores key) before (p ∷ []))

    pub pushed : p.job ≡ option_map (λ id. (id, stand_at (job_seen c.job))) (job_moved p.step) → p.semaphore ≡ option_map (λ key. (key, c.semaphore)) (holds now p.step).key → IsMade w m (noted given m p.step) (before ++ p ∷ [])
    pushed job semaphore = record {
      good = made.good;
      moment = made.moment;
      above = record {
        job = rises w.numbers.job given.job (job_named p.step) made.above.job;
        pid = rises w.numbers.pid given.pid _ made.above.pid;
        generation = rises w.numbers.generation given.generation (generation_named p.step) made.above.generation;
        moment = let le = made.above.moment in omega (arith, le);
      };
      fresh = subst (λ v. IsFresh v (noted given m p.step)) (sym (after_is w m before p)) (stays_fresh m p.step d made.fresh);
      jobs = jobs_after job;
      semaphores = semaphores_after semaphore;
    }
