-- No two runs of a replay are of the same task and time.
use Rattle.std.proofs.Common.{◌≡◌, ◌≢◌, ◌<◌, ◌≤◌, ℕ, suc, zero, true, false, cond, List, [], ◌∷◌, ◌++◌, length, get_or, Option, None, Some, ap, sym, ◌∙◌, refl, subst, arith, IsSomeAnd}
use Rattle.std.proofs.lemmas.Bool.{true≢false}
use Rattle.std.specs.FinMap.Entries.{find_tied}
use Rattle.std.specs.Ordering.{is_eq}
use Rattle.std.specs.declared.cmp.Ordering.{Ordering}
use Rattle.std.specs.declared.cmp.Ordering.TheVariants.{Less, Equal, Greater}
use Rattle.std.specs.List.{AllByRecursion, AllPairs, flat_map}
use Rattle.job_states.specs.declared.transition.Transaction.{Transaction}
use Rattle.job_states.specs.declared.transition.Transition.{Transition}
use Rattle.job_states.specs.declared.transition.Transition.TheVariants.{Run}
use Rattle.job_states.specs.Moment.{is_moment}
use Rattle.queue_model.specs.GoodWorld.{IsGood}
use Rattle.queue_model.specs.Held.{holds}
use Rattle.queue_model.specs.Map as map
use Rattle.queue_model.specs.Replay.{steps, after, replay, run_in, runs_of, IsNewRun}
use Rattle.queue_model.specs.Sights.{Rows, Sight, sees, set}
use Rattle.queue_model.specs.Transitions.{changes, step, is_after}
use Rattle.queue_model.specs.World.{World, text_cmp}
use Rattle.queue_model.proofs.Maps.{get-set, get-set_same, texts_total}
use Rattle.queue_model.proofs.Steps.{Step, step_is, same_Some, then, passed}

abbrev pub TaskRun : Type 0
TaskRun = List ℕ × ℕ

-- no run stands there twice
abbrev pub AreApart : List TaskRun → Type 0
AreApart [] = Unit {0}
AreApart (r ∷ rs) = AllByRecursion (λ other. r ≢ other) rs × AreApart rs

-- from one world to a later one these runs are made
pub record Between (w v : World) (runs : List TaskRun) : Type 0 where
  pub new : AllByRecursion (IsNewRun w) runs
  pub old : AllByRecursion (λ run. ¬ IsNewRun v run) runs
  pub apart : AreApart runs
  pub back : (run : TaskRun) → IsNewRun v run → IsNewRun w run

-- ---- lists

each : {X : Type 0} (P Q : X → Type 0) (xs : List X) → ((x : X) → P x → Q x) → AllByRecursion P xs → AllByRecursion Q xs
each P Q [] f h = tt
each P Q (x ∷ xs) f h = (f x h.0, each P Q xs f h.1)

both : {X : Type 0} (P : X → Type 0) (xs ys : List X) → AllByRecursion P xs → AllByRecursion P ys → AllByRecursion P (xs ++ ys)
both P [] ys h k = k
both P (x ∷ xs) ys h k = (h.0, both P xs ys h.1 k)

apart_both : (v : World) (xs ys : List TaskRun) → AreApart xs → AreApart ys → AllByRecursion (λ run. ¬ IsNewRun v run) xs → AllByRecursion (IsNewRun v) ys → AreApart (xs ++ ys)
apart_both v [] ys a b old new = b
apart_both v (x ∷ xs) ys a b old new = (both (λ other. x ≢ other) xs ys a.0 (each (IsNewRun v) (λ other. x ≢ other) ys (λ y is e. old.0 (subst (IsNewRun v) (sym e) is)) new), apart_both v xs ys a.1 b old.1 new)

at_index : {X : Type 0} (P : X → Type 0) (xs : List X) (i : ℕ) (d : X) → AllByRecursion P xs → i < length xs → P (get_or xs i d)
at_index P [] i d h l = absurd (omega (arith, l))
at_index P (x ∷ xs) zero d h l = h.0
at_index P (x ∷ xs) (suc i) d h l = at_index P xs i d h.1 (omega (arith, l))

pub pairs : (xs : List TaskRun) → AreApart xs → AllPairs (λ a b. a ≢ b) xs
pairs [] a i j d less within = absurd (omega (arith, within))
pairs (x ∷ xs) a i zero d less within = absurd (omega (arith, less))
pairs (x ∷ xs) a zero (suc j) d less within = at_index (λ other. x ≢ other) xs j d a.0 (omega (arith, within))
pairs (x ∷ xs) a (suc i) (suc j) d less within = pairs xs a.1 i j d (omega (arith, less)) (omega (arith, within))

-- ---- worlds

none : (w : World) → Between w w []
none w = record { new = tt; old = tt; apart = tt; back = λ run h. h }

more : (w v u : World) (xs ys : List TaskRun) → Between w v xs → Between v u ys → Between w u (xs ++ ys)
more w v u xs ys a b = record {
  new = both (IsNewRun w) xs ys a.new (each (IsNewRun v) (IsNewRun w) ys a.back b.new);
  old = both (λ run. ¬ IsNewRun u run) xs ys (each (λ run. ¬ IsNewRun v run) (λ run. ¬ IsNewRun u run) xs (λ run is h. is (b.back run h)) a.old) b.old;
  apart = apart_both v xs ys a.apart b.apart a.old b.new;
  back = λ run h. a.back run (b.back run h);
}

record Ran (m : ℕ) (s : Sight) (time : ℕ) (c : Rows) : Type 0 where
  new : is_after time s.rows.last_run ≡ true
  last : c.last_run ≡ Some time

ran : (m : ℕ) (s : Sight) (task : List ℕ) (time : ℕ) (id : Option ℕ) (c : Rows) → changes m s (Run task time id) ≡ Some c → Ran m s time c
ran m s task time id c h = record { new = grind arith; last = grind arith }

not_after_itself : (time : ℕ) → is_after time (Some time) ≡ false
not_after_itself time = grind arith

falls : (last : Option ℕ) (time other : ℕ) → is_after time last ≡ true → is_after other (Some time) ≡ true → is_after other last ≡ true
falls None time other h k = refl
falls (Some last) time other h k = grind arith

quiet : (w v : World) → w.last_runs ≡ v.last_runs → Between w v []
quiet w v e = record { new = tt; old = tt; apart = tt; back = λ run h. subst (λ last_runs. is_after run.1 (map.get last_runs run.0) ≡ true) (sym e) h }

-- the last runs before and after a run
run_made : (w v : World) (task : List ℕ) (time : ℕ) → is_after time (map.get w.last_runs task) ≡ true → set w.last_runs (Some task) (Some time) ≡ v.last_runs → Between w v ((task, time) ∷ [])
run_made w v task time new e = record {
  new = (new, tt);
  old = (λ h. true≢false (sym h ∙ ap (is_after time) (at task ∙ get-set_same texts_total w.last_runs task (Some time)) ∙ not_after_itself time), tt);
  apart = (tt, tt);
  back = λ run h. by run.0 run.1 (text_cmp run.0 task) refl (sym (ap (is_after run.1) (at run.0 ∙ get-set texts_total w.last_runs task (Some time) run.0)) ∙ h);
}
  where
    at : (q : List ℕ) → map.get v.last_runs q ≡ map.get (set w.last_runs (Some task) (Some time)) q
    at q = ap (λ (last_runs : map.Map text_cmp ℕ). map.get last_runs q) (sym e)

    by : (q : List ℕ) (x : ℕ) (r : Ordering) → text_cmp q task ≡ r → is_after x (cond (is_eq r) (Some time) (map.get w.last_runs q)) ≡ true → is_after x (map.get w.last_runs q) ≡ true
    by q x Less tie h = h
    by q x Equal tie h = let same : map.get w.last_runs task ≡ map.get w.last_runs q = find_tied text_cmp texts_total q task tie w.last_runs.entries in ap (is_after x) (sym same) ∙ falls (map.get w.last_runs task) time x new h
    by q x Greater tie h = h

between_step : (w v : World) (m : ℕ) (t : Transition) → step w m t ≡ Some v → Between w v (run_in t)
between_step w v m t h = let s = step_is w v m t h in by t s.0 s.1
  where
    by : (t : Transition) (c : Rows) → Step w m t v c → Between w v (run_in t)
    by (Run task time id) c s =
        let r = ran m (sees w (holds w (Run task time id))) task time id c s.legal in
        run_made w v task time r.new (ap (set w.last_runs (Some task)) (sym r.last) ∙ ap (λ x. x.last_runs) s.after)
    by t c s = quiet w v (ap (λ x. x.last_runs) s.after)

between_steps : (w v : World) (m : ℕ) (ts : List Transition) → steps w m ts ≡ Some v → Between w v (flat_map run_in ts)
between_steps w v m [] end = subst (λ u. Between w u []) (same_Some w v end) (none w)
between_steps w v m (t ∷ ts) end =
    let first = then (step w m t) (λ u. steps u m ts) v end in
    more w first.0 v (run_in t) (flat_map run_in ts) (between_step w first.0 m t first.1) (between_steps first.0 v m ts first.2)

pub between : (w v : World) (txs : List Transaction) → replay w txs ≡ Some v → Between w v (runs_of txs)
between w v [] end = subst (λ u. Between w u []) (same_Some w v end) (none w)
between w v (tx ∷ txs) end =
    let first = then (after w tx) (λ u. replay u txs) v end in
    let legal = passed (is_moment tx.moment) (steps w tx.moment tx.steps) first.0 first.1 in
    more w first.0 v (flat_map run_in tx.steps) (runs_of txs) (between_steps w first.0 tx.moment tx.steps legal.1) (between first.0 v txs first.2)

-- ---- recurring executions

not_both : (time : ℕ) (last : Option ℕ) → is_after time last ≡ true → IsSomeAnd last (λ x. time ≤ x) → ⊥
not_both time None new h = h
not_both time (Some x) new h = grind arith

pub nothing_there : (w : World) (m : ℕ) (task : List ℕ) (time : ℕ) (id : Option ℕ) (c : Rows) → IsGood w → changes m (sees w (holds w (Run task time id))) (Run task time id) ≡ Some c → map.get w.recurring (task, time) ≡ None
nothing_there w m task time id c good legal = by (map.get w.recurring (task, time)) refl
  where
    by : (o : Option ℕ) → map.get w.recurring (task, time) ≡ o → o ≡ None
    by None e = refl
    by (Some x) e = absurd (not_both time (map.get w.last_runs task) (ran m (sees w (holds w (Run task time id))) task time id c legal).new (good.recurring task time x e).last_run)
