-- The steps of a walk over the keys for which jobs wait, and over those jobs of a key whose time is over.
use Rattle.std.proofs.Common.{◌≡◌, ◌<◌, ◌+◌, ◌&&◌, ◌++◌, ℕ, ℤ, Bool, true, false, cond, T, List, [], ◌∷◌, map, filter, length, Option, None, Some, IsSome, is_some, Ordering, arith, ap, sym, ◌∙◌, refl, subst, ⊎_elim}
use Rattle.std.proofs.lemmas.Bool.{true≢false, and_parts, and_from}
use Rattle.std.specs.Prelude.{flat_map, Contains}
use Rattle.std.specs.Cmp.{IsTotalOrder, tied_itself}
use Rattle.std.specs.FinMap.Entries.{find, find_tied, below_all, is_sorted, same_entries}
use Rattle.std.specs.Str.{bytes_eq}
use Rattle.std.specs.Ordering.{is_eq, is_lt, nat_cmp, ordering_reverse}
use Rattle.std.specs.declared.cmp.Ordering.TheVariants.{Less, Equal, Greater}
use Rattle.std.proofs.lemmas.List.Elements.{Contains-append_left, Contains-append_right}
use Rattle.job_states.specs.States.{stage_of, is_blocked}
use Rattle.job_states.specs.declared.job.JobRow.{JobRow}
use Rattle.job_states.specs.declared.job.Limited.{Limited}
use Rattle.job_states.specs.declared.job.State.{State}
use Rattle.queue_model.specs.GoodWorld.{IsGood}
use Rattle.queue_model.specs.Held.{key_of}
use Rattle.queue_model.specs.Map as finite
use Rattle.queue_model.specs.Map.{get}
use Rattle.queue_model.specs.World.{World, is_key, job, text_cmp}
use Rattle.queue_model.specs.declared.Job.{Job}
use Rattle.queue_model.proofs.Cases.{bytes_same, same_bytes}
use Rattle.queue_model.proofs.Maps.{texts_total, exact_texts}
use Rattle.queue_model.proofs.Steps.{same_Some}
use Rattle.row_locks.proofs.Membership.{none, Contains-head, Contains-tail, Contains-cons_cases, Contains-filter, Contains-from_filter}
use Rattle.exec_tables.specs.Next.{IsNext, Listed, by_blocked_key, is_above}
use Rattle.plan_model.specs.Orders.{in_order, is_blocked_at, placed, priority_cmp}
use Rattle.plan_model.specs.UpkeepCommands.{is_overdue, key_entry, overdue, overdue_jobs}
use Rattle.plan_model.proofs.AllowedMoves.{limit_at}
use Rattle.plan_model.proofs.Apart.{flat_there}
use Rattle.plan_model.proofs.LateJobs.{overdue_blocked}
use Rattle.plan_model.proofs.MapLemmas.{both, filter_passes, made_at, none_below}
use Rattle.plan_model.proofs.OrderLemmas.{own_place, priority_total}
use Rattle.plan_model.proofs.PlacedJobs.{IsPlaced, entry_there, exact_priority, found_value, job_placed, placed_job}
use Rattle.upkeep_plans.specs.Left.{keys_left, late_at, late_left, late_of, overdue_keys, past_key}
use Rattle.upkeep_plans.proofs.KeyWalks.{all_kept, filter_mapped}
use Rattle.upkeep_plans.proofs.Passed.{first_left, higher, none_left, passed_left}

-- ---- lists

filter_twice : {X : Type 0} (p q : X → Bool) (xs : List X) → filter p (filter q xs) ≡ filter (λ x. q x && p x) xs
filter_twice p q [] = refl
filter_twice p q (x ∷ xs) = by (q x) (filter_twice p q xs)
  where
    by : (b : Bool) → filter p (filter q xs) ≡ filter (λ x. q x && p x) xs → filter p (cond b (x ∷ filter q xs) (filter q xs)) ≡ cond (b && p x) (x ∷ filter (λ x. q x && p x) xs) (filter (λ x. q x && p x) xs)
    by true e = ap (λ ys. cond (p x) (x ∷ ys) ys) e
    by false e = e

filter_none : {X : Type 0} (p : X → Bool) (xs : List X) → ((x : X) → Contains xs x → p x ≡ false) → filter p xs ≡ []
filter_none p [] h = refl
filter_none p (x ∷ xs) h = ap (λ b. cond b (x ∷ filter p xs) (filter p xs)) (h x (Contains-head x xs)) ∙ filter_none p xs (λ y c. h y (Contains-tail x xs y c))

filter_every : {X : Type 0} (xs : List X) → filter (λ x. true) xs ≡ xs
filter_every [] = refl
filter_every (x ∷ xs) = ap (λ ys. x ∷ ys) (filter_every xs)

flat_has : {A X : Type 0} (f : A → List X) (xs : List A) (x : A) (y : X) → Contains xs x → Contains (f x) y → Contains (flat_map f xs) y
flat_has f [] x y h at = absurd (none x h)
flat_has f (z ∷ zs) x y h at = ⊎_elim
    (λ same. Contains-append_left (f z) (flat_map f zs) y (subst (λ a. Contains (f a) y) (sym same) at))
    (λ later. Contains-append_right (f z) (flat_map f zs) y (flat_has f zs x y later at))
    (Contains-cons_cases z zs x h)

-- where fewer pass, fewer are kept
fewer_kept : {X : Type 0} (p q : X → Bool) (xs : List X) → ((x : X) → q x ≡ true → p x ≡ true) → length (filter q xs) < length (filter p xs) + 1
fewer_kept p q [] h = omega arith
fewer_kept p q (x ∷ xs) h = by (p x) (q x) (h x) (fewer_kept p q xs h)
  where
    by : (a b : Bool) → (b ≡ true → a ≡ true) → length (filter q xs) < length (filter p xs) + 1 → length (cond b (x ∷ filter q xs) (filter q xs)) < length (cond a (x ∷ filter p xs) (filter p xs)) + 1
    by true true f e = omega (arith, e)
    by true false f e = omega (arith, e)
    by false true f e = absurd (true≢false (sym (f refl)))
    by false false f e = e

one_fewer : {X : Type 0} (p q : X → Bool) (xs : List X) (x : X) → ((y : X) → q y ≡ true → p y ≡ true) → Contains xs x → p x ≡ true → q x ≡ false → length (filter q xs) < length (filter p xs)
one_fewer p q [] x h c here there = absurd (none x c)
one_fewer p q (y ∷ ys) x h c here there = ⊎_elim
    (λ same. first (p y) (q y) (subst (λ z. p z ≡ true) (sym same) here) (subst (λ z. q z ≡ false) (sym same) there) (fewer_kept p q ys h))
    (λ later. rest (p y) (q y) (h y) (one_fewer p q ys x h later here there))
    (Contains-cons_cases y ys x c)
  where
    first : (a b : Bool) → a ≡ true → b ≡ false → length (filter q ys) < length (filter p ys) + 1 → length (cond b (y ∷ filter q ys) (filter q ys)) < length (cond a (y ∷ filter p ys) (filter p ys))
    first true false e f l = omega (arith, l)
    first true true e f l = absurd (true≢false f)
    first false b e f l = absurd (true≢false (sym e))

    rest : (a b : Bool) → (b ≡ true → a ≡ true) → length (filter q ys) < length (filter p ys) → length (cond b (y ∷ filter q ys) (filter q ys)) < length (cond a (y ∷ filter p ys) (filter p ys))
    rest true true f l = omega (arith, l)
    rest true false f l = omega (arith, l)
    rest false true f l = absurd (true≢false (sym (f refl)))
    rest false false f l = l

-- ---- entries whose values pass

module _ {K X : Type 0} {R : K → K → Ordering} (o : IsTotalOrder R) (p : X → Bool) where
  abbrev passing : List (K × X) → List (K × X)
  passing es = filter (λ e. p e.1) es

  still_below : (k : K) (es : List (K × X)) → T (below_all R k es) → T (below_all R k (passing es))
  still_below k [] h = tt
  still_below k (e ∷ es) h = let q = both (is_lt (R k e.0)) (below_all R k es) h in by (p e.1) q.0 (still_below k es q.1)
    where
      two : (a b : Bool) → T a → T b → T (a && b)
      two true b x y = y
      two false b x y = absurd x

      by : (b : Bool) → T (is_lt (R k e.0)) → T (below_all R k (passing es)) → T (below_all R k (cond b (e ∷ passing es) (passing es)))
      by true l rest = two (is_lt (R k e.0)) (below_all R k (passing es)) l rest
      by false l rest = rest

  still_sorted : (es : List (K × X)) → T (is_sorted R es) → T (is_sorted R (passing es))
  still_sorted [] h = tt
  still_sorted (e ∷ es) h = let q = both (below_all R e.0 es) (is_sorted R es) h in by (p e.1) (still_below e.0 es q.0) (still_sorted es q.1)
    where
      two : (a b : Bool) → T a → T b → T (a && b)
      two true b x y = y
      two false b x y = absurd x

      by : (b : Bool) → T (below_all R e.0 (passing es)) → T (is_sorted R (passing es)) → T (is_sorted R (cond b (e ∷ passing es) (passing es)))
      by true l rest = two (below_all R e.0 (passing es)) (is_sorted R (passing es)) l rest
      by false l rest = rest

  abbrev kept : Option X → Option X
  kept None = None
  kept (Some x) = cond (p x) (Some x) None

  find_passing : (k : K) (es : List (K × X)) → T (is_sorted R es) → find R k (passing es) ≡ kept (find R k es)
  find_passing k [] s = refl
  find_passing k (e ∷ es) s = let q = both (below_all R e.0 es) (is_sorted R es) s in at (R k e.0) (p e.1) refl refl q.0 (find_passing k es q.1)
    where
      at : (r : Ordering) (b : Bool) → R k e.0 ≡ r → p e.1 ≡ b → T (below_all R e.0 es) → find R k (passing es) ≡ kept (find R k es) → find R k (cond b (e ∷ passing es) (passing es)) ≡ kept (cond (is_eq r) (Some e.1) (find R k es))
      at Equal true is passes below rest = ap (λ r. cond (is_eq r) (Some e.1) (find R k (passing es))) is ∙ sym (ap (λ b. cond b (Some e.1) None) passes)
      at Equal false is fails below rest = rest ∙ ap kept (sym (find_tied R o k e.0 is es) ∙ none_below o e.0 es below) ∙ sym (ap (λ b. cond b (Some e.1) None) fails)
      at Less true is passes below rest = ap (λ r. cond (is_eq r) (Some e.1) (find R k (passing es))) is ∙ rest
      at Less false is fails below rest = rest
      at Greater true is passes below rest = ap (λ r. cond (is_eq r) (Some e.1) (find R k (passing es))) is ∙ rest
      at Greater false is fails below rest = rest

-- ---- the key of a job

in_entry : (row : JobRow) (st : State) (o : Option Limited) (e : List ℕ × Unit {0}) → Contains (key_entry (job (record row { limited = o }) st)) e → is_key e.0 o ≡ true
in_entry row st None e h = absurd (none e h)
in_entry row st (Some limited) e h = ⊎_elim
    (λ same. subst (λ (x : List ℕ × Unit {0}). bytes_eq limited.key x.0 ≡ true) same (bytes_same limited.key))
    (λ later. absurd (none e later))
    (Contains-cons_cases (limited.key, tt) [] e h)

entry_in : (row : JobRow) (st : State) (o : Option Limited) (key : List ℕ) → is_key key o ≡ true → Contains (key_entry (job (record row { limited = o }) st)) (key, tt)
entry_in row st None key e = absurd (true≢false (sym e))
entry_in row st (Some limited) key e = subst (λ k. Contains (entry ∷ []) (k, tt)) (same_bytes limited.key key e) (Contains-head entry [])
  where
    entry : List ℕ × Unit {0}
    entry = (limited.key, tt)

-- a job waits for a key past this one
abbrev past_in : Option (List ℕ) → Option (List ℕ) → Bool
past_in past None = false
past_in past (Some key) = is_above text_cmp past key

abbrev pub waits_past : Option (List ℕ) → Job → Bool
waits_past past j = past_in past (by_blocked_key 0 j)

-- ---- the overdue jobs of a key, in their order

module _ (w : World) (m : ℕ) (good : IsGood w) where
  abbrev all : List Job
  all = finite.values w.jobs

  module _ (key : List ℕ) where
    abbrev waits : Job → Bool
    waits j = is_blocked_at key j

    abbrev late : Job → Bool
    late j = is_overdue m j && is_key key j.row.limited

    same_found : (x : ℤ × ℕ) → kept priority_total (is_overdue m) (get (placed (filter waits all)) x) ≡ get (placed (filter late all)) x
    same_found x = by (get (placed (filter waits all)) x) (get (placed (filter late all)) x) refl refl
      where
        to_late : (j : Job) → IsPlaced w waits x j → is_overdue m j ≡ true → IsPlaced w late x j
        to_late j h over = record { found = h.found; place = h.place; passes = and_from (is_overdue m j) (is_key key j.row.limited) over (and_parts (is_blocked (Some (stage_of j.state))) (is_key key j.row.limited) h.passes).1 }

        to_waits : (j : Job) → IsPlaced w late x j → IsPlaced w waits x j
        to_waits j h =
            let parts = and_parts (is_overdue m j) (is_key key j.row.limited) h.passes in
            record { found = h.found; place = h.place; passes = and_from (is_blocked (Some (stage_of j.state))) (is_key key j.row.limited) (overdue_blocked m j.row j.state parts.0) parts.1 }

        one : (j : Job) (b : Bool) → IsPlaced w waits x j → is_overdue m j ≡ b → (o : Option Job) → get (placed (filter late all)) x ≡ o → cond b (Some j) None ≡ o
        one j true h over o is = sym (job_placed w late good x j (to_late j h over)) ∙ is
        one j false h over None is = refl
        one j false h over (Some k) is =
            let there = placed_job w late good x k is in
            let same : k ≡ j = same_Some k j (sym there.found ∙ h.found) in
            absurd (true≢false (sym (and_parts (is_overdue m k) (is_key key k.row.limited) there.passes).0 ∙ ap (is_overdue m) same ∙ over))

        by : (a b : Option Job) → get (placed (filter waits all)) x ≡ a → get (placed (filter late all)) x ≡ b → kept priority_total (is_overdue m) a ≡ b
        by None None p q = refl
        by None (Some k) p q = absurd (true≢false (ap is_some (sym (job_placed w waits good x k (to_waits k (placed_job w late good x k q))) ∙ p)))
        by (Some j) b p q = one j (is_overdue m j) (placed_job w waits good x j p) refl b q

    -- those that wait for the key, of which the overdue ones are kept
    pub late_waiting : late_of m key (in_order (filter waits all)) ≡ late_at w m key
    late_waiting =
        let es = (placed (filter waits all)).entries in
        let twice : filter (λ (j : Job). is_key key j.row.limited) (overdue_jobs w m) ≡ filter late all = filter_twice (λ (j : Job). is_key key j.row.limited) (is_overdue m) all in
        let entries : passing priority_total (is_overdue m) es ≡ (placed (filter late all)).entries = same_entries priority_cmp priority_total exact_priority (passing priority_total (is_overdue m) es) (placed (filter late all)).entries
        (still_sorted priority_total (is_overdue m) es (placed (filter waits all)).sorted) (placed (filter late all)).sorted
        (λ x. find_passing priority_total (is_overdue m) x es (placed (filter waits all)).sorted ∙ same_found x) in
        ap (map (λ (j : Job). (key, j))) (
        sym (filter_mapped (is_overdue m) (λ (e : (ℤ × ℕ) × Job). e.1) es)
        ∙ ap (map (λ (e : (ℤ × ℕ) × Job). e.1)) entries
        ∙ ap in_order (sym twice)
        )

  -- ---- the keys

  record IsKeyed (key : List ℕ) : Type 0 where
    job : Job
    there : Contains all job
    over : is_overdue m job ≡ true
    keyed : is_key key job.row.limited ≡ true

  abbrev over_jobs : List Job
  over_jobs = overdue_jobs w m

  keyed_there : (key : List ℕ) (u : Unit {0}) → get (overdue_keys w m) key ≡ Some u → IsKeyed key
  keyed_there key u h =
      let made = made_at texts_total (flat_map key_entry over_jobs) key u h in
      let from = flat_there key_entry over_jobs made.0 made.1 in
      record {
        job = from.0;
        there = Contains-from_filter (is_overdue m) all from.0 from.1;
        over = filter_passes (is_overdue m) all from.0 from.1;
        keyed = subst (λ k. is_key k from.0.row.limited ≡ true) (sym (exact_texts key made.0.0 made.3)) (in_entry from.0.row from.0.state from.0.row.limited made.0 from.2);
      }

  key_there : (key : List ℕ) → IsKeyed key → IsSome (get (overdue_keys w m) key)
  key_there key h = entry_there texts_total (flat_map key_entry over_jobs) (key, tt)
      (flat_has key_entry over_jobs h.job (key, tt) (Contains-filter (is_overdue m) all h.job h.there h.over) (entry_in h.job.row h.job.state h.job.row.limited key h.keyed))

  key_listed : (key : List ℕ) → IsKeyed key → Listed by_blocked_key w.jobs key
  key_listed key h =
      let limited = limit_at key h.job.row.limited h.keyed in (
        h.job.row.id,
        h.job,
        own_place w h.job good h.there,
        ap (λ b. cond b (key_of h.job.row.limited) None) (overdue_blocked m h.job.row h.job.state h.over) ∙ ap key_of limited.1 ∙ ap Some limited.2,
      )

  none_late : (key : List ℕ) → get (overdue_keys w m) key ≡ None → late_at w m key ≡ []
  none_late key e = ap (λ js. map (λ (j : Job). (key, j)) (in_order js)) (filter_none (λ (j : Job). is_key key j.row.limited) over_jobs (λ j c. by j c (is_key key j.row.limited) refl))
    where
      by : (j : Job) → Contains over_jobs j → (b : Bool) → is_key key j.row.limited ≡ b → b ≡ false
      by j c false is = refl
      by j c true is = absurd (true≢false (sym (key_there key (record { job = j; there = Contains-from_filter (is_overdue m) all j c; over = filter_passes (is_overdue m) all j c; keyed = is })) ∙ ap is_some e))

  pub late_at_begin : late_left w m None ≡ overdue w m
  late_at_begin = ap (λ (es : List (List ℕ × Unit {0})). flat_map (late_at w m) (map (λ e. e.0) es)) (all_kept text_cmp (is_above text_cmp None) (overdue_keys w m).entries (λ e c. refl))

  module _ (past found : Option (List ℕ)) (next : IsNext text_cmp (Listed by_blocked_key w.jobs) past found) where
    abbrev any : List ℕ × Unit {0} → Bool
    any e = true

    left_any : (p : Option (List ℕ)) (es : List (List ℕ × Unit {0})) → es ≡ past_key (overdue_keys w m) p → map (λ e. e.0) (filter any es) ≡ keys_left w m p
    left_any p es e = ap (map (λ (e : List ℕ × Unit {0}). e.0)) (filter_every es ∙ e)

    pub late_ends : found ≡ None → late_left w m past ≡ []
    late_ends e = ap (flat_map (late_at w m)) (sym (left_any past (past_key (overdue_keys w m) past) refl)
        ∙ ap (map (λ (e : List ℕ × Unit {0}). e.0)) (none_left texts_total exact_texts any (overdue_keys w m) past (λ q u at passes. next.none e q (key_listed q (keyed_there q u at)))))

    module _ (key : List ℕ) (is : found ≡ Some key) where
      pub late_step : late_left w m past ≡ late_of m key (in_order (filter (is_blocked_at key) all)) ++ late_left w m (Some key)
      late_step = by (get (overdue_keys w m) key) refl
        where
          by : (o : Option (Unit {0})) → get (overdue_keys w m) key ≡ o → late_left w m past ≡ late_of m key (in_order (filter (is_blocked_at key) all)) ++ late_left w m (Some key)
          by (Some u) at =
              ap (flat_map (late_at w m)) (
              sym (left_any past (past_key (overdue_keys w m) past) refl)
              ∙ ap (map (λ (e : List ℕ × Unit {0}). e.0)) (first_left texts_total exact_texts any (overdue_keys w m) past key u at (next.above key is) refl (λ q x there passes up. next.least key q is (key_listed q (keyed_there q x there)) up))
              ∙ ap (λ ks. key ∷ ks) (left_any (Some key) (past_key (overdue_keys w m) (Some key)) refl)
              )
              ∙ ap (λ xs. xs ++ late_left w m (Some key)) (sym (late_waiting key))
          by None at =
              ap (flat_map (late_at w m)) (
              sym (left_any past (past_key (overdue_keys w m) past) refl)
              ∙ ap (map (λ (e : List ℕ × Unit {0}). e.0)) (passed_left texts_total exact_texts any (overdue_keys w m) past key (next.above key is) (λ q x there passes up. after q x there up (text_cmp key q) refl))
              ∙ left_any (Some key) (past_key (overdue_keys w m) (Some key)) refl
              )
              ∙ ap (λ xs. xs ++ late_left w m (Some key)) (sym (late_waiting key ∙ none_late key at))
            where
              after : (q : List ℕ) (x : Unit {0}) → get (overdue_keys w m) q ≡ Some x → is_above text_cmp past q ≡ true → (r : Ordering) → text_cmp key q ≡ r → r ≡ Less
              after q x there up Less e = refl
              after q x there up Greater e = absurd (next.least key q is (key_listed q (keyed_there q x there)) up (texts_total.antisymm q key ∙ ap ordering_reverse e))
              after q x there up Equal e = absurd (true≢false (sym (ap is_some (ap (get (overdue_keys w m)) (exact_texts key q e) ∙ there)) ∙ ap is_some at))

      pub keys_fall : length (filter (waits_past (Some key)) all) < length (filter (waits_past past) all)
      keys_fall =
          let l = next.belongs key is in
          one_fewer (waits_past past) (waits_past (Some key)) all l.1 (λ j. further (by_blocked_key 0 j)) (found_value nat_cmp w.jobs.entries l.0 l.1 l.2)
          (ap (past_in past) l.3 ∙ next.above key is) (ap (past_in (Some key)) l.3 ∙ ap is_lt (tied_itself texts_total key))
        where
          less : (r : Ordering) → is_lt r ≡ true → r ≡ Less
          less Less e = refl
          less Equal e = absurd (true≢false (sym e))
          less Greater e = absurd (true≢false (sym e))

          further : (o : Option (List ℕ)) → past_in (Some key) o ≡ true → past_in past o ≡ true
          further None h = absurd (true≢false (sym h))
          further (Some k) h = higher texts_total exact_texts any past key k (next.above key is) (less (text_cmp key k) h)
