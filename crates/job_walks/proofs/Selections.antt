-- What a queue list selects is what a walk has left at its begin.
use Rattle.std.proofs.Common.{◌≡◌, ℕ, ℤ, Bool, true, false, cond, ◌&&◌, ◌||◌, not, List, [], ◌∷◌, ◌++◌, map, filter, Option, None, Some, is_some, is_none, Contains, Ordering, ap, sym, ◌∙◌, refl, subst, inl, inr}
use Rattle.std.proofs.lemmas.Bool.{true≢false}
use Rattle.std.proofs.lemmas.List.Folds.{flat_map-map, list_any-from_Any}
use Rattle.std.proofs.lemmas.Map.Text.{is_eq-slice_cmp}
use Rattle.std.proofs.lemmas.Map.Views.{any-filter_same}
use Rattle.std.specs.Cmp.{tied_itself}
use Rattle.std.specs.FinMap.Entries.{is_some-find}
use Rattle.std.specs.List.{list_any, flat_map}
use Rattle.std.specs.Ordering.{is_eq, eq_by_cmp}
use Rattle.std.specs.Str.{bytes_eq}
use Rattle.job_states.specs.States.{stage_of, is_ready}
use Rattle.job_states.specs.Texts.{is_among}
use Rattle.queue_selector.specs.Groups.{groups_of, polls_all, unpaused_names}
use Rattle.queue_model.specs.Map as finite
use Rattle.queue_model.specs.World.{World, text_cmp}
use Rattle.queue_model.specs.declared.Job.{Job}
use Rattle.queue_model.proofs.Cases.{same_bytes, bytes_same}
use Rattle.queue_model.proofs.Maps.{texts_total, exact_texts}
use Rattle.row_locks.proofs.Membership.{Contains-head, Contains-tail, Contains-map, Contains-filter}
use Rattle.exec_tables.specs.Next.{is_any_ready, is_ready_in, priority_cmp}
use Rattle.plan_model.specs.Orders.{in_order, place_of, placed, ready_jobs, ready_queues, names_in, selected}
use Rattle.job_walks.specs.Left.{past_place, queue_left, every_left, is_unpaused, named_left}
use Rattle.job_walks.proofs.Above.{all_kept}
use Rattle.plan_model.proofs.OrderLemmas.{priority_total}
use Rattle.plan_model.proofs.PlacedJobs.{entry_there}

-- ---- filters

filter_both : {X : Type 0} (p q : X → Bool) (xs : List X) → filter p (filter q xs) ≡ filter (λ x. q x && p x) xs
filter_both p q [] = refl
filter_both p q (x ∷ xs) = by (q x) (filter_both p q xs)
  where
    by : (b : Bool) → filter p (filter q xs) ≡ filter (λ x. q x && p x) xs → filter p (cond b (x ∷ filter q xs) (filter q xs)) ≡ cond (b && p x) (x ∷ filter (λ x. q x && p x) xs) (filter (λ x. q x && p x) xs)
    by true h = ap (λ ys. cond (p x) (x ∷ ys) ys) h
    by false h = h

filter_alike : {X : Type 0} (p q : X → Bool) (xs : List X) → ((x : X) → Contains xs x → p x ≡ q x) → filter p xs ≡ filter q xs
filter_alike p q [] h = refl
filter_alike p q (x ∷ xs) h =
    ap (λ b. cond b (x ∷ filter p xs) (filter p xs)) (h x (Contains-head x xs)) ∙ ap (λ ys. cond (q x) (x ∷ ys) ys) (filter_alike p q xs (λ y c. h y (Contains-tail x xs y c)))

-- ---- at its begin a walk has all left

pub at_begin : (w : World) (p : Job → Bool) → past_place w p None ≡ in_order (filter p (finite.values w.jobs))
at_begin w p = ap (map (λ e. e.1)) (all_kept priority_total (placed (filter p (finite.values w.jobs))).entries)

-- ---- one queue

turned : (a b : List ℕ) → bytes_eq a b ≡ bytes_eq b a
turned a b = by (bytes_eq a b) (bytes_eq b a) refl refl
  where
    by : (x y : Bool) → bytes_eq a b ≡ x → bytes_eq b a ≡ y → x ≡ y
    by true true e f = refl
    by false false e f = refl
    by true false e f = absurd (true≢false (sym (bytes_same b) ∙ ap (λ z. bytes_eq b z) (sym (same_bytes a b e)) ∙ f))
    by false true e f = absurd (true≢false (sym (bytes_same a) ∙ ap (λ z. bytes_eq a z) (sym (same_bytes b a f)) ∙ e))

either_none : (b : Bool) → (b || false) ≡ b
either_none true = refl
either_none false = refl

pub one_queue : (w : World) (queue : List ℕ) → in_order (filter (λ j. is_among (queue ∷ []) j.row.queue) (ready_jobs w)) ≡ queue_left w queue None
one_queue w queue = ap in_order (filter_both (λ (j : Job). is_among (queue ∷ []) j.row.queue) (λ j. is_ready (Some (stage_of j.state))) (finite.values w.jobs)
    ∙ filter_alike (λ (j : Job). is_ready (Some (stage_of j.state)) && is_among (queue ∷ []) j.row.queue) (is_ready_in queue) (finite.values w.jobs)
    (λ j c. ap (λ b. is_ready (Some (stage_of j.state)) && b) (either_none (bytes_eq queue j.row.queue) ∙ turned queue j.row.queue)))
    ∙ sym (at_begin w (is_ready_in queue))

-- ---- the queues of a list in turn

in_turn : (w : World) (names : List (List ℕ)) → flat_map (λ q. queue_left w q None) names ≡ named_left w names None
in_turn w [] = refl
in_turn w (name ∷ names) = refl

queue_by_queue : (w : World) (names : List (List ℕ)) → flat_map (λ name. in_order (filter (λ j. is_among (name ∷ []) j.row.queue) (ready_jobs w))) names ≡ flat_map (λ q. queue_left w q None) names
queue_by_queue w [] = refl
queue_by_queue w (name ∷ names) = λ i. one_queue w name i ++ queue_by_queue w names i

pub selected_by_name : (w : World) (items names : List (List ℕ)) → map (λ name. name ∷ []) names ≡ groups_of items (ready_queues w) (names_in w.paused) → named_left w names None ≡ selected w items
selected_by_name w items names is =
    sym (in_turn w names) ∙ sym (queue_by_queue w names) ∙ sym (flat_map-map (λ (group : List (List ℕ)). in_order (filter (λ j. is_among group j.row.queue) (ready_jobs w))) (λ name. name ∷ []) names)
    ∙ ap (flat_map (λ group. in_order (filter (λ j. is_among group j.row.queue) (ready_jobs w)))) is

-- ---- all queues

-- a name is among the keys of a map exactly where the map has something there
among_names : (m : finite.Map text_cmp (Unit {0})) (name : List ℕ) → is_among (names_in m) name ≡ is_some (finite.get m name)
among_names m name = alike (map (λ e. e.0) m.entries) ∙ sym (is_some-find text_cmp name m.entries)
  where
    alike : (ks : List (List ℕ)) → list_any (λ known. bytes_eq known name) ks ≡ list_any (eq_by_cmp text_cmp name) ks
    alike [] = refl
    alike (k ∷ ks) = λ i. (turned k name ∙ sym (is_eq-slice_cmp name k)) i || alike ks i

-- the queue of a ready job has one
its_queue : (w : World) (j : Job) → Contains (ready_jobs w) j → is_among (ready_queues w) j.row.queue ≡ true
its_queue w j c =
    among_names (finite.from_entries (map (λ (k : Job). (k.row.queue, tt)) (ready_jobs w))) j.row.queue
    ∙ entry_there texts_total (map (λ (k : Job). (k.row.queue, tt)) (ready_jobs w)) (j.row.queue, tt) (Contains-map (λ (k : Job). (k.row.queue, tt)) (ready_jobs w) j c)

not_some : {A : Type 0} (o : Option A) → not (is_some o) ≡ is_none o
not_some None = refl
not_some (Some x) = refl

-- of a name that is among some, whether it is among those of them that aren't paused
left_name : (names paused : List (List ℕ)) (name : List ℕ) → is_among names name ≡ true → is_among (unpaused_names names paused) name ≡ not (is_among paused name)
left_name names paused name there =
    any-filter_same (λ known. bytes_eq known name) (λ n. not (is_among paused n)) (not (is_among paused name)) (λ k e. ap (λ n. not (is_among paused n)) (same_bytes k name e)) names
    ∙ ap (λ b. not (is_among paused name) && b) there ∙ both (not (is_among paused name))
  where
    both : (b : Bool) → (b && true) ≡ b
    both true = refl
    both false = refl

appended : {X : Type 0} (xs : List X) → xs ++ [] ≡ xs
appended [] = refl
appended (x ∷ xs) = ap (λ ys. x ∷ ys) (appended xs)

pub selected_all : (w : World) (items : List (List ℕ)) → polls_all items ≡ true → every_left w None ≡ selected w items
selected_all w items all =
    at_begin w (is_unpaused w) ∙ ap in_order (sym filtered) ∙ sym (appended (in_order (filter (λ j. is_among group j.row.queue) (ready_jobs w))))
    ∙ ap (flat_map (λ group. in_order (filter (λ j. is_among group j.row.queue) (ready_jobs w)))) (sym one_group)
  where
    group : List (List ℕ)
    group = unpaused_names (ready_queues w) (names_in w.paused)

    one_group : groups_of items (ready_queues w) (names_in w.paused) ≡ group ∷ []
    one_group = ap (λ b. cond b (group ∷ []) (map (λ name. name ∷ []) (Rattle.queue_selector.specs.Groups.selected items group))) all

    filtered : filter (λ j. is_among group j.row.queue) (ready_jobs w) ≡ filter (is_unpaused w) (finite.values w.jobs)
    filtered = filter_both (λ (j : Job). is_among group j.row.queue) (λ j. is_ready (Some (stage_of j.state))) (finite.values w.jobs)
        ∙ filter_alike (λ (j : Job). is_ready (Some (stage_of j.state)) && is_among group j.row.queue) (is_unpaused w) (finite.values w.jobs) (λ j c. by j c (is_ready (Some (stage_of j.state))) refl)
      where
        by : (j : Job) → Contains (finite.values w.jobs) j → (b : Bool) → is_ready (Some (stage_of j.state)) ≡ b → (b && is_among group j.row.queue) ≡ (b && is_none (finite.get w.paused j.row.queue))
        by j c false e = refl
        by j c true e =
            left_name (ready_queues w) (names_in w.paused) j.row.queue (its_queue w j (Contains-filter (λ (k : Job). is_ready (Some (stage_of k.state))) (finite.values w.jobs) j c e))
            ∙ ap not (among_names w.paused j.row.queue) ∙ not_some (finite.get w.paused j.row.queue)
