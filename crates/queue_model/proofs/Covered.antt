-- What a footprint has that covers what is held, part by part.
use Rattle.std.proofs.Common.{◌≡◌, ⊎_elim, ℕ, List, ◌++◌, Option, Some, Contains, sym, refl, subst, arith, append_assoc}
use Rattle.std.proofs.lemmas.List.Elements.{Contains-append_left, Contains-append_right}
use Rattle.job_states.specs.declared.row.Mode.{Mode}
use Rattle.job_states.specs.declared.row.Mode.TheVariants.{Alone}
use Rattle.job_states.specs.declared.row.Row.{Row}
use Rattle.job_states.specs.declared.row.Row.TheVariants.{Job, Key, Process, Queue, Task}
use Rattle.queue_model.specs.Footprints.{IsHeldIn, Covers}
use Rattle.queue_model.specs.Held.{Held, held_rows, row_of}

the_row : {K : Type 0} (row : K → Row × Mode) (o : Option K) (k : K) → o ≡ Some k → Contains (row_of row o) (row k)
the_row row o k e = subst (λ x. Contains (row_of row x) (row k)) (sym e) (0, omega arith, refl)

alone : (footprint : List (Row × Mode)) (r : Row) → IsHeldIn footprint r Alone → Contains footprint (r, Alone)
alone footprint r h = ⊎_elim (λ c. c) (λ c. c) h

pub record Parts (footprint : List (Row × Mode)) (h : Held) : Type 0 where
  pub job : (id : ℕ) → h.job ≡ Some id → Contains footprint (Job id, Alone)
  pub key : (k : List ℕ) → h.key ≡ Some k → Contains footprint (Key k, Alone)
  pub process : (pid : ℕ) (mode : Mode) → h.process ≡ Some (pid, mode) → IsHeldIn footprint (Process pid) mode
  pub queue : (q : List ℕ) → h.queue ≡ Some q → Contains footprint (Queue q, Alone)
  pub task : (t : List ℕ) → h.task ≡ Some t → Contains footprint (Task t, Alone)

module _ (h : Held) where
  abbrev jobs : List (Row × Mode)
  jobs = row_of (λ id. (Job id, Alone)) h.job

  abbrev keys : List (Row × Mode)
  keys = row_of (λ key. (Key key, Alone)) h.key

  abbrev processes : List (Row × Mode)
  processes = row_of (λ process. (Process process.0, process.1)) h.process

  abbrev queues : List (Row × Mode)
  queues = row_of (λ queue. (Queue queue, Alone)) h.queue

  abbrev tasks : List (Row × Mode)
  tasks = row_of (λ task. (Task task, Alone)) h.task

  in_turn : held_rows h ≡ jobs ++ (keys ++ (processes ++ (queues ++ tasks)))
  in_turn = grind (arith, append_assoc)

  among : (r : Row × Mode) → Contains (jobs ++ (keys ++ (processes ++ (queues ++ tasks)))) r → Contains (held_rows h) r
  among r c = subst (λ list. Contains list r) (sym in_turn) c

  pub parts : (footprint : List (Row × Mode)) → Covers footprint h → Parts footprint h
  parts footprint covers = record {
    job = λ id e. let r : Row × Mode = (Job id, Alone) in alone footprint (Job id) (covers (Job id) Alone (among r (Contains-append_left jobs _ r (the_row (λ x. (Job x, Alone)) h.job id e))));
    key = λ k e. let r : Row × Mode = (Key k, Alone) in alone footprint (Key k) (covers (Key k) Alone (among r (Contains-append_right jobs _ r (Contains-append_left keys _ r (the_row (λ x. (Key x, Alone)) h.key k e)))));
    process = λ pid mode e. let r : Row × Mode = (Process pid, mode) in covers (Process pid) mode (among r (Contains-append_right jobs _ r (Contains-append_right keys _ r (Contains-append_left processes _ r (the_row (λ x. (Process x.0, x.1)) h.process (pid, mode) e)))));
    queue = λ q e. let r : Row × Mode = (Queue q, Alone) in alone footprint (Queue q) (covers (Queue q) Alone (among r (Contains-append_right jobs _ r (Contains-append_right keys _ r (Contains-append_right processes _ r (Contains-append_left queues _ r (the_row (λ x. (Queue x, Alone)) h.queue q e)))))));
    task = λ t e. let r : Row × Mode = (Task t, Alone) in alone footprint (Task t) (covers (Task t) Alone (among r (Contains-append_right jobs _ r (Contains-append_right keys _ r (Contains-append_right processes _ r (Contains-append_right queues tasks r (the_row (λ x. (Task x, Alone)) h.task t e)))))));
  }
