-- How a proof tells two stores apart: each as the tuple of its parts.
use Rattle.std.specs.Prelude.{◌≡◌, ℕ, List, T}
use Rattle.std.proofs.Common.{refl}
use Rattle.std.specs.Coded.{Coded, code_by, coded×, coded_ℕ, coded_list}
use base.Stored.{coded_unit, coded_via}
use lib.Dec.{T_prop}
use mathlib.Core.HLevel.{Σ_prop_path}
use Rattle.std.specs.Ordering.{nat_cmp}
use Rattle.std.specs.declared.cmp.Ordering.{Ordering}
use Rattle.std.specs.FinMap.Entries.{is_sorted}
use Rattle.semaphores.specs.Semaphore.{Semaphore, semaphore}
use Rattle.queue_model.specs.Map.{Map}
use Rattle.queue_model.specs.World.{World, text_cmp, run_cmp}
use Rattle.queue_model.specs.contracts.Job as job
use Rattle.queue_model.specs.contracts.Process as process
use Rattle.queue_model.specs.contracts.Numbers as numbers
use Rattle.queue_model.specs.declared.Job.{Job}
use Rattle.queue_model.specs.declared.Process.{Process}
use Rattle.queue_model.specs.declared.Numbers.{Numbers}
use Rattle.exec_tables.specs.Store.{Store}
use Rattle.exec_tables.specs.Table.{JobTable, RunTable}

pub same_entries : {K X : Type 0} {R : K → K → Ordering} (m n : Map R X) → m.entries ≡ n.entries → m ≡ n
same_entries {K} {X} {R} m n e =
    let pairs : ◌≡◌ {A = (es : List (K × X)) × T (is_sorted R es)} (m.entries, m.sorted) (n.entries, n.sorted) = Σ_prop_path (λ es. T_prop _) e in
    λ i. record { entries = (pairs i).0; sorted = (pairs i).1 }

abbrev coded_map : {K X : Type 0} (R : K → K → Ordering) → Coded K → Coded X → Coded (Map R X)
coded_map R k x = coded_via (coded_list (coded× k x)) (λ m. m.entries) same_entries

abbrev coded_text : Coded (List ℕ)
coded_text = coded_list coded_ℕ

abbrev coded_run : Coded (List ℕ × ℕ)
coded_run = coded× coded_text coded_ℕ

abbrev coded_semaphore : Coded Semaphore
coded_semaphore = code_by (ℕ × (ℕ × (ℕ × ℕ))) (coded× coded_ℕ (coded× coded_ℕ (coded× coded_ℕ coded_ℕ))) (λ s. (s.generation, (s.limit, (s.free, s.expires)))) (λ p. semaphore p.0 p.1.0 p.1.1.0 p.1.1.1) (λ _. refl)

abbrev pub coded_jobs : Coded JobTable
coded_jobs = code_by (Map nat_cmp Job × ℕ) (coded× (coded_map nat_cmp coded_ℕ job.the_row.coded) coded_ℕ) (λ t. (t.rows, t.room)) (λ p. record { rows = p.0; room = p.1 }) (λ _. refl)

abbrev pub coded_runs : Coded RunTable
coded_runs = code_by (Map text_cmp ℕ × (Map run_cmp ℕ × ℕ)) (coded× (coded_map text_cmp coded_text coded_ℕ) (coded× (coded_map run_cmp coded_run coded_ℕ) coded_ℕ)) (λ t. (t.last, (t.recurring, t.room))) (λ p. record { last = p.0; recurring = p.1.0; room = p.1.1 }) (λ _. refl)

abbrev Parts : Type 0
Parts = Map nat_cmp Job × (Map text_cmp Semaphore × (Map nat_cmp Process × (Map text_cmp (Unit {0}) × (Map text_cmp ℕ × (Map run_cmp ℕ × Numbers)))))

abbrev coded_parts : Coded Parts
coded_parts =
    coded× (coded_map nat_cmp coded_ℕ job.the_row.coded) (coded× (coded_map text_cmp coded_text coded_semaphore) (coded× (coded_map nat_cmp coded_ℕ process.the_row.coded)
    (coded× (coded_map text_cmp coded_text coded_unit) (coded× (coded_map text_cmp coded_text coded_ℕ) (coded× (coded_map run_cmp coded_run coded_ℕ) numbers.the_row.coded)))))

abbrev parts : World → Parts
parts w = (w.jobs, (w.semaphores, (w.processes, (w.paused, (w.last_runs, (w.recurring, w.numbers))))))

abbrev of_parts : Parts → World
of_parts p = record { jobs = p.0; semaphores = p.1.0; processes = p.1.1.0; paused = p.1.1.1.0; last_runs = p.1.1.1.1.0; recurring = p.1.1.1.1.1.0; numbers = p.1.1.1.1.1.1 }

abbrev coded_world : Coded World
coded_world = code_by Parts coded_parts parts of_parts (λ _. refl)

abbrev pub coded_store : Coded Store
coded_store = code_by (World × ℕ) (coded× coded_world coded_ℕ) (λ s. (s.world, s.spare)) (λ p. record { world = p.0; spare = p.1 }) (λ _. refl)
