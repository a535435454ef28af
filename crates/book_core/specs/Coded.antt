-- How a proof tells two plans or two books apart: each as the tuple of its parts.
use Rattle.std.specs.Prelude.{List}
use Rattle.std.proofs.Common.{refl}
use Rattle.std.specs.Coded.{Coded, code_by, coded×, coded_ℕ, coded_list}
use base.Stored.{coded_via}
use Rattle.std.specs.Ordering.{nat_cmp}
use Rattle.job_states.specs.contracts.Answer as answer
use Rattle.job_states.specs.contracts.Mode as mode
use Rattle.job_states.specs.contracts.Row as row
use Rattle.job_states.specs.contracts.Transaction as transaction
use Rattle.job_states.specs.declared.answer.Answer.{Answer}
use Rattle.job_states.specs.declared.row.Mode.{Mode}
use Rattle.job_states.specs.declared.row.Row.{Row}
use Rattle.job_states.specs.declared.transition.Transaction.{Transaction}
use Rattle.queue_model.specs.Map.{Map}
use Rattle.queue_model.specs.World.{World}
use Rattle.queue_model.specs.contracts.Numbers as numbers
use Rattle.queue_model.specs.declared.Numbers.{Numbers}
use Rattle.exec_tables.specs.Stored.{coded_store, same_entries}
use Rattle.exec_tables.specs.Store.{Store}
use Rattle.plan_model.specs.Books.{Book}
use Rattle.plan_model.specs.Plans.{Plan}

abbrev pub coded_plan : Coded Plan
coded_plan =
    code_by (Transaction × (List (Row × Mode) × Answer)) (coded× transaction.the_row.coded (coded× (coded_list (coded× row.the_row.coded mode.the_row.coded)) answer.the_row.coded))
    (λ p. (p.tx, (p.rows, p.answer))) (λ t. record { tx = t.0; rows = t.1.0; answer = t.1.1 }) (λ _. refl)

abbrev coded_plans : Coded (Map nat_cmp Plan)
coded_plans = coded_via (coded_list (coded× coded_ℕ coded_plan)) (λ m. m.entries) same_entries

abbrev coded_world : Coded World
coded_world = code_by Store coded_store (λ w. record { world = w; spare = 0 }) (λ s. s.world) (λ _. refl)

abbrev pub coded_book : Coded Book
coded_book =
    code_by (World × (Map nat_cmp Plan × Numbers)) (coded× coded_world (coded× coded_plans numbers.the_row.coded))
    (λ b. (b.world, (b.open_plans, b.given))) (λ t. record { world = t.0; open_plans = t.1.0; given = t.1.1 }) (λ _. refl)
