-- How a proof tells two engines apart: each as the tuple of its parts.
use Rattle.std.proofs.Common.{refl}
use Rattle.std.specs.Coded.{Coded, code_by, coded×}
use Rattle.book_core.specs.Coded.{coded_book}
use Rattle.journal_keeper.specs.Stands.{Keeper}
use Rattle.journal_keeper.specs.contracts.Journal as journal
use Rattle.plan_model.specs.Books.{Book}
use Rattle.queue_config.specs.contracts.Config as config
use Rattle.queue_config.specs.declared.config.Config.{Config}
use Rattle.queue_engine.specs.Running.{Store, store}

abbrev pub coded_store : Coded Store
coded_store =
    code_by (Config × (Book × Keeper)) (coded× config.the_row.coded (coded× coded_book journal.the_row.coded))
    (λ s. (s.settings, (s.book, s.journal))) (λ t. store t.0 t.1.0 t.1.1) (λ _. refl)
