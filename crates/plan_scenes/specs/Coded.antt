-- How a proof tells two scenes apart: each as the tuple of its parts.
use Rattle.std.specs.Prelude.{ℕ}
use Rattle.std.proofs.Common.{refl}
use Rattle.std.specs.Coded.{Coded, code_by, coded×, coded_ℕ}
use Rattle.book_core.specs.Coded.{coded_book}
use Rattle.plan_model.specs.Books.{Book}
use Rattle.plan_model.specs.Scenes.{Scene}
use Rattle.queue_config.specs.contracts.Config as config
use Rattle.queue_config.specs.declared.config.Config.{Config}

abbrev pub coded_scene : Coded Scene
coded_scene =
    code_by (Book × (Config × ℕ)) (coded× coded_book (coded× config.the_row.coded coded_ℕ))
    (λ s. (s.book, (s.settings, s.moment))) (λ t. record { book = t.0; settings = t.1.0; moment = t.1.1 }) (λ _. refl)
