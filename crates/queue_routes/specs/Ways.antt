-- What the code finds of a path: one way at the most.
use Rattle.std.specs.Prelude.{◌≡◌, ◌⊎◌, ℕ, List, [], ◌∷◌, codes, Result, Ok, Err}
use Rattle.queue_routes.specs.declared.fault.NoCommand.{NoCommand}
use Rattle.queue_routes.specs.declared.fault.NoCommand.TheVariants.{NoPath, NoMemory}
use Rattle.queue_routes.specs.declared.routes.Place.{Place}
use Rattle.queue_routes.specs.declared.routes.Place.TheVariants.{Process}
use Rattle.queue_routes.specs.Routes.{Way}

abbrev pub method_of : Place → List ℕ
method_of (Process pid) = codes "DELETE"
method_of place = codes "POST"

abbrev pub HasWays : List Way → Result Place NoCommand → Type 0
HasWays ways (Ok place) = ways ≡ record { method = method_of place; place = place } ∷ []
HasWays ways (Err fault) = (fault ≡ NoMemory) ⊎ ((fault ≡ NoPath) × (ways ≡ []))

abbrev pub process_path : List ℕ → List (List ℕ) → List (List ℕ)
process_path pid rest = [] ∷ codes "processes" ∷ pid ∷ rest

abbrev pub upkeep_path : List ℕ → List (List ℕ)
upkeep_path work = [] ∷ codes "upkeep" ∷ work ∷ []
