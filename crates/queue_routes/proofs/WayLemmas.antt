-- From what a path leads to, to the place by a method.
use Rattle.std.proofs.Common.{◌≡◌, ◌⊎◌, ℕ, List, Bool, true, false, not, refl, inl, inr, Ok, Err}
use Rattle.std.specs.Str.{bytes_eq}
use Rattle.queue_routes.specs.declared.fault.NoCommand.{NoCommand}
use Rattle.queue_routes.specs.declared.fault.NoCommand.TheVariants.{OtherMethod, NoMemory}
use Rattle.queue_routes.specs.declared.routes.Place.{Place}
use Rattle.queue_routes.specs.Routes.{Way, place_by}
use Rattle.queue_routes.specs.Ways.{HasWays, method_of}

not-true : (b : Bool) → true ≡ not b → b ≡ false
not-true true is = cc
not-true false is = refl

not-false : (b : Bool) → false ≡ not b → b ≡ true
not-false true is = refl
not-false false is = cc

pub place_by-method : (method : List ℕ) (ways : List Way) (place : Place) → HasWays ways (Ok place) → false ≡ not (bytes_eq (method_of place) method) → place_by method ways ≡ Ok place
place_by-method method ways place has same = rw (has, not-false _ same) refl

pub place_by-other : (method : List ℕ) (ways : List Way) (place : Place) → HasWays ways (Ok place) → true ≡ not (bytes_eq (method_of place) method) → place_by method ways ≡ Err OtherMethod
place_by-other method ways place has other = rw (has, not-true _ other) refl

pub place_by-none : (method : List ℕ) (ways : List Way) (fault : NoCommand) → HasWays ways (Err fault) → (fault ≡ NoMemory) ⊎ (place_by method ways ≡ Err fault)
place_by-none method ways fault has = elim has [ inl memory ↦ inl memory | inr none ↦ inr (rw (none.1, none.0) refl) ]
