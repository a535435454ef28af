-- Values, and the data that they stand for.
use Rattle.std.proofs.Common.{◌≡◌, List, [], ◌∷◌, length, suc, refl, ap}
use Rattle.toml.specs.View.{items_view}
use Rattle.toml.specs.declared.value.Value.{Value}
use Rattle.toml_members.specs.Kind.{items_len}

pub items_len-items_view : (values : List Value) → items_len (items_view values) ≡ length values
items_len-items_view [] = refl
items_len-items_view (value ∷ values) = ap suc (items_len-items_view values)
