-- Bodies that are no JSON, and the items of arrays.
use Rattle.std.proofs.Common.{◌≡◌, ◌≤◌, ℕ, List, length, Bool, true, false, None, Some, Ok, Err, refl, arith}
use Rattle.std.proofs.lemmas.Bool.Decides.{nat_tests}
use Rattle.std.proofs.lemmas.Str.{IsUtf8-from_is_utf8}
use Rattle.std.specs.Str.{IsUtf8, is_utf8}
use Rattle.serde_json.specs.Read.{read}
use Rattle.serde_json.specs.View.{items_view}
use Rattle.serde_json.specs.declared.value.Value.{Value}
use Rattle.serde_json.proofs.Views.{items_len-items_view}
use Rattle.queue_routes.specs.declared.fault.BodyFault.TheVariants.{NotJson, WrongKind}
use Rattle.queue_routes.specs.declared.fault.BodyMember.{BodyMember}
use Rattle.queue_routes.specs.declared.fault.NoCommand.TheVariants.{Body}
use Rattle.queue_routes.specs.Bodies.{json_of, items_from}

pub json_of-refused : (bytes : List ℕ) (b : Bool) → is_utf8 bytes ≡ b → (IsUtf8 bytes → read bytes ≡ None) → json_of bytes ≡ Err (Body NotJson)
json_of-refused bytes true is none = rw (is, none (IsUtf8-from_is_utf8 bytes is)) refl
json_of-refused bytes false is none = rw is refl

pub items_from-few : (m : BodyMember) (most : ℕ) (vs : List Value) → 1 ≤ length vs → length vs ≤ most → items_from m most (Some (items_view vs)) ≡ Ok (items_view vs)
items_from-few m most vs some few = rw items_len-items_view (grind (arith, nat_tests))

pub items_from-other : (m : BodyMember) (most : ℕ) (vs : List Value) → (1 ≤ length vs → length vs ≤ most → ⊥) → items_from m most (Some (items_view vs)) ≡ Err (Body (WrongKind m))
items_from-other m most vs other = rw items_len-items_view (grind (arith, nat_tests, other))
