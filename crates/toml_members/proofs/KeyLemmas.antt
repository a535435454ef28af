-- The first key that a table may not have, as a loop finds it.
use Rattle.std.proofs.Common.{◌≡◌, ℕ, true, false, List, Some, None, refl}
use Rattle.toml.specs.Data.{Data, Members, no_members, member}
use Rattle.job_states.specs.Texts.{is_among}
use Rattle.toml_members.specs.Kind.{first_unknown}

pub goes_on : (keys : List (List ℕ)) (key : List ℕ) (d : Data) (ms : Members) → is_among keys key ≡ true → first_unknown keys (member key d ms) ≡ first_unknown keys ms
unfolding first_unknown
goes_on keys key d ms known = rw known refl

pub stops : (keys : List (List ℕ)) (key : List ℕ) (d : Data) (ms : Members) → is_among keys key ≡ false → first_unknown keys (member key d ms) ≡ Some key
unfolding first_unknown
stops keys key d ms unknown = rw unknown refl

pub is_done : (keys : List (List ℕ)) → first_unknown keys no_members ≡ None
unfolding first_unknown
is_done keys = refl
