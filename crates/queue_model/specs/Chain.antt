-- Steps of which each may give nothing, one after another, as `do` writes them.
use Rattle.std.specs.Prelude.{Bool, true, false, Option, None, Some}

infixl 10 ◌>>=◌
infixl 10 ◌>>◌
abbrev pub ◌>>=◌ : {A B : Type 0} → Option A → (A → Option B) → Option B
◌>>=◌ None next = None
◌>>=◌ (Some x) next = next x

abbrev pub ◌>>◌ : {A B : Type 0} → Option A → Option B → Option B
◌>>◌ None next = None
◌>>◌ (Some x) next = next

-- goes on where the test holds
abbrev pub when : Bool → Option (Unit {0})
when true = Some tt
when false = None
