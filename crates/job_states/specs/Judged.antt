-- What a definition judges: a value, or the first fault. And what a call gives that judges so, want of memory aside.
use Rattle.std.specs.Prelude.{◌≡◌, ◌⊎◌, Result, Ok, Err}

infixl 10 ◌>>=◌
abbrev pub ◌>>=◌ : {E X Y : Type 0} → Result X E → (X → Result Y E) → Result Y E
(Ok x) >>= f = f x
(Err fault) >>= f = Err fault

-- What a call answered, seen by view, is what the definition gives. The fault for want of memory may come in place of any
-- answer.
abbrev pub GivesAs : {E X Y : Type 0} → E → (X → Y) → Result X E → Result Y E → Type 0
GivesAs memory view (Ok x) given = given ≡ Ok (view x)
GivesAs memory view (Err fault) given = (fault ≡ memory) ⊎ (given ≡ Err fault)

abbrev pub Gives : {E X : Type 0} → E → Result X E → Result X E → Type 0
Gives memory result given = GivesAs memory (λ x. x) result given
