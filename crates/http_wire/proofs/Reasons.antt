-- The statuses of replies have short phrases.
use Rattle.std.proofs.Common.{◌≡◌, ◌≤◌, ℕ, Bool, true, false, ◌&&◌, ◌||◌, ◌==◌, nat_le, List, [], ◌∷◌, length, refl, subst, arith}
use Rattle.std.specs.Prelude.{unwrap_or}
use Rattle.std.specs.List.{list_any, list_all}
use Rattle.std.proofs.lemmas.Bool.{eqb-true}
use Rattle.std.proofs.lemmas.Bool.Decides.{nat_tests}
use Rattle.http.specs.StatusCode.{reason_phrase}
use Rattle.http_wire.specs.Reply.{is_reply_status, reply_statuses}

abbrev is_short : ℕ → Bool
is_short n = nat_le (length (unwrap_or (reason_phrase n) [])) 21

both : (a b : Bool) → (a && b) ≡ true → (a ≡ true) × (b ≡ true)
both true b e = (refl, e)
both false b e = cc

-- what all of the numbers are, each is
each_short : (ns : List ℕ) (n : ℕ) → list_any (λ k. k == n) ns ≡ true → list_all is_short ns ≡ true → is_short n ≡ true
each_short [] n any all = cc
each_short (k ∷ ks) n any all = step (k == n) refl any (each_short ks n)
  where
    step : (b : Bool) → (k == n) ≡ b → (b || list_any (λ k. k == n) ks) ≡ true → (list_any (λ k. k == n) ks ≡ true → list_all is_short ks ≡ true → is_short n ≡ true) → is_short n ≡ true
    step true same any rest = subst (λ m. is_short m ≡ true) (eqb-true k n same) (both (is_short k) (list_all is_short ks) all).0
    step false other any rest = rest any (both (is_short k) (list_all is_short ks) all).1

at_most : (m n : ℕ) → nat_le m n ≡ true → m ≤ n
at_most m n e = grind (arith, nat_tests)

pub short_reason : (n : ℕ) → is_reply_status n ≡ true → length (unwrap_or (reason_phrase n) []) ≤ 21
short_reason n is = at_most (length (unwrap_or (reason_phrase n) [])) 21 (each_short reply_statuses n is refl)
