-- What is said of passes, as they are made and come back.
use Rattle.std.proofs.Common.{true≢false, ◌≡◌, ℕ, List, [], ◌∷◌, ◌++◌, length, map, option_map, slice_get, Some, sym, ap, ◌∙◌, subst, append_assoc}
use Rattle.std.proofs.lemmas.Option.{slice_get-map}
use Rattle.seat_lock.specs.declared.lock.Pass.TheInside.{Inside}
use Rattle.seat_lock.specs.declared.rows.Origin.{Origin}
use Rattle.seat_lock.specs.declared.rows.SeatRow.{SeatRow}
use Rattle.seat_lock.specs.declared.view.Share.{Share}
use Rattle.seat_lock.specs.Known.{IsKnown}
use Rattle.seat_lock.specs.Passes.{shown, standing, has_turn, IsSound, IsIdle, IsMade}
use Rattle.seat_lock.specs.Shown.{PassView, TableId}
use Rattle.seat_lock.specs.Views.{resting, share_of}
use Rattle.seat_lock.proofs.Sums.{each_more, middle}

module _ {T : Type 0} where
  pub made_sound : (p : Inside T) (m : Share) → p.seat.me ≡ (resting m, []) → IsSound p
  made_sound p m e = record {
    stands = e ∙ sym (ap (λ s. standing (has_turn s.0) s.0) e);
    ticket_is = λ t. absurd (true≢false (sym t ∙ ap (λ s. has_turn s.0) e));
  }

  pub made : (of : TableId) (rows : List SeatRow) (o : Origin) (i : ℕ) (p : Inside T) (m : Share) → p.seat.table_id ≡ of → p.seat.me ≡ (resting m, []) → m.number ≡ i → IsKnown rows o m → IsMade of rows o i (shown p)
  made of rows o i p m t e n k =
      let same : share_of p.seat.me.0 ≡ m = ap (λ s. share_of s.0) e in record {
        number = ap (λ (x : Share). x.number) same ∙ n;
        known = subst (IsKnown rows o) (sym same) k;
        idle = record { of_it = t; no_turn = ap (λ s. has_turn s.0) e };
      }

  -- a pass without the turn has no ticket
  pub idle_rests : (of : TableId) (p : Inside T) (q : PassView) → IsSound p → shown p ≡ q → IsIdle of q → p.seat.me ≡ (resting (share_of p.seat.me.0), [])
  idle_rests of p q s v idle = s.stands ∙ ap (λ b. standing b p.seat.me.0) (ap (λ (z : PassView). z.turn) v ∙ idle.no_turn)

-- a fact of each pass, after one more
pub dealt_more : (P : ℕ → PassView → Type 0) (old new : List PassView) (p : PassView) (n : ℕ) → new ≡ old ++ p ∷ [] → length old ≡ n → ((i : ℕ) (q : PassView) → slice_get old i ≡ Some q → P i q) → P n p
    → (i : ℕ) (q : PassView) → slice_get new i ≡ Some q → P i q
dealt_more P old new p n e len before now i q at = each_more P old p before (subst (λ (k : ℕ). P k p) (sym len) now) i q (sym (ap (λ l. slice_get l i) e) ∙ at)

-- the last of the passes that are left
pub last_left : (all left rest : List PassView) (p : PassView) (front : List PassView) → all ≡ left ++ rest → left ≡ front ++ p ∷ [] → all ≡ front ++ p ∷ rest
last_left all left rest p front e f = e ∙ (ap (λ l. l ++ rest) f ∙ append_assoc front (p ∷ []) rest)

pub left_at : (all front rest : List PassView) (p : PassView) → all ≡ front ++ p ∷ rest → slice_get all (length front) ≡ Some p
left_at all front rest p e = ap (λ l. slice_get l (length front)) e ∙ middle front rest p

abbrev pub shares : List PassView → List Share
shares passes = map (λ (p : PassView). p.share) passes

pub share_at : (passes : List PassView) (back : List Share) (i : ℕ) (p : PassView) → back ≡ shares passes → slice_get passes i ≡ Some p → slice_get back i ≡ Some p.share
share_at passes back i p e at = ap (λ l. slice_get l i) e ∙ (slice_get-map (λ (q : PassView). q.share) passes i ∙ ap (option_map (λ (q : PassView). q.share)) at)
