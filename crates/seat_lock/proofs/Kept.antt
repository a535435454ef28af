-- Each step keeps the rule of the lock.
use Rattle.std.proofs.Common.{◌≡◌, ◌≢◌, ◌⊎◌, ℕ, zero, suc, ◌+◌, ◌-◌, ◌%◌, ◌^◌, ◌<◌, ◌≤◌, List, [], ◌∷◌, ◌++◌, map, length, get_or, set, drop, slice_get, Option, Some, sym, refl, ap, ◌∙◌, subst, ⊎_elim, inl, inr, length-append, arith}
use mathlib.Core.Option.{some, none, some-injective, some-ne-none}
use mathlib.Core.Option as maybe
use lib.ListN.{get_elem?}
use lib.Seq.{set-get_or}
use Rattle.std.proofs.lemmas.Bool.{cases_eq}
use Rattle.std.proofs.lemmas.Option.{slice_get_within}
use Rattle.atomic_table.specs.Table.{State, Me, Step, step, Act, Valid, stepped, carried_after, keeps, takes, gives, Allows, Splits, Joins, opening, Final, Seen}
use Rattle.atomic_table.proofs.Lists.{set_here, set_else, set_again, at_longer, at_last, at_snoc, one_turn}
use Rattle.seat_lock.specs.declared.rows.SeatRow.{SeatRow}
use Rattle.seat_lock.specs.declared.rows.Origin.{Origin}
use Rattle.seat_lock.specs.declared.view.Share.{Share}
use Rattle.seat_lock.specs.declared.view.View.{View}
use Rattle.seat_lock.specs.Known.{IsKnown, IsGiveable, with_row}
use Rattle.seat_lock.specs.Passes.{IsEnd}
use Rattle.seat_lock.specs.Rule.{times, spare, Fits, IsFree, IsTaken, Kept}
use Rattle.seat_lock.specs.Shown.{ClosingView, TableId}
use Rattle.seat_lock.specs.Steps.{drew, looked, handed}
use Rattle.seat_lock.specs.Views.{holding, resting, waiting, having, numbered, starting, cut_left, cut_right, joined, spent, share_of}
use Rattle.seat_lock.proofs.Sums.{same_some, total_set, total_snoc, one_of, two_of, each_set, apart, inside, tail_of, shorter, nearer, there, times_here, single, next_mod, numbered_at, length_numbered, numbered_once, drops}

module _ {T : Type 0} (rows_of : T → List SeatRow) (origin_of : T → Origin) (key : T) where
  abbrev St : Type 0
  St = State (Option T) View

  abbrev Rule : St → Type 0
  Rule = Kept rows_of origin_of key

  abbrev o : Origin
  o = origin_of key

  abbrev Slot : List SeatRow → St → Type 0
  Slot rows s = IsFree rows_of origin_of rows o s ⊎ IsTaken s

  -- the slot after a change of a view that neither had the turn nor has it
  slot_set : (words' : List ℕ) (rows : List SeatRow) (s : St) (id : ℕ) (v w : View) → get_elem? s.views id ≡ some v → v.stage ≢ 2 → w.stage ≢ 2 → Slot rows s
      → Slot rows record { words = words'; homes = s.homes; views = set s.views id w }
  slot_set words' rows s id v w at nv nw slot = ⊎_elim (λ (h : IsFree rows_of origin_of rows o s). inl record {
    state = h.state;
    home = h.home;
    rows_are = h.rows_are;
    origin_is = h.origin_is;
    nobody_has = each_set (λ j u. u.stage ≢ 2) s.views id w nw (λ j u n a. h.nobody_has j u a);
  }) (λ (h : IsTaken s). inr record {
    out = h.out;
    holder = h.holder;
    view = h.view;
    there = set_else s.views id h.holder w (λ e. apart s.views id h.holder v h.view at h.there (λ st. nv (st ∙ h.has)) (sym e)) ∙ h.there;
    has = h.has;
  }) slot

  -- the same after one more view
  slot_more : (rows : List SeatRow) (s : St) (w : View) → w.stage ≢ 2 → Slot rows s → Slot rows record { words = s.words; homes = s.homes; views = s.views ++ w ∷ [] }
  slot_more rows s w nw slot = ⊎_elim (λ (h : IsFree rows_of origin_of rows o s). inl record {
    state = h.state;
    home = h.home;
    rows_are = h.rows_are;
    origin_is = h.origin_is;
    nobody_has = λ j u a. ⊎_elim (λ (b : get_elem? s.views j ≡ some u). h.nobody_has j u b) (λ (e : w ≡ u). subst (λ (z : View). z.stage ≢ 2) e nw) (at_snoc s.views w u j a);
  }) (λ (h : IsTaken s). inr record {
    out = h.out;
    holder = h.holder;
    view = h.view;
    there = at_longer s.views (w ∷ []) h.holder h.view h.there;
    has = h.has;
  }) slot

  -- a load that changes nothing
  unmoved : (s : St) (id : ℕ) (v : View) → get_elem? s.views id ≡ some v → (i : ℕ) → Rule s → Rule record { words = set s.words i (get_or s.words i 0); homes = s.homes; views = set s.views id v }
  unmoved s id v at i k = subst (λ (z : List ℕ × List View). Rule record { words = z.0; homes = s.homes; views = z.1 }) (λ c. (sym (set-get_or s.words i 0) c, sym (set_again s.views id v at) c)) k

  two_not_0 : (n : ℕ) → n ≡ 0 → n ≢ 2
  two_not_0 n a b = omega arith

  two_not_1 : (n : ℕ) → n ≡ 1 → n ≢ 2
  two_not_1 n a b = omega arith

  -- a view without a ticket fits where its shares do
  rests : (served : ℕ) (queue : List ℕ) (rows : List SeatRow) (j : ℕ) (ms : List Share) → ((i : ℕ) (m : Share) → slice_get ms i ≡ Some m → IsKnown rows o m) → Fits served queue rows o j (holding ms)
  rests served queue rows j ms own = record { own = own; lined = λ l. absurd (omega arith); turn = λ e. absurd (two_not_0 0 refl e) }

  pub starts : (words : List ℕ) (xs : List (Option T)) → words ≡ 0 ∷ 0 ∷ [] → xs ≡ Some key ∷ [] → length (rows_of key) ≤ 64 → Rule (opening words xs (starting rows_of origin_of key))
  starts words xs zeros one few = record {
    served = 0;
    queue = [];
    rows = rows_of key;
    words_are = zeros;
    each = λ j v a. at_first j v a;
    room = (let h = length_numbered o 0 (rows_of key) in omega arith);
    few = few;
    once = λ i. (let h = numbered_once o i 0 (rows_of key) in omega arith);
    as_many = refl;
    slot = inl record {
      state = key;
      home = ap (map some) one;
      rows_are = refl;
      origin_is = refl;
      nobody_has = λ j v a. none_has j v a;
    };
  }
    where
      fits : Fits 0 [] (rows_of key) o 0 (starting rows_of origin_of key)
      fits = rests 0 [] (rows_of key) 0 (numbered o 0 (rows_of key)) (λ i m e. let h = numbered_at o 0 (rows_of key) i m e in
          record { row = ap (slice_get (rows_of key)) (let n = h.0 in omega arith) ∙ h.1; origin = h.2 })

      at_first : (j : ℕ) (v : View) → get_elem? (starting rows_of origin_of key ∷ []) j ≡ some v → Fits 0 [] (rows_of key) o j v
      at_first zero v a = subst (Fits 0 [] (rows_of key) o 0) (some-injective (starting rows_of origin_of key) v a) fits
      at_first (suc j) v a = absurd (some-ne-none v (sym a))

      none_has : (j : ℕ) (v : View) → get_elem? (starting rows_of origin_of key ∷ []) j ≡ some v → v.stage ≢ 2
      none_has zero v a = subst (λ (z : View). z.stage ≢ 2) (some-injective (starting rows_of origin_of key) v a) (two_not_0 0 refl)
      none_has (suc j) v a = absurd (some-ne-none v (sym a))

  pub draws : (slots id : ℕ) (m : Share) (st : Step (Option T)) → Allows Rule slots id (resting m, []) 0 (λ n. (n + 1) % 2 ^ 64) (drew st (resting m, []))
  draws slots id m st s k deep at small =
      let t : ℕ = k.served + length k.queue in
      let w : View = waiting t m in
      let me : Fits k.served k.queue k.rows o id (resting m) = k.each id (resting m) at in
      let longer = length-append k.queue (id ∷ []) in (
        w,
        keeps,
        tt,
        record {
          served = k.served;
          queue = k.queue ++ id ∷ [];
          rows = k.rows;
          words_are = ap (λ (ws : List ℕ). set ws 0 ((get_or ws 0 0 + 1) % 2 ^ 64)) k.words_are
              ∙ ap (λ (n : ℕ). n ∷ k.served % 2 ^ 64 ∷ []) (sym (next_mod t (k.served + length (k.queue ++ id ∷ [])) (omega arith)));
          each = each_set (Fits k.served (k.queue ++ id ∷ []) k.rows o) s.views id w record {
            own = me.own;
            lined = λ l. (omega arith, at_last k.queue id (t - k.served) (omega arith));
            turn = λ e. absurd (two_not_1 1 refl e);
          } (λ j v n a. let f = k.each j v a in record {
            own = f.own;
            lined = λ l. ((f.lined l).0, at_longer k.queue (id ∷ []) (v.ticket - k.served) j (f.lined l).1);
            turn = f.turn;
          });
          room = (let h = total_set spare s.views id (resting m) w at in let r = k.room in omega arith);
          few = k.few;
          once = λ i. (let h = total_set (λ v. times i v.shares) s.views id (resting m) w at in let r = k.once i in omega arith);
          as_many = k.as_many;
          slot = slot_set (set s.words 0 ((get_or s.words 0 0 + 1) % 2 ^ 64)) k.rows s id (resting m) w at (two_not_0 0 refl) (two_not_1 1 refl) k.slot;
        },
        (t, ap (λ (ws : List ℕ). get_or ws 0 0) k.words_are, refl),
      )

  -- whose ticket is served is the first in the queue
  in_front : (s : St) (k : Rule s) (i j : ℕ) (v w : View) → get_elem? s.views i ≡ some v → get_elem? s.views j ≡ some w → 0 < v.stage → 0 < w.stage → v.ticket ≡ k.served → w.ticket ≡ k.served → i ≡ j
  in_front s k i j v w a b lv lw tv tw =
      let p = ((k.each i v a).lined lv).1 in
      let q = ((k.each j w b).lined lw).1 in
      some-injective i j (sym p ∙ (ap (λ (n : ℕ). get_elem? k.queue (n - k.served)) (tv ∙ sym tw) ∙ q))

  -- what a step owes at one state
  abbrev Goes : St → ℕ → ℕ → ℕ → List (ℕ × Option T) → (Me (Option T) View → Type 0) → Type 0
  Goes s i n id c then = (w : View) × (a : Act (Option T)) × Valid s.homes c a × Rule (stepped s i n id c w a) × then (w, carried_after c a)

  takes_it : (s : St) (k : Rule s) (id t : ℕ) (m : Share) (st : Step (Option T)) → get_elem? s.views id ≡ some (waiting t m) → t ≡ k.served → get_or s.words 1 0 ≡ t % 2 ^ 64
      → IsFree rows_of origin_of k.rows o s → Goes s 1 (get_or s.words 1 0) id [] (looked rows_of origin_of st (waiting t m, []) (get_or s.words 1 0))
  takes_it s k id t m st at now found h =
      let x : T = h.state in
      let w : View = having t (rows_of x) m in
      let me : Fits k.served k.queue k.rows o id (waiting t m) = k.each id (waiting t m) at in
      let own = me.own 0 m refl in (
        w,
        takes 0 (Some x),
        ap (λ (hs : List (maybe.Option (Option T))). get_elem? hs 0) h.home,
        record {
          served = k.served;
          queue = k.queue;
          rows = k.rows;
          words_are = set-get_or s.words 1 0 ∙ k.words_are;
          each = each_set (Fits k.served k.queue k.rows o) s.views id w record {
            own = me.own;
            lined = λ l. me.lined (omega arith);
            turn = λ e. (now, h.rows_are);
          } (λ j v n a. k.each j v a);
          room = (let e = total_set spare s.views id (waiting t m) w at in let r = k.room in omega arith);
          few = k.few;
          once = λ i. (let e = total_set (λ v. times i v.shares) s.views id (waiting t m) w at in let r = k.once i in omega arith);
          as_many = k.as_many;
          slot = inr record {
            out = ap (λ (hs : List (maybe.Option (Option T))). set hs 0 none) h.home;
            holder = id;
            view = w;
            there = set_here s.views id w (inside s.views id (waiting t m) at);
            has = refl;
          };
        },
        (λ _. (x, refl, record { row = ap (λ rs. slice_get rs m.number) h.rows_are ∙ own.row; origin = h.origin_is ∙ own.origin }), λ n. absurd (n found)),
      )

  pub looks : (slots id t : ℕ) (m : Share) (st : Step (Option T)) → Allows Rule slots id (waiting t m, []) 1 (λ n. n) (looked rows_of origin_of st (waiting t m, []))
  looks slots id t m st s k deep at small =
      let me : Fits k.served k.queue k.rows o id (waiting t m) = k.each id (waiting t m) at in
      let found : get_or s.words 1 0 ≡ k.served % 2 ^ 64 = ap (λ (ws : List ℕ). get_or ws 1 0) k.words_are in
      ⊎_elim
      (λ (e : get_or s.words 1 0 ≡ t % 2 ^ 64).
      let line = me.lined (omega arith) in
      let low : k.served ≤ t = line.0 in
      let high : t - k.served < length k.queue = inside k.queue (t - k.served) id line.1 in
      let now : t ≡ k.served = sym (one_turn k.served t (2 ^ 64) low (let r = k.room in let f = k.few in omega arith) (sym found ∙ e)) in
      ⊎_elim (λ (h : IsFree rows_of origin_of k.rows o s). takes_it s k id t m st at now e h)
      (λ (h : IsTaken s).
      let f = k.each h.holder h.view h.there in
      let same : id ≡ h.holder = in_front s k id h.holder (waiting t m) h.view at h.there (omega arith) (let st = h.has in omega arith) now (f.turn h.has).0 in
      absurd (apart s.views id h.holder (waiting t m) h.view at h.there (λ z. two_not_1 1 refl (z ∙ h.has)) same))
      k.slot)
      (λ (n : get_or s.words 1 0 ≢ t % 2 ^ 64). (waiting t m, keeps, tt, unmoved s id (waiting t m) at 1 k, (λ e. absurd (n e), λ _. refl)))
      (cases_eq (get_or s.words 1 0) (t % 2 ^ 64))

  gives_it : (s : St) (k : Rule s) (id t new : ℕ) (known : List SeatRow) (m : Share) (x : T) (r : SeatRow) (st : Step (Option T)) → get_elem? s.views id ≡ some (having t known m)
      → new ≡ (t % 2 ^ 64 + 1) % 2 ^ 64 → IsGiveable (rows_of x) (origin_of x) known m → slice_get (rows_of x) m.number ≡ Some r
      → IsTaken s → Goes s 1 new id ((0, Some x) ∷ []) (handed rows_of st (having t known m, (0, Some x) ∷ []) new)
  gives_it s k id t new known m x r st at next changed is h =
      let v : View = having t known m in
      let w : View = resting (with_row m r) in
      let me : Fits k.served k.queue k.rows o id v = k.each id v at in
      let mine = me.turn refl in
      let own = me.own 0 m refl in
      let front : get_elem? k.queue 0 ≡ some id = ap (get_elem? k.queue) (let e : t ≡ k.served = mine.0 in let z : 0 ≡ t - k.served = omega arith in z) ∙ (me.lined (omega arith)).1 in
      let short = shorter k.queue id front in
      let later : (j : ℕ) (u : View) → j ≢ id → get_elem? s.views j ≡ some u → 0 < u.stage → u.ticket ≢ k.served =
      λ j u n a l e. n (in_front s k j id u v a at l (omega arith) e mine.0) in
      let others : (j : ℕ) (u : View) → j ≢ id → get_elem? s.views j ≡ some u → u.stage ≢ 2 =
      λ j u n a e. later j u n a (omega arith) ((k.each j u a).turn e).0 in (
        w,
        gives,
        tt,
        record {
          served = k.served + 1;
          queue = tail_of k.queue;
          rows = rows_of x;
          words_are = ap (λ (ws : List ℕ). set ws 1 new) k.words_are
              ∙ (λ c. (ap (λ (n : ℕ). n % 2 ^ 64) (let l : k.served + length k.queue ≡ (k.served + 1) + length (tail_of k.queue) = omega arith in l) c)
              ∷ (next ∙ (sym (next_mod t (t + 1) refl) ∙ ap (λ (n : ℕ). (n + 1) % 2 ^ 64) mine.0)) c ∷ []);
          each = each_set (Fits (k.served + 1) (tail_of k.queue) (rows_of x) o) s.views id w
              (rests (k.served + 1) (tail_of k.queue) (rows_of x) id (with_row m r ∷ []) (single (IsKnown (rows_of x) o) (with_row m r) record { row = is; origin = own.origin }))
              (λ j u n a. let f = k.each j u a in record {
                own = λ i z e.
                    let other : z.number ≢ m.number = λ same.
                    let one : 1 ≤ times m.number u.shares = subst (λ (q : ℕ). 1 ≤ times q u.shares) same (times_here u.shares i z e) in
                    let too : 1 ≤ times m.number (m ∷ []) = times_here (m ∷ []) 0 m refl in
                    let both = two_of (λ q. times m.number q.shares) s.views id j v u (λ e. n (sym e)) at a in
                    let most = k.once m.number in
                    omega arith in
                    record { row = changed.others z.number other ∙ (ap (λ rs. slice_get rs z.number) mine.1 ∙ (f.own i z e).row); origin = (f.own i z e).origin };
                lined = λ l.
                    let line = f.lined l in
                    let low : k.served ≤ u.ticket = line.0 in
                    let not_first : u.ticket ≢ k.served = later j u n a l in
                    (omega arith, nearer k.queue (u.ticket - (k.served + 1)) (u.ticket - k.served) (omega arith) ∙ line.1);
                turn = λ e. absurd (others j u n a e);
              });
          room = (let e = total_set spare s.views id v w at in let c = k.room in omega arith);
          few = k.few;
          once = λ i. (let e = total_set (λ q. times i q.shares) s.views id v w at in let c = k.once i in omega arith);
          as_many = changed.as_many ∙ (ap length mine.1 ∙ k.as_many);
          slot = inl record {
            state = x;
            home = ap (λ (hs : List (maybe.Option (Option T))). set hs 0 (some (Some x))) h.out;
            rows_are = refl;
            origin_is = changed.origin ∙ sym own.origin;
            nobody_has = each_set (λ j u. u.stage ≢ 2) s.views id w (two_not_0 0 refl) others;
          };
        },
        λ y e. let same : x ≡ y = same_some x y (ap (λ (c : List (ℕ × Option T)). second x c) e) in (r, subst (λ (z : T). slice_get (rows_of z) m.number ≡ Some r) same is, refl),
      )
    where
      second : T → List (ℕ × Option T) → Option T
      second d [] = Some d
      second d (c ∷ cs) = c.1

  pub hands : (slots id t new : ℕ) (known : List SeatRow) (m : Share) (x : T) (st : Step (Option T)) → new ≡ (t % 2 ^ 64 + 1) % 2 ^ 64 → IsGiveable (rows_of x) (origin_of x) known m
      → Allows Rule slots id (having t known m, (0, Some x) ∷ []) 1 (λ _. new) (λ _. handed rows_of st (having t known m, (0, Some x) ∷ []) new)
  hands slots id t new known m x st next changed s k deep at small =
      let me : Fits k.served k.queue k.rows o id (having t known m) = k.each id (having t known m) at in
      let within = slice_get_within k.rows m.number m.row (me.own 0 m refl).row in
      let as_long : length (rows_of x) ≡ length k.rows = changed.as_many ∙ ap length (me.turn refl).1 in
      let r = there (rows_of x) m.number (omega arith) in
      ⊎_elim (λ (h : IsFree rows_of origin_of k.rows o s). absurd (h.nobody_has id (having t known m) at refl))
      (λ (h : IsTaken s). gives_it s k id t new known m x r.0 st at next changed r.1 h)
      k.slot

  pub splits : (id : ℕ) (m : Share) (ms : List Share) → Splits Rule id (holding (m ∷ ms)) (holding ms) (resting m)
  splits id m ms s k at =
      let me : Fits k.served k.queue k.rows o id (holding (m ∷ ms)) = k.each id (holding (m ∷ ms)) at in
      let v : View = holding (m ∷ ms) in
      let w : View = holding ms in
      let mid : St = record { words = s.words; homes = s.homes; views = set s.views id w } in record {
        served = k.served;
        queue = k.queue;
        rows = k.rows;
        words_are = k.words_are;
        each = λ j u a. ⊎_elim (λ (b : get_elem? (set s.views id w) j ≡ some u).
            each_set (Fits k.served k.queue k.rows o) s.views id w (rests k.served k.queue k.rows id ms (λ i z e. me.own (suc i) z e)) (λ j u n a. k.each j u a) j u b)
            (λ (e : resting m ≡ u). subst (Fits k.served k.queue k.rows o j) e (rests k.served k.queue k.rows j (m ∷ []) (single (IsKnown k.rows o) m (me.own 0 m refl)))) (at_snoc (set s.views id w) (resting m) u j a);
        room = (let a = total_snoc spare (set s.views id w) (resting m) in let b = total_set spare s.views id v w at in let c = k.room in omega arith);
        few = k.few;
        once = λ i. (let a = total_snoc (λ q. times i q.shares) (set s.views id w) (resting m) in let b = total_set (λ q. times i q.shares) s.views id v w at in let c = k.once i in omega arith);
        as_many = k.as_many;
        slot = slot_more k.rows mid (resting m) (two_not_0 0 refl) (slot_set s.words k.rows s id v w at (two_not_0 0 refl) (two_not_0 0 refl) k.slot);
      }

  pub joins : (id other : ℕ) (ms : List Share) (m : Share) → Joins Rule id (holding ms) other (resting m) (holding (m ∷ ms)) spent
  joins id other ms m s k at apart_ids at_other =
      let v : View = holding ms in
      let w : View = resting m in
      let b : View = holding (m ∷ ms) in
      let before : get_elem? s.views other ≡ some w = sym (set_else s.views id other b apart_ids) ∙ at_other in
      let me : Fits k.served k.queue k.rows o id v = k.each id v at in
      let it : Fits k.served k.queue k.rows o other w = k.each other w before in
      let mid : St = record { words = s.words; homes = s.homes; views = set s.views id b } in record {
        served = k.served;
        queue = k.queue;
        rows = k.rows;
        words_are = k.words_are;
        each = each_set (Fits k.served k.queue k.rows o) (set s.views id b) other spent (rests k.served k.queue k.rows other [] (λ i z e. absurd (let h = slice_get_within [] i z e in omega arith)))
            (λ j u n a. each_set (Fits k.served k.queue k.rows o) s.views id b (rests k.served k.queue k.rows id (m ∷ ms) (more me it)) (λ i x l e. k.each i x e) j u a);
        room = (let a = total_set spare (set s.views id b) other w spent at_other in let c = total_set spare s.views id v b at in let d = k.room in omega arith);
        few = k.few;
        once = λ i. (let a = total_set (λ q. times i q.shares) (set s.views id b) other w spent at_other in let c = total_set (λ q. times i q.shares) s.views id v b at in let d = k.once i in omega arith);
        as_many = k.as_many;
        slot = slot_set s.words k.rows mid other w spent at_other (two_not_0 0 refl) (two_not_0 0 refl) (slot_set s.words k.rows s id v b at (two_not_0 0 refl) (two_not_0 0 refl) k.slot);
      }
    where
      more : {served : ℕ} {queue : List ℕ} {rows : List SeatRow} → Fits served queue rows o id (holding ms) → Fits served queue rows o other (resting m)
          → (i : ℕ) (z : Share) → slice_get (m ∷ ms) i ≡ Some z → IsKnown rows o z
      more me it zero z e = it.own 0 z e
      more me it (suc i) z e = me.own i z e

  -- a lock of the shares ms that is being closed
  abbrev closing_of : TableId → List Share → ClosingView
  closing_of of ms = record { of = of; seats = length (rows_of key); origin = origin_of key; back = ms }

  -- the slot at the end has a state
  abbrev Last : TableId → List Share → Option T → Type 0
  Last of ms slot = (x : T) × (slot ≡ Some x) × IsEnd (closing_of of ms) (rows_of x) (origin_of x)

  closes : (of : TableId) (id : ℕ) (ms : List Share) (ws : List ℕ) (xs : List (Option T)) (slot : Option T) → length ms ≡ length (rows_of key) → Final (Seen Rule id (holding ms)) ws xs → get_elem? xs 0 ≡ some slot → Last of ms slot
  closes of id ms ws xs slot all f is =
      let s = f.0 in
      let k : Rule s = f.1.0 in
      let at = f.1.1 in
      let one = one_of spare s.views id (holding ms) at in
      let r = k.room in
      let none_waits : length k.queue ≡ 0 = omega arith in
      ⊎_elim (λ (h : IsFree rows_of origin_of k.rows o s). (
        h.state,
        some-injective slot (Some h.state) (sym is ∙ f.4 0 (Some h.state) (ap (λ (hs : List (maybe.Option (Option T))). get_elem? hs 0) h.home)),
        record {
          known = λ i m e. let own = (k.each id (holding ms) at).own i m e in record { row = ap (λ rs. slice_get rs m.number) h.rows_are ∙ own.row; origin = h.origin_is ∙ own.origin };
          as_many = ap length h.rows_are ∙ k.as_many;
          origin = h.origin_is;
        },
      )) (λ (h : IsTaken s).
      let st = h.has in
      let line = (k.each h.holder h.view h.there).lined (omega arith) in
      let in_queue = inside k.queue (h.view.ticket - k.served) h.holder line.1 in
      absurd (omega arith)) k.slot

  -- no play reads its step
  abbrev any_step : Step (Option T)
  any_step = step 0 0 0 0 none

  -- the same of a seat that is known by an equation
  pub draw_at : (slots id : ℕ) (me : Me (Option T) View) → me ≡ (resting (share_of me.0), []) → Allows Rule slots id me 0 (λ n. (n + 1) % 2 ^ 64) (drew any_step me)
  draw_at slots id me e = subst (λ (z : Me (Option T) View). Allows Rule slots id z 0 (λ n. (n + 1) % 2 ^ 64) (drew any_step z)) (sym e) (draws slots id (share_of me.0) any_step)

  pub look_at : (slots id : ℕ) (me : Me (Option T) View) → me ≡ (waiting me.0.ticket (share_of me.0), []) → Allows Rule slots id me 1 (λ n. n) (looked rows_of origin_of any_step me)
  look_at slots id me e = subst (λ (z : Me (Option T) View). Allows Rule slots id z 1 (λ n. n) (looked rows_of origin_of any_step z)) (sym e) (looks slots id me.0.ticket (share_of me.0) any_step)

  pub hand_at : (slots id new : ℕ) (v : View) (me : Me (Option T) View) (x : T) → me ≡ (v, (0, Some x) ∷ []) → v ≡ having v.ticket v.known (share_of v) → new ≡ (v.ticket % 2 ^ 64 + 1) % 2 ^ 64
      → IsGiveable (rows_of x) (origin_of x) v.known (share_of v) → Allows Rule slots id me 1 (λ _. new) (λ _. handed rows_of any_step me new)
  hand_at slots id new v me x e is next changed = subst (λ (z : Me (Option T) View). Allows Rule slots id z 1 (λ _. new) (λ _. handed rows_of any_step z new))
      (sym (e ∙ ap (λ (w : View). (w, (0, Some x) ∷ [])) is)) (hands slots id v.ticket new v.known (share_of v) x any_step next changed)

  -- what is cut off where the shares from the number i on are left
  pub cut_at : (v : View) (i : ℕ) (rows : List SeatRow) → v ≡ holding (numbered o i (drop i rows)) → i < length rows
      → (m : Share) × (m.number ≡ i) × IsKnown rows o m × (cut_left v ≡ holding (numbered o (i + 1) (drop (i + 1) rows))) × (cut_right v ≡ resting m)
  cut_at v i rows e h = let n = drops rows i h in let all = e ∙ ap (λ rs. holding (numbered o i rs)) n.2 in (
    record { number = i; row = n.0; origin = o },
    refl,
    record { row = n.1; origin = refl },
    ap cut_left all,
    ap cut_right all,
  )

  pub split_at : (id : ℕ) (v : View) (i : ℕ) (rows : List SeatRow) → v ≡ holding (numbered o i (drop i rows)) → i < length rows → Splits Rule id v (cut_left v) (cut_right v)
  split_at id v i rows e h = let n = drops rows i h in
      subst (λ (z : View). Splits Rule id z (cut_left z) (cut_right z)) (sym (e ∙ ap (λ rs. holding (numbered o i rs)) n.2)) (splits id record { number = i; row = n.0; origin = o } (numbered o (i + 1) (drop (i + 1) rows)))

  pub join_at : (id other : ℕ) (v w : View) (ms : List Share) → v ≡ holding ms → w ≡ resting (share_of w) → Joins Rule id v other w (joined v w) spent
  join_at id other v w ms e f = subst (λ (z : View × View). Joins Rule id z.0 other z.1 (joined z.0 z.1) spent) (λ c. (sym e c, sym f c)) (joins id other ms (share_of w))

  pub closes_at : (of : TableId) (id : ℕ) (v : View) (ms : List Share) (ws : List ℕ) (xs : List (Option T)) (slot : Option T) → v ≡ holding ms → length ms ≡ length (rows_of key)
      → Final (Seen Rule id v) ws xs → get_elem? xs 0 ≡ some slot → Last of ms slot
  closes_at of id v ms ws xs slot e all f is = closes of id ms ws xs slot all (subst (λ (z : View). Final (Seen Rule id z) ws xs) e f) is
