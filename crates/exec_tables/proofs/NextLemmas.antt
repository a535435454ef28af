-- Passing over places finds the least above a place.
use Rattle.std.proofs.Common.{◌≡◌, ◌≢◌, ◌⊎◌, inl, inr, ℕ, zero, suc, Bool, true, false, ◌&&◌, List, [], ◌∷◌, ◌++◌, map, Option, None, Some, Ordering, Contains, ap, sym, ◌∙◌, refl, subst, is_some, arith, eqb, length}
use Rattle.std.proofs.lemmas.Bool.{true≢false}
use Rattle.std.specs.declared.cmp.Ordering.TheVariants.{Less, Equal, Greater}
use Rattle.std.specs.Cmp.{IsTotalOrder, IsEquivalence, eq_by_cmp_equiv, nat_cmp_total, tied_itself}
use Rattle.std.specs.FinMap.{IsAntisymmetric, nat_cmp-IsAntisymmetric}
use Rattle.std.specs.Iterator.{Drains}
use Rattle.std.specs.List.{IsDistinct}
use Rattle.std.specs.Option.{option_map}
use Rattle.std.specs.Map.{keys_of}
use Rattle.std.specs.Map.Iter.{TakesFirst}
use Rattle.std.proofs.lemmas.Iterator.{YieldsList, items_from_drains}
use Rattle.std.proofs.lemmas.Iterator.Consumers.{YieldsList-from_shown}
use Rattle.std.proofs.lemmas.List.Elements.{Contains-push_cases}
use Rattle.std.proofs.lemmas.Map.Views.{lookup-from_Contains, Contains-from_lookup}
use Rattle.std.specs.Ordering.{is_eq, is_lt, nat_cmp}
use Rattle.queue_model.specs.Map.{Map, from_entries}
use Rattle.exec_tables.specs.Next.{IsNext, Listed, is_above, is_better}
use Rattle.exec_tables.proofs.RowLemmas.{found, number_ties, same, same_Some, subst2}

less_not : (r : Ordering) → is_lt r ≡ false → r ≢ Less
less_not Less e = λ _. absurd (true≢false e)
less_not Equal e = λ h. true≢false (sym (ap is_lt h))
less_not Greater e = λ h. true≢false (sym (ap is_lt h))

is_less : (r : Ordering) → is_lt r ≡ true → r ≡ Less
is_less Less e = refl
is_less Equal e = absurd (true≢false (sym e))
is_less Greater e = absurd (true≢false (sym e))

not_both : (b : Bool) → b ≡ true → b ≡ false → ⊥
not_both b t f = true≢false (sym t ∙ f)

none_some : {X : Type 0} (x : X) → None ≡ Some x → ⊥
none_some x e = true≢false (sym (ap is_some e))

module _ {X : Type 0} {R : X → X → Ordering} (o : IsTotalOrder R) (P Q : X → Type 0) (past : Option X) (x : X)
    (split : (y : X) → Q y → P y ⊎ (x ≡ y)) (more : (y : X) → P y → Q y) (new : Q x) where
  -- a place more, which comes before what was found
  pub found_now : (best : Option X) → IsNext R P past best → is_above R past x ≡ true → is_better R best x ≡ true → IsNext R Q past (Some x)
  found_now best h up before = record {
    belongs = λ z e. subst Q (same_Some x z e) new;
    above = λ z e. subst (λ v. is_above R past v ≡ true) (same_Some x z e) up;
    least = λ z y e q a. subst (λ v. R y v ≢ Less) (same_Some x z e) (elim (split y q) [
      | inl p ↦ under best h before y p a
      | inr n ↦ subst (λ v. R v x ≢ Less) n itself
    ]);
    none = λ e. absurd (none_some x (sym e));
  }
    where
      itself : R x x ≢ Less
      itself e = true≢false (ap is_lt (sym e ∙ tied_itself o x))

      under : (best : Option X) → IsNext R P past best → is_better R best x ≡ true → (y : X) → P y → is_above R past y ≡ true → R y x ≢ Less
      under None h before y p a = λ _. absurd (not_both (is_above R past y) a (h.none refl y p))
      under (Some b) h before y p a = λ less. h.least b y refl p a (o.trans y x b less (is_less (R x b) before))

  -- a place more, which isn't above or doesn't come before
  pub found_before : (best : Option X) → IsNext R P past best → (is_above R past x && is_better R best x) ≡ false → IsNext R Q past best
  found_before best h not_new = record {
    belongs = λ z e. more z (h.belongs z e);
    above = h.above;
    least = λ z y e q a. elim (split y q) [
      | inl p ↦ h.least z y e p a
      | inr n ↦ subst (λ v. R v z ≢ Less) n (less_not (R x z) (later (is_above R past x) (subst (λ v. is_above R past v ≡ true) (sym n) a) z e))
    ];
    none = λ e y q. elim (split y q) [
      | inl p ↦ h.none e y p
      | inr n ↦ subst (λ v. is_above R past v ≡ false) n (low (is_above R past x) e)
    ];
  }
    where
      later : (b : Bool) → is_above R past x ≡ true → (z : X) → best ≡ Some z → is_lt (R x z) ≡ false
      later b up z e = ap (λ w. is_better R w x) (sym e) ∙ and_right (is_above R past x) (is_better R best x) up not_new
        where
          and_right : (a b : Bool) → a ≡ true → (a && b) ≡ false → b ≡ false
          and_right true b u n = n
          and_right false b u n = absurd (true≢false (sym u))

      low : (b : Bool) → best ≡ None → is_above R past x ≡ false
      low b e = and_left (is_above R past x) (is_better R best x) (ap (λ w. is_better R w x) e) not_new
        where
          and_left : (a b : Bool) → b ≡ true → (a && b) ≡ false → a ≡ false
          and_left true b u n = absurd (true≢false (sym u ∙ n))
          and_left false b u n = refl

pub both : (a b : Bool) → (a && b) ≡ true → (a ≡ true) × (b ≡ true)
both true b e = (refl, e)
both false b e = absurd (true≢false (sym e))

-- ---- the places of rows

-- an iterator that shows what is left of a list
pub rows_road : {A B : Type 0} (shows : A → B) (s : List B) → YieldsList (TakesFirst shows) shows s s
rows_road shows s = YieldsList-from_shown (TakesFirst shows) shows (λ t. t) (λ s t e. ap length e.0) (λ s x t e. e) s

-- a place more in a list of them
pub push_split : {X : Type 0} (xs : List (Option X)) (listed : Option X) (x : X) → listed ≡ Some x → (y : X) → Contains (xs ++ listed ∷ []) (Some y) → Contains xs (Some y) ⊎ (x ≡ y)
push_split xs listed x is y at = elim (Contains-push_cases xs listed (Some y) at) [ inl p ↦ inl p | inr e ↦ inr (same_Some x y (sym is ∙ e)) ]

-- being in a list, from its front
abbrev pub Among : {X : Type 0} → List X → X → Type 0
Among [] x = ⊥
Among (y ∷ ys) x = (y ≡ x) ⊎ Among ys x

pub among : {X : Type 0} (xs : List X) (x : X) → Contains xs x → Among xs x
among [] x c = absurd (omega (arith, c.1))
among (y ∷ ys) x (zero, within, is) = inl is
among (y ∷ ys) x (suc k, within, is) = inr (among ys x (k, omega (arith, within), is))

pub contained : {X : Type 0} (xs : List X) (x : X) → Among xs x → Contains xs x
contained [] x at = elim at [ ]
contained (y ∷ ys) x (inl is) = (0, omega arith, is)
contained (y ∷ ys) x (inr at) = let c = contained ys x at in (suc c.0, omega (arith, c.1), c.2)

module _ {A B : Type 0} (f : A → B) where
  among_map : (xs : List A) (x : A) → Among xs x → Among (map f xs) (f x)
  among_map [] x at = elim at [ ]
  among_map (y ∷ ys) x (inl is) = inl (ap f is)
  among_map (y ∷ ys) x (inr at) = inr (among_map ys x at)

  among_mapped : (xs : List A) (y : B) → Among (map f xs) y → (x : A) × Among xs x × (f x ≡ y)
  among_mapped [] y at = elim at [ ]
  among_mapped (x ∷ xs) y (inl is) = (x, inl refl, is)
  among_mapped (x ∷ xs) y (inr at) = let r = among_mapped xs y at in (r.0, inr r.1, r.2)

module _ {A X : Type 0} (v : A → X) where
  above_seen : (Q : X → X → Ordering) (past : Option A) (x : A) → is_above (λ a b. Q (v a) (v b)) past x ≡ is_above Q (option_map v past) (v x)
  above_seen Q None x = refl
  above_seen Q (Some p) x = refl

  seen_some : (found : Option A) (y : X) → option_map v found ≡ Some y → (x : A) × (found ≡ Some x) × (v x ≡ y)
  seen_some None y e = absurd (none_some y e)
  seen_some (Some x) y e = (x, refl, same_Some (v x) y e)

  seen_none : (found : Option A) → option_map v found ≡ None → found ≡ None
  seen_none None e = refl
  seen_none (Some x) e = absurd (none_some (v x) (sym e))

module _ {K V X : Type 0} {R : K → K → Ordering} (o : IsTotalOrder R) (eq : K → K → Bool) (ties : (a b : K) → eq a b ≡ is_eq (R a b)) (exact : IsAntisymmetric R) (place : K → V → Option X) where
  -- the places of the rows of a table
  listed : (es : List (K × V)) → IsDistinct eq (keys_of es) → (x : X) → Among (map (λ e. place e.0 e.1) es) (Some x) → Listed place (from_entries {R = R} es) x
  listed es apart x at =
      let e = among_mapped (λ e. place e.0 e.1) es (Some x) at in
      (e.0.0, e.0.1, found o eq ties es e.0.0 ∙ lookup-from_Contains equivalence e.0.0 e.0.1 es apart (contained es e.0 e.1), e.2)
    where
      equivalence : IsEquivalence eq
      equivalence = subst IsEquivalence (λ i a b. sym (ties a b) i) (eq_by_cmp_equiv o)

  unlisted : (es : List (K × V)) (x : X) → Listed place (from_entries {R = R} es) x → Among (map (λ e. place e.0 e.1) es) (Some x)
  unlisted es x at =
      subst (Among (map (λ e. place e.0 e.1) es)) at.3
      (among_map (λ e. place e.0 e.1) es (at.0, at.1) (among es (at.0, at.1) (Contains-from_lookup (same o eq ties exact) at.0 at.1 es (sym (found o eq ties es at.0) ∙ at.2))))

  module _ {S A : Type 0} (v : A → X) {steps : S → Option (Option A) → S → Type 0} {s : S} (es : List (K × V)) (xs : List (Option A)) (drains : Drains steps s xs) (road : YieldsList steps (option_map v) s (map (λ e. place e.0 e.1) es)) where
    all : map (option_map v) xs ≡ map (λ e. place e.0 e.1) es
    all = items_from_drains xs (drains.1.0, drains.1.1, λ _. (drains.0, drains.1.2)) road

    -- what a scan over the rows shows is a place, and each place is shown
    into : IsDistinct eq (keys_of es) → (x : A) → Contains xs (Some x) → Listed place (from_entries {R = R} es) (v x)
    into apart x at = listed es apart (v x) (subst (λ l. Among l (Some (v x))) all (among_map (option_map v) xs (Some x) (among xs (Some x) at)))

    out : (y : X) → Listed place (from_entries {R = R} es) y → (x : A) × Contains xs (Some x) × (v x ≡ y)
    out y q =
        let m = among_mapped (option_map v) xs (Some y) (subst (λ l. Among l (Some y)) (sym all) (unlisted es y q)) in
        let f = seen_some v m.0 y m.2 in
        (f.0, subst (Contains xs) f.1 (contained xs m.0 m.1), f.2)

  module _ {S A : Type 0} (v : A → X) {steps : S → Option (Option A) → S → Type 0} {s : S} (es : List (K × V)) (rows : Map R V) (apart : IsDistinct eq (keys_of es)) (is : from_entries es ≡ rows) where
    -- what a scan over the rows finds is the next place
    pub next_row : {Q : X → X → Ordering} (past found : Option A) → ((xs : List (Option A)) × Drains steps s xs × IsNext (λ a b. Q (v a) (v b)) (λ x. Contains xs (Some x)) past found)
        → YieldsList steps (option_map v) s (map (λ e. place e.0 e.1) es) → IsNext Q (Listed place rows) (option_map v past) (option_map v found)
    next_row {Q} past found ran road = subst (λ m. IsNext Q (Listed place m) (option_map v past) (option_map v found)) is (record {
      belongs = λ y e. let f = seen_some v found y e in subst (Listed place (from_entries es)) f.2 (into v es ran.0 ran.1 road apart f.0 (ran.2.belongs f.0 f.1));
      above = λ y e. let f = seen_some v found y e in subst (λ z. is_above Q (option_map v past) z ≡ true) f.2 (sym (above_seen v Q past f.0) ∙ ran.2.above f.0 f.1);
      least = λ y z e q a. let f = seen_some v found y e in let g = out v es ran.0 ran.1 road z q in
          subst (λ w. Q z w ≢ Less) f.2 (subst (λ w. Q w (v f.0) ≢ Less) g.2 (ran.2.least f.0 g.0 f.1 g.1 (above_seen v Q past g.0 ∙ ap (is_above Q (option_map v past)) g.2 ∙ a)));
      none = λ e y q. let g = out v es ran.0 ran.1 road y q in ap (is_above Q (option_map v past)) (sym g.2) ∙ sym (above_seen v Q past g.0) ∙ ran.2.none (seen_none v found e) g.0 g.1;
    })

  -- and what it lists in order are all places
  pub sorted_rows : {S A : Type 0} (v : A → X) {steps : S → Option (Option A) → S → Type 0} {s : S} (es : List (K × V)) (rows : Map R V) → IsDistinct eq (keys_of es) → from_entries es ≡ rows → (xs : List (Option A)) → Drains steps s xs
      → YieldsList steps (option_map v) s (map (λ e. place e.0 e.1) es) → ((x : A) → Contains xs (Some x) → Listed place rows (v x)) × ((y : X) → Listed place rows y → (x : A) × Contains xs (Some x) × (v x ≡ y))
  sorted_rows v es rows apart is xs drains road = (λ x at. subst (λ m. Listed place m (v x)) is (into v es xs drains road apart x at), λ y q. out v es xs drains road y (subst (λ m. Listed place m y) (sym is) q))

itself_mapped : {X : Type 0} (o : Option X) → option_map (λ x. x) o ≡ o
itself_mapped None = refl
itself_mapped (Some x) = refl

-- of rows by number, at places that are plain values
pub next_numbered : {S V X : Type 0} {steps : S → Option (Option X) → S → Type 0} {Q : X → X → Ordering} {s : S} (past found : Option X) (place : ℕ → V → Option X) (es : List (ℕ × V)) (rows : Map nat_cmp V) → IsDistinct eqb (keys_of es) → from_entries es ≡ rows
    → ((xs : List (Option X)) × Drains steps s xs × IsNext Q (λ x. Contains xs (Some x)) past found) → YieldsList steps (λ o. o) s (map (λ e. place e.0 e.1) es) → IsNext Q (Listed place rows) past found
next_numbered {S} {V} {X} {steps} {Q} {s} past found place es rows apart is ran road =
    subst2 (IsNext Q (Listed place rows)) (itself_mapped past) (itself_mapped found)
    (next_row nat_cmp_total eqb number_ties nat_cmp-IsAntisymmetric place (λ x. x) es rows apart is past found ran (subst (λ w. YieldsList steps w s (map (λ e. place e.0 e.1) es)) (λ i o. sym (itself_mapped o) i) road))
