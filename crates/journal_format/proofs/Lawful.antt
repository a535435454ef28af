-- What ties a reader to a spelling, and that it is kept as readers are put together.
use Rattle.std.proofs.Common.{◌≡◌, ℕ, Bool, true, false, cond, List, [], ◌∷◌, ◌++◌, Result, Ok, Err, refl, sym, ap, subst, ◌∙◌, append_assoc, ◌⊎◌, inl, inr}
use Rattle.std.proofs.lemmas.List.{append-nil}
use Rattle.job_states.specs.Judged.{◌>>=◌}
use Rattle.journal_format.specs.Reading.{Read, both, made, given, byte_where}

-- The bytes can be read up to rest and not past its first byte: some value's text goes on from prefix, and none goes
-- on from prefix with the next byte.
pub record IsStuck {A : Type 0} (spell : A → List ℕ) (fits : A → Type 0) (bytes rest : List ℕ) : Type 0 where
  pub prefix : List ℕ
  pub whole : bytes ≡ prefix ++ rest
  pub value : A
  pub more : List ℕ
  pub is_fit : fits value
  pub goes_on : spell value ≡ prefix ++ more
  pub ends : (a : A) (b : ℕ) (later more : List ℕ) → rest ≡ b ∷ later → fits a → spell a ≡ prefix ++ (b ∷ more) → ⊥

pub record Lawful {A : Type 0} (spell : A → List ℕ) (fits : A → Type 0) (read : List ℕ → Read A) : Type 0 where
  pub some : A
  pub some_fits : fits some
  pub again : (a : A) (rest : List ℕ) → fits a → read (spell a ++ rest) ≡ Ok (a, rest)
  pub found : (bytes : List ℕ) (a : A) (rest : List ℕ) → read bytes ≡ Ok (a, rest) → fits a × (bytes ≡ spell a ++ rest)
  pub stuck : (bytes rest : List ℕ) → read bytes ≡ Err rest → IsStuck spell fits bytes rest

pub bind_ok : {A B C : Type 0} (r : Result A C) (f : A → Result B C) (y : B) → (r >>= f) ≡ Ok y → (x : A) × (r ≡ Ok x) × (f x ≡ Ok y)
bind_ok (Ok x) f y e = (x, refl, e)
bind_ok (Err d) f y e = absurd cc

pub bind_err : {A B C : Type 0} (r : Result A C) (f : A → Result B C) (d : C) → (r >>= f) ≡ Err d → (r ≡ Err d) ⊎ ((x : A) × (r ≡ Ok x) × (f x ≡ Err d))
bind_err (Ok x) f d e = inr (x, refl, e)
bind_err (Err d') f d e = inl cc

abbrev as_read : {A : Type 0} → A → List ℕ → Read A
as_read a rest = Ok (a, rest)

abbrev pair_of : {A B : Type 0} → A → B → A × B
pair_of a b = (a, b)

pub ok_pair : {A : Type 0} (a b : A) (x y : List ℕ) → as_read a x ≡ as_read b y → pair_of a x ≡ pair_of b y
ok_pair a b x y e = cc

pub ok_parts : {A : Type 0} (a b : A) (x y : List ℕ) → as_read a x ≡ as_read b y → (a ≡ b) × (x ≡ y)
ok_parts {A = A} a b x y e =
    let p = ok_pair a b x y e in
    (ap (λ (q : A × List ℕ). q.0) p, ap (λ (q : A × List ℕ). q.1) p)

pub ok_not_err : {A : Type 0} (r : Read A) (a : A) (x y : List ℕ) → r ≡ Ok (a, x) → r ≡ Err y → ⊥
ok_not_err r a x y p q = cc

-- two ways to cut one list
pub cut : (x y u v : List ℕ) → x ++ y ≡ u ++ v → ((w : List ℕ) × (x ≡ u ++ w) × (v ≡ w ++ y)) ⊎ ((w : List ℕ) × (u ≡ x ++ w) × (y ≡ w ++ v))
cut [] y u v e = inr (u, refl, e)
cut (a ∷ x) y [] v e = inl (a ∷ x, refl, sym e)
cut (a ∷ x) y (b ∷ u) v e =
    let head : a ≡ b = cc in
    let tail : x ++ y ≡ u ++ v = cc in
    elim (cut x y u v tail) [
      | inl (w, p, q) ↦ inl (w, cc, q)
      | inr (w, p, q) ↦ inr (w, cc, q)
    ]

pub made_err : {A B : Type 0} (r : Read A) (f : A → B) (rest : List ℕ) → (r >>= λ a. as_read (f a.0) a.1) ≡ Err rest → r ≡ Err rest
made_err (Ok a) f rest e = absurd cc
made_err (Err d) f rest e = cc

-- ---- one after the other

abbrev pub both_spell : {A B : Type 0} → (A → List ℕ) → (A → B → List ℕ) → A × B → List ℕ
both_spell F G p = F p.0 ++ G p.0 p.1

abbrev pub both_fit : {A B : Type 0} → (A → Type 0) → (A → B → Type 0) → A × B → Type 0
both_fit P Q p = P p.0 × Q p.0 p.1

both_again : {A B : Type 0} (F : A → List ℕ) (P : A → Type 0) (r : List ℕ → Read A) (G : A → B → List ℕ) (Q : A → B → Type 0) (s : A → List ℕ → Read B)
    → Lawful F P r → ((a : A) → P a → Lawful (G a) (Q a) (s a))
    → (p : A × B) (rest : List ℕ) → both_fit P Q p → both r s (both_spell F G p ++ rest) ≡ Ok (p, rest)
both_again F P r G Q s L M (a, b) rest (pa, qb) =
    ap (both r s) (append_assoc (F a) (G a b) rest) ∙ rw (L.again a (G a b ++ rest) pa) (rw ((M a pa).again b rest qb) refl)

both_found_parts : {A B : Type 0} (F : A → List ℕ) (P : A → Type 0) (G : A → B → List ℕ) (Q : A → B → Type 0)
    (bytes : List ℕ) (p : A × B) (rest : List ℕ) (a : A) (mid : List ℕ) (b : B) (end : List ℕ)
    → P a × (bytes ≡ F a ++ mid) → (P a → Q a b × (mid ≡ G a b ++ end)) → pair_of (pair_of a b) end ≡ pair_of p rest
    → both_fit P Q p × (bytes ≡ both_spell F G p ++ rest)
both_found_parts {A = A} {B = B} F P G Q bytes p rest a mid b end one then same =
    let two = then one.0 in
    let whole : bytes ≡ (F a ++ G a b) ++ end = one.1 ∙ ap (λ (t : List ℕ). F a ++ t) two.1 ∙ sym (append_assoc (F a) (G a b) end) in
    subst (λ (q : (A × B) × List ℕ). both_fit P Q q.0 × (bytes ≡ both_spell F G q.0 ++ q.1)) same ((one.0, two.0), whole)

both_found : {A B : Type 0} (F : A → List ℕ) (P : A → Type 0) (r : List ℕ → Read A) (G : A → B → List ℕ) (Q : A → B → Type 0) (s : A → List ℕ → Read B)
    → Lawful F P r → ((a : A) → P a → Lawful (G a) (Q a) (s a))
    → (bytes : List ℕ) (p : A × B) (rest : List ℕ) → both r s bytes ≡ Ok (p, rest) → both_fit P Q p × (bytes ≡ both_spell F G p ++ rest)
both_found {A = A} {B = B} F P r G Q s L M bytes p rest e =
    let x = bind_ok (r bytes) (λ a. s a.0 a.1 >>= λ b. Ok ((a.0, b.0), b.1)) (p, rest) e in
    let y = bind_ok (s x.0.0 x.0.1) (λ b. Ok ((x.0.0, b.0), b.1)) (p, rest) x.2 in
    both_found_parts F P G Q bytes p rest x.0.0 x.0.1 y.0.0 y.0.1 (L.found bytes x.0.0 x.0.1 x.1) (λ pa. (M x.0.0 pa).found x.0.1 y.0.0 y.0.1 y.1) (ok_pair (x.0.0, y.0.0) p y.0.1 rest y.2)

both_stuck_second : {A B : Type 0} (F : A → List ℕ) (P : A → Type 0) (r : List ℕ → Read A) (G : A → B → List ℕ) (Q : A → B → Type 0)
    → Lawful F P r → (bytes rest : List ℕ) (a : A) (mid : List ℕ) → P a → bytes ≡ F a ++ mid → IsStuck (G a) (Q a) mid rest
    → IsStuck (both_spell F G) (both_fit P Q) bytes rest
both_stuck_second {A = A} {B = B} F P r G Q L bytes rest a mid pa whole k = record {
  prefix = F a ++ k.prefix;
  whole = whole ∙ ap (λ (t : List ℕ). F a ++ t) k.whole ∙ sym (append_assoc (F a) k.prefix rest);
  value = (a, k.value);
  more = k.more;
  is_fit = (pa, k.is_fit);
  goes_on = ap (λ (t : List ℕ). F a ++ t) k.goes_on ∙ sym (append_assoc (F a) k.prefix k.more);
  ends = λ p b later more at_rest fit text.
      let one = L.again p.0 (G p.0 p.1) fit.0 in
      let two = L.again a (k.prefix ++ (b ∷ more)) pa in
      let same : F p.0 ++ G p.0 p.1 ≡ F a ++ (k.prefix ++ (b ∷ more)) = text ∙ append_assoc (F a) k.prefix (b ∷ more) in
      let parts = ok_parts p.0 a (G p.0 p.1) (k.prefix ++ (b ∷ more)) (sym one ∙ ap r same ∙ two) in
      let moved = subst (λ (c : A). Q c p.1 × (G c p.1 ≡ G p.0 p.1)) parts.0 (fit.1, refl) in
      k.ends p.1 b later more at_rest moved.0 (moved.1 ∙ parts.1);
}

-- the first has no value at the prefix of the bytes
first_read : {A : Type 0} (F : A → List ℕ) (P : A → Type 0) (r : List ℕ → Read A)
    → Lawful F P r → (bytes rest : List ℕ) → r bytes ≡ Err rest → (k : IsStuck F P bytes rest) (a : A) → P a → (w : List ℕ) → k.prefix ≡ F a ++ w → ⊥
first_read F P r L bytes rest e k a pa w here =
    let whole : bytes ≡ F a ++ (w ++ rest) = k.whole ∙ ap (λ (t : List ℕ). t ++ rest) here ∙ append_assoc (F a) w rest in
    ok_not_err (r bytes) a (w ++ rest) rest (ap r whole ∙ L.again a (w ++ rest) pa) e

first_ends : {A : Type 0} (F : A → List ℕ) (P : A → Type 0) (r : List ℕ → Read A)
    → Lawful F P r → (bytes rest : List ℕ) → r bytes ≡ Err rest → (k : IsStuck F P bytes rest) (a : A) (b : ℕ) (later more : List ℕ) → rest ≡ b ∷ later → P a
    → (w y : List ℕ) → F a ≡ k.prefix ++ w → b ∷ more ≡ w ++ y → ⊥
first_ends F P r L bytes rest e k a b later more at_rest pa [] y here after = first_read F P r L bytes rest e k a pa [] (sym (append-nil k.prefix) ∙ sym here ∙ sym (append-nil (F a)))
first_ends F P r L bytes rest e k a b later more at_rest pa (c ∷ w) y here after =
    let same : b ≡ c = cc in
    k.ends a b later w at_rest pa (here ∙ ap (λ (t : ℕ). k.prefix ++ (t ∷ w)) (sym same))

both_stuck_first : {A B : Type 0} (F : A → List ℕ) (P : A → Type 0) (r : List ℕ → Read A) (G : A → B → List ℕ) (Q : A → B → Type 0) (s : A → List ℕ → Read B)
    → Lawful F P r → ((a : A) → P a → Lawful (G a) (Q a) (s a))
    → (bytes rest : List ℕ) → r bytes ≡ Err rest → IsStuck F P bytes rest → IsStuck (both_spell F G) (both_fit P Q) bytes rest
both_stuck_first {A = A} {B = B} F P r G Q s L M bytes rest e k =
    let second = M k.value k.is_fit in
    record {
      prefix = k.prefix;
      whole = k.whole;
      value = (k.value, second.some);
      more = k.more ++ G k.value second.some;
      is_fit = (k.is_fit, second.some_fits);
      goes_on = ap (λ (t : List ℕ). t ++ G k.value second.some) k.goes_on ∙ append_assoc k.prefix k.more (G k.value second.some);
      ends = λ p b later more at_rest fit text.
          elim (cut (F p.0) (G p.0 p.1) k.prefix (b ∷ more) text) [
            | inl (w, here, after) ↦ first_ends F P r L bytes rest e k p.0 b later more at_rest fit.0 w (G p.0 p.1) here after
            | inr (w, here, after) ↦ first_read F P r L bytes rest e k p.0 fit.0 w here
          ];
    }

both_stuck : {A B : Type 0} (F : A → List ℕ) (P : A → Type 0) (r : List ℕ → Read A) (G : A → B → List ℕ) (Q : A → B → Type 0) (s : A → List ℕ → Read B)
    → Lawful F P r → ((a : A) → P a → Lawful (G a) (Q a) (s a))
    → (bytes rest : List ℕ) → both r s bytes ≡ Err rest → IsStuck (both_spell F G) (both_fit P Q) bytes rest
both_stuck {A = A} {B = B} F P r G Q s L M bytes rest e =
    elim (bind_err (r bytes) (λ a. s a.0 a.1 >>= λ b. Ok ((a.0, b.0), b.1)) rest e) [
      | inl e1 ↦ both_stuck_first F P r G Q s L M bytes rest e1 (L.stuck bytes rest e1)
      | inr (x, e1, e2) ↦
          let one = L.found bytes x.0 x.1 e1 in
          both_stuck_second F P r G Q L bytes rest x.0 x.1 one.0 one.1 ((M x.0 one.0).stuck x.1 rest (made_err (s x.0 x.1) (λ (b : B). (x.0, b)) rest e2))
    ]

pub both_lawful : {A B : Type 0} (F : A → List ℕ) (P : A → Type 0) (r : List ℕ → Read A) (G : A → B → List ℕ) (Q : A → B → Type 0) (s : A → List ℕ → Read B)
    → Lawful F P r → ((a : A) → P a → Lawful (G a) (Q a) (s a)) → Lawful (both_spell F G) (both_fit P Q) (both r s)
both_lawful F P r G Q s L M = record {
  some = (L.some, (M L.some L.some_fits).some);
  some_fits = (L.some_fits, (M L.some L.some_fits).some_fits);
  again = both_again F P r G Q s L M;
  found = both_found F P r G Q s L M;
  stuck = both_stuck F P r G Q s L M;
}

-- ---- a value made of another

-- what is made of a value that fits
abbrev pub IsMadeOf : {A B : Type 0} → (A → B) → (A → Type 0) → B → Type 0
IsMadeOf {A = A} make P b = (a : A) × P a × (b ≡ make a)

made_found : {A B : Type 0} (make : A → B) (F : A → List ℕ) (P : A → Type 0) (r : List ℕ → Read A) (G : B → List ℕ)
    → Lawful F P r → ((a : A) → P a → G (make a) ≡ F a)
    → (bytes : List ℕ) (b : B) (rest : List ℕ) → made make r bytes ≡ Ok (b, rest) → IsMadeOf make P b × (bytes ≡ G b ++ rest)
made_found {A = A} {B = B} make F P r G L same bytes b rest e =
    let x = bind_ok (r bytes) (λ a. Ok (make a.0, a.1)) (b, rest) e in
    let one = L.found bytes x.0.0 x.0.1 x.1 in
    let parts = ok_parts (make x.0.0) b x.0.1 rest x.2 in
    ((x.0.0, one.0, sym parts.0), one.1 ∙ ap (λ (t : List ℕ). F x.0.0 ++ t) parts.1 ∙ ap (λ (t : List ℕ). t ++ rest) (sym (same x.0.0 one.0) ∙ ap G parts.0))

made_stuck : {A B : Type 0} (make : A → B) (F : A → List ℕ) (P : A → Type 0) (r : List ℕ → Read A) (G : B → List ℕ)
    → Lawful F P r → ((a : A) → P a → G (make a) ≡ F a)
    → (bytes rest : List ℕ) → made make r bytes ≡ Err rest → IsStuck G (IsMadeOf make P) bytes rest
made_stuck {A = A} {B = B} make F P r G L same bytes rest e =
    let k = L.stuck bytes rest (made_err (r bytes) make rest e) in
    record {
      prefix = k.prefix;
      whole = k.whole;
      value = make k.value;
      more = k.more;
      is_fit = (k.value, k.is_fit, refl);
      goes_on = same k.value k.is_fit ∙ k.goes_on;
      ends = λ b c later more at_rest fit text. k.ends fit.0 c later more at_rest fit.1 (sym (same fit.0 fit.1) ∙ ap G (sym fit.2) ∙ text);
    }

made_again : {A B : Type 0} (make : A → B) (F : A → List ℕ) (P : A → Type 0) (r : List ℕ → Read A) (G : B → List ℕ)
    → Lawful F P r → ((a : A) → P a → G (make a) ≡ F a)
    → (b : B) (rest : List ℕ) → IsMadeOf make P b → made make r (G b ++ rest) ≡ Ok (b, rest)
made_again {A = A} {B = B} make F P r G L same b rest (a, pa, is) =
    let text : G b ++ rest ≡ F a ++ rest = ap (λ (t : List ℕ). t ++ rest) (ap G is ∙ same a pa) in
    ap (made make r) text ∙ rw (L.again a rest pa) (ap (λ (c : B). as_read c rest) (sym is))

pub made_lawful : {A B : Type 0} (make : A → B) (F : A → List ℕ) (P : A → Type 0) (r : List ℕ → Read A) (G : B → List ℕ)
    → Lawful F P r → ((a : A) → P a → G (make a) ≡ F a) → Lawful G (IsMadeOf make P) (made make r)
made_lawful make F P r G L same = record {
  some = make L.some;
  some_fits = (L.some, L.some_fits, refl);
  again = made_again make F P r G L same;
  found = made_found make F P r G L same;
  stuck = made_stuck make F P r G L same;
}

-- ---- the same values, said otherwise

stuck_as : {A : Type 0} (F : A → List ℕ) (P Q : A → Type 0) (bytes rest : List ℕ) → ((a : A) → P a → Q a) → ((a : A) → Q a → P a) → IsStuck F P bytes rest → IsStuck F Q bytes rest
stuck_as F P Q bytes rest to from k = record {
  prefix = k.prefix;
  whole = k.whole;
  value = k.value;
  more = k.more;
  is_fit = to k.value k.is_fit;
  goes_on = k.goes_on;
  ends = λ a b later more at_rest qa. k.ends a b later more at_rest (from a qa);
}

pub fits_lawful : {A : Type 0} (F : A → List ℕ) (P Q : A → Type 0) (r : List ℕ → Read A)
    → Lawful F P r → ((a : A) → P a → Q a) → ((a : A) → Q a → P a) → Lawful F Q r
fits_lawful F P Q r L to from = record {
  some = L.some;
  some_fits = to L.some L.some_fits;
  again = λ a rest qa. L.again a rest (from a qa);
  found = λ bytes a rest e. let x = L.found bytes a rest e in (to a x.0, x.1);
  stuck = λ bytes rest e. stuck_as F P Q bytes rest to from (L.stuck bytes rest e);
}

-- the same reader, said otherwise
pub read_lawful : {A : Type 0} (F : A → List ℕ) (P : A → Type 0) (r s : List ℕ → Read A) → Lawful F P r → ((bytes : List ℕ) → s bytes ≡ r bytes) → Lawful F P s
read_lawful F P r s L same = record {
  some = L.some;
  some_fits = L.some_fits;
  again = λ a rest pa. same (F a ++ rest) ∙ L.again a rest pa;
  found = λ bytes a rest e. L.found bytes a rest (sym (same bytes) ∙ e);
  stuck = λ bytes rest e. L.stuck bytes rest (sym (same bytes) ∙ e);
}

-- ---- no bytes

pub given_lawful : {A : Type 0} (F : A → List ℕ) (a : A) → F a ≡ [] → Lawful F (λ b. b ≡ a) (given a)
given_lawful {A = A} F a empty = record {
  some = a;
  some_fits = refl;
  again = λ b rest is. given_again F a empty b rest is;
  found = λ bytes b rest e. given_found F a empty bytes b rest e;
  stuck = λ bytes rest e. absurd (ok_not_err (given a bytes) a bytes rest refl e);
} where
  given_again : {A : Type 0} (F : A → List ℕ) (a : A) → F a ≡ [] → (b : A) (rest : List ℕ) → b ≡ a → given a (F b ++ rest) ≡ Ok (b, rest)
  given_again {A = A} F a empty b rest is =
      let none : F b ++ rest ≡ rest = ap (λ (t : List ℕ). t ++ rest) (ap F is ∙ empty) in
      ap (given a) none ∙ ap (λ (c : A). as_read c rest) (sym is)

  given_found : {A : Type 0} (F : A → List ℕ) (a : A) → F a ≡ [] → (bytes : List ℕ) (b : A) (rest : List ℕ) → given a bytes ≡ Ok (b, rest) → (b ≡ a) × (bytes ≡ F b ++ rest)
  given_found {A = A} F a empty bytes b rest e =
      let p = ok_parts a b bytes rest e in
      (sym p.0, p.1 ∙ ap (λ (t : List ℕ). t ++ rest) (sym (ap F (sym p.0) ∙ empty)))

-- ---- a byte

abbrev pub one_byte : ℕ → List ℕ
one_byte b = b ∷ []

byte_found_case : (ok : ℕ → Bool) (c : ℕ) (bytes : List ℕ) (b : ℕ) (rest : List ℕ) (t : Bool) → ok c ≡ t → cond t (as_read c bytes) (Err (c ∷ bytes)) ≡ Ok (b, rest) → (ok b ≡ true) × (c ∷ bytes ≡ (b ∷ []) ++ rest)
byte_found_case ok c bytes b rest true is e = let p = ok_parts c b bytes rest e in (ap ok (sym p.0) ∙ is, cc)
byte_found_case ok c bytes b rest false is e = absurd cc

byte_found : (ok : ℕ → Bool) (bytes : List ℕ) (b : ℕ) (rest : List ℕ) → byte_where ok bytes ≡ Ok (b, rest) → (ok b ≡ true) × (bytes ≡ (b ∷ []) ++ rest)
byte_found ok [] b rest e = absurd cc
byte_found ok (c ∷ bytes) b rest e = byte_found_case ok c bytes b rest (ok c) refl e

byte_stuck_case : (ok : ℕ → Bool) (some : ℕ) → ok some ≡ true → (c : ℕ) (bytes rest : List ℕ) (t : Bool) → ok c ≡ t → cond t (as_read c bytes) (Err (c ∷ bytes)) ≡ Err rest → IsStuck one_byte (λ b. ok b ≡ true) (c ∷ bytes) rest
byte_stuck_case ok some fit c bytes rest true is e = absurd cc
byte_stuck_case ok some fit c bytes rest false is e =
    let whole : c ∷ bytes ≡ rest = cc in
    record {
      prefix = [];
      whole = whole;
      value = some;
      more = some ∷ [];
      is_fit = fit;
      goes_on = refl;
      ends = λ a b later more at_rest pa text.
          let z : c ∷ bytes ≡ b ∷ later = whole ∙ at_rest in
          let cb : c ≡ b = cc in
          let ab : a ≡ b = cc in
          let no : ok a ≡ false = ap ok (ab ∙ sym cb) ∙ is in
          let t : true ≡ false = sym pa ∙ no in
          cc;
    }

byte_stuck : (ok : ℕ → Bool) (some : ℕ) → ok some ≡ true → (bytes rest : List ℕ) → byte_where ok bytes ≡ Err rest → IsStuck one_byte (λ b. ok b ≡ true) bytes rest
byte_stuck ok some fit [] rest e =
    let is : [] ≡ rest = cc in
    record { prefix = []; whole = is; value = some; more = some ∷ []; is_fit = fit; goes_on = refl; ends = λ a b later more at_rest pa text. let z : [] ≡ b ∷ later = is ∙ at_rest in cc }
byte_stuck ok some fit (c ∷ bytes) rest e = byte_stuck_case ok some fit c bytes rest (ok c) refl e

byte_again : (ok : ℕ → Bool) (b : ℕ) (rest : List ℕ) → ok b ≡ true → byte_where ok (one_byte b ++ rest) ≡ Ok (b, rest)
byte_again ok b rest is = rw is refl

pub byte_lawful : (ok : ℕ → Bool) (some : ℕ) → ok some ≡ true → Lawful one_byte (λ b. ok b ≡ true) (byte_where ok)
byte_lawful ok some fit = record {
  some = some;
  some_fits = fit;
  again = byte_again ok;
  found = byte_found ok;
  stuck = byte_stuck ok some fit;
}
