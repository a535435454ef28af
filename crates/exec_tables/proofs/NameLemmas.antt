-- Names that were found, in order.
use Rattle.std.proofs.Common.{◌≡◌, inl, inr, ℕ, Bool, true, false, cond, ◌||◌, List, [], ◌∷◌, ◌++◌, Option, None, Some, Contains, Result, Ok, Err, IfOk, ap, sym, ◌∙◌, refl, subst}
use Rattle.std.proofs.lemmas.Bool.{true≢false}
use Rattle.std.proofs.lemmas.List.Folds.{list_any-append}
use Rattle.std.proofs.lemmas.Map.Views.{btree_set_contains_iff}
use Rattle.std.specs.BTreeSet.{BTreeSet, contains}
use Rattle.std.specs.Cmp.{tied_itself}
use Rattle.std.specs.List.{list_any}
use Rattle.std.specs.List.Sorted.{IsStrictlySortedBy}
use Rattle.std.specs.Option.{option_copied}
use Rattle.std.specs.Ordering.{is_eq}
use Rattle.std.specs.declared.cmp.Ordering.{Ordering}
use Rattle.std.specs.declared.cmp.Ordering.TheVariants.{Less, Equal, Greater}
use Rattle.queue_model.specs.World.{text_cmp}
use Rattle.queue_model.proofs.Maps.{texts_total, exact_texts}
use Rattle.exec_tables.specs.Names.{AreSorted}
use Rattle.exec_tables.proofs.NextLemmas.{Among, among, contained}
use denote.Ref.{Bor}

abbrev Listed : Type 0
Listed = Option (Bor (List ℕ))

abbrev pub is_name : List ℕ → Option (List ℕ) → Bool
is_name q None = false
is_name q (Some name) = is_eq (text_cmp name q)

-- the name is among those listed
abbrev pub has : List Listed → List ℕ → Bool
has xs q = list_any (λ o. is_name q (option_copied o)) xs

either_none : (b : Bool) → (b || false) ≡ b
either_none true = refl
either_none false = refl

more : (xs : List Listed) (o : Listed) (q : List ℕ) → has (xs ++ o ∷ []) q ≡ (has xs q || is_name q (option_copied o))
more xs o q = list_any-append (λ o. is_name q (option_copied o)) xs (o ∷ []) ∙ ap (λ b. has xs q || b) (either_none (is_name q (option_copied o)))

same_name : (a b : List ℕ) → is_eq (text_cmp a b) ≡ true → a ≡ b
same_name a b e = by (text_cmp a b) refl e
  where
    by : (r : Ordering) → text_cmp a b ≡ r → is_eq r ≡ true → a ≡ b
    by Less h e = absurd (true≢false (sym e))
    by Equal h e = exact_texts a b h
    by Greater h e = absurd (true≢false (sym e))

pub added : (xs : List Listed) (o : Listed) (name : Bor (List ℕ)) (key : List ℕ) (before after : List ℕ → Bool) → o ≡ Some name → key ≡ name.now → ((q : List ℕ) → before q ≡ has xs q)
    → ((q : List ℕ) → after q ≡ cond (is_eq (text_cmp key q)) true (before q)) → (q : List ℕ) → after q ≡ has (xs ++ o ∷ []) q
added xs o name key before after is same held grows q =
    grows q ∙ ap (λ k. cond (is_eq (text_cmp k q)) true (before q)) same ∙ ap (cond (is_eq (text_cmp name.now q)) true) (held q) ∙ by (is_eq (text_cmp name.now q)) (has xs q)
    ∙ sym (more xs o q ∙ ap (λ l. has xs q || is_name q (option_copied l)) is)
  where
    by : (b c : Bool) → cond b true c ≡ (c || b)
    by true true = refl
    by true false = refl
    by false c = sym (either_none c)

pub there : (xs : List Listed) (o : Listed) (name : Bor (List ℕ)) (before : List ℕ → Bool) → o ≡ Some name → ((q : List ℕ) → before q ≡ has xs q) → before name.now ≡ true → (q : List ℕ) → before q ≡ has (xs ++ o ∷ []) q
there xs o name before is held old q = by (is_eq (text_cmp name.now q)) refl ∙ sym (more xs o q ∙ ap (λ l. has xs q || is_name q (option_copied l)) is)
  where
    by : (b : Bool) → is_eq (text_cmp name.now q) ≡ b → before q ≡ (has xs q || b)
    by true e = ap before (sym (same_name name.now q e)) ∙ old ∙ either_true (has xs q)
      where
        either_true : (b : Bool) → true ≡ (b || true)
        either_true true = refl
        either_true false = refl
    by false e = held q ∙ sym (either_none (has xs q))

any_among : {X : Type 0} (p : X → Bool) (xs : List X) → list_any p xs ≡ true → (x : X) × Among xs x × (p x ≡ true)
any_among p [] e = absurd (true≢false (sym e))
any_among p (y ∷ ys) e = by (p y) refl e (any_among p ys)
  where
    by : (b : Bool) → p y ≡ b → (b || list_any p ys) ≡ true → (list_any p ys ≡ true → (x : _) × Among ys x × (p x ≡ true)) → (x : _) × Among (y ∷ ys) x × (p x ≡ true)
    by true is e rest = (y, inl refl, is)
    by false is e rest = let r = rest e in (r.0, inr r.1, r.2)

among_any : {X : Type 0} (p : X → Bool) (xs : List X) (x : X) → Among xs x → p x ≡ true → list_any p xs ≡ true
among_any p [] x at e = elim at [ ]
among_any p (y ∷ ys) x (inl is) e = ap (λ b. b || list_any p ys) (ap p is ∙ e)
among_any p (y ∷ ys) x (inr at) e = by (p y) (among_any p ys x at e)
  where
    by : (b : Bool) → list_any p ys ≡ true → (b || list_any p ys) ≡ true
    by true rest = refl
    by false rest = rest

pub are_sorted : (xs : List Listed) (found : BTreeSet (List ℕ)) (items : List (List ℕ)) → ((q : List ℕ) → contains text_cmp found q ≡ has xs q) → items ≡ found.keys → IsStrictlySortedBy text_cmp found.keys
    → AreSorted (λ name. (x : Bor (List ℕ)) × Contains xs (Some x) × (x.now ≡ name)) items
are_sorted xs found items held is sorted = subst (AreSorted (λ name. (x : Bor (List ℕ)) × Contains xs (Some x) × (x.now ≡ name))) (sym is) (record {
  sorted = sorted;
  belong = λ name at. one name (any_among (λ o. is_name name (option_copied o)) xs (sym (held name) ∙ (btree_set_contains_iff texts_total exact_texts found name).1 at));
  all = λ name x. (btree_set_contains_iff texts_total exact_texts found name).0 (held name ∙ among_any (λ o. is_name name (option_copied o)) xs (Some x.0) (among xs (Some x.0) x.1)
      (ap (λ n. is_eq (text_cmp n name)) x.2 ∙ ap is_eq (tied_itself texts_total name)));
})
  where
    one : (name : List ℕ) → (o : Listed) × Among xs o × (is_name name (option_copied o) ≡ true) → (x : Bor (List ℕ)) × Contains xs (Some x) × (x.now ≡ name)
    one name (None, at, e) = absurd (true≢false (sym e))
    one name (Some x, at, e) = (x, contained xs (Some x) at, same_name x.now name e)

pub if_ok : {A E : Type 0} {P Q : A → Type 0} (r : Result A E) → ((x : A) → P x → Q x) → IfOk r P → IfOk r Q
if_ok (Ok x) f h = f x h
if_ok (Err e) f h = tt

-- the names at which rows are listed
pub sorted_places : {F : List ℕ → Type 0} (xs : List Listed) (items : List (List ℕ)) → ((x : Bor (List ℕ)) → Contains xs (Some x) → F x.now) × ((y : List ℕ) → F y → (x : Bor (List ℕ)) × Contains xs (Some x) × (x.now ≡ y))
    → AreSorted (λ name. (x : Bor (List ℕ)) × Contains xs (Some x) × (x.now ≡ name)) items → AreSorted F items
sorted_places {F} xs items listed h = record {
  sorted = h.sorted;
  belong = λ name at. let x = h.belong name at in subst F x.2 (listed.0 x.0 x.1);
  all = λ name f. h.all name (listed.1 name f);
}
