-- Settings in which nothing is wrong.
use Rattle.std.proofs.Common.{◌≡◌, ◌≢◌, ◌<◌, ◌≤◌, ℕ, zero, suc, ◌+◌, Bool, true, false, cond, not, nat_lt, List, [], ◌∷◌, length, All, AllPairs, Option, Some, None, refl, sym, ◌∙◌, arith, slice_index_or}
use Rattle.std.proofs.lemmas.Bool.{true≢false}
use Rattle.std.proofs.lemmas.Bool.Decides.{nat_tests}
use Rattle.std.proofs.lemmas.Cmp.{nat_list_eq_equiv}
use Rattle.std.specs.List.{position, position_or_len}
use Rattle.std.specs.Option.{is_none, is_some}
use Rattle.queue_config.specs.declared.config.Config.{Config}
use Rattle.queue_config.specs.Errors.{is_own_ancestor}
use Rattle.queue_config.specs.Named.{first_clash, first_repeat, same_name}
use Rattle.queue_config.specs.Ranges.{HasRanges, IsConfig}
use Rattle.queue_config.specs.Wrong.{lacks_class, clash}
use Rattle.queue_config.proofs.ClashLemmas.{apart}
use Rattle.queue_config.proofs.RootLemmas.{rooted}

nothing : {X : Type 0} (R : X → X → Type 0) → AllPairs R []
nothing R i j d before within = absurd (omega arith)

names_apart : {X : Type 0} (name_of : X → List ℕ) (xs : List X) → first_repeat name_of xs ≡ None → AllPairs (λ a b. name_of a ≢ name_of b) xs
names_apart {X} name_of xs none i j d before within same =
    let other = apart (same_name name_of) [] xs none (nothing (λ a b. same_name name_of a b ≡ false)) i j d before within in
    let equal : same_name name_of (slice_index_or xs i d) (slice_index_or xs j d) ≡ true = rw same (nat_list_eq_equiv.refl (name_of (slice_index_or xs j d))) in
    true≢false (sym equal ∙ other)

below : {X : Type 0} (p : X → Bool) (xs : List X) (k : ℕ) (d : X) → k < position_or_len p xs → p (slice_index_or xs k d) ≡ false
below p [] k d h = absurd (omega arith)
below {X} p (x ∷ xs) k d h = here (p x) refl k h (λ j less. below p xs j d less)
  where
    here : (b : Bool) → p x ≡ b → (j : ℕ) → j < cond (not b) (1 + position_or_len p xs) 0 → ((i : ℕ) → i < position_or_len p xs → p (slice_index_or xs i d) ≡ false) → p (slice_index_or (x ∷ xs) j d) ≡ false
    here true is j less later = absurd (omega arith)
    here false is zero less later = is
    here false is (suc j) less later = later j (omega arith)

-- no element is taken, where none has a place
position_none : {X : Type 0} (p : X → Bool) (xs : List X) → position p xs ≡ None → All (λ x. p x ≡ false) xs
position_none {X} p xs none k d within = here (nat_lt (position_or_len p xs) (length xs)) refl none
  where
    here : (b : Bool) → nat_lt (position_or_len p xs) (length xs) ≡ b → cond b (Some (position_or_len p xs)) None ≡ None → p (slice_index_or xs k d) ≡ false
    here true is h = absurd (cc)
    here false is h =
        let far : length xs ≤ position_or_len p xs = grind (arith, nat_tests) in
        below p xs k d (omega arith)

there : {X : Type 0} (o : Option X) → is_none o ≡ false → is_some o ≡ true
there None h = absurd (cc)
there (Some x) h = refl

pub accepted : (config : Config) → HasRanges config → first_repeat (λ class. class.name) config.classes ≡ None → first_repeat (λ error. error.name) config.errors ≡ None → first_repeat (λ task. task.key) config.tasks ≡ None
    → position (lacks_class config.classes) config.tasks ≡ None → position (is_own_ancestor config.errors) config.errors ≡ None → first_clash clash [] config.classes ≡ None → IsConfig config
accepted config ranges classes errors tasks declared rounds groups = record {
  ranges = ranges;
  class_names = names_apart (λ class. class.name) config.classes classes;
  error_names = names_apart (λ error. error.name) config.errors errors;
  task_keys = names_apart (λ task. task.key) config.tasks tasks;
  task_classes = λ k d within. there _ (position_none (lacks_class config.classes) config.tasks declared k d within);
  rounds = position_none (is_own_ancestor config.errors) config.errors rounds;
  parents = λ k d within.
      let end = rooted config.errors (position_none (is_own_ancestor config.errors) config.errors rounds) (slice_index_or config.errors k d).name in
      (end.0, end.2);
  groups = apart clash [] config.classes groups (nothing (λ a b. clash a b ≡ false));
}
