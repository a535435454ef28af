-- The counts that a rule leaves in a job's row are within their ranges.
use Rattle.std.proofs.Common.{◌≡◌, ◌≤◌, ◌+◌, ◌-◌, ℕ, zero, suc, Bool, true, false, ◌&&◌, ◌||◌, not, min, cond, nat_le, List, [], ◌∷◌, ◌++◌, length, drop, map, Option, None, Some, ap, sym, ◌∙◌, refl, subst, arith}
use Rattle.std.proofs.lemmas.Bool.{true≢false, and_from, and_parts}
use Rattle.std.proofs.lemmas.List.{length-map, length-append, length-drop}
use Rattle.std.proofs.lemmas.Option.{slice_get_within, get_or_from_slice_get}
use Rattle.std.specs.List.{list_any, list_all}
use Rattle.std.specs.Prelude.{slice_get}
use Rattle.std.specs.Str.{bytes_eq}
use Rattle.job_states.specs.Length.{is_within}
use Rattle.job_states.specs.Ranges.{is_count, is_counted, are_counts}
use Rattle.job_states.specs.Texts.{is_among, are_apart}
use Rattle.job_states.specs.declared.job.Counted.{Counted}
use Rattle.queue_config.specs.Limits.{find_class}
use Rattle.queue_config.specs.ListText.{list_text}
use Rattle.queue_config.specs.Ranges.{IsConfig, IsClass, IsRule}
use Rattle.queue_config.specs.Retry.{rules_in, decision_of, decided, by_act, kept_count, last_from, fits}
use Rattle.queue_config.specs.declared.config.Class.{Class}
use Rattle.queue_config.specs.declared.config.Config.{Config}
use Rattle.queue_config.specs.declared.config.Rule.{Rule}
use Rattle.queue_config.specs.declared.config.RuleAct.{RuleAct}
use Rattle.queue_config.specs.declared.config.RuleAct.TheVariants as rule
use Rattle.queue_config.specs.declared.retry.Decision.{Decision}
use Rattle.queue_config.proofs.ErrorLemmas.{All-find}
use Rattle.queue_model.specs.Chain.{◌>>=◌}
use Rattle.queue_model.proofs.Cases.{same_bytes, bytes_same}
use Rattle.queue_model.proofs.Steps.{then}
use Rattle.plan_model.specs.Counts.{counted, with_count, counts_by, counts_where, counts_after}

abbrev list_of : Counted → List ℕ
list_of c = c.list

-- ---- the list of another count

module _ (list : List ℕ) (count : ℕ) (fits : is_counted (counted list count) ≡ true) where
  abbrev in_place : Counted → Counted
  in_place c = cond (bytes_eq c.list list) (counted list count) c

  same_list : (c : Counted) (b : Bool) → bytes_eq c.list list ≡ b → (cond b (counted list count) c).list ≡ c.list
  same_list c true e = sym (same_bytes c.list list e)
  same_list c false e = refl

  same_lists : (counts : List Counted) → map list_of (map in_place counts) ≡ map list_of counts
  same_lists [] = refl
  same_lists (c ∷ counts) = λ i. same_list c (bytes_eq c.list list) refl i ∷ same_lists counts i

  one_fits : (c : Counted) (b : Bool) → is_counted c ≡ true → is_counted (cond b (counted list count) c) ≡ true
  one_fits c true h = fits
  one_fits c false h = h

  each_fits : (counts : List Counted) → list_all is_counted counts ≡ true → list_all is_counted (map in_place counts) ≡ true
  each_fits [] h = refl
  each_fits (c ∷ counts) h = let p = and_parts (is_counted c) (list_all is_counted counts) h in
      and_from (is_counted (in_place c)) (list_all is_counted (map in_place counts)) (one_fits c (bytes_eq c.list list) p.0) (each_fits counts p.1)

  -- ---- one more, last

  last_fits : (counts : List Counted) → list_all is_counted counts ≡ true → list_all is_counted (counts ++ counted list count ∷ []) ≡ true
  last_fits [] h = and_from (is_counted (counted list count)) true fits refl
  last_fits (c ∷ counts) h = let p = and_parts (is_counted c) (list_all is_counted counts) h in
      and_from (is_counted c) (list_all is_counted (counts ++ counted list count ∷ [])) p.0 (last_fits counts p.1)

  other_way : (a : List ℕ) (b : Bool) → bytes_eq a list ≡ false → bytes_eq list a ≡ b → b ≡ false
  other_way a true e f = absurd (true≢false (sym (subst (λ x. bytes_eq x list ≡ true) (same_bytes list a f) (bytes_same list)) ∙ e))
  other_way a false e f = refl

  neither : (a b : Bool) → (a || b) ≡ false → (a ≡ false) × (b ≡ false)
  neither true b e = absurd (true≢false e)
  neither false b e = (refl, e)

  not_last : (counts : List Counted) (a : List ℕ) → is_among (map list_of counts) a ≡ false → bytes_eq a list ≡ false → is_among (map list_of (counts ++ counted list count ∷ [])) a ≡ false
  not_last [] a h e = ap (λ b. b || false) (other_way a (bytes_eq list a) e refl)
  not_last (c ∷ counts) a h e = let p = neither (bytes_eq c.list a) (is_among (map list_of counts) a) h in
      ap (λ b. b || is_among (map list_of (counts ++ counted list count ∷ [])) a) p.0 ∙ not_last counts a p.1 e

  negated : (b : Bool) → not b ≡ true → b ≡ false
  negated true e = absurd (true≢false (sym e))
  negated false e = refl

  still_apart : (counts : List Counted) → are_apart (map list_of counts) ≡ true → list_any (λ c. bytes_eq c.list list) counts ≡ false → are_apart (map list_of (counts ++ counted list count ∷ [])) ≡ true
  still_apart [] h e = refl
  still_apart (c ∷ counts) h e =
      let p = and_parts (not (is_among (map list_of counts) c.list)) (are_apart (map list_of counts)) h in
      let q = neither (bytes_eq c.list list) (list_any (λ c. bytes_eq c.list list) counts) e in
      and_from (not (is_among (map list_of (counts ++ counted list count ∷ [])) c.list)) (are_apart (map list_of (counts ++ counted list count ∷ [])))
      (ap not (not_last counts c.list (negated (is_among (map list_of counts) c.list) p.0) q.0))
      (still_apart counts p.1 q.1)

  -- ---- without the first ones

  rest_fits : (k : ℕ) (counts : List Counted) → list_all is_counted counts ≡ true → list_all is_counted (drop k counts) ≡ true
  rest_fits zero counts h = h
  rest_fits (suc k) [] h = h
  rest_fits (suc k) (c ∷ counts) h = rest_fits k counts (and_parts (is_counted c) (list_all is_counted counts) h).1

  rest_apart : (k : ℕ) (counts : List Counted) → are_apart (map list_of counts) ≡ true → are_apart (map list_of (drop k counts)) ≡ true
  rest_apart zero counts h = h
  rest_apart (suc k) [] h = h
  rest_apart (suc k) (c ∷ counts) h = rest_apart k counts (and_parts (not (is_among (map list_of counts) c.list)) (are_apart (map list_of counts)) h).1

  rest_without : (k : ℕ) (counts : List Counted) → list_any (λ c. bytes_eq c.list list) counts ≡ false → list_any (λ c. bytes_eq c.list list) (drop k counts) ≡ false
  rest_without zero counts h = h
  rest_without (suc k) [] h = h
  rest_without (suc k) (c ∷ counts) h = rest_without k counts (neither (bytes_eq c.list list) (list_any (λ c. bytes_eq c.list list) counts) h).1

  few : (counts : List Counted) → length counts ≤ 32 → nat_le (length (drop (length counts + 1 - 32) counts ++ counted list count ∷ [])) 32 ≡ true
  few counts h =
      let total = length-append (drop (length counts + 1 - 32) counts) (counted list count ∷ []) in
      let rest = length-drop (length counts + 1 - 32) counts in
      is_most (length (drop (length counts + 1 - 32) counts ++ counted list count ∷ [])) (omega (arith, total, rest, h))
    where
      is_most : (n : ℕ) → n ≤ 32 → nat_le n 32 ≡ true
      is_most n le = grind (arith, le)

  most : (n : ℕ) → nat_le n 32 ≡ true → n ≤ 32
  most n e = grind (arith, e)

  with_count_fits : (counts : List Counted) → are_counts counts ≡ true → are_counts (with_count counts list count) ≡ true
  with_count_fits counts h = by (list_any (λ c. bytes_eq c.list list) counts) refl
    where
      parts : ((nat_le (length counts) 32 && list_all is_counted counts) ≡ true) × (are_apart (map list_of counts) ≡ true)
      parts = and_parts (nat_le (length counts) 32 && list_all is_counted counts) (are_apart (map list_of counts)) h

      sizes : (nat_le (length counts) 32 ≡ true) × (list_all is_counted counts ≡ true)
      sizes = and_parts (nat_le (length counts) 32) (list_all is_counted counts) parts.0

      whole : (new : List Counted) → nat_le (length new) 32 ≡ true → list_all is_counted new ≡ true → are_apart (map list_of new) ≡ true → are_counts new ≡ true
      whole new a b c = and_from (nat_le (length new) 32 && list_all is_counted new) (are_apart (map list_of new)) (and_from (nat_le (length new) 32) (list_all is_counted new) a b) c

      by : (b : Bool) → list_any (λ c. bytes_eq c.list list) counts ≡ b → are_counts (cond b (map in_place counts) (drop (length counts + 1 - 32) counts ++ counted list count ∷ [])) ≡ true
      by true e = whole (map in_place counts) (ap (λ n. nat_le n 32) (length-map counts in_place) ∙ sizes.0) (each_fits counts sizes.1) (ap are_apart (same_lists counts) ∙ parts.1)
      by false e =
          let k : ℕ = length counts + 1 - 32 in
          whole (drop k counts ++ counted list count ∷ []) (few counts (most (length counts) sizes.0)) (last_fits (drop k counts) (rest_fits k counts sizes.1))
          (still_apart (drop k counts) (rest_apart k counts parts.1) (rest_without k counts e))

-- ---- by the rule

pub count_small : (n : ℕ) → is_count (min 65_535 n) ≡ true
count_small n = grind arith

act_counts : (place count : ℕ) (a : RuleAct) → is_count count ≡ true → is_count (by_act place a count).count ≡ true
act_counts place count rule.Discard h = refl
act_counts place count (rule.Retry wait attempts) h = h

decided_counts : (counts : List Counted) (o : Option (ℕ × Rule)) → is_count (decided counts o).count ≡ true
decided_counts counts None = refl
decided_counts counts (Some at) = act_counts at.0 (min 65_535 (kept_count counts (list_text at.1.list) + 1)) at.1.act (count_small (kept_count counts (list_text at.1.list) + 1))

list_fits : (n : ℕ) → 1 ≤ n → n ≤ 1024 → is_within 1 1024 n ≡ true
list_fits n a b = grind (arith, a, b)

by_rule : (counts : List Counted) (count : ℕ) (r : Rule) (a : RuleAct) → r.act ≡ a → IsRule r → is_count count ≡ true → are_counts counts ≡ true → are_counts (counts_by counts count (record r { act = a })) ≡ true
by_rule counts count r rule.Discard is fit small h = h
by_rule counts count r (rule.Retry wait attempts) is fit small h =
    let short = fit.list.text in
    with_count_fits (list_text r.list) count (and_from (is_within 1 1024 (length (list_text r.list))) (is_count count) (list_fits (length (list_text r.list)) (omega arith) short) small) counts h

where_rule : (counts : List Counted) (count : ℕ) (o : Option Rule) → ((r : Rule) → o ≡ Some r → IsRule r) → is_count count ≡ true → are_counts counts ≡ true → are_counts (counts_where counts count o) ≡ true
where_rule counts count None fit small h = h
where_rule counts count (Some r) fit small h = by_rule counts count r r.act refl (fit r refl) small h

-- each rule of a class of the settings
rule_of_class : (settings : Config) → IsConfig settings → (name : List ℕ) (o : Option Class) → find_class name settings.classes ≡ o → (n : ℕ) (r : Rule) → slice_get (rules_in o) n ≡ Some r → IsRule r
rule_of_class settings good name None e n r found = absurd (true≢false (none n r found))
  where
    none : (n : ℕ) (r : Rule) → slice_get [] n ≡ Some r → true ≡ false
    none n r f = cc
rule_of_class settings good name (Some class) e n r found =
    let fits : IsClass class = All-find IsClass (λ (c : Class). bytes_eq c.name name) settings.classes class good.ranges.classes e in
    subst IsRule (get_or_from_slice_get class.rules n r r found) (fits.rules n r (slice_get_within class.rules n r found))

pub counts_fit : (settings : Config) → IsConfig settings → (class error : List ℕ) (counts : List Counted) → are_counts counts ≡ true → are_counts (counts_after settings class (decision_of settings class error counts) counts) ≡ true
counts_fit settings good class error counts h =
    let decision : Decision = decision_of settings class error counts in
    where_rule counts decision.count (decision.rule >>= slice_get (rules_in (find_class class settings.classes)))
    (λ r e. let place = then decision.rule (slice_get (rules_in (find_class class settings.classes))) r e in rule_of_class settings good class (find_class class settings.classes) refl place.0 r place.2)
    (decided_counts counts (last_from (fits settings.errors error) 0 (rules_in (find_class class settings.classes)))) h
