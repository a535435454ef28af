-- Reading counts one after the other, as a loop does.
use Rattle.std.proofs.Common.{◌≡◌, ◌⊎◌, inl, inr, ℕ, Result, List, [], ◌∷◌, ◌++◌, Ok, Err, ◌<◌, ◌≤◌, length, map, nat_le, true, false, IfOk, OnOk, Some, String, Global, string_bytes, string_cmp, nat_cmp, Less, refl, sym, ap, ◌∙◌, subst, lit≤, append_assoc, arith}
use Rattle.std.proofs.lemmas.List.{append-nil, map_push, length-map}
use Rattle.std.proofs.lemmas.List.Sums.{list_all-from_AllPass}
use Rattle.std.proofs.lemmas.Map.Text.{is_eq-slice_cmp}
use Rattle.std.proofs.lemmas.Bool.Decides.{nat_tests}
use Rattle.std.specs.Cmp.Lexicographic.{slice_cmp, nat_list_cmp_total}
use Rattle.std.specs.List.{AllByRecursion, AllPass}
use Rattle.std.specs.List.Sorted.{IsStrictlySortedBy}
use Rattle.std.specs.Ordering.{is_eq, ordering_reverse}
use Rattle.std.specs.Str.{bytes_eq}
use Rattle.serde_json.specs.Data.{Data, Members, no_members, member}
use Rattle.serde_json.specs.View.{members_view}
use Rattle.serde_json.proofs.Views.{Entry, members_len-members_view}
use Rattle.job_states.specs.Judged.{◌>>=◌}
use Rattle.job_states.specs.Ranges.{is_counted, are_counts, texts_of_counts}
use Rattle.job_states.specs.Texts.{is_among, are_apart}
use Rattle.job_states.specs.declared.job.Counted.{Counted}
use Rattle.job_envelope.specs.declared.fault.EnvelopeFault.{EnvelopeFault}
use Rattle.job_envelope.specs.declared.fault.EnvelopeFault.TheVariants.{WrongKind, NoMemory}
use Rattle.job_envelope.specs.declared.member.Member.{Member}
use Rattle.job_envelope.specs.Kind.{Judged, counted, counts_of, counts_from}
use Rattle.job_envelope.specs.Ranges.{AreEnvelopeCounts}

abbrev Key : Type 0
Key = String Global

-- what was read before, and what is still read
abbrev pub with_prefix : List Counted → Judged (List Counted) → Judged (List Counted)
with_prefix prefix others = others >>= λ cs. Ok (prefix ++ cs)

regroup : (prefix : List Counted) (c : Counted) (others : Judged (List Counted)) → with_prefix prefix (others >>= λ cs. Ok (c ∷ cs)) ≡ with_prefix (prefix ++ c ∷ []) others
regroup prefix c (Ok cs) = ap (λ (all : List Counted). Ok all) (simp append_assoc)
regroup prefix c (Err fault) = refl

-- a fault ends what follows it
refused-bind : {X Y E : Type 0} (memory fault : E) (first : Result X E) (f : X → Result Y E) → (fault ≡ memory) ⊎ (first ≡ Err fault) → (fault ≡ memory) ⊎ ((first >>= f) ≡ Err fault)
refused-bind memory fault first f (inl out) = inl out
refused-bind memory fault first f (inr is) = inr (rw is refl)

pub goes_on : (m : Member) (prefix : List Counted) (list : List ℕ) (d : Data) (ms : Members) (c : Counted) (total : Judged (List Counted)) → counted m list d ≡ Ok c
    → with_prefix prefix (counts_of m (member list d ms)) ≡ total → with_prefix (prefix ++ c ∷ []) (counts_of m ms) ≡ total
unfolding counts_of
goes_on m prefix list d ms c total is so_far =
    let one : with_prefix prefix (counts_of m (member list d ms)) ≡ with_prefix (prefix ++ c ∷ []) (counts_of m ms) = rw is (regroup prefix c (counts_of m ms)) in
    sym one ∙ so_far

pub ends : (m : Member) (prefix : List Counted) (list : List ℕ) (d : Data) (ms : Members) (fault : EnvelopeFault) (total : Judged (List Counted)) → (fault ≡ NoMemory) ⊎ (counted m list d ≡ Err fault)
    → with_prefix prefix (counts_of m (member list d ms)) ≡ total → (fault ≡ NoMemory) ⊎ (total ≡ Err fault)
unfolding counts_of
ends m prefix list d ms fault total is so_far =
    let both = refused-bind NoMemory fault (counts_of m (member list d ms)) (λ cs. Ok (prefix ++ cs)) (refused-bind NoMemory fault (counted m list d) (λ first. counts_of m ms >>= λ others. Ok (first ∷ others)) is) in
    subst (λ (given : Judged (List Counted)). (fault ≡ NoMemory) ⊎ (given ≡ Err fault)) so_far both

pub is_done : (m : Member) (prefix : List Counted) (total : Judged (List Counted)) → with_prefix prefix (counts_of m no_members) ≡ total → total ≡ Ok prefix
unfolding counts_of
is_done m prefix total so_far = sym so_far ∙ ap (λ (all : List Counted). Ok all) (append-nil prefix)

-- one more list is read
pub texts_of_counts-push : (cs : List Counted) (c : Counted) (list : List ℕ) (rest total : List (List ℕ)) → c.list ≡ list → texts_of_counts cs ++ list ∷ rest ≡ total → texts_of_counts (cs ++ c ∷ []) ++ rest ≡ total
texts_of_counts-push cs c list rest total is so_far =
    let pushed : texts_of_counts (cs ++ c ∷ []) ≡ texts_of_counts cs ++ c.list ∷ [] = map_push (λ (x : Counted). x.list) cs c in
    rw (pushed, is, append_assoc) so_far

below : (k : Key) (ks : List Key) → AllByRecursion (λ y. string_cmp k y ≡ Less) ks → AllByRecursion (λ y. slice_cmp nat_cmp (string_bytes k) y ≡ Less) (map string_bytes ks)
below k [] all = tt
below k (x ∷ ks) all = (all.0, below k ks all.1)

ascend : (ks : List Key) → IsStrictlySortedBy string_cmp ks → IsStrictlySortedBy (slice_cmp nat_cmp) (map string_bytes ks)
unfolding IsStrictlySortedBy
ascend [] sorted = tt
ascend (k ∷ ks) sorted = (below k ks sorted.0, ascend ks sorted.1)

bytes_eq-above : (text later : List ℕ) → slice_cmp nat_cmp text later ≡ Less → bytes_eq later text ≡ false
bytes_eq-above text later above = sym (is_eq-slice_cmp later text) ∙ ap is_eq (nat_list_cmp_total.antisymm later text ∙ ap ordering_reverse above)

is_among-above : (text : List ℕ) (texts : List (List ℕ)) → AllByRecursion (λ later. slice_cmp nat_cmp text later ≡ Less) texts → is_among texts text ≡ false
is_among-above text [] above = refl
is_among-above text (later ∷ texts) above = rw (bytes_eq-above text later above.0, is_among-above text texts above.1) refl

-- texts in strict order are apart
are_apart-ordered : (texts : List (List ℕ)) → IsStrictlySortedBy (slice_cmp nat_cmp) texts → are_apart texts ≡ true
unfolding IsStrictlySortedBy
are_apart-ordered [] ordered = refl
are_apart-ordered (text ∷ texts) ordered = rw (is_among-above text texts ordered.0, are_apart-ordered texts ordered.1) refl

are_counts-ordered : (cs : List Counted) → length cs ≤ 16 → AllPass is_counted cs → IsStrictlySortedBy (slice_cmp nat_cmp) (texts_of_counts cs) → are_counts cs ≡ true
are_counts-ordered cs few each ordered =
    let most : nat_le (length cs) 32 ≡ true = grind (arith, nat_tests) in
    rw (most, list_all-from_AllPass is_counted cs each, are_apart-ordered (texts_of_counts cs) ordered) refl

pub AreEnvelopeCounts-read : (cs : List Counted) (ks : List Key) → length ks ≤ 16 → AllPass is_counted cs → texts_of_counts cs ≡ map string_bytes ks → IsStrictlySortedBy string_cmp ks → AreEnvelopeCounts cs
AreEnvelopeCounts-read cs ks few each lists sorted =
    let all : length (texts_of_counts cs) ≡ length cs = length-map cs (λ (x : Counted). x.list) in
    let keys : length (map string_bytes ks) ≡ length ks = length-map ks string_bytes in
    let same : length (texts_of_counts cs) ≡ length (map string_bytes ks) = ap length lists in
    let ordered : IsStrictlySortedBy (slice_cmp nat_cmp) (texts_of_counts cs) = rw lists (ascend ks sorted) in
    let few_counts : length cs ≤ 16 = omega arith in
    record { few = few_counts; row = are_counts-ordered cs few_counts each ordered; ordered = ordered }

pub AreEnvelopeCounts-if_read : (r : Judged (List Counted)) (ks : List Key) → length ks ≤ 16 → IfOk r (AllPass is_counted) → IfOk r (λ cs. texts_of_counts cs ≡ map string_bytes ks)
    → OnOk r (IsStrictlySortedBy string_cmp ks) → IfOk r AreEnvelopeCounts
AreEnvelopeCounts-if_read (Ok cs) ks few each lists sorted = AreEnvelopeCounts-read cs ks few each lists sorted
AreEnvelopeCounts-if_read (Err fault) ks few each lists sorted = tt

pub AreEnvelopeCounts-none : AreEnvelopeCounts []
unfolding IsStrictlySortedBy
AreEnvelopeCounts-none = record { few = lit≤ tt; row = refl; ordered = tt }

pub counts_from-few : (m : Member) (es : List Entry) → length es ≤ 16 → counts_from m (Some (members_view es)) ≡ counts_of m (members_view es)
counts_from-few m es few = rw members_len-members_view (grind (arith, nat_tests))

pub counts_from-many : (m : Member) (es : List Entry) → 16 < length es → counts_from m (Some (members_view es)) ≡ Err (WrongKind m)
counts_from-many m es many = rw members_len-members_view (grind (arith, nat_tests))
