-- Loops that read so many items in turn.
use Rattle.std.proofs.Common.{◌≡◌, ℕ, suc, ◌+◌, ◌-◌, ◌<◌, ◌≤◌, List, [], ◌∷◌, ◌++◌, map, Ok, Err, refl, sym, ap, ◌∙◌, append_assoc, arith, length, take, drop, true, length-drop}
use Rattle.std.proofs.lemmas.List.{append-nil, map-append, take_all}
use Rattle.job_states.specs.declared.job.Counted.{Counted}
use Rattle.std.specs.List.{list_any}
use Rattle.std.specs.Str.{bytes_eq}
use Rattle.job_states.specs.Texts.{is_among}
use Rattle.journal_format.specs.declared.reader.Stop.{Stop}
use Rattle.journal_format.specs.declared.reader.Stop.TheVariants.{Refused, NoMemory}
use Rattle.job_states.specs.Judged.{◌>>=◌}
use Rattle.journal_format.specs.Reading.{Read, items}
use Rattle.journal_format.specs.Reads.{Does}
use Rattle.journal_format.specs.Grammar.{counted_at, counts_after, other_text}
use Rattle.journal_format.specs.Utf8.{text_of}

abbrev pub with_items : {A : Type 0} → List A → Read (List A) → Read (List A)
with_items prefix r = r >>= λ t. Ok (prefix ++ t.0, t.1)

abbrev then_items : {A : Type 0} → A → Read (List A) → Read (List A)
then_items a r = r >>= λ t. Ok (a ∷ t.0, t.1)

with_items-more : {A : Type 0} (prefix : List A) (a : A) (r : Read (List A)) → with_items prefix (then_items a r) ≡ with_items (prefix ++ a ∷ []) r
with_items-more {A = A} prefix a (Ok x) = ap (λ (t : List A). let y : Read (List A) = Ok (t, x.1) in y) (sym (append_assoc prefix (a ∷ []) x.0))
with_items-more prefix a (Err e) = refl

flat : {A : Type 0} (r : Read (List A)) (a : A) → ((r >>= λ x. let y : Read (A × List A) = Ok ((a, x.0), x.1) in y) >>= λ p. let z : Read (List A) = Ok (p.0.0 ∷ p.0.1, p.1) in z) ≡ then_items a r
flat (Ok x) a = refl
flat (Err e) a = refl

items_step : {A : Type 0} (item : List ℕ → Read A) (n : ℕ) (bytes : List ℕ) (a : A) (rest : List ℕ) → item bytes ≡ Ok (a, rest) → items item (suc n) bytes ≡ then_items a (items item n rest)
unfolding items
items_step item n bytes a rest e = rw e (flat (items item n rest) a)

items_err : {A : Type 0} (item : List ℕ → Read A) (n : ℕ) (bytes rest : List ℕ) → item bytes ≡ Err rest → items item (suc n) bytes ≡ Err rest
unfolding items
items_err item n bytes rest e = rw e refl

items_none : {A : Type 0} (item : List ℕ → Read A) (bytes : List ℕ) → items item 0 bytes ≡ Ok ([], bytes)
unfolding items
items_none item bytes = refl

one_less : (n i : ℕ) → i < n → n - i ≡ suc (n - (i + 1))
one_less n i lt = omega arith

pub items_on : {A : Type 0} (item : List ℕ → Read A) (prefix : List A) (n i : ℕ) (bytes : List ℕ) (a : A) (rest : List ℕ) (total : Read (List A)) → i < n → item bytes ≡ Ok (a, rest)
    → with_items prefix (items item (n - i) bytes) ≡ total → with_items (prefix ++ a ∷ []) (items item (n - (i + 1)) rest) ≡ total
items_on item prefix n i bytes a rest total lt e h =
    sym (with_items-more prefix a (items item (n - (i + 1)) rest)) ∙ ap (with_items prefix) (sym (items_step item (n - (i + 1)) bytes a rest e)) ∙ ap (λ (k : ℕ). with_items prefix (items item k bytes)) (sym (one_less n i lt)) ∙ h

pub items_stop : {A : Type 0} (item : List ℕ → Read A) (prefix : List A) (n i : ℕ) (bytes rest : List ℕ) (total : Read (List A)) → i < n → item bytes ≡ Err rest
    → with_items prefix (items item (n - i) bytes) ≡ total → total ≡ Err rest
items_stop item prefix n i bytes rest total lt e h =
    sym h ∙ ap (λ (k : ℕ). with_items prefix (items item k bytes)) (one_less n i lt) ∙ ap (with_items prefix) (items_err item (n - (i + 1)) bytes rest e)

pub items_done : {A : Type 0} (item : List ℕ → Read A) (prefix : List A) (n i : ℕ) (bytes : List ℕ) (total : Read (List A)) → n ≤ i
    → with_items prefix (items item (n - i) bytes) ≡ total → total ≡ Ok (prefix, bytes)
items_done {A = A} item prefix n i bytes total le h =
    sym h ∙ ap (λ (k : ℕ). with_items prefix (items item k bytes)) (let z : n - i ≡ 0 = omega arith in z) ∙ ap (with_items prefix) (items_none item bytes) ∙ ap (λ (t : List A). let y : Read (List A) = Ok (t, bytes) in y) (append-nil prefix)

-- what an item's failure means for the loop
pub items_fail : {A : Type 0} (item : List ℕ → Read A) (prefix : List A) (n i : ℕ) (bytes rest : List ℕ) (total : Read (List A)) (s : Stop) → i < n
    → Does {X = A} (λ a. a) (Err s) rest (item bytes) → with_items prefix (items item (n - i) bytes) ≡ total → Does {X = List A} (λ a. a) (Err s) rest total
items_fail item prefix n i bytes rest total Refused lt e h = items_stop item prefix n i bytes rest total lt e h
items_fail item prefix n i bytes rest total NoMemory lt e h = tt

-- ---- counts

abbrev pub lists : List Counted → List (List ℕ)
lists cs = map (λ c. c.list) cs

counts_step : (before : List (List ℕ)) (n : ℕ) (bytes : List ℕ) (a : Counted) (rest : List ℕ) → counted_at before bytes ≡ Ok (a, rest) → counts_after before (suc n) bytes ≡ then_items a (counts_after (before ++ a.list ∷ []) n rest)
unfolding counts_after
counts_step before n bytes a rest e = rw e (flat (counts_after (before ++ a.list ∷ []) n rest) a)

counts_err : (before : List (List ℕ)) (n : ℕ) (bytes rest : List ℕ) → counted_at before bytes ≡ Err rest → counts_after before (suc n) bytes ≡ Err rest
unfolding counts_after
counts_err before n bytes rest e = rw e refl

counts_none : (before : List (List ℕ)) (bytes : List ℕ) → counts_after before 0 bytes ≡ Ok ([], bytes)
unfolding counts_after
counts_none before bytes = refl

counts_on_at : (prefix : List Counted) (n i : ℕ) (bytes : List ℕ) (a : Counted) (rest : List ℕ) (total : Read (List Counted)) → i < n → counted_at (lists prefix) bytes ≡ Ok (a, rest)
    → with_items prefix (counts_after (lists prefix) (n - i) bytes) ≡ total → with_items (prefix ++ a ∷ []) (counts_after (lists (prefix ++ a ∷ [])) (n - (i + 1)) rest) ≡ total
counts_on_at prefix n i bytes a rest total lt e h =
    ap (λ (b : List (List ℕ)). with_items (prefix ++ a ∷ []) (counts_after b (n - (i + 1)) rest)) (map-append (λ c. c.list) prefix (a ∷ []))
    ∙ sym (with_items-more prefix a (counts_after (lists prefix ++ a.list ∷ []) (n - (i + 1)) rest)) ∙ ap (with_items prefix) (sym (counts_step (lists prefix) (n - (i + 1)) bytes a rest e)) ∙ ap (λ (k : ℕ). with_items prefix (counts_after (lists prefix) k bytes)) (sym (one_less n i lt)) ∙ h

counts_fail_at : (prefix : List Counted) (n i : ℕ) (bytes rest : List ℕ) (total : Read (List Counted)) (s : Stop) → i < n
    → Does {X = Counted} (λ a. a) (Err s) rest (counted_at (lists prefix) bytes) → with_items prefix (counts_after (lists prefix) (n - i) bytes) ≡ total → Does {X = List Counted} (λ a. a) (Err s) rest total
counts_fail_at prefix n i bytes rest total Refused lt e h = sym h ∙ ap (λ (k : ℕ). with_items prefix (counts_after (lists prefix) k bytes)) (one_less n i lt) ∙ ap (with_items prefix) (counts_err (lists prefix) (n - (i + 1)) bytes rest e)
counts_fail_at prefix n i bytes rest total NoMemory lt e h = tt

pub counts_done : (prefix : List Counted) (n i : ℕ) (bytes : List ℕ) (total : Read (List Counted)) → n ≤ i
    → with_items prefix (counts_after (lists prefix) (n - i) bytes) ≡ total → total ≡ Ok (prefix, bytes)
counts_done prefix n i bytes total le h =
    sym h ∙ ap (λ (k : ℕ). with_items prefix (counts_after (lists prefix) k bytes)) (let z : n - i ≡ 0 = omega arith in z) ∙ ap (with_items prefix) (counts_none (lists prefix) bytes) ∙ ap (λ (t : List Counted). let y : Read (List Counted) = Ok (t, bytes) in y) (append-nil prefix)

pub any_list : (t : List ℕ) (cs : List Counted) → is_among (map (λ c. c.list) cs) t ≡ list_any (λ c. bytes_eq c.list t) cs
any_list t [] = refl
any_list t (c ∷ cs) = rw (any_list t cs) refl

-- the same, for the counts so far as a slice
pub counts_on : (seen prefix : List Counted) → seen ≡ prefix → (n i : ℕ) (bytes : List ℕ) (a : Counted) (rest : List ℕ) (total : Read (List Counted)) → i < n → counted_at (lists seen) bytes ≡ Ok (a, rest)
    → with_items prefix (counts_after (lists prefix) (n - i) bytes) ≡ total → with_items (prefix ++ a ∷ []) (counts_after (lists (prefix ++ a ∷ [])) (n - (i + 1)) rest) ≡ total
counts_on seen prefix same n i bytes a rest total lt e h = counts_on_at prefix n i bytes a rest total lt (ap (λ (c : List Counted). counted_at (lists c) bytes) (sym same) ∙ e) h

pub counts_fail : (seen prefix : List Counted) → seen ≡ prefix → (n i : ℕ) (bytes rest : List ℕ) (total : Read (List Counted)) (s : Stop) → i < n
    → Does {X = Counted} (λ a. a) (Err s) rest (counted_at (lists seen) bytes) → with_items prefix (counts_after (lists prefix) (n - i) bytes) ≡ total → Does {X = List Counted} (λ a. a) (Err s) rest total
counts_fail seen prefix same n i bytes rest total Refused lt e h = counts_fail_at prefix n i bytes rest total Refused lt (ap (λ (c : List Counted). counted_at (lists c) bytes) (sym same) ∙ e) h
counts_fail seen prefix same n i bytes rest total NoMemory lt e h = tt

pub other_stops : (before : List Counted) (len : ℕ) (bytes t rest : List ℕ) → len - 1 ≤ length bytes → text_of len bytes ≡ Ok (t, rest) → list_any (λ c. bytes_eq c.list t) before ≡ true
    → other_text (lists before) len bytes ≡ Err (take (length bytes - (len - 1)) (drop (len - 1) bytes))
unfolding other_text
other_stops before len bytes t rest le e is =
    let all : take (length bytes - (len - 1)) (drop (len - 1) bytes) ≡ drop (len - 1) bytes = take_all (length bytes - (len - 1)) (drop (len - 1) bytes) (let z = length-drop (len - 1) bytes in omega arith) in
    let found : is_among (lists before) t ≡ true = any_list t before ∙ is in
    rw (e, found, all) refl
