-- Paths that no route has.
use Rattle.std.proofs.Common.{◌≡◌, ◌≤◌, ℕ, List, [], ◌∷◌, length, map, get_or, take, drop, codes, ◌-◌, length-drop, Bool, true, false, ◌&&◌, not, refl, inl, inr, arith, Option, None, Some}
use Rattle.std.specs.Borrow.{Bor}
use Rattle.std.specs.List.{filter_map}
use Rattle.std.specs.Option.{option_map, option_and_then}
use Rattle.std.specs.Str.{bytes_eq}
use Rattle.std.proofs.lemmas.List.{take_all}
use Rattle.std.proofs.lemmas.Bool.{cases_Bool, and_cases}
use Rattle.std.proofs.lemmas.Slice.Eq.{bytes_eq-Decides}
use Rattle.queue_routes.specs.Routes.{Segment, word, pid, id, task, Params, no_params, Route, number_of, name_of, params_after, way_of, routes, ways_of}
use Rattle.queue_routes.specs.Ways.{process_path}

-- ---- words

pub bytes_eq-apart : (text w : List ℕ) → (text ≡ w → ⊥) → bytes_eq text w ≡ false
bytes_eq-apart text w apart =
    elim (cases_Bool (bytes_eq text w)) [ inl same ↦ absurd (apart ((bytes_eq-Decides text w).0 same)) | inr other ↦ other ]

two-apart : (a b v w : List ℕ) → (a ≡ v → b ≡ w → ⊥) → (bytes_eq a v && (bytes_eq b w && true)) ≡ false
two-apart a b v w apart =
    elim (cases_Bool (bytes_eq a v)) [
      | inl same ↦ rw (same, bytes_eq-apart b w (apart ((bytes_eq-Decides a v).0 same))) refl
      | inr other ↦ rw other refl
    ]

-- ---- shapes: as many segments, and the words of the pattern

abbrev has_length : List Segment → List (List ℕ) → Bool
has_length [] [] = true
has_length [] (text ∷ path) = false
has_length (segment ∷ pattern) [] = false
has_length (segment ∷ pattern) (text ∷ path) = has_length pattern path

abbrev has_words : List Segment → List (List ℕ) → Bool
has_words [] path = true
has_words (segment ∷ pattern) [] = true
has_words (word w ∷ pattern) (text ∷ path) = bytes_eq text w && has_words pattern path
has_words (pid ∷ pattern) (text ∷ path) = has_words pattern path
has_words (id ∷ pattern) (text ∷ path) = has_words pattern path
has_words (task ∷ pattern) (text ∷ path) = has_words pattern path

abbrev has_shape : List (List ℕ) → Route → Bool
has_shape path route = has_length route.pattern path && has_words route.pattern path

none_after : {X : Type 0} (found : Option X) (f : X → Params) (go : Params → Option Params) → ((params : Params) → go params ≡ None) → option_and_then go (option_map f found) ≡ None
none_after None f go none = refl
none_after (Some x) f go none = none (f x)

longer : (pattern : List Segment) (path : List (List ℕ)) (params : Params) → has_length pattern path ≡ false → params_after params pattern path ≡ None
longer [] [] params other = cc
longer [] (text ∷ path) params other = refl
longer (segment ∷ pattern) [] params other = refl
longer (word w ∷ pattern) (text ∷ path) params other =
    elim (cases_Bool (bytes_eq text w)) [ inl same ↦ rw same (longer pattern path params other) | inr apart ↦ rw apart refl ]
longer (pid ∷ pattern) (text ∷ path) params other = none_after (number_of text) _ _ (λ next. longer pattern path next other)
longer (id ∷ pattern) (text ∷ path) params other = none_after (number_of text) _ _ (λ next. longer pattern path next other)
longer (task ∷ pattern) (text ∷ path) params other = none_after (name_of text) _ _ (λ next. longer pattern path next other)

wordless : (pattern : List Segment) (path : List (List ℕ)) (params : Params) → has_words pattern path ≡ false → params_after params pattern path ≡ None
wordless [] path params other = cc
wordless (segment ∷ pattern) [] params other = refl
wordless (word w ∷ pattern) (text ∷ path) params other =
    elim (cases_Bool (bytes_eq text w)) [
      | inl same ↦ let rest = rw same at other in rw same (wordless pattern path params rest)
      | inr apart ↦ rw apart refl
    ]
wordless (pid ∷ pattern) (text ∷ path) params other = none_after (number_of text) _ _ (λ next. wordless pattern path next other)
wordless (id ∷ pattern) (text ∷ path) params other = none_after (number_of text) _ _ (λ next. wordless pattern path next other)
wordless (task ∷ pattern) (text ∷ path) params other = none_after (name_of text) _ _ (λ next. wordless pattern path next other)

way_of-shapeless : (path : List (List ℕ)) (route : Route) → has_shape path route ≡ false → way_of path route ≡ None
way_of-shapeless path route other =
    elim (and_cases (has_length route.pattern path) (has_words route.pattern path) other) [
      | inl long ↦ rw (longer route.pattern path no_params long) refl
      | inr words ↦ rw (wordless route.pattern path no_params words) refl
    ]

abbrev lacks_all : List Route → List (List ℕ) → Bool
lacks_all [] path = true
lacks_all (route ∷ more) path = not (has_shape path route) && lacks_all more path

not-parts : (b rest : Bool) → (not b && rest) ≡ true → (b ≡ false) × (rest ≡ true)
not-parts true rest both = cc
not-parts false rest both = (refl, both)

none_found : (more : List Route) (path : List (List ℕ)) → lacks_all more path ≡ true → filter_map (way_of path) more ≡ []
none_found [] path lacks = refl
none_found (route ∷ more) path lacks =
    let parts = not-parts (has_shape path route) (lacks_all more path) lacks in
    rw (way_of-shapeless path route parts.0, none_found more path parts.1) refl

ways_of-lacks : (path : List (List ℕ)) → lacks_all routes path ≡ true → ways_of path ≡ []
unfolding ways_of
ways_of-lacks path lacks = none_found routes path lacks

-- ---- segments as the code has them

abbrev pub Segments : Type 0
Segments = List (Bor (List ℕ))

abbrev pub texts : Segments → List (List ℕ)
texts segments = map (λ s. s.now) segments

abbrev pub text_at : Segments → ℕ → List ℕ
text_at segments i = (get_or segments i (record { ref_ptr = (0, 0); now = [] })).now

pub process_none : (p : List ℕ) (rest : Segments) → (length rest ≡ 0 → ⊥) → (length rest ≡ 1 → text_at rest 0 ≡ codes "beat" → ⊥) → (length rest ≡ 1 → text_at rest 0 ≡ codes "poll" → ⊥)
    → (length rest ≡ 3 → text_at rest 0 ≡ codes "jobs" → ⊥) → (length rest ≡ 2 → text_at rest 0 ≡ codes "tick" → ⊥) → ways_of (process_path p (texts rest)) ≡ []
process_none p [] some beat poll jobs tick = absurd (some refl)
process_none p (x ∷ []) some beat poll jobs tick = ways_of-lacks _ (rw (bytes_eq-apart x.now _ (beat refl), bytes_eq-apart x.now _ (poll refl)) refl)
process_none p (x ∷ y ∷ []) some beat poll jobs tick = ways_of-lacks _ (rw (bytes_eq-apart x.now _ (tick refl)) refl)
process_none p (x ∷ y ∷ z ∷ []) some beat poll jobs tick = ways_of-lacks _ (rw (bytes_eq-apart x.now _ (jobs refl)) refl)
process_none p (x ∷ y ∷ z ∷ u ∷ more) some beat poll jobs tick = ways_of-lacks _ refl

two_none : (a b : List ℕ) → (a ≡ [] → b ≡ codes "jobs" → ⊥) → (a ≡ [] → b ≡ codes "processes" → ⊥) → ways_of (a ∷ b ∷ []) ≡ []
two_none [] b jobs processes = ways_of-lacks _ (rw (bytes_eq-apart b _ (jobs refl), bytes_eq-apart b _ (processes refl)) refl)
two_none (c ∷ a) b jobs processes = ways_of-lacks _ refl

three_none : (a b d : List ℕ) → (a ≡ [] → b ≡ codes "jobs" → d ≡ codes "bulk" → ⊥) → (a ≡ [] → b ≡ codes "processes" → ⊥) → (a ≡ [] → b ≡ codes "upkeep" → ⊥) → ways_of (a ∷ b ∷ d ∷ []) ≡ []
three_none [] b d bulk processes upkeep =
    ways_of-lacks _ (rw (two-apart b d _ _ (bulk refl), bytes_eq-apart b _ (processes refl), bytes_eq-apart b _ (upkeep refl)) refl)
three_none (c ∷ a) b d bulk processes upkeep = ways_of-lacks _ refl

more_none : (a b d e : List ℕ) (more : List (List ℕ)) → (a ≡ [] → b ≡ codes "processes" → ⊥) → ways_of (a ∷ b ∷ d ∷ e ∷ more) ≡ []
more_none (c ∷ a) b d e [] processes = ways_of-lacks _ refl
more_none (c ∷ a) b d e (f ∷ []) processes = ways_of-lacks _ refl
more_none (c ∷ a) b d e (f ∷ g ∷ []) processes = ways_of-lacks _ refl
more_none (c ∷ a) b d e (f ∷ g ∷ h ∷ more) processes = ways_of-lacks _ refl
more_none [] b d e [] processes = ways_of-lacks _ (rw (bytes_eq-apart b _ (processes refl)) refl)
more_none [] b d e (f ∷ []) processes = ways_of-lacks _ (rw (bytes_eq-apart b _ (processes refl)) refl)
more_none [] b d e (f ∷ g ∷ []) processes = ways_of-lacks _ (rw (bytes_eq-apart b _ (processes refl)) refl)
more_none [] b d e (f ∷ g ∷ h ∷ more) processes = ways_of-lacks _ refl

pub place_none : (s : Segments) → (length s ≡ 2 → text_at s 0 ≡ [] → text_at s 1 ≡ codes "jobs" → ⊥) → (length s ≡ 3 → text_at s 0 ≡ [] → text_at s 1 ≡ codes "jobs" → text_at s 2 ≡ codes "bulk" → ⊥)
    → (length s ≡ 2 → text_at s 0 ≡ [] → text_at s 1 ≡ codes "processes" → ⊥) → (3 ≤ length s → text_at s 0 ≡ [] → text_at s 1 ≡ codes "processes" → ⊥) → (length s ≡ 3 → text_at s 0 ≡ [] → text_at s 1 ≡ codes "upkeep" → ⊥)
    → ways_of (texts s) ≡ []
place_none [] jobs bulk processes process upkeep = ways_of-lacks _ refl
place_none (a ∷ []) jobs bulk processes process upkeep = ways_of-lacks _ refl
place_none (a ∷ b ∷ []) jobs bulk processes process upkeep = two_none a.now b.now (jobs refl) (processes refl)
place_none (a ∷ b ∷ d ∷ []) jobs bulk processes process upkeep = three_none a.now b.now d.now (bulk refl) (process (omega arith)) (upkeep refl)
place_none (a ∷ b ∷ d ∷ e ∷ more) jobs bulk processes process upkeep = more_none a.now b.now d.now e.now (texts more) (process (omega arith))

-- a path of a process, as the code cuts it
texts-drop : (s : Segments) → 3 ≤ length s → text_at s 0 ≡ [] → text_at s 1 ≡ codes "processes" → texts s ≡ process_path (text_at s 2) (texts (drop 3 s))
texts-drop [] long root processes = absurd (omega arith)
texts-drop (a ∷ []) long root processes = absurd (omega arith)
texts-drop (a ∷ b ∷ []) long root processes = absurd (omega arith)
texts-drop (a ∷ b ∷ d ∷ more) long root processes = rw (root, processes) refl

pub texts-process : (s : Segments) → 3 ≤ length s → text_at s 0 ≡ [] → text_at s 1 ≡ codes "processes" → texts s ≡ process_path (text_at s 2) (texts (take (length s - 3) (drop 3 s)))
texts-process s long root processes =
    let rest : length (drop 3 s) ≤ length s - 3 = rw length-drop (omega arith) in
    rw (take_all _ _ rest) (texts-drop s long root processes)
