-- Bytes that begin with a line, and bytes that don't.
use Rattle.std.proofs.Common.{◌≡◌, ◌<◌, ◌≤◌, ◌+◌, ◌-◌, ℕ, suc, Bool, true, false, cond, ◌||◌, leb, List, [], ◌∷◌, ◌++◌, length, take, drop, get_or, position, Option, None, Some, IfSome, IfNone, inl, inr, refl, ap, ap₂, sym, ◌∙◌, subst, arith, append_assoc, add-one, length-append, length-take, leb-true, leb-false, ltb-true, ltb-false, eqb-true}
use Rattle.std.specs.List.{list_any, position_or_len}
use Rattle.std.proofs.Math.Bool.{or-true}
use Rattle.std.proofs.Math.Seq.{take-append-add, split_at}
use Rattle.std.proofs.lemmas.List.{take_all, take-append-le, take-append-drop, get_or-take}
use Rattle.std.proofs.lemmas.List.Folds.{list_any-append, list_any_none}
use Rattle.std.proofs.lemmas.List.Sums.{fails_before_first, passes_at_first}
use Rattle.trace_lines.specs.Input.{is_feed, HasNoFeed, BeginsWith, IsLine, IsUnfinished, HasBadText, HasLongText, IsBroken, IsBad, IsJudged}
use Rattle.trace_lines.specs.Lines.{line_of}
use Rattle.trace_lines.specs.declared.line.Line.{Line}

-- ---- line feeds

neither : (a b : Bool) → (a || b) ≡ false → (a ≡ false) × (b ≡ false)
neither true b none = absurd (let differ : true ≡ false = none in cc)
neither false b none = (refl, none)

no_feed_take : (n : ℕ) (bytes : List ℕ) → HasNoFeed bytes → HasNoFeed (take n bytes)
no_feed_take n bytes none =
    (neither _ _ (sym (list_any-append is_feed (take n bytes) (drop n bytes)) ∙ ap (list_any is_feed) (take-append-drop n bytes) ∙ none)).0

feed_in : (text rest : List ℕ) → HasNoFeed (text ++ 10 ∷ rest) → ⊥
feed_in text rest none =
    let differ : true ≡ false = sym (list_any-append is_feed text (10 ∷ rest) ∙ or-true (list_any is_feed text)) ∙ none in cc

-- ---- the text before the first of them

no_first : (x : ℕ) (xs rest more : List ℕ) → 10 ∷ rest ≡ x ∷ more → HasNoFeed (x ∷ xs) → ⊥
no_first x xs rest more same none =
    let is : 10 ≡ x = cc in
    let differ : true ≡ false = ap is_feed is ∙ (neither (is_feed x) _ none).0 in cc

one_text : (text other rest more : List ℕ) → text ++ 10 ∷ rest ≡ other ++ 10 ∷ more → HasNoFeed text → HasNoFeed other
    → (text ≡ other) × (rest ≡ more)
one_text [] [] rest more same none none' = (refl, cc)
one_text [] (y ∷ ys) rest more same none none' = absurd (no_first y ys rest _ same none')
one_text (x ∷ xs) [] rest more same none none' = absurd (no_first x xs more _ (sym same) none)
one_text (x ∷ xs) (y ∷ ys) rest more same none none' =
    let heads : x ≡ y = cc in
    let tails : xs ++ 10 ∷ rest ≡ ys ++ 10 ∷ more = cc in
    let both = one_text xs ys rest more tails (neither (is_feed x) _ none).1 (neither (is_feed y) _ none').1 in
    (cc, both.1)

one_begin : (bytes text other rest more : List ℕ) → BeginsWith bytes text rest → BeginsWith bytes other more → (text ≡ other) × (rest ≡ more)
one_begin bytes text other rest more a b = one_text text other rest more (sym a.parts ∙ b.parts) a.whole b.whole

begins_more : (bytes text rest more : List ℕ) → BeginsWith bytes text rest → BeginsWith (bytes ++ more) text (rest ++ more)
begins_more bytes text rest more a = record { parts = ap (λ w. w ++ more) a.parts ∙ append_assoc text (10 ∷ rest) more; whole = a.whole }

-- ---- lines

pub one_line : (bytes : List ℕ) (line other : Line) (rest more : List ℕ) → IsLine bytes line rest → IsLine bytes other more
    → (line ≡ other) × (rest ≡ more)
one_line bytes line other rest more a b =
    let both = one_begin bytes a.text b.text rest more a.begins b.begins in
    let found : Some line ≡ Some other = sym a.spells ∙ ap line_of both.0 ∙ b.spells in
    (cc, both.1)

pub line_finished : (bytes : List ℕ) (line : Line) (rest : List ℕ) → IsLine bytes line rest → IsUnfinished bytes → ⊥
line_finished bytes line rest a partly = let P : List ℕ → Type 0 = HasNoFeed in feed_in a.text rest (subst P a.begins.parts partly.0)

spelled_short : (text : List ℕ) (line : Line) → line_of text ≡ Some line → length text ≤ 4096
spelled_short text line spells = by_length (leb (length text) 4096) refl
  where
    by_length : (b : Bool) → leb (length text) 4096 ≡ b → length text ≤ 4096
    by_length true short = leb-true _ _ short
    by_length false long = absurd (let differ : None ≡ Some line = rw long at spells in cc)

line_not_bad : (bytes : List ℕ) (line : Line) (rest : List ℕ) → IsLine bytes line rest → HasBadText bytes → ⊥
line_not_bad bytes line rest a bad =
    let both = one_begin bytes a.text bad.text rest bad.rest a.begins bad.begins in
    let differ : Some line ≡ None = sym a.spells ∙ ap line_of both.0 ∙ bad.spells in cc

line_not_long : (bytes : List ℕ) (line : Line) (rest : List ℕ) → IsLine bytes line rest → HasLongText bytes → ⊥
line_not_long bytes line rest a long =
    let k = 4096 - length a.text in
    let room : 4097 ≡ length a.text + suc k = omega (arith, spelled_short a.text line a.spells) in
    let first : take 4097 bytes ≡ a.text ++ 10 ∷ take k rest =
    ap (take 4097) a.begins.parts ∙ ap (λ n. take n (a.text ++ 10 ∷ rest)) room ∙ take-append-add a.text (10 ∷ rest) (suc k) in
    let P : List ℕ → Type 0 = HasNoFeed in
    feed_in a.text (take k rest) (subst P first long.1)

pub line_good : (bytes : List ℕ) (line : Line) (rest : List ℕ) → IsLine bytes line rest → IsBad bytes → ⊥
line_good bytes line rest a (inl (inl bad)) = line_not_bad bytes line rest a bad
line_good bytes line rest a (inl (inr long)) = line_not_long bytes line rest a long
line_good bytes line rest a (inr (partly, some)) = line_finished bytes line rest a partly

pub line_more : (bytes : List ℕ) (line : Line) (rest more : List ℕ) → IsLine bytes line rest → IsLine (bytes ++ more) line (rest ++ more)
line_more bytes line rest more a = record { text = a.text; begins = begins_more bytes a.text rest more a.begins; spells = a.spells }

pub broken_more : (bytes more : List ℕ) → IsBroken bytes → IsBroken (bytes ++ more)
broken_more bytes more (inl bad) =
    inl (record { text = bad.text; rest = bad.rest ++ more; begins = begins_more bytes bad.text bad.rest more bad.begins; spells = bad.spells })
broken_more bytes more (inr (long, none)) =
    let P : List ℕ → Type 0 = HasNoFeed in
    inr (omega (arith, long, length-append bytes more), subst P (sym (take-append-le 4097 bytes more (omega (arith, long)))) none)

-- ---- where the first line feed is found

some_at : (b : Bool) (n m : ℕ) → cond b (Some n) None ≡ Some m → (b ≡ true) × (n ≡ m)
some_at true n m is = (refl, cc)
some_at false n m is = absurd (let differ : None ≡ Some m = is in cc)

none_at : (b : Bool) (n : ℕ) → cond b (Some n) None ≡ None → b ≡ false
none_at true n is = absurd (let differ : Some n ≡ None = is in cc)
none_at false n is = refl

no_feed : (bytes : List ℕ) → position is_feed bytes ≡ None → HasNoFeed bytes
no_feed bytes none =
    let far : length bytes ≤ position_or_len is_feed bytes = ltb-false _ _ (none_at _ _ none) in
    list_any_none is_feed bytes (λ k d within. fails_before_first is_feed bytes k d (omega arith))

-- the first n of the first k bytes are none, and one follows them

before_feed : (k n : ℕ) (bytes : List ℕ) → n < k → position_or_len is_feed (take k bytes) ≡ n → HasNoFeed (take n bytes)
before_feed k n bytes low same = list_any_none is_feed (take n bytes) (λ i d within. before i d (omega (arith, within, length-take n bytes)))
  where
    before : (i d : ℕ) → i < n → is_feed (get_or (take n bytes) i d) ≡ false
    before i d less =
        let here : get_or (take n bytes) i d ≡ get_or (take k bytes) i d = get_or-take n bytes i d less ∙ sym (get_or-take k bytes i d (omega arith)) in
        ap is_feed here ∙ fails_before_first is_feed (take k bytes) i d (omega arith)

feed_at : (k n : ℕ) (bytes : List ℕ) → n < k → position_or_len is_feed (take k bytes) ≡ n → n < length (take k bytes) → get_or bytes n 0 ≡ 10
feed_at k n bytes low same near =
    let P : ℕ → Type 0 = λ m. is_feed (get_or (take k bytes) m 0) ≡ true in
    sym (get_or-take k bytes n 0 low) ∙ eqb-true _ _ (subst P same (passes_at_first is_feed (take k bytes) 0 (omega arith)))

first_feed : (k n : ℕ) (bytes : List ℕ) → position is_feed (take k bytes) ≡ Some n
    → (n < length bytes) × BeginsWith bytes (take n bytes) (drop (n + 1) bytes)
first_feed k n bytes is =
    let found = some_at _ _ _ is in
    let near : n < length (take k bytes) = omega (arith, ltb-true _ _ found.0, found.1) in
    let low : n < k = omega (arith, near, length-take k bytes) in
    let within : n < length bytes = omega (arith, near, length-take k bytes) in
    let feed = feed_at k n bytes low found.1 near in
    let parts = split_at bytes n 0 within ∙ ap₂ (λ (b : ℕ) (w : List ℕ). take n bytes ++ b ∷ w) feed (ap (λ m. drop m bytes) (sym (add-one n))) in
    (within, record { parts = parts; whole = before_feed k n bytes low found.1 })

pub some_found : (k : ℕ) (bytes : List ℕ) (result : Option ℕ) → result ≡ position is_feed (take k bytes)
    → IfSome result (λ len. (len < length bytes) × BeginsWith bytes (take len bytes) (drop (len + 1) bytes))
some_found k bytes (Some n) is = first_feed k n bytes (sym is)
some_found k bytes None is = tt

pub none_found : (bytes : List ℕ) (result : Option ℕ) → result ≡ position is_feed bytes → IfNone result (HasNoFeed bytes)
none_found bytes (Some n) is = tt
none_found bytes None is = no_feed bytes (sym is)

pub short_unfinished : (bytes : List ℕ) → length bytes ≤ 4096 → HasNoFeed (take 4097 bytes) → IsUnfinished bytes
short_unfinished bytes short none = (let P : List ℕ → Type 0 = HasNoFeed in subst P (take_all 4097 bytes (omega arith)) none, short)

-- ---- each input is judged

begins_next : (x : ℕ) (xs : List ℕ) (b : Bool) → is_feed x ≡ b → (b || list_any is_feed xs) ≡ true
    → (list_any is_feed xs ≡ true → (text : List ℕ) × (rest : List ℕ) × BeginsWith xs text rest)
    → (text : List ℕ) × (rest : List ℕ) × BeginsWith (x ∷ xs) text rest
begins_next x xs true is some later = ([], xs, record { parts = ap (λ b. b ∷ xs) (eqb-true x 10 is); whole = refl })
begins_next x xs false is some later =
    let begins = later some in
    let whole = ap (λ b. b || list_any is_feed begins.0) is ∙ begins.2.whole in
    (x ∷ begins.0, begins.1, record { parts = ap (λ w. x ∷ w) begins.2.parts; whole = whole })

begins_there : (bytes : List ℕ) → list_any is_feed bytes ≡ true → (text : List ℕ) × (rest : List ℕ) × BeginsWith bytes text rest
begins_there [] some = absurd (let differ : false ≡ true = some in cc)
begins_there (x ∷ xs) some = begins_next x xs (is_feed x) refl some (begins_there xs)

text_judged : (bytes text rest : List ℕ) (spelled : Option Line) → BeginsWith bytes text rest → line_of text ≡ spelled → IsJudged bytes
text_judged bytes text rest (Some line) begins spells = inr (inl (line, rest, record { text = text; begins = begins; spells = spells }))
text_judged bytes text rest None begins spells = inr (inr (inl (inl (record { text = text; rest = rest; begins = begins; spells = spells }))))

end_judged : (bytes : List ℕ) → HasNoFeed bytes → IsJudged bytes
end_judged [] none = inl refl
end_judged (x ∷ xs) none = by_length (leb (length (x ∷ xs)) 4096) refl
  where
    by_length : (b : Bool) → leb (length (x ∷ xs)) 4096 ≡ b → IsJudged (x ∷ xs)
    by_length true short = inr (inr (inr ((none, leb-true _ _ short), λ empty. cc)))
    by_length false long = inr (inr (inl (inr (leb-false _ _ long, no_feed_take 4097 (x ∷ xs) none))))

pub judged : (bytes : List ℕ) → IsJudged bytes
judged bytes = by_feed (list_any is_feed bytes) refl
  where
    by_feed : (b : Bool) → list_any is_feed bytes ≡ b → IsJudged bytes
    by_feed true some = (let begins = begins_there bytes some in text_judged bytes begins.0 begins.1 (line_of begins.0) begins.2 refl)
    by_feed false none = end_judged bytes none
