-- The laws of each part of a payload, up to the payload itself.
use Rattle.std.proofs.Common.{not, ◌||◌, ◌≡◌, ℕ, Bool, true, false, ◌&&◌, cond, List, [], ◌∷◌, Option, Some, None, Ok, Err, refl, sym, subst, ◌∙◌, arith, lit≤, lit<}
use Rattle.std.specs.Prelude.{◌==◌, IfSome}
use Rattle.std.proofs.lemmas.Bool.{and_parts, or_left, or_right}
use Rattle.job_states.specs.declared.command.Kind.{Kind}
use Rattle.job_states.specs.declared.command.Kind.TheVariants.{Worker, Dispatcher, Scheduler, Supervisor}
use Rattle.job_states.specs.declared.transition.Put.{Put}
use Rattle.job_states.specs.declared.transition.Put.TheVariants.{Ready, Scheduled, Blocked, Away}
use Rattle.job_states.specs.Judged.{◌>>=◌}
use Rattle.journal_format.specs.Reading.{Read, both, made, given, after_tag, tagged}
use Rattle.journal_format.specs.Spelling
use Rattle.journal_format.specs.Spelling.{big_endian, name, flag, option}
use Rattle.job_states.specs.Moment.{is_moment}
use Rattle.job_states.specs.Ranges.{is_number, is_some_number, is_put, is_scheduled, is_away}
use Rattle.journal_format.specs.Grammar.{id_at, moment_at, name_at, flag_at, option_at, place_at, kind_at}
use Rattle.journal_format.proofs.TestLaws.{Passes}
use Rattle.journal_format.proofs.Lawful.{Lawful, IsMadeOf, made_lawful, given_lawful, fits_lawful, read_lawful}
use Rattle.journal_format.proofs.PartLaws.{number_lawful, most_lawful, text_at_lawful, IsSized, OfTag, tagged_lawful, tagged_spell, tag_or, spell_lawful}

-- a reader of the values of one tag
pub made_tag : {A T : Type 0} (tag : T → ℕ) (body : T → List ℕ) (P : T → Type 0) (u : ℕ) (make : A → T) (F : A → List ℕ) (Q : A → Type 0) (r : List ℕ → Read A) → Lawful F Q r
    → ((a : A) → body (make a) ≡ F a) → ((a : A) → Q a → P (make a) × (tag (make a) ≡ u)) → ((t : T) → P t → tag t ≡ u → IsMadeOf make Q t) → OfTag tag body P u (Some (made make r))
made_tag {A = A} {T = T} tag body P u make F Q r L same to from =
    fits_lawful body (IsMadeOf make Q) (λ t. P t × (tag t ≡ u)) (made make r) (made_lawful make F Q r body L (λ a q. same a))
    (λ t m. subst (λ (x : T). P x × (tag x ≡ u)) (sym m.2) (to m.0 m.1))
    (λ t h. from t h.0 h.1)

-- a tag with nothing after it
pub given_tag : {T : Type 0} (tag : T → ℕ) (body : T → List ℕ) (P : T → Type 0) (u : ℕ) (t : T) → body t ≡ [] → P t → tag t ≡ u → ((x : T) → P x → tag x ≡ u → x ≡ t) → OfTag tag body P u (Some (given t))
given_tag {T = T} tag body P u t empty fit is only =
    fits_lawful body (λ x. x ≡ t) (λ x. P x × (tag x ≡ u)) (given t) (given_lawful body t empty)
    (λ x same. subst (λ (y : T). P y × (tag y ≡ u)) (sym same) (fit, is))
    (λ x h. only x h.0 h.1)

-- ---- numbers and texts

pub id_lawful : Lawful (big_endian 8) (Passes is_number) id_at
unfolding id_at
id_lawful = number_lawful 8 1 9_223_372_036_854_775_808 (lit≤ tt) (lit< tt)

pub moment_lawful : Lawful (big_endian 8) (Passes is_moment) moment_at
unfolding moment_at
moment_lawful = most_lawful 8 253_370_764_799_999_999 (lit< tt)

abbrev pub IsFitName : List ℕ → Type 0
IsFitName = IsSized 1 128

pub name_lawful : Lawful name IsFitName name_at
name_lawful = text_at_lawful 1 1 128 (lit≤ tt) (lit< tt)

-- ---- flags and options

abbrev flag_tag : Bool → ℕ
flag_tag false = 0
flag_tag true = 1

abbrev nothing : {A : Type 0} → A → List ℕ
nothing a = []

abbrev pub always : {A : Type 0} → A → Type 0
always a = Unit {0}

pub flag_lawful : Lawful flag always flag_at
unfolding flag_at
flag_lawful = spell_lawful (tagged_spell flag_tag nothing) flag always flag_at
    (tagged_lawful flag_tag nothing always (λ t. cond (t == 0) (Some (given false)) (cond (t == 1) (Some (given true)) None)) false tt (λ t.
    tag_or flag_tag nothing always 0 t (Some (given false)) (cond (t == 1) (Some (given true)) None) (given_tag flag_tag nothing always 0 false refl tt refl only_false) (λ no0.
    tag_or flag_tag nothing always 1 t (Some (given true)) None (given_tag flag_tag nothing always 1 true refl tt refl only_true) (λ no1.
    none t no0 no1))))
    same
  where
    only_false : (x : Bool) → always x → flag_tag x ≡ 0 → x ≡ false
    only_false false p e = refl
    only_false true p e = absurd (omega arith)

    only_true : (x : Bool) → always x → flag_tag x ≡ 1 → x ≡ true
    only_true true p e = refl
    only_true false p e = absurd (omega arith)

    none : (t : ℕ) → (t ≡ 0 → ⊥) → (t ≡ 1 → ⊥) → (x : Bool) → always x → flag_tag x ≡ t → ⊥
    none t no0 no1 false p e = no0 (sym e)
    none t no0 no1 true p e = no1 (sym e)

    same : (b : Bool) → flag b ≡ tagged_spell flag_tag nothing b
    same false = refl
    same true = refl

abbrev option_tag : {A : Type 0} → Option A → ℕ
option_tag None = 0
option_tag (Some a) = 1

abbrev option_body : {A : Type 0} → (A → List ℕ) → Option A → List ℕ
option_body F None = []
option_body F (Some a) = F a

abbrev pub IfAny : {A : Type 0} → (A → Type 0) → Option A → Type 0
IfAny P o = IfSome o P

abbrev option_tagged : {A : Type 0} → (List ℕ → Read A) → List ℕ → Read (Option A)
option_tagged item = tagged (λ t. cond (t == 0) (Some (given None)) (cond (t == 1) (Some (made Some item)) None))

option_same : {A : Type 0} (item : List ℕ → Read A) (bytes : List ℕ) → option_at item bytes ≡ option_tagged item bytes
unfolding option_at flag_at
option_same item [] = refl
option_same {A = A} item (t ∷ bytes) = by (t == 0) (t == 1)
  where
    flagged : ℕ → List ℕ → Bool → Bool → Read Bool
    flagged t bytes b c = after_tag (cond b (Some (given false)) (cond c (Some (given true)) None)) t bytes

    collapse : (r : Read (Option A)) (f : Bool) → ((r >>= λ x. let y : Read (Bool × Option A) = Ok ((f, x.0), x.1) in y) >>= λ p. let z : Read (Option A) = Ok (p.0.1, p.1) in z) ≡ r
    collapse (Ok x) f = refl
    collapse (Err e) f = refl

    by : (b c : Bool) → made (λ (p : Bool × Option A). p.1) (both (λ bytes. after_tag (cond b (Some (given false)) (cond c (Some (given true)) None)) t bytes) (λ some. cond some (made Some item) (given None))) bytes
        ≡ after_tag (cond b (Some (given None)) (cond c (Some (made Some item)) None)) t bytes
    by true c = refl
    by false true = collapse (made Some item bytes) true
    by false false = refl

option_by_tag : {A : Type 0} (F : A → List ℕ) (P : A → Type 0) (item : List ℕ → Read A) → Lawful F P item → Lawful (option F) (IfAny P) (option_tagged item)
option_by_tag {A = A} F P item L = spell_lawful (tagged_spell option_tag (option_body F)) (option F) (IfAny P) (option_tagged item)
    (tagged_lawful option_tag (option_body F) (IfAny P) (λ t. cond (t == 0) (Some (given None)) (cond (t == 1) (Some (made Some item)) None)) None tt (λ t.
    tag_or option_tag (option_body F) (IfAny P) 0 t (Some (given None)) (cond (t == 1) (Some (made Some item)) None) (given_tag option_tag (option_body F) (IfAny P) 0 None refl tt refl (only_none P)) (λ no0.
    tag_or option_tag (option_body F) (IfAny P) 1 t (Some (made Some item)) None
    (made_tag option_tag (option_body F) (IfAny P) 1 Some F P item L (λ a. refl) (λ a p. (p, refl)) (only_some P)) (λ no1.
    none P t no0 no1))))
    (same F)
  where
    only_none : {A : Type 0} (P : A → Type 0) (x : Option A) → IfAny P x → option_tag x ≡ 0 → x ≡ None
    only_none P None p e = refl
    only_none P (Some a) p e = absurd (omega arith)

    only_some : {A : Type 0} (P : A → Type 0) (x : Option A) → IfAny P x → option_tag x ≡ 1 → IsMadeOf Some P x
    only_some P (Some a) p e = (a, p, refl)
    only_some P None p e = absurd (omega arith)

    none : {A : Type 0} (P : A → Type 0) (t : ℕ) → (t ≡ 0 → ⊥) → (t ≡ 1 → ⊥) → (x : Option A) → IfAny P x → option_tag x ≡ t → ⊥
    none P t no0 no1 None p e = no0 (sym e)
    none P t no0 no1 (Some a) p e = no1 (sym e)

    same : {A : Type 0} (F : A → List ℕ) (o : Option A) → option F o ≡ tagged_spell option_tag (option_body F) o
    same F None = refl
    same F (Some a) = refl

pub option_lawful : {A : Type 0} (F : A → List ℕ) (P : A → Type 0) (item : List ℕ → Read A) → Lawful F P item → Lawful (option F) (IfAny P) (option_at item)
option_lawful F P item L = read_lawful (option F) (IfAny P) (option_tagged item) (option_at item) (option_by_tag F P item L) (option_same item)

pub some_id_lawful : Lawful (option (big_endian 8)) (Passes is_some_number) (option_at id_at)
some_id_lawful = fits_lawful _ _ (Passes is_some_number) _ (option_lawful (big_endian 8) (Passes is_number) id_at id_lawful) to from
  where
    to : (o : Option ℕ) → IfAny (Passes is_number) o → Passes is_some_number o
    to None h = refl
    to (Some n) h = h

    from : (o : Option ℕ) → Passes is_some_number o → IfAny (Passes is_number) o
    from None h = tt
    from (Some n) h = h

-- ---- kinds and places

abbrev kind_tag : Kind → ℕ
kind_tag Worker = 1
kind_tag Dispatcher = 2
kind_tag Scheduler = 3
kind_tag Supervisor = 4

pub kind_lawful : Lawful Spelling.kind always kind_at
unfolding kind_at
kind_lawful = spell_lawful (tagged_spell kind_tag nothing) Spelling.kind always kind_at
    (tagged_lawful kind_tag nothing always (λ t. cond (t == 1) (Some (given Worker)) (cond (t == 2) (Some (given Dispatcher)) (cond (t == 3) (Some (given Scheduler)) (cond (t == 4) (Some (given Supervisor)) None)))) Worker tt (λ t.
    tag_or kind_tag nothing always 1 t _ _ (given_tag kind_tag nothing always 1 Worker refl tt refl (only 1 Worker refl)) (λ no1.
    tag_or kind_tag nothing always 2 t _ _ (given_tag kind_tag nothing always 2 Dispatcher refl tt refl (only 2 Dispatcher refl)) (λ no2.
    tag_or kind_tag nothing always 3 t _ _ (given_tag kind_tag nothing always 3 Scheduler refl tt refl (only 3 Scheduler refl)) (λ no3.
    tag_or kind_tag nothing always 4 t _ _ (given_tag kind_tag nothing always 4 Supervisor refl tt refl (only 4 Supervisor refl)) (λ no4.
    none t no1 no2 no3 no4))))))
    same
  where
    alike : (x y : Kind) → kind_tag x ≡ kind_tag y → x ≡ y
    alike Worker Worker e = refl
    alike Dispatcher Dispatcher e = refl
    alike Scheduler Scheduler e = refl
    alike Supervisor Supervisor e = refl
    alike x y e = absurd (omega arith)

    only : (u : ℕ) (y : Kind) → kind_tag y ≡ u → (x : Kind) → always x → kind_tag x ≡ u → x ≡ y
    only u y is x p e = alike x y (e ∙ sym is)

    none : (t : ℕ) → (t ≡ 1 → ⊥) → (t ≡ 2 → ⊥) → (t ≡ 3 → ⊥) → (t ≡ 4 → ⊥) → (x : Kind) → always x → kind_tag x ≡ t → ⊥
    none t no1 no2 no3 no4 Worker p e = no1 (sym e)
    none t no1 no2 no3 no4 Dispatcher p e = no2 (sym e)
    none t no1 no2 no3 no4 Scheduler p e = no3 (sym e)
    none t no1 no2 no3 no4 Supervisor p e = no4 (sym e)

    same : (k : Kind) → Spelling.kind k ≡ tagged_spell kind_tag nothing k
    same Worker = refl
    same Dispatcher = refl
    same Scheduler = refl
    same Supervisor = refl

abbrev place_tag : Put → ℕ
place_tag (Ready permit) = 1
place_tag (Scheduled at) = 2
place_tag (Blocked until) = 3
place_tag Away = 4

abbrev place_body : Put → List ℕ
place_body (Ready permit) = option (big_endian 8) permit
place_body (Scheduled at) = big_endian 8 at
place_body (Blocked until) = big_endian 8 until
place_body Away = []

-- a place that may be given: may it be a scheduled one, and may the job go away?
abbrev pub is_allowed : Bool → Bool → Put → Bool
is_allowed scheduled away (Ready permit) = is_some_number permit
is_allowed scheduled away (Scheduled at) = scheduled && is_moment at
is_allowed scheduled away (Blocked until) = is_moment until
is_allowed scheduled away Away = away

pub allowed-parts : (s a : Bool) (put : Put) → is_allowed s a put ≡ true → (is_put put ≡ true) × ((s || not (is_scheduled put)) ≡ true) × ((a || not (is_away put)) ≡ true)
allowed-parts s a (Ready permit) e = (e, or_right s true refl, or_right a true refl)
allowed-parts s a (Scheduled at) e = let p = and_parts s (is_moment at) e in (p.1, or_left s false p.0, or_right a true refl)
allowed-parts s a (Blocked until) e = (e, or_right s true refl, or_right a true refl)
allowed-parts s a Away e = (refl, or_right s true refl, or_left a false e)

pub allowed-from : (s a : Bool) (put : Put) → is_put put ≡ true → (s || not (is_scheduled put)) ≡ true → (a || not (is_away put)) ≡ true → is_allowed s a put ≡ true
allowed-from s a (Ready permit) p q r = p
allowed-from true a (Scheduled at) p q r = p
allowed-from false a (Scheduled at) p q r = absurd cc
allowed-from s a (Blocked until) p q r = p
allowed-from s true Away p q r = refl
allowed-from s false Away p q r = absurd cc

pub place_lawful : (scheduled away : Bool) → Lawful Spelling.place (Passes (is_allowed scheduled away)) (place_at scheduled away)
unfolding place_at
place_lawful scheduled away = spell_lawful (tagged_spell place_tag place_body) Spelling.place (Passes (is_allowed scheduled away)) (place_at scheduled away)
    (tagged_lawful place_tag place_body (Passes (is_allowed scheduled away)) (λ t.
    cond (t == 1) (Some (made Ready (option_at id_at))) (cond (t == 2) (cond scheduled (Some (made Scheduled moment_at)) None) (cond (t == 3) (Some (made Blocked moment_at)) (cond (t == 4) (cond away (Some (given Away)) None) None))))
    (Ready None) refl (λ t.
    tag_or place_tag place_body (Passes (is_allowed scheduled away)) 1 t _ _
    (made_tag place_tag place_body (Passes (is_allowed scheduled away)) 1 Ready (option (big_endian 8)) (Passes is_some_number) (option_at id_at) some_id_lawful (λ a. refl) (λ a p. (p, refl)) (only_ready scheduled away)) (λ no1.
    tag_or place_tag place_body (Passes (is_allowed scheduled away)) 2 t _ _ (scheduled_tag scheduled away) (λ no2.
    tag_or place_tag place_body (Passes (is_allowed scheduled away)) 3 t _ _
    (made_tag place_tag place_body (Passes (is_allowed scheduled away)) 3 Blocked (big_endian 8) (Passes is_moment) moment_at moment_lawful (λ a. refl) (λ a p. (p, refl)) (only_blocked scheduled away)) (λ no3.
    tag_or place_tag place_body (Passes (is_allowed scheduled away)) 4 t _ _ (away_tag scheduled away) (λ no4.
    none scheduled away t no1 no2 no3 no4))))))
    same
  where
    only_ready : (scheduled away : Bool) (x : Put) → Passes (is_allowed scheduled away) x → place_tag x ≡ 1 → IsMadeOf Ready (Passes is_some_number) x
    only_ready scheduled away (Ready permit) p e = (permit, p, refl)
    only_ready scheduled away x p e = absurd (omega arith)

    only_blocked : (scheduled away : Bool) (x : Put) → Passes (is_allowed scheduled away) x → place_tag x ≡ 3 → IsMadeOf Blocked (Passes is_moment) x
    only_blocked scheduled away (Blocked until) p e = (until, p, refl)
    only_blocked scheduled away x p e = absurd (omega arith)

    only_scheduled : (away : Bool) (x : Put) → Passes (is_allowed true away) x → place_tag x ≡ 2 → IsMadeOf Scheduled (Passes is_moment) x
    only_scheduled away (Scheduled at) p e = (at, p, refl)
    only_scheduled away x p e = absurd (omega arith)

    not_scheduled : (away : Bool) (x : Put) → Passes (is_allowed false away) x → place_tag x ≡ 2 → ⊥
    not_scheduled away (Scheduled at) p e = let z : false ≡ true = p in cc
    not_scheduled away x p e = absurd (omega arith)

    only_away : (scheduled : Bool) (x : Put) → Passes (is_allowed scheduled true) x → place_tag x ≡ 4 → x ≡ Away
    only_away scheduled Away p e = refl
    only_away scheduled x p e = absurd (omega arith)

    not_away : (scheduled : Bool) (x : Put) → Passes (is_allowed scheduled false) x → place_tag x ≡ 4 → ⊥
    not_away scheduled Away p e = let z : false ≡ true = p in cc
    not_away scheduled x p e = absurd (omega arith)

    scheduled_tag : (scheduled away : Bool) → OfTag place_tag place_body (Passes (is_allowed scheduled away)) 2 (cond scheduled (Some (made Scheduled moment_at)) None)
    scheduled_tag true away = made_tag place_tag place_body (Passes (is_allowed true away)) 2 Scheduled (big_endian 8) (Passes is_moment) moment_at moment_lawful (λ a. refl) (λ a p. (p, refl)) (only_scheduled away)
    scheduled_tag false away = not_scheduled away

    away_tag : (scheduled away : Bool) → OfTag place_tag place_body (Passes (is_allowed scheduled away)) 4 (cond away (Some (given Away)) None)
    away_tag scheduled true = given_tag place_tag place_body (Passes (is_allowed scheduled true)) 4 Away refl refl refl (only_away scheduled)
    away_tag scheduled false = not_away scheduled

    none : (scheduled away : Bool) (t : ℕ) → (t ≡ 1 → ⊥) → (t ≡ 2 → ⊥) → (t ≡ 3 → ⊥) → (t ≡ 4 → ⊥) → (x : Put) → Passes (is_allowed scheduled away) x → place_tag x ≡ t → ⊥
    none scheduled away t no1 no2 no3 no4 (Ready permit) p e = no1 (sym e)
    none scheduled away t no1 no2 no3 no4 (Scheduled at) p e = no2 (sym e)
    none scheduled away t no1 no2 no3 no4 (Blocked until) p e = no3 (sym e)
    none scheduled away t no1 no2 no3 no4 Away p e = no4 (sym e)

    same : (x : Put) → Spelling.place x ≡ tagged_spell place_tag place_body x
    same (Ready permit) = refl
    same (Scheduled at) = refl
    same (Blocked until) = refl
    same Away = refl
