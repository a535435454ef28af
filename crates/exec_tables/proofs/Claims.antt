-- What is kept beside the jobs stays true where one of them is written.
use Rattle.std.proofs.Common.{◌≡◌, ◌==◌, ◌+◌, ◌-◌, ◌≤◌, ◌<◌, ◌^◌, ℕ, Bool, true, false, cond, ◌&&◌, List, Option, None, Some, IsTrue, is_some, ap, sym, ◌∙◌, refl, subst, arith, eqb, length, if◌then◌else◌}
use Rattle.std.specs.Option.{unwrap_or}
use Rattle.std.specs.Ordering.{nat_cmp, eq_by_cmp}
use Rattle.std.specs.Cmp.{nat_cmp_total}
use Rattle.std.specs.Map.{keys_of}
use Rattle.std.specs.List.{IsDistinct}
use Rattle.std.proofs.lemmas.Bool.{eqb-true, true≢false}
use Rattle.std.proofs.lemmas.List.Sums.{count_by-le-length}
use Rattle.job_states.specs.Ranges.{is_limited}
use Rattle.job_states.specs.States.{permit_of}
use Rattle.job_states.specs.declared.job.Limited.{Limited}
use Rattle.job_states.specs.declared.job.State.{State}
use Rattle.job_states.specs.declared.job.State.TheVariants.{Scheduled, Ready, Blocked, Claimed, Failed, Finished}
use Rattle.job_states.specs.declared.job.JobRow.{JobRow}
use Rattle.job_states.specs.declared.transition.Counters.{Counters}
use Rattle.queue_model.specs.Transitions.{counted as counted_row}
use Rattle.queue_model.specs.Map.{Map, get, insert, remove, values, from_entries}
use Rattle.queue_model.specs.Sights.{set}
use Rattle.queue_model.specs.World.{is_claimed_by, is_holder, is_key, is_exactly}
use Rattle.queue_model.specs.declared.Job.{Job}
use Rattle.queue_model.proofs.Frames.{count-set, one}
use Rattle.queue_model.proofs.Maps.{get-set, get-insert}
use Rattle.exec_tables.specs.Jobs.{bit, AreKept, claimant_at, claimant_of, claims_in, count_in, holders_in, kept_count, lowered, newer, raised}
use Rattle.exec_tables.proofs.RowLemmas.{number_length, number_ties, subst2, turned}

abbrev Jobs : Type 0
Jobs = Map nat_cmp Job

abbrev Counts : Type 0
Counts = Map nat_cmp ℕ

-- the process has this claim
abbrev has : ℕ → Option ℕ → ℕ
has pid claimant = cond (is_exactly pid claimant) 1 0

claim_is : (pid : ℕ) (j : Option Job) → one (is_claimed_by pid) j ≡ has pid (claimant_at j)
claim_is pid None = refl
claim_is pid (Some j) = by j.state
  where
    by : (s : State) → one (is_claimed_by pid) (Some (record { row = j.row; state = s })) ≡ has pid (claimant_of s)
    by (Scheduled at) = refl
    by (Ready permit) = refl
    by (Blocked until) = refl
    by (Claimed p permit) = refl
    by (Failed error message) = refl
    by (Finished at) = refl

-- a claim more or less, where a job is written
claims_set : (jobs : Jobs) (id : ℕ) (x : Option Job) (pid : ℕ) → claims_in (set jobs (Some id) x) pid + has pid (claimant_at (get jobs id)) ≡ claims_in jobs pid + has pid (claimant_at x)
claims_set jobs id x pid =
    let counted = count-set (is_claimed_by pid) jobs (Some id) x in
    let before = claim_is pid (get jobs id) in
    let after = claim_is pid x in
    omega (arith, counted, before, after)

-- the claim of a job that stands is counted
claim_counted : (jobs : Jobs) (id pid : ℕ) → has pid (claimant_at (get jobs id)) ≤ claims_in jobs pid
claim_counted jobs id pid = let gone = claims_set jobs id None pid in omega (arith, gone)

counted : (n : ℕ) → unwrap_or (kept_count n) 0 ≡ n
counted n = by (n == 0) refl
  where
    by : (b : Bool) → (n == 0) ≡ b → unwrap_or (if b then None else Some n) 0 ≡ n
    by true e = sym (eqb-true n 0 e)
    by false e = refl

-- a count that isn't 0 is kept
pub kept_some : (n : ℕ) → 1 ≤ n → Some n ≡ kept_count n
kept_some n above = by (n == 0) refl
  where
    by : (b : Bool) → (n == 0) ≡ b → Some n ≡ (if b then None else Some n)
    by true e = let zero = eqb-true n 0 e in absurd (omega (arith, zero, above))
    by false e = refl

less_none : (n : ℕ) → n ≡ n - 0
less_none n = omega arith

more_none : (n : ℕ) → n ≡ n + 0
more_none n = omega arith

-- these are the counts `m`
abbrev Count : Counts → (ℕ → ℕ) → Type 0
Count counts m = (pid : ℕ) → get counts pid ≡ kept_count (m pid)

at_key : (p q : ℕ) → eq_by_cmp nat_cmp q p ≡ (p == q)
at_key p q = sym (turned nat_cmp_total eqb number_ties p q)

lowered_is : (counts : Counts) (m : ℕ → ℕ) (claimant : Option ℕ) → Count counts m → Count (lowered counts claimant) (λ pid. m pid - has pid claimant)
lowered_is counts m None h q = h q ∙ ap kept_count (less_none (m q))
lowered_is counts m (Some p) h q =
    get-set nat_cmp_total counts p (kept_count (count_in counts p - 1)) q ∙ ap (λ b. cond b (kept_count (count_in counts p - 1)) (get counts q)) (at_key p q) ∙ by (p == q) refl
  where
    by : (b : Bool) → (p == q) ≡ b → cond b (kept_count (count_in counts p - 1)) (get counts q) ≡ kept_count (m q - cond b 1 0)
    by true e = ap (λ n. kept_count (n - 1)) (ap (λ x. unwrap_or x 0) (h p) ∙ counted (m p)) ∙ ap (λ n. kept_count (m n - 1)) (eqb-true p q e)
    by false e = h q ∙ ap kept_count (less_none (m q))

raised_is : (counts : Counts) (m : ℕ → ℕ) (claimant : Option ℕ) → Count counts m → Count (raised counts claimant) (λ pid. m pid + has pid claimant)
raised_is counts m None h q = h q ∙ ap kept_count (more_none (m q))
raised_is counts m (Some p) h q =
    get-insert nat_cmp_total counts p (count_in counts p + 1) q ∙ ap (λ b. cond b (Some (count_in counts p + 1)) (get counts q)) (at_key p q) ∙ by (p == q) refl
  where
    by : (b : Bool) → (p == q) ≡ b → cond b (Some (count_in counts p + 1)) (get counts q) ≡ kept_count (m q + cond b 1 0)
    by true e = ap (λ n. Some (n + 1)) (ap (λ x. unwrap_or x 0) (h p) ∙ counted (m p)) ∙ ap (λ n. Some (m n + 1)) (eqb-true p q e) ∙ kept_some (m q + 1) (omega arith)
    by false e = h q ∙ ap kept_count (more_none (m q))

recounted : (jobs : Jobs) (counts : Counts) (id : ℕ) (x : Option Job) → Count counts (claims_in jobs) → Count (raised (lowered counts (claimant_at (get jobs id))) (claimant_at x)) (claims_in (set jobs (Some id) x))
recounted jobs counts id x h pid =
    raised_is (lowered counts (claimant_at (get jobs id))) (λ p. claims_in jobs p - has p (claimant_at (get jobs id))) (claimant_at x) (lowered_is counts (claims_in jobs) (claimant_at (get jobs id)) h) pid
    ∙ ap kept_count (all pid)
  where
    all : (pid : ℕ) → claims_in jobs pid - has pid (claimant_at (get jobs id)) + has pid (claimant_at x) ≡ claims_in (set jobs (Some id) x) pid
    all pid = let written = claims_set jobs id x pid in let there = claim_counted jobs id pid in omega (arith, written, there)

-- ---- the newest generation

-- no permit of this job is newer
abbrev pub IsOld : ℕ → Option Job → Type 0
IsOld top None = Unit {0}
IsOld top (Some j) = unwrap_or (permit_of j.state) 0 ≤ top

no_holder : (key : List ℕ) (generation top : ℕ) (x : Option Job) → IsOld top x → top < generation → one (is_holder key generation) x ≡ 0
no_holder key generation top None old above = refl
no_holder key generation top (Some j) old above = by (is_key key j.row.limited) (permit_of j.state) old
  where
    by : (b : Bool) (permit : Option ℕ) → unwrap_or permit 0 ≤ top → bit (b && is_exactly generation permit) ≡ 0
    by false permit h = refl
    by true None h = refl
    by true (Some g) h = at (g == generation) refl
      where
        at : (c : Bool) → (g == generation) ≡ c → bit c ≡ 0
        at true e = let same = eqb-true g generation e in absurd (omega (arith, same, h, above))
        at false e = refl

still_newest : (jobs : Jobs) (top later id : ℕ) (x : Option Job) → ((key : List ℕ) (g : ℕ) → top < g → holders_in jobs key g ≡ 0) → top ≤ later → IsOld later x → (key : List ℕ) (g : ℕ) → later < g → holders_in (set jobs (Some id) x) key g ≡ 0
still_newest jobs top later id x none rises old key g above =
    let written = count-set (is_holder key g) jobs (Some id) x in
    let before = none key g (omega (arith, rises, above)) in
    let after = no_holder key g later x old above in
    omega (arith, written, before, after)

-- ---- the limits

abbrev pub IsLimited : Option Job → Type 0
IsLimited None = Unit {0}
IsLimited (Some j) = IsTrue (is_limited j.row.limited)

still_limited : (jobs : Jobs) (id : ℕ) (x : Option Job) → ((q : ℕ) (j : Job) → get jobs q ≡ Some j → IsTrue (is_limited j.row.limited)) → IsLimited x → (q : ℕ) (j : Job) → get (set jobs (Some id) x) q ≡ Some j → IsTrue (is_limited j.row.limited)
still_limited jobs id x all new q j at = by (eq_by_cmp nat_cmp q id) (sym (get-set nat_cmp_total jobs id x q) ∙ at)
  where
    is : (x : Option Job) → IsLimited x → x ≡ Some j → IsTrue (is_limited j.row.limited)
    is None new e = absurd (true≢false (sym (ap is_some e)))
    is (Some y) new e = subst (λ o. IsTrue (is_limited (row_of o))) e new
      where
        row_of : Option Job → Option Limited
        row_of None = None
        row_of (Some y) = y.row.limited

    by : (b : Bool) → cond b x (get jobs q) ≡ Some j → IsTrue (is_limited j.row.limited)
    by true e = is x new e
    by false e = all q j e

-- ---- all of it

newer_least : (top : ℕ) (s : State) → top ≤ newer top s
newer_least top s = omega arith

newer_old : (top : ℕ) (s : State) → unwrap_or (permit_of s) 0 ≤ newer top s
newer_old top s = omega arith

written : (jobs : Jobs) (counts : Counts) (top later id : ℕ) (x : Option Job) → AreKept jobs counts top → top ≤ later → IsOld later x → IsLimited x
    → AreKept (set jobs (Some id) x) (raised (lowered counts (claimant_at (get jobs id))) (claimant_at x)) later
written jobs counts top later id x kept rises old limited = record {
  claims = recounted jobs counts id x kept.claims;
  newest = still_newest jobs top later id x kept.newest rises old;
  limits = still_limited jobs id x kept.limits limited;
}

-- a job is taken away, and its claim with it
pub taken : (jobs jobs2 : Jobs) (counts counts2 : Counts) (top id : ℕ) (before : Option ℕ) → AreKept jobs counts top → before ≡ claimant_at (get jobs id)
    → jobs2 ≡ remove jobs id → counts2 ≡ lowered counts before → AreKept jobs2 counts2 top
taken jobs jobs2 counts counts2 top id before kept was gone less =
    subst2 (λ js cs. AreKept js cs top) (sym gone) (sym (less ∙ ap (lowered counts) was)) (written jobs counts top top id None kept (omega arith) tt tt)

-- a job is written, and its claim counts in the place of the old one
pub put : (jobs jobs2 : Jobs) (counts counts2 counts3 : Counts) (top later id : ℕ) (before after : Option ℕ) (j : Job) → AreKept jobs counts top
    → before ≡ claimant_at (get jobs id) → after ≡ claimant_of j.state → later ≡ newer top j.state → IsTrue (is_limited j.row.limited)
    → jobs2 ≡ insert jobs id j → counts2 ≡ lowered counts before → counts3 ≡ raised counts2 after → AreKept jobs2 counts3 later
put jobs jobs2 counts counts2 counts3 top later id before after j kept was is newer_is limited rows less more =
    subst2 (λ js cs. AreKept js cs later) (sym rows) (sym (more ∙ ap (λ cs. raised cs after) (less ∙ ap (lowered counts) was) ∙ ap (raised (lowered counts (claimant_at (get jobs id)))) is))
    (written jobs counts top later id (Some j) kept (subst (λ n. top ≤ n) (sym newer_is) (newer_least top j.state)) (subst (λ n. unwrap_or (permit_of j.state) 0 ≤ n) (sym newer_is) (newer_old top j.state)) limited)

-- a job that is there moves to another state
pub moved : (jobs jobs2 : Jobs) (counts counts2 counts3 : Counts) (top later id : ℕ) (before after : Option ℕ) (j k : Job) → AreKept jobs counts top
    → before ≡ claimant_at (get jobs id) → after ≡ claimant_of k.state → later ≡ newer top k.state → get jobs id ≡ Some j → k.row.limited ≡ j.row.limited
    → jobs2 ≡ insert jobs id k → counts2 ≡ lowered counts before → counts3 ≡ raised counts2 after → AreKept jobs2 counts3 later
moved jobs jobs2 counts counts2 counts3 top later id before after j k kept was is newer_is there same =
    put jobs jobs2 counts counts2 counts3 top later id before after k kept was is newer_is (subst (λ l. IsTrue (is_limited l)) (sym same) (kept.limits id j there))

-- a count of claims fits, since there are fewer jobs than 2 ^ 63
pub fits : (es : List (ℕ × Job)) (counts counts2 : Counts) (top : ℕ) (before : Option ℕ) → IsDistinct eqb (keys_of es) → length es < 2 ^ 63
    → AreKept (from_entries es) counts top → counts2 ≡ lowered counts before → (pid : ℕ) → count_in counts2 pid + 1 < 2 ^ 64
fits es counts counts2 top before distinct small kept less pid =
    let jobs : Jobs = from_entries es in
    let is = ap (λ cs. count_in cs pid) less ∙ ap (λ x. unwrap_or x 0) (lowered_is counts (claims_in jobs) before kept.claims pid) ∙ counted (claims_in jobs pid - has pid before) in
    let all = count_by-le-length (is_claimed_by pid) (values jobs) in
    let len = number_length es distinct in
    omega (arith, is, all, len, small)

pub counted_limit : (row : JobRow) (counters : Option Counters) → (counted_row row counters).limited ≡ row.limited
counted_limit row None = refl
counted_limit row (Some counters) = refl
