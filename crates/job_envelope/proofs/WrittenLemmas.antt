-- The envelope that is written: how it is built, that it brings no float, and how deep it nests.
use Rattle.std.proofs.Common.{◌≡◌, ◌≤◌, ℕ, ℤ, pos, negsuc, List, [], ◌∷◌, Bool, true, false, ◌||◌, Option, None, Some, Ordering, Less, Equal, Greater, nat_cmp, refl, ap, ◌∙◌, arith}
use Rattle.std.specs.Cmp.Lexicographic.{slice_cmp}
use Rattle.std.specs.Ordering.{match_ordering}
use Rattle.serde_json.specs.Data.{Data, number, unsigned, Members, no_members, member, put, depth, members_depth}
use Rattle.serde_json.specs.Find.{of_integer, is_float}
use Rattle.serde_json.specs.Written.{has_float, members_have_float}
use Rattle.job_states.specs.declared.job.Counted.{Counted}
use Rattle.job_states.specs.declared.command.NewJob.{NewJob}
use Rattle.job_envelope.specs.Written.{IsScheduledAt, IsEnvelopeOf, with_counts}

pub with_put : (name : List ℕ) (d e : Data) (new old before : Members) → new ≡ put name d old → d ≡ e → old ≡ before → new ≡ put name e before
with_put name d e new old before is value rest = is ∙ ap (λ v. put name v old) value ∙ ap (put name e) rest

-- no float, and nothing that nests
record IsPlain (ms : Members) : Type 0 where
  whole : members_have_float ms ≡ false
  flat : members_depth ms ≡ 0

neither : (a b : Bool) → (a || b) ≡ false → (a ≡ false) × (b ≡ false)
neither true b none = cc
neither false b none = (refl, none)

put_at : (o : Ordering) (k l : List ℕ) (n : ℕ) (d : Data) (ms : Members) → IsPlain (member l d ms) → IsPlain (put k (number (unsigned n)) ms)
    → IsPlain (match_ordering o (member k (number (unsigned n)) (member l d ms)) (member l (number (unsigned n)) ms) (member l d (put k (number (unsigned n)) ms)))
put_at Less k l n d ms plain later = record { whole = plain.whole; flat = rw plain.flat refl }
put_at Equal k l n d ms plain later = record { whole = (neither (has_float d) (members_have_float ms) plain.whole).1; flat = omega (arith, plain.flat) }
put_at Greater k l n d ms plain later = record { whole = rw (later.whole, (neither (has_float d) (members_have_float ms) plain.whole).0) refl; flat = omega (arith, plain.flat, later.flat) }

put_plain : (k : List ℕ) (n : ℕ) (ms : Members) → IsPlain ms → IsPlain (put k (number (unsigned n)) ms)
put_plain k n no_members plain = record { whole = refl; flat = refl }
put_plain k n (member l d ms) plain =
    let rest : IsPlain ms = record { whole = (neither (has_float d) (members_have_float ms) plain.whole).1; flat = omega (arith, plain.flat) } in
    put_at (slice_cmp nat_cmp k l) k l n d ms plain (put_plain k n ms rest)

with_counts_plain : (cs : List Counted) (ms : Members) → IsPlain ms → IsPlain (with_counts cs ms)
with_counts_plain [] ms plain = plain
with_counts_plain (c ∷ cs) ms plain = with_counts_plain cs (put c.list (number (unsigned c.count)) ms) (put_plain c.list c.count ms plain)

counts_plain : (cs : List Counted) → IsPlain (with_counts cs no_members)
counts_plain cs = with_counts_plain cs no_members (record { whole = refl; flat = refl })

is_float-of_integer : (z : ℤ) → is_float (of_integer z) ≡ false
is_float-of_integer (pos n) = refl
is_float-of_integer (negsuc n) = refl

moment_plain : (moment : Option ℕ) (at : Data) → IsScheduledAt moment at → (has_float at ≡ false) × (depth at ≡ 0)
moment_plain None at is = rw is (refl, refl)
moment_plain (Some moment) at is = rw is.2 (refl, refl)

pub has_float-IsEnvelopeOf : (job : NewJob) (args d : Data) → IsEnvelopeOf job args d → has_float args ≡ false → has_float d ≡ false
has_float-IsEnvelopeOf job args d is whole = rw (is.members, whole, (counts_plain job.counts).whole, is_float-of_integer job.priority, (moment_plain job.at is.at is.moment).0) refl

pub depth-IsEnvelopeOf : (job : NewJob) (args d : Data) → IsEnvelopeOf job args d → depth args ≤ 126 → depth d ≤ 127
depth-IsEnvelopeOf job args d is nested = rw (is.members, (counts_plain job.counts).flat, (moment_plain job.at is.at is.moment).1) (omega (arith, nested))
