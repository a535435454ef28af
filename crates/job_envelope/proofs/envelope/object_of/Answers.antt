use Rattle.std.proofs.Common.{inr, true≢false, refl, sym}
use Rattle.std.proofs.lemmas.Str.{is_utf8-from_IsUtf8}
use Rattle.job_envelope.proofs.EnvelopeLemmas.{object_of-refused}
use Rattle.job_envelope.proofs.envelope.object_of.Goals as goal

pub returns-in-Err-2-clause-exact : goal.returns-in-Err-2-clause-exact
returns-in-Err-2-clause-exact c = inr (object_of-refused c.args.bytes.now _ refl (c.in-Err.ensures.err (λ memory. true≢false (sym (c.if-is_memory.ensures.1 memory)))))

pub returns-clause-exact : goal.returns-clause-exact
returns-clause-exact c = rw (is_utf8-from_IsUtf8 c.args.bytes.now c.in-Ok.ensures.ok.0, c.in-Ok.ensures.ok.1, ← c.if-not-is_object.ensures) refl

pub returns-clause-utf8 : goal.returns-clause-utf8
returns-clause-utf8 c = is_utf8-from_IsUtf8 c.args.bytes.now c.in-Ok.ensures.ok.0
