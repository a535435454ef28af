-- Bytes that are no JSON object.
use Rattle.std.proofs.Common.{◌≡◌, ℕ, List, Bool, true, false, None, Err, refl}
use Rattle.std.proofs.lemmas.Str.{IsUtf8-from_is_utf8}
use Rattle.std.specs.Str.{IsUtf8, is_utf8}
use Rattle.serde_json.specs.Read.{read}
use Rattle.job_envelope.specs.declared.fault.EnvelopeFault.TheVariants.{NotJson}
use Rattle.job_envelope.specs.Envelope.{object_of}

pub object_of-refused : (bytes : List ℕ) (b : Bool) → is_utf8 bytes ≡ b → (IsUtf8 bytes → read bytes ≡ None) → object_of bytes ≡ Err NotJson
object_of-refused bytes true is none = rw (is, none (IsUtf8-from_is_utf8 bytes is)) refl
object_of-refused bytes false is none = rw is refl
