-- Bytes that are no TOML document.
use Rattle.std.proofs.Common.{◌≡◌, ℕ, List, Bool, true, false, None, codes, refl}
use Rattle.std.proofs.lemmas.Str.{IsUtf8-from_is_utf8}
use Rattle.std.specs.Str.{IsUtf8, is_utf8}
use Rattle.toml.specs.Parse.{parse_document}
use Rattle.toml_members.specs.Fault.{no_document}
use Rattle.toml_members.specs.Document.{document_of}

pub document_of-refused : (text : List ℕ) (b : Bool) → is_utf8 text ≡ b → (IsUtf8 text → parse_document text ≡ None) → document_of text ≡ no_document (codes "document")
document_of-refused text true is none = rw (is, none (IsUtf8-from_is_utf8 text is)) refl
document_of-refused text false is none = rw is refl
