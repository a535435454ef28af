-- The members of a text.
use Rattle.std.specs.Prelude.{ℕ, List, codes, Option, Some, None, Ok, if◌then◌else◌}
use Rattle.std.specs.Str.{is_utf8}
use Rattle.toml.specs.Data.{Members}
use Rattle.toml.specs.Parse.{parse_document}
use Rattle.toml_members.specs.Fault.{Judged, no_document}

abbrev pub document_from : Option Members → Judged Members
document_from None = no_document (codes "document")
document_from (Some ms) = Ok ms

-- the members of a TOML document in UTF-8
abbrev pub document_of : List ℕ → Judged Members
document_of text = if is_utf8 text then document_from (parse_document text) else no_document (codes "document")
