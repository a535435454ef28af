-- Replies of JSON. A body is the compact text of an object, whose names are in byte order.
use Rattle.std.specs.Prelude.{ℕ, List, [], ◌∷◌, codes, Option, None, Some}
use Rattle.serde_json.specs.Data.{Data, null, number, unsigned, string, object, Members, member, no_members}
use Rattle.serde_json.specs.Written.{compact_text}
use Rattle.http_wire.specs.declared.reply.Reply.{Reply}
use Rattle.http_wire.specs.declared.reply.Body.TheVariants.{Kept}
use Rattle.http_wire.specs.declared.reply.BodyKind.TheVariants.{Json}

abbrev pub members_of : List (List ℕ × Data) → Members
members_of [] = no_members
members_of ((name, value) ∷ members) = member name value (members_of members)

-- the object of these members, which are given in the order of their names
abbrev pub json : List (List ℕ × Data) → Data
json members = object (members_of members)

abbrev pub whole : ℕ → Data
whole n = number (unsigned n)

-- a number, or null where there is none
abbrev pub whole_or_null : Option ℕ → Data
whole_or_null None = null
whole_or_null (Some n) = whole n

-- an error with nothing but its name
abbrev pub error : List ℕ → Data
error name = json ((codes "error", string name) ∷ [])

abbrev pub json_reply : ℕ → Data → Reply
json_reply status value = record { status = status; kind = Json; body = Kept (compact_text value) }
