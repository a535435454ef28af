-- The bytes of a reply.
use Rattle.std.specs.Prelude.{◌≡◌, ℕ, Bool, ◌==◌, List, [], ◌∷◌, ◌++◌, length, decimal, codes, Option, unwrap_or}
use Rattle.std.specs.List.{list_any}
use Rattle.std.specs.Io.KnownBytes.{Appends}
use Rattle.http.specs.StatusCode.{reason_phrase}
use Rattle.http_wire.specs.declared.reply.Reply.{Reply}
use Rattle.http_wire.specs.declared.reply.Body.{Body}
use Rattle.http_wire.specs.declared.reply.Body.TheVariants.{Kept, DiskFault, NoMemory}
use Rattle.http_wire.specs.declared.reply.BodyKind.{BodyKind}
use Rattle.http_wire.specs.declared.reply.BodyKind.TheVariants.{Json, Raw}

-- the statuses of replies
abbrev pub reply_statuses : List ℕ
reply_statuses = 200 ∷ 201 ∷ 400 ∷ 404 ∷ 405 ∷ 409 ∷ 413 ∷ 422 ∷ 500 ∷ 501 ∷ 503 ∷ 507 ∷ []

abbrev pub is_reply_status : ℕ → Bool
is_reply_status status = list_any (λ n. n == status) reply_statuses

abbrev pub media_type : BodyKind → List ℕ
media_type Json = codes "application/json"
media_type Raw = codes "application/octet-stream"

abbrev pub body_bytes : Body → List ℕ
body_bytes (Kept bytes) = bytes
body_bytes DiskFault = codes "{\"error\":\"disk_fault\"}"
body_bytes NoMemory = codes "{\"error\":\"no_memory\"}"

-- the status line, two fields and an empty line
abbrev pub head_text : Reply → List ℕ
head_text reply =
    codes "HTTP/1.1 " ++ decimal reply.status ++ codes " " ++ unwrap_or (reason_phrase reply.status) []
    ++ codes "\r\nContent-Type: " ++ media_type reply.kind
    ++ codes "\r\nContent-Length: " ++ decimal (length (body_bytes reply.body)) ++ codes "\r\n\r\n"

-- the head and the body
abbrev pub reply_text : Reply → List ℕ
reply_text reply = head_text reply ++ body_bytes reply.body

-- known bytes grow by a prefix of bytes
pub record AppendsPrefix (old new : Option (List ℕ)) (bytes : List ℕ) : Type 0 where
  pub prefix : List ℕ
  pub rest : List ℕ
  pub parts : bytes ≡ prefix ++ rest
  pub added : Appends old new prefix
