-- A token of a head is a token of a field: the two crates write one definition twice.
use Rattle.std.proofs.Common.{ℕ, List}
use Rattle.httparse.specs.Grammar as head
use Rattle.http_header.specs.Token as field

pub token_of_head : (bytes : List ℕ) → head.IsToken bytes → field.IsToken bytes
unfolding head.is_token_byte field.is_token_byte
token_of_head bytes token = token
