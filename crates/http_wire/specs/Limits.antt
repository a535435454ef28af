-- The limits of requests.
use Rattle.std.specs.Prelude.{ℕ}

-- the most bytes of a head
abbrev pub head_limit : ℕ
head_limit = 16384

-- the most fields of a head
abbrev pub field_limit : ℕ
field_limit = 64

-- the most digits of `Content-Length`
abbrev pub digit_limit : ℕ
digit_limit = 19

-- the most bytes of a body
abbrev pub body_limit : ℕ
body_limit = 1048576

-- the most bytes that are taken of an input: 2^30
abbrev pub input_limit : ℕ
input_limit = 1073741824
