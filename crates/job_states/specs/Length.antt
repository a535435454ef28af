-- Numbers and lengths between a least and a greatest one.
use Rattle.std.specs.Prelude.{◌<◌, ◌≤◌, ℕ, Bool, ◌&&◌, nat_le, List, length}

abbrev pub is_within : ℕ → ℕ → ℕ → Bool
is_within least most n = nat_le least n && nat_le n most

-- 1 to 128 bytes
abbrev pub IsName : List ℕ → Type 0
IsName bytes = (0 < length bytes) × (length bytes ≤ 128)

-- the same as a test
abbrev pub is_name : List ℕ → Bool
is_name bytes = is_within 1 128 (length bytes)
