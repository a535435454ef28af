-- The sixteen bytes at the start of a journal's file.
use Rattle.std.specs.Prelude.{◌≡◌, ◌≢◌, ◌⊎◌, ℕ, ◌^◌, ◌<◌, List, [], ◌∷◌, drop, slice_index}
use Rattle.journal_format.specs.Spelling.{big_endian, ◌⧺◌}
use Rattle.journal_format.specs.declared.file_header.Heading.{Heading}
use Rattle.journal_format.specs.declared.file_header.Heading.TheVariants.{Live, Idle, Version, Foreign}

-- `SQJRNAL` and a line feed
abbrev pub magic : List ℕ
magic = 0x53 ∷ 0x51 ∷ 0x4A ∷ 0x52 ∷ 0x4E ∷ 0x41 ∷ 0x4C ∷ 0x0A ∷ []

-- the header of a file: version 1, and the turn
abbrev pub header : ℕ → List ℕ
header turn = magic ⧺ big_endian 4 1 ⧺ big_endian 4 turn

-- the bytes are the header of a turn
abbrev pub IsLive : ℕ → List ℕ → Type 0
IsLive turn bytes = (turn < 3) × (bytes ≡ header turn)

-- the bytes after the first one are those of the header of a turn
abbrev pub EndsAsHeader : List ℕ → ℕ → Type 0
EndsAsHeader bytes turn = (turn < 3) × (drop 1 bytes ≡ drop 1 (header turn))

-- the first byte is 0, or it alone isn't that of a header
abbrev pub IsIdle : List ℕ → Type 0
IsIdle bytes = (slice_index bytes 0 ≡ 0) ⊎ ((slice_index bytes 0 ≢ 0x53) × ((turn : ℕ) × EndsAsHeader bytes turn))

-- a header's first eight bytes, and another version
abbrev pub IsVersion : ℕ → List ℕ → Type 0
IsVersion n bytes = (n < 2 ^ 32) × (n ≢ 1) × ((rest : List ℕ) × (bytes ≡ magic ⧺ big_endian 4 n ⧺ rest))

-- what sixteen bytes say of their file
abbrev pub IsHeading : List ℕ → Heading → Type 0
IsHeading bytes (Live turn) = IsLive turn bytes
IsHeading bytes Idle = IsIdle bytes
IsHeading bytes (Version n) = IsVersion n bytes
IsHeading bytes Foreign = ((turn : ℕ) → IsLive turn bytes → ⊥) × (IsIdle bytes → ⊥) × ((n : ℕ) → IsVersion n bytes → ⊥)

abbrev pub IsNoHeader : List ℕ → Type 0
IsNoHeader bytes = (turn : ℕ) → EndsAsHeader bytes turn → ⊥
