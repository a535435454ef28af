-- UTF-8 byte by byte (Unicode, table 3-7).
use Rattle.std.specs.Prelude.{ℕ, zero, suc, Bool, false, cond, nat_lt, nat_le, List, [], Option, Some, None}
use Rattle.std.specs.Int.{is_in_range}
use Rattle.std.specs.Str.Lossy.{second_byte_min, second_byte_max}
use Rattle.journal_format.specs.declared.utf8.Owed.{Owed}
use Rattle.journal_format.specs.Reading.{Read, both, made, given, byte_where, prepend}

abbrev pub owed : ℕ → ℕ → ℕ → Owed
owed left low high = record { left = left; low = low; high = high }

-- between two characters
abbrev pub nothing_owed : Owed
nothing_owed = owed 0 0x80 0xBF

-- what a character's first byte leaves to come; nothing where no character begins with it
abbrev pub after_first : ℕ → Option Owed
after_first b = cond (nat_lt b 0x80) (Some nothing_owed)
    (cond (nat_lt b 0xC2) None
    (cond (nat_lt b 0xE0) (Some (owed 1 0x80 0xBF))
    (cond (nat_lt b 0xF0) (Some (owed 2 (second_byte_min b) (second_byte_max b)))
    (cond (nat_lt b 0xF5) (Some (owed 3 (second_byte_min b) (second_byte_max b))) None))))

abbrev pub after_byte : ℕ → ℕ → ℕ → ℕ → Option Owed
after_byte zero low high b = after_first b
after_byte (suc left) low high b = cond (is_in_range low high b) (Some (owed left 0x80 0xBF)) None

-- there is room for what is still to come
abbrev pub has_room : ℕ → Option Owed → Bool
has_room room None = false
has_room room (Some o) = nat_le o.left room

abbrev pub or_nothing : Option Owed → Owed
or_nothing None = nothing_owed
or_nothing (Some o) = o

-- as many bytes as there is room for, of a text of which this is owed
unfoldable pub text_after : ℕ → ℕ → ℕ → ℕ → List ℕ → Read (List ℕ)
text_after zero left low high = given []
text_after (suc room) left low high = made prepend
    (both (byte_where (λ b. has_room room (after_byte left low high b)))
    (λ b. let o = or_nothing (after_byte left low high b) in text_after room o.left o.low o.high))

-- a text of so many bytes
abbrev pub text_of : ℕ → List ℕ → Read (List ℕ)
text_of room = text_after room 0 0x80 0xBF
