-- The views of the seats. Tickets are counted without an end here; the words have them modulo 2 ^ 64.
use Rattle.std.specs.Prelude.{ℕ, ◌+◌, List, [], ◌∷◌, ◌++◌}
use Rattle.seat_lock.specs.declared.rows.Origin.{Origin}
use Rattle.seat_lock.specs.declared.rows.SeatCounts.{SeatCounts}
use Rattle.seat_lock.specs.declared.rows.SeatRow.{SeatRow}
use Rattle.seat_lock.specs.declared.view.Share.{Share}
use Rattle.seat_lock.specs.declared.view.View.{View}

-- no ticket, and these shares
abbrev pub holding : List Share → View
holding ms = record { stage = 0; ticket = 0; known = []; shares = ms }

abbrev pub resting : Share → View
resting m = holding (m ∷ [])

abbrev pub waiting : ℕ → Share → View
waiting t m = record { stage = 1; ticket = t; known = []; shares = m ∷ [] }

abbrev pub having : ℕ → List SeatRow → Share → View
having t rows m = record { stage = 2; ticket = t; known = rows; shares = m ∷ [] }

-- the shares of the numbers from k on
abbrev pub numbered : Origin → ℕ → List SeatRow → List Share
numbered o k [] = []
numbered o k (r ∷ rs) = record { number = k; row = r; origin = o } ∷ numbered o (k + 1) rs

-- the first seat has all shares
abbrev pub starting : {T : Type 0} → (T → List SeatRow) → (T → Origin) → T → View
starting rows_of origin_of x = holding (numbered (origin_of x) 0 (rows_of x))

abbrev pub after_first : List Share → List Share
after_first [] = []
after_first (m ∷ ms) = ms

abbrev pub first_alone : List Share → List Share
first_alone [] = []
first_alone (m ∷ ms) = m ∷ []

-- a view is cut in its first share and the rest, and joined with another one
abbrev pub cut_left : View → View
cut_left v = holding (after_first v.shares)

abbrev pub cut_right : View → View
cut_right v = holding (first_alone v.shares)

abbrev pub joined : View → View → View
joined v w = holding (w.shares ++ v.shares)

abbrev pub spent : View
spent = holding []

abbrev pub no_counts : SeatCounts
no_counts = record { entries = 0; claimed = 0; made = 0; refused = 0; faults = 0; stops_asked = 0; stops_found = 0; looks = 0 }

abbrev pub no_row : SeatRow
no_row = record { stage = 0; head = []; counts = no_counts; ended = [] }

-- what a view without a share shows
abbrev pub no_share : Share
no_share = record { number = 0; row = no_row; origin = record { place = 0; faults = 0; refusals = 0; tasks = 0 } }

abbrev pub first_of : List Share → Share
first_of [] = no_share
first_of (m ∷ ms) = m

abbrev pub share_of : View → Share
share_of v = first_of v.shares
