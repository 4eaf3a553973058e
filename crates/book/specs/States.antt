-- What the state of a number says.
use Rattle.std.specs.Prelude.{ℕ, suc, ◌-◌, Bool, true, false, cond, ◌&&◌, List, Some, None, Option, nat_le, slice_index_or}
use Rattle.foundation.specs.declared.interval.WeekInterval.{WeekInterval}
use Rattle.book.specs.declared.state.Declaration.{Declaration}
use Rattle.book.specs.declared.state.State.{State}
use Rattle.book.specs.declared.state.State.TheVariants.{Free, Declared, Claimed}

-- whether there is such a number
abbrev pub is_number : ℕ → Bool
is_number n = nat_le 1 n && nat_le n 16

-- the state of a number in a list of states, free where there is no such number
abbrev pub state_in : List State → ℕ → State
state_in states n = cond (is_number n) (slice_index_or states (n - 1) Free) Free

abbrev pub is_free_state : State → Bool
is_free_state Free = true
is_free_state (Declared d) = false
is_free_state (Claimed d p) = false

abbrev pub is_claimed : State → Bool
is_claimed Free = false
is_claimed (Declared d) = false
is_claimed (Claimed d p) = true

-- the first interval above the last one recovered; each kind of interval has a definition of its own
abbrev pub after : Option WeekInterval → ℕ
after None = 0
after (Some i) = suc i.number

-- a declaration with its serial and regions in range
abbrev pub is_declaration : (made : ℕ) → Declaration → Bool
is_declaration made d = nat_le 1 d.serial && (nat_le d.serial made && (nat_le 1 d.regions && nat_le d.regions 31))

-- what a state holds is in range, where so many declarations were made
abbrev pub is_sound : (made : ℕ) → State → Bool
is_sound made Free = true
is_sound made (Declared d) = is_declaration made d
is_sound made (Claimed d p) = is_declaration made d && (nat_le 1 p.part && nat_le p.part 200000000000)
