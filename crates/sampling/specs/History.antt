-- What a sampling has gone through, read from the calls and their answers alone, the newest first.
use Rattle.std.specs.Prelude.{◌≡◌, ℕ, suc, ◌<◌, cond, List, [], ◌∷◌, length, ℤ, pos, ◌+ℤ◌, Ok, Err, vec_items, vec_len, Result}
use Rattle.foundation.specs.declared.fault.Fault.{Fault}
use Rattle.foundation.specs.Sums.{listed}
use Rattle.sampling.specs.declared.category.Category.{Category}
use Rattle.sampling.specs.declared.state.Sampling.{Sampling}
use Rattle.sampling.specs.Accepted.{meets}
use Rattle.sampling.specs.Interval.{after}
use Rattle.sampling.specs.Records.{interval_at}
use Rattle.sampling.specs.Units.{added_by, owner_at, sum_at}
use Rattle.sampling.specs.Weights.{Sampled}

pub data Event : Type 0 where
  -- owner bytes that were registered
  registered : List ℕ → Event
  -- a registration that was refused: it counts for nothing
  unregistered : Event
  -- the bytes of an interval that was offered: whether it was accepted is for the conditions to say
  offered : List ℕ → Event

-- a call to register, by its answer
abbrev pub registration : Result (Unit {0}) Fault → List ℕ → Event
registration (Ok u) owners = registered owners
registration (Err f) owners = unregistered

-- the owners of the units
abbrev pub owners_in : List Event → List ℕ
owners_in [] = []
owners_in (registered os ∷ h) = os
owners_in (unregistered ∷ h) = owners_in h
owners_in (offered b ∷ h) = owners_in h

-- the first interval number above those of the accepted intervals, which rise
abbrev pub next : List (List ℕ) → ℕ
next [] = 0
next (b ∷ bs) = suc (interval_at b)

-- the accepted intervals: those, in order, that meet the conditions when they are offered
abbrev pub accepted : List Event → List (List ℕ)
accepted [] = []
accepted (registered os ∷ h) = accepted h
accepted (unregistered ∷ h) = accepted h
accepted (offered b ∷ h) = cond (meets (length (owners_in h)) (next (accepted h)) b) (b ∷ accepted h) (accepted h)

-- the sum of a category of unit u over accepted intervals
abbrev pub total_in : List (List ℕ) → ℕ → Category → ℤ
total_in [] u c = pos 0
total_in (b ∷ bs) u c = total_in bs u c +ℤ added_by b u c

-- what was sampled, by the history alone
abbrev pub sampled_in : List Event → Sampled
sampled_in h = record { units = length (owners_in h); owner = listed (owners_in h); sum = total_in (accepted h); used = length (accepted h) }

-- a sampling that has gone through h
pub record Gone (h : List Event) (s : Sampling) : Type 0 where
  pub many : vec_len s.units ≡ length (owners_in h)
  pub owners : (u : ℕ) → owner_at (vec_items s.units) u ≡ listed (owners_in h) u
  pub count : s.used ≡ length (accepted h)
  pub last : after s.last ≡ next (accepted h)
  pub sums : (u : ℕ) (c : Category) → u < length (owners_in h) → sum_at (vec_items s.units) u c ≡ total_in (accepted h) u c
  -- nothing is accepted before units are registered
  pub idle : length (owners_in h) ≡ 0 → accepted h ≡ []
