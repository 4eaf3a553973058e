-- The units of a sampling.
use Rattle.std.specs.Prelude.{◌≡◌, ℕ, suc, ◌*◌, ◌<◌, ◌≤◌, List, length, get_or, ℤ, pos, ◌+ℤ◌, slice_index_or, unsigned_abs}
use Rattle.foundation.specs.Sums.{sum_to_int}
use Rattle.sampling.specs.declared.category.Category.{Category}
use Rattle.sampling.specs.declared.category.Sums.{Sums}
use Rattle.sampling.specs.declared.unit.Unit.{Unit}
use Rattle.sampling.specs.Category.{sum_in, product_in}
use Rattle.sampling.specs.Records.{value_at, raise_at, lower_at}
use Rattle.sampling.specs.Weights.{Sampled}

-- values from -limit to limit
abbrev pub Within : ℕ → List ℤ → Type 0
Within limit vs = (k : ℕ) → k < length vs → unsigned_abs (slice_index_or vs k (pos 0)) ≤ limit

-- what the interval b adds to category c of unit u: over its 75 values, deviation × FI where the sample counts there
unfoldable pub added_by : List ℕ → ℕ → Category → ℤ
added_by b u c = sum_to_int 75 (λ k. product_in c (value_at b 0 k) (raise_at b (suc u)) (lower_at b (suc u)) (value_at b (suc u) k))

-- a unit as it is registered, with nothing summed
abbrev pub no_sums : Sums
no_sums = record { raise_not_enabled = pos 0; raise_enabled = pos 0; lower_not_enabled = pos 0; lower_enabled = pos 0 }

abbrev pub new_unit : ℕ → Unit
new_unit o = record { owner = o; sums = no_sums }

abbrev pub no_unit : Unit
no_unit = new_unit 0

abbrev pub owner_at : List Unit → ℕ → ℕ
owner_at us u = (get_or us u no_unit).owner

abbrev pub sum_at : List Unit → ℕ → Category → ℤ
sum_at us u c = sum_in (get_or us u no_unit).sums c

-- after so many intervals, each of 75 products of at most 1,560 × 20,000
abbrev pub Bounded : ℕ → List Unit → Type 0
Bounded used us = (u : ℕ) (c : Category) → unsigned_abs (sum_at us u c) ≤ used * 2340000000

-- the units before and after the interval b: the same owners, and each sum with what the interval adds
pub record Added (b : List ℕ) (before later : List Unit) : Type 0 where
  pub many : length later ≡ length before
  pub owners : (u : ℕ) → owner_at later u ≡ owner_at before u
  pub sums : (u : ℕ) (c : Category) → u < length before → sum_at later u c ≡ sum_at before u c +ℤ added_by b u c

-- what units and a count of intervals hold
abbrev pub sampled : List Unit → ℕ → Sampled
sampled us used = record { units = length us; owner = owner_at us; sum = sum_at us; used = used }
