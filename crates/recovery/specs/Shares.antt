-- What one recovery charges each party, and what holds of these shares.
use Rattle.std.specs.Prelude.{◌≡◌, ℕ, suc, ◌+◌, ◌*◌, ◌/◌, ◌<◌, ◌≤◌, Bool, cond, ◌&&◌, ◌==◌, nat_lt}
use Rattle.foundation.specs.Division.{share, without}
use Rattle.foundation.specs.Sums.{sum_to}
use Rattle.sampling.specs.declared.factors.Factors.{Factors}
use Rattle.sampling.specs.Factors.{factor_of, is_factored, residual_of}
use Rattle.energy.specs.Energy.{within}

-- what one recovery is worked out from
pub record Basis : Type 0 where
  -- the part that is recovered
  pub part : ℕ
  -- by party: its factor, and whether it has one
  pub factor : ℕ → ℕ
  pub factored : ℕ → Bool
  -- the residual's factor, RMPF
  pub residual : ℕ
  -- the energy of a party in a region
  pub energy : ℕ → ℕ → ℕ

abbrev pub basis_of : (part : ℕ) → Factors → (ℕ → ℕ → ℕ) → Basis
basis_of part f kwh = record { part = part; factor = factor_of f; factored = is_factored f; residual = residual_of f; energy = kwh }

-- the set of all five regions
abbrev pub everywhere : ℕ
everywhere = 31

-- a party's figures summed over the regions of a set
unfoldable pub held_in : ℕ → (ℕ → ℕ → ℕ) → ℕ → ℕ
held_in D f p = sum_to 5 (λ r. within D f p r)

-- a party's energy in D
abbrev pub energy_in : ℕ → Basis → ℕ → ℕ
energy_in D b p = held_in D b.energy p

-- the factor of a party that causes: it is factored, and has energy in D
unfoldable pub causer : ℕ → Basis → ℕ → ℕ
causer D b p = cond (b.factored p && nat_lt 0 (energy_in D b p)) (b.factor p) 0

-- the energy in D of a residual customer: a party that is not factored
unfoldable pub customer : ℕ → Basis → ℕ → ℕ
customer D b p = cond (b.factored p) 0 (energy_in D b p)

-- the energy of the residual customers in D
unfoldable pub atce : ℕ → Basis → ℕ
atce D b = sum_to 64 (customer D b)

-- the factors of the causers
unfoldable pub cmpf : ℕ → Basis → ℕ
cmpf D b = sum_to 64 (causer D b)

-- the residual's factor in the proportion of the customers' energy; a quotient by 0 is 0
unfoldable pub crmpf : ℕ → Basis → ℕ
crmpf D b = b.residual * atce D b / atce everywhere b

-- what the part is divided over: the causers in party order, then the residual as the 65th
unfoldable pub weight : ℕ → Basis → ℕ → ℕ
weight D b k = cond (nat_lt k 64) (causer D b k) (crmpf D b)

-- the share of the residual, which the customers bear
unfoldable pub residual_part_of : ℕ → Basis → ℕ
residual_part_of D b = share b.part 65 (weight D b) 64

-- what a party is charged
unfoldable pub share_paid : ℕ → Basis → ℕ → ℕ
share_paid D b p = cond (b.factored p) (share b.part 65 (weight D b) p) (share (residual_part_of D b) 64 (customer D b) p)

-- a party's exact share as a fraction: nothing without energy in D, else its factor's, or its energy's, proportion
unfoldable pub exact_top : ℕ → Basis → ℕ → ℕ
exact_top D b p = cond (nat_lt 0 (energy_in D b p)) (cond (b.factored p) (b.part * b.factor p) (b.part * crmpf D b * energy_in D b p)) 0

unfoldable pub exact_bottom : ℕ → Basis → ℕ → ℕ
exact_bottom D b p = cond (nat_lt 0 (energy_in D b p)) (cond (b.factored p) (cmpf D b + crmpf D b) ((cmpf D b + crmpf D b) * atce D b)) 1

-- at most two away from a fraction, all multiplied by the divisor
pub record WithinTwo (s top bottom : ℕ) : Type 0 where
  pub above : s * bottom ≤ top + 2 * bottom
  pub below : top ≤ s * bottom + 2 * bottom

-- a line for each party whose share is not 0
unfoldable pub lines_for : (ℕ → ℕ) → ℕ → ℕ
lines_for s n = sum_to n (λ p. cond (s p == 0) 0 1)

abbrev pub lines_of : ℕ → Basis → ℕ
lines_of D b = lines_for (share_paid D b) 64

-- two recoveries worked out from the same figures of parties 0 to 63 and regions 0 to 4
pub record Alike (b c : Basis) : Type 0 where
  pub part : b.part ≡ c.part
  pub factor : (p : ℕ) → p < 64 → b.factor p ≡ c.factor p
  pub factored : (p : ℕ) → p < 64 → b.factored p ≡ c.factored p
  pub residual : b.residual ≡ c.residual
  pub energy : (p r : ℕ) → p < 64 → r < 5 → b.energy p r ≡ c.energy p r

-- what holds of the shares s of one recovery
pub record Shared (D : ℕ) (b : Basis) (s : ℕ → ℕ) : Type 0 where
  pub shares : (p : ℕ) → p < 64 → s p ≡ share_paid D b p
  -- they add up to the part
  pub whole : sum_to 64 s ≡ b.part
  -- there is something to divide over, and no exact share has the divisor 0
  pub weighed : 0 < cmpf D b + crmpf D b
  pub divisor : (p : ℕ) → p < 64 → 0 < exact_bottom D b p
  -- each is at most two away from its exact share
  pub near : (p : ℕ) → p < 64 → WithinTwo (s p) (exact_top D b p) (exact_bottom D b p)
  -- a party without energy in D is charged nothing
  pub nought : (p : ℕ) → p < 64 → energy_in D b p ≡ 0 → s p ≡ 0
  -- the same figures give the same shares
  pub alike : (c : Basis) → Alike b c → (p : ℕ) → p < 64 → share_paid D c p ≡ s p
  -- leaving out a party that does not take part, of the causers or of the customers, changes no other share
  pub left_out_causer : (j : ℕ) → j < 64 → weight D b j ≡ 0 → (i : ℕ) → suc i < 65 → share b.part 64 (without j (weight D b)) i ≡ without j (share b.part 65 (weight D b)) i
  pub left_out_customer : (j : ℕ) → j < 64 → customer D b j ≡ 0 → (i : ℕ) → suc i < 64 → share (residual_part_of D b) 63 (without j (customer D b)) i ≡ without j (share (residual_part_of D b) 64 (customer D b)) i
