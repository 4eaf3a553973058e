-- What the figures of an energy source mean, and how they are seen, totalled and changed.
use Rattle.std.specs.Prelude.{ℕ, ◌+◌, ◌/◌, ◌%◌, ◌^◌, Bool, cond, not, ◌&&◌, ◌==◌, nat_lt}
use Rattle.foundation.specs.Sums.{sum_to}

-- the answer for a party and a region: nothing out of range
abbrev pub seen : (ℕ → ℕ → ℕ) → ℕ → ℕ → ℕ
seen f p r = cond (nat_lt p 64 && nat_lt r 5) (f p r) 0

-- the figures of all parties in a region
unfoldable pub in_region : (ℕ → ℕ → ℕ) → ℕ → ℕ
in_region f r = sum_to 64 (λ p. f p r)

-- the answer for a region's total
abbrev pub total_of : (ℕ → ℕ → ℕ) → ℕ → ℕ
total_of f r = cond (nat_lt r 5) (in_region f r) 0

-- all figures
unfoldable pub grand : (ℕ → ℕ → ℕ) → ℕ
grand f = sum_to 5 (in_region f)

-- whether region r is in a set, a number whose bit r stands for region r
abbrev pub member : ℕ → ℕ → Bool
member set r = (set / 2 ^ r % 2) == 1

-- the figures seen only in the regions of a set
abbrev pub within : ℕ → (ℕ → ℕ → ℕ) → ℕ → ℕ → ℕ
within set f p r = cond (member set r) (f p r) 0

-- whether a handover moves anything: two different parties that there are
abbrev pub moves : ℕ → ℕ → Bool
moves leaver successor = nat_lt leaver 64 && nat_lt successor 64 && not (leaver == successor)

-- a leaver's figures moved onto a successor's
abbrev pub moved : (leaver successor : ℕ) → (ℕ → ℕ → ℕ) → ℕ → ℕ → ℕ
moved leaver successor f p r = cond (moves leaver successor) (cond (p == leaver) 0 (cond (p == successor) (f successor r + f leaver r) (f p r))) (f p r)
