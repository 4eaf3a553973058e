-- What a book has gone through, read from the calls and their answers alone, the newest first.
use Rattle.std.specs.Prelude.{ℕ, suc, ◌+◌, cond, List, [], ◌∷◌, ◌==◌}
use Rattle.sampling.specs.declared.factors.Factors.{Factors}
use Rattle.recovery.specs.Shares.{Basis, basis_of, share_paid}

-- the four figures of a claim
pub record Claimed : Type 0 where
  pub number : ℕ
  pub serial : ℕ
  pub interval : ℕ
  pub part : ℕ

pub data Event : Type 0 where
  -- the k-th declaration makes serial k
  declared : (number regions : ℕ) → Event
  withdrawn : (number : ℕ) → Event
  claimed : Claimed → Event
  -- with the factors and all energies then
  recovered : Claimed → Factors → (ℕ → ℕ → ℕ) → Event
  returned : Claimed → Event
  -- counts for nothing
  refused : Event

abbrev pub History : Type 0
History = List Event

-- how many declarations were made
abbrev pub serials : History → ℕ
serials [] = 0
serials (declared n d ∷ h) = suc (serials h)
serials (withdrawn n ∷ h) = serials h
serials (claimed c ∷ h) = serials h
serials (recovered c f e ∷ h) = serials h
serials (returned c ∷ h) = serials h
serials (refused ∷ h) = serials h

-- the regions that a serial was declared with
abbrev pub regions_of : History → ℕ → ℕ
regions_of [] s = 0
regions_of (declared n d ∷ h) s = cond (s == suc (serials h)) d (regions_of h s)
regions_of (withdrawn n ∷ h) s = regions_of h s
regions_of (claimed c ∷ h) s = regions_of h s
regions_of (recovered c f e ∷ h) s = regions_of h s
regions_of (returned c ∷ h) s = regions_of h s
regions_of (refused ∷ h) s = regions_of h s

-- the serial for which a number stands, 0 where it stands for none
abbrev pub standing : History → ℕ → ℕ
standing [] n = 0
standing (declared m d ∷ h) n = cond (n == m) (suc (serials h)) (standing h n)
standing (withdrawn m ∷ h) n = cond (n == m) 0 (standing h n)
standing (claimed c ∷ h) n = standing h n
standing (recovered c f e ∷ h) n = standing h n
standing (returned c ∷ h) n = standing h n
standing (refused ∷ h) n = standing h n

-- the claims made, recovered and handed back
abbrev pub claims : History → List Claimed
claims [] = []
claims (declared n d ∷ h) = claims h
claims (withdrawn n ∷ h) = claims h
claims (claimed c ∷ h) = c ∷ claims h
claims (recovered c f e ∷ h) = claims h
claims (returned c ∷ h) = claims h
claims (refused ∷ h) = claims h

abbrev pub recovered_claims : History → List Claimed
recovered_claims [] = []
recovered_claims (declared n d ∷ h) = recovered_claims h
recovered_claims (withdrawn n ∷ h) = recovered_claims h
recovered_claims (claimed c ∷ h) = recovered_claims h
recovered_claims (recovered c f e ∷ h) = c ∷ recovered_claims h
recovered_claims (returned c ∷ h) = recovered_claims h
recovered_claims (refused ∷ h) = recovered_claims h

abbrev pub returned_claims : History → List Claimed
returned_claims [] = []
returned_claims (declared n d ∷ h) = returned_claims h
returned_claims (withdrawn n ∷ h) = returned_claims h
returned_claims (claimed c ∷ h) = returned_claims h
returned_claims (recovered c f e ∷ h) = returned_claims h
returned_claims (returned c ∷ h) = c ∷ returned_claims h
returned_claims (refused ∷ h) = returned_claims h

-- the claims of a number, and those of all others
abbrev pub of_number : ℕ → List Claimed → List Claimed
of_number n [] = []
of_number n (c ∷ cs) = cond (c.number == n) (c ∷ of_number n cs) (of_number n cs)

abbrev pub not_of : ℕ → List Claimed → List Claimed
not_of n [] = []
not_of n (c ∷ cs) = cond (c.number == n) (not_of n cs) (c ∷ not_of n cs)

-- the claims that no recovery or return of their number has followed
abbrev pub still_open : History → List Claimed
still_open [] = []
still_open (declared n d ∷ h) = still_open h
still_open (withdrawn n ∷ h) = still_open h
still_open (claimed c ∷ h) = c ∷ still_open h
still_open (recovered c f e ∷ h) = not_of c.number (still_open h)
still_open (returned c ∷ h) = not_of c.number (still_open h)
still_open (refused ∷ h) = still_open h

-- the parts of the claims under a serial, added up
abbrev pub ticks : ℕ → List Claimed → ℕ
ticks s [] = 0
ticks s (c ∷ cs) = cond (c.serial == s) c.part 0 + ticks s cs

-- the recoveries under a serial, each with its part, factors, who is factored, RMPF and energies then
abbrev pub recoveries : History → ℕ → List Basis
recoveries [] s = []
recoveries (declared n d ∷ h) s = recoveries h s
recoveries (withdrawn n ∷ h) s = recoveries h s
recoveries (claimed c ∷ h) s = recoveries h s
recoveries (recovered c f e ∷ h) s = cond (c.serial == s) (basis_of c.part f e ∷ recoveries h s) (recoveries h s)
recoveries (returned c ∷ h) s = recoveries h s
recoveries (refused ∷ h) s = recoveries h s

-- a party's shares of recoveries over a set of regions, added up
abbrev pub paid : (regions : ℕ) → List Basis → (party : ℕ) → ℕ
paid D [] p = 0
paid D (b ∷ bs) p = share_paid D b p + paid D bs p
