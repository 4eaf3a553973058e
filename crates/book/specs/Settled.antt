-- What holds after any history of calls: the law of the book.
use Rattle.std.specs.Prelude.{◌≡◌, ℕ, ◌+◌, ◌<◌, ◌≤◌, List, [], ◌∷◌, ℤ, pos, neg_ℤ}
use Rattle.foundation.specs.Sums.{sum_to_int}
use Rattle.recovery.specs.Shares.{Alike, Basis, WithinTwo, cmpf, crmpf, energy_in, exact_bottom, exact_top, share_paid}
use Rattle.book.specs.History.{Claimed, History, claims, of_number, paid, recovered_claims, recoveries, regions_of, returned_claims, standing, still_open, ticks}

-- every one of a list
abbrev pub Each : {A : Type 0} → (A → Type 0) → List A → Type 0
Each P [] = Unit {0}
Each P (x ∷ xs) = P x × Each P xs

-- what one recovery over D has charged a party
pub record Charged (D : ℕ) (b : Basis) : Type 0 where
  -- there was something to divide over, and no exact share has the divisor 0
  pub weighed : 0 < cmpf D b + crmpf D b
  pub divisor : (p : ℕ) → p < 64 → 0 < exact_bottom D b p
  -- within two ticks of the exact share
  pub near : (p : ℕ) → p < 64 → WithinTwo (share_paid D b p) (exact_top D b p) (exact_bottom D b p)
  -- nought without energy in the regions
  pub nought : (p : ℕ) → p < 64 → energy_in D b p ≡ 0 → share_paid D b p ≡ 0

-- the claims that a book holds open, and a ledger's amounts, after h
pub record Settled (h : History) (held : ℕ → List Claimed) (owed : ℕ → ℕ → ℤ) : Type 0 where
  -- under each declaration all parties' amounts add up to minus the parts recovered under it
  pub whole : (s : ℕ) → 1 ≤ s → s ≤ 32 → sum_to_int 64 (λ p. owed p s) ≡ neg_ℤ (pos (ticks s (recovered_claims h)))
  -- what was claimed was recovered, or handed back, or is still open
  pub accounted : (s : ℕ) → ticks s (claims h) ≡ ticks s (recovered_claims h) + ticks s (returned_claims h) + ticks s (still_open h)
  -- the book holds exactly the open claims, each under the serial for which its number stands
  pub holds : (n : ℕ) → 1 ≤ n → n ≤ 16 → held n ≡ of_number n (still_open h)
  pub under : (n : ℕ) → 1 ≤ n → n ≤ 16 → Each (λ c. c.serial ≡ standing h n) (held n)
  -- a party's amount is minus the sum of its shares, one a recovery
  pub shares : (p s : ℕ) → p < 64 → 1 ≤ s → s ≤ 32 → owed p s ≡ neg_ℤ (pos (paid (regions_of h s) (recoveries h s) p))
  -- each within two ticks of the exact share, and nought without energy in the declaration's regions
  pub charged : (s : ℕ) → Each (Charged (regions_of h s)) (recoveries h s)

-- two lists of recoveries that are alike, one by one
abbrev pub AllAlike : List Basis → List Basis → Type 0
AllAlike [] [] = Unit {0}
AllAlike [] (c ∷ cs) = ⊥
AllAlike (b ∷ bs) [] = ⊥
AllAlike (b ∷ bs) (c ∷ cs) = Alike b c × AllAlike bs cs

-- a declaration of one history and one of another, alike in regions and in their recoveries
pub record Likened (h : History) (s : ℕ) (k : History) (t : ℕ) : Type 0 where
  pub regions : regions_of h s ≡ regions_of k t
  pub each : AllAlike (recoveries h s) (recoveries k t)
