-- The division of an amount over weights.
use Rattle.std.specs.Prelude.{◌≡◌, ℕ, suc, ◌+◌, ◌-◌, ◌*◌, ◌/◌, ◌<◌, cond, nat_lt}
use Rattle.foundation.specs.Sums.{sum_to}

-- share k of amount over the weights w 0, .., w (n - 1): the step that ⌊amount × (weight so far) / (all weight)⌋ makes at k;
-- a quotient by 0 is 0, so all shares are 0 where all weights are
unfoldable pub share : ℕ → ℕ → (ℕ → ℕ) → ℕ → ℕ
share amount n w k = amount * sum_to (suc k) w / sum_to n w - amount * sum_to k w / sum_to n w

-- a list, given by its places, with place j left out
abbrev pub without : ℕ → (ℕ → ℕ) → ℕ → ℕ
without j f i = cond (nat_lt i j) (f i) (f (suc i))

-- what holds of the shares s of amount over the weights w 0, .., w (n - 1)
pub record Divided (amount n : ℕ) (w s : ℕ → ℕ) : Type 0 where
  pub shares : (k : ℕ) → k < n → s k ≡ share amount n w k
  -- the shares add up to the amount, unless all weights are 0
  pub whole : 0 < sum_to n w → sum_to n s ≡ amount
  -- each is less than one away from its exact part of the amount, both sides multiplied by the divisor
  pub above : (k : ℕ) → k < n → 0 < sum_to n w → amount * w k < s k * sum_to n w + sum_to n w
  pub below : (k : ℕ) → k < n → 0 < sum_to n w → s k * sum_to n w < amount * w k + sum_to n w
  -- a thing of weight 0 gets 0
  pub nothing : (k : ℕ) → k < n → w k ≡ 0 → s k ≡ 0
  -- leaving out a thing of weight 0 changes no other share
  pub left_out : (j : ℕ) → j < n → w j ≡ 0 → (i : ℕ) → suc i < n → share amount (n - 1) (without j w) i ≡ without j s i
  -- equal weights at equal places give equal shares
  pub alike : (v : ℕ → ℕ) → ((k : ℕ) → k < n → v k ≡ w k) → (k : ℕ) → k < n → share amount n v k ≡ s k
