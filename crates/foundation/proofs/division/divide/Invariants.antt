use Rattle.std.proofs.Common.{◌≡◌, ℕ, ◌*◌, ◌/◌, ◌<◌, length, get_or}
use Rattle.foundation.specs.Sums.{sum_to, listed}
use Rattle.foundation.specs.Division.{share}
use Rattle.foundation.proofs.division.divide.Given as goal

abbrev pub invariant-loop-k : goal.invariant-loop-k
invariant-loop-k l =
    (l.reached ≡ sum_to l.k (listed l.weights))
    × (l.given ≡ l.amount * sum_to l.k (listed l.weights) / sum_to (length l.weights) (listed l.weights))
    × ((i : ℕ) → i < l.k → get_or l.shares i 0 ≡ share l.amount (length l.weights) (listed l.weights) i)
