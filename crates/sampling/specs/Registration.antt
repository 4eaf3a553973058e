-- When units are refused.
use Rattle.std.specs.Prelude.{◌≡◌, ℕ, cond, ◌&&◌, ◌⊎◌, List, length, Some, None, Option, ◌==◌, nat_le}
use Rattle.foundation.specs.Fault.{Refused}
use Rattle.foundation.specs.First.{first_to}
use Rattle.foundation.specs.Sums.{listed}
use Rattle.sampling.specs.Interval.{in_samples, unless}

-- the first byte that is neither a party nor the residual
abbrev pub owners_fault : List ℕ → Option Refused
owners_fault owners = first_to (length owners) (λ u. unless (nat_le (listed owners u) 64) 2 u)

-- the first fault of owner bytes offered where n units are registered
unfoldable pub registration_fault : ℕ → List ℕ → Option Refused
registration_fault n owners = cond (n == 0) (cond (nat_le 1 (length owners) && nat_le (length owners) 256) (owners_fault owners) (Some (in_samples 1 0))) (Some (in_samples 4 0))

-- a call that needs memory answers its fault; where it has none it is carried out, unless memory is wanting
abbrev pub OrNoMemory : Option Refused → Option Refused → Type 0
OrNoMemory answer (Some f) = answer ≡ Some f
OrNoMemory answer None = (answer ≡ None) ⊎ (answer ≡ Some (in_samples 0 0))
