-- What a caller asks, judged before its number's state counts.
use Rattle.std.specs.Prelude.{◌≡◌, ℕ, ◌<◌, ◌≤◌, Bool, cond, not, ◌&&◌, List, length, Option, Result, IfOk, ◌==◌, nat_eq, nat_le}
use Rattle.foundation.specs.declared.fault.Fault.{Fault}
use Rattle.foundation.specs.Fault.{Refused, refusal, unless_in}
use Rattle.foundation.specs.First.{all_to, first_to, or_else}
use Rattle.energy.specs.Energy.{member}
use Rattle.book.specs.declared.state.Kind.{Kind}
use Rattle.book.specs.declared.state.Kind.TheVariants.{Regulation, Delayed}
use Rattle.book.specs.declared.state.table.Proposal.{Proposal}
use Rattle.book.specs.declared.term.Term.{Term}
use Rattle.book.specs.Calls.{is_term, number_fault, payment, region_at, service_at}
use Rattle.book.specs.Table.{outside_fault}

abbrev pub kind_fault : ℕ → Option Refused
kind_fault kind = unless_in 3 (nat_le 1 kind && nat_le kind 2) 2 0

abbrev pub set_fault : ℕ → Option Refused
set_fault regions = unless_in 3 (nat_le 1 regions && nat_le regions 31) 2 0

abbrev pub kind_of : ℕ → Kind
kind_of kind = cond (kind == 1) Regulation Delayed

-- 1 and 2 are kinds, and every other number is refused
pub record IsKind (kind : ℕ) (r : Result Kind Fault) : Type 0 where
  pub answer : refusal r ≡ kind_fault kind
  pub value : IfOk r (λ k. k ≡ kind_of kind)

-- a declaration's figures
abbrev pub declaration_fault : (number kind regions : ℕ) → Option Refused
declaration_fault n kind regions = or_else (number_fault n) (or_else (kind_fault kind) (set_fault regions))

abbrev pub terms_fault : List Term → Option Refused
terms_fault ts = first_to (length ts) (λ k. unless_in 3 (is_term ts k) 2 k)

-- a claim's figures
abbrev pub request_fault : (number interval value : ℕ) → List Term → Option Refused
request_fault n interval value ts =
    or_else (unless_in 3 (nat_le (length ts) 10) 1 0)
    (or_else (number_fault n) (or_else (unless_in 3 (nat_le interval 2015) 2 0) (or_else (unless_in 3 (nat_le value 2000000) 2 0) (terms_fault ts))))

-- the first term outside a set of regions
abbrev pub outer_fault : (regions : ℕ) → List Term → Option Refused
outer_fault D ts = first_to (length ts) (λ k. unless_in 3 (member D (region_at ts k)) 12 k)

-- whether a term is of the delayed service
abbrev pub is_delayed : List Term → Bool
is_delayed ts = not (all_to (length ts) (λ k. nat_eq (service_at ts k) 1))

-- the terms that are not refused
pub record Ranged (ts : List Term) : Type 0 where
  pub few : length ts ≤ 10
  pub regions : (k : ℕ) → k < length ts → region_at ts k < 5

-- what the terms of a proposal come to, where so many regions are declared
pub record Proposes (D value : ℕ) (ts : List Term) (p : Proposal) : Type 0 where
  pub payment : p.payment ≡ payment value ts
  pub delayed : p.delayed ≡ is_delayed ts
  pub outside : outside_fault p.outside ≡ outer_fault D ts
