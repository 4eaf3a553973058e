-- How large the sums of a recovery can be.
use Rattle.std.proofs.Common.{◌≡◌, ℕ, zero, suc, ◌+◌, ◌<◌, ◌≤◌, Bool, true, false, cond, ◌&&◌, ltb, sym, refl, ap, ◌∙◌, arith}
use Rattle.std.proofs.lemmas.Bool.Decides.{nat_tests}
use Rattle.foundation.specs.Sums.{sum_to, listed}
use Rattle.foundation.proofs.Sums.{sum_to_none, sum_to_more, sum_to_eq, sum_to_le, sum_to_add, sum_to_one_le, sum_to_zero}
use Rattle.sampling.specs.declared.factors.Factors.{Factors}
use Rattle.sampling.specs.Factors.{factor_of, residual_of}
use Rattle.energy.specs.Energy.{grand, in_region, member, within}
use Rattle.energy.specs.Totals.{grand_is, region_is, quotient_le}
use Rattle.recovery.specs.Shares.{Basis, held_in, energy_in, causer, customer, atce, cmpf, crmpf, everywhere}
use Rattle.recovery.proofs.Laws.{held_is, causer_is, customer_is, atce_is, cmpf_is, crmpf_is}

-- by rows or by columns
pub sum_to_swap : (m n : ℕ) (f : ℕ → ℕ → ℕ) → sum_to m (λ p. sum_to n (f p)) ≡ sum_to n (λ r. sum_to m (λ p. f p r))
sum_to_swap zero n f = sum_to_none (λ p. sum_to n (f p)) ∙ sym (sum_to_zero n (λ r. sum_to 0 (λ p. f p r)) (λ r l. sum_to_none (λ p. f p r)))
sum_to_swap (suc m) n f =
    sum_to_more m (λ p. sum_to n (f p))
    ∙ ap (λ k. k + sum_to n (f m)) (sum_to_swap m n f)
    ∙ sym (sum_to_add n (λ r. sum_to m (λ p. f p r)) (f m))
    ∙ sum_to_eq n (λ r. sum_to m (λ p. f p r) + f m r) (λ r. sum_to (suc m) (λ p. f p r)) (λ r l. sym (sum_to_more m (λ p. f p r)))

pub all_rows : (f : ℕ → ℕ → ℕ) → sum_to 64 (λ p. sum_to 5 (f p)) ≡ grand f
all_rows f = sum_to_swap 64 5 f ∙ sum_to_eq 5 (λ r. sum_to 64 (λ p. f p r)) (in_region f) (λ r l. sym (region_is f r)) ∙ sym (grand_is f)

pub row_most : (f : ℕ → ℕ → ℕ) (p : ℕ) → p < 64 → sum_to 5 (f p) ≤ grand f
row_most f p l = omega (arith, all_rows f, sum_to_one_le 64 (λ q. sum_to 5 (f q)) p l)

cond_le : (t : Bool) (n : ℕ) → cond t n 0 ≤ n
cond_le true n = omega arith
cond_le false n = omega arith

cond_le_other : (t : Bool) (n : ℕ) → cond t 0 n ≤ n
cond_le_other true n = omega arith
cond_le_other false n = omega arith

everywhere_member : (r : ℕ) → r < 5 → member everywhere r ≡ true
everywhere_member zero l = refl
everywhere_member (suc zero) l = refl
everywhere_member (suc (suc zero)) l = refl
everywhere_member (suc (suc (suc zero))) l = refl
everywhere_member (suc (suc (suc (suc zero)))) l = refl
everywhere_member (suc (suc (suc (suc (suc r))))) l = absurd (omega arith)

-- a party's energy in all regions is the sum of its five figures, and no set has more
pub held_everywhere : (f : ℕ → ℕ → ℕ) (p : ℕ) → held_in everywhere f p ≡ sum_to 5 (f p)
held_everywhere f p = held_is everywhere f p ∙ sum_to_eq 5 (λ r. within everywhere f p r) (f p) (λ r l. ap (λ t. cond t (f p r) 0) (everywhere_member r l))

pub held_le : (D : ℕ) (f : ℕ → ℕ → ℕ) (p : ℕ) → held_in D f p ≤ sum_to 5 (f p)
held_le D f p = omega (arith, held_is D f p, sum_to_le 5 (λ r. within D f p r) (f p) (λ r l. cond_le (member D r) (f p r)))

pub held_all : (D : ℕ) (f : ℕ → ℕ → ℕ) → sum_to 64 (held_in D f) ≤ grand f
held_all D f = omega (arith, sum_to_le 64 (held_in D f) (λ p. sum_to 5 (f p)) (λ p l. held_le D f p), all_rows f)

cond_mono : (t : Bool) (m n : ℕ) → m ≤ n → cond t 0 m ≤ cond t 0 n
cond_mono true m n h = omega arith
cond_mono false m n h = h

customer_mono : (D : ℕ) (b : Basis) (p : ℕ) → customer D b p ≤ customer everywhere b p
customer_mono D b p =
    omega (
      arith,
      customer_is D b p,
      customer_is everywhere b p,
      cond_mono (b.factored p) (energy_in D b p) (energy_in everywhere b p) (omega (arith, held_le D b.energy p, held_everywhere b.energy p)),
    )

pub atce_le : (D : ℕ) (b : Basis) → atce D b ≤ atce everywhere b
atce_le D b = omega (arith, atce_is D b, atce_is everywhere b, sum_to_le 64 (customer D b) (customer everywhere b) (λ p l. customer_mono D b p))

pub atce_most : (D : ℕ) (b : Basis) → atce D b ≤ grand b.energy
atce_most D b =
    omega (
      arith,
      atce_is D b,
      sum_to_le 64 (customer D b) (held_in D b.energy) (λ p l. omega (arith, customer_is D b p, cond_le_other (b.factored p) (energy_in D b p))),
      held_all D b.energy,
    )

pub cmpf_most : (D : ℕ) (b : Basis) → cmpf D b ≤ sum_to 64 b.factor
cmpf_most D b =
    omega (
      arith,
      cmpf_is D b,
      sum_to_le 64 (causer D b) b.factor (λ p l. omega (arith, causer_is D b p, cond_le (b.factored p && ltb 0 (energy_in D b p)) (b.factor p))),
    )

pub crmpf_most : (D : ℕ) (b : Basis) → crmpf D b ≤ b.residual
crmpf_most D b = omega (arith, crmpf_is D b, quotient_le b.residual (atce D b) (atce everywhere b) (atce_le D b))

-- published factors are at most a million together
pub factors_most : (f : Factors) → sum_to 64 (factor_of f) + residual_of f ≤ 1000000
factors_most f =
    let all : sum_to 65 (listed f.factors) ≤ 1000000 = let whole = f.whole in grind (arith, nat_tests) in
    omega (arith, all, sum_to_more 64 (listed f.factors), sum_to_eq 64 (factor_of f) (listed f.factors) (λ p l. grind (arith, nat_tests)))
