-- How large the figures of a split are, and what its exact shares are.
use Rattle.std.proofs.Common.{◌≡◌, ℕ, ◌+◌, ◌*◌, ◌<◌, ◌≤◌, true, false, cond, ltb, sym, ap, ◌∙◌, mul-le-mul_right, mul-le-mul_left, arith, lt-ltb}
use Rattle.foundation.specs.Sums.{listed}
use Rattle.foundation.proofs.Sums.{sum_to_eq, sum_to_one_le}
use Rattle.sampling.specs.declared.factors.Factors.{Factors}
use Rattle.recovery.specs.declared.split.Split.{Split}
use Rattle.recovery.specs.Shares.{Basis, basis_of, held_in, energy_in, atce, cmpf, crmpf, exact_top, exact_bottom}
use Rattle.recovery.specs.Split.{Parted, share_in, energy_of}
use Rattle.recovery.proofs.Bounds.{held_all, atce_most, cmpf_most, crmpf_most, factors_most}
use Rattle.recovery.proofs.Laws.{customer_le}
use Rattle.settle.specs.Exact.{Bounded, SplitOf}

-- products that fit
pub product_above : (m n : ℕ) → 0 < m → 0 < n → 0 < m * n
product_above m n h k = let more : m * 1 ≤ m * n = mul-le-mul_left m k in omega arith

pub product_most : (m n a b : ℕ) → m ≤ a → n ≤ b → m * n ≤ a * b
product_most m n a b h k =
    let first : m * n ≤ a * n = mul-le-mul_right n h in
    let second : a * n ≤ a * b = mul-le-mul_left a k in
    omega arith

there : (p v : ℕ) → p < 64 → cond (ltb p 64) v 0 ≡ v
there p v l = rw (lt-ltb p 64 l)

-- what a split holds of the parties there are
module _ (D : ℕ) (b : Basis) (s : Split) (parted : Parted D b s) where
  energy_is : (p : ℕ) → p < 64 → energy_of s p ≡ energy_in D b p
  energy_is p l = there p (listed s.energies p) l ∙ parted.energies p l

  weights_are : s.cmpf + s.crmpf ≡ cmpf D b + crmpf D b
  weights_are = omega (arith, parted.all_causers, parted.residual)

module _ (part : ℕ) (f : Factors) (s : Split) (h : SplitOf part f s) where
  abbrev basis : Basis
  basis = basis_of part f h.kwh

  pub bounded : Bounded part f s
  bounded = record {
    small = h.small;
    weighed = omega (arith, weights_are h.regions basis s h.parted, h.parted.law.weighed);
    weights = omega (arith, weights_are h.regions basis s h.parted, cmpf_most h.regions basis, crmpf_most h.regions basis, factors_most f);
    energies =
        omega (
          arith,
          sum_to_eq 64 (energy_of s) (held_in h.regions h.kwh) (energy_is h.regions basis s h.parted),
          held_all h.regions h.kwh,
          h.limited,
        );
    customers = omega (arith, h.parted.all_customers, atce_most h.regions basis, h.limited);
    customer = λ p l off some. omega (arith, h.parted.all_customers, customer_le h.regions basis p l off, energy_is h.regions basis s h.parted p l);
    whole = sum_to_eq 64 (share_in s) (listed s.shares) (λ p l. there p (listed s.shares p) l) ∙ h.parted.law.whole;
  }

pub energy_most : (part : ℕ) (f : Factors) (s : Split) → Bounded part f s → (p : ℕ) → p < 64 → energy_of s p ≤ 40000000
energy_most part f s b p l = omega (arith, sum_to_one_le 64 (energy_of s) p l, b.energies)

-- the exact share of a party with energy
module _ (D : ℕ) (b : Basis) (p : ℕ) (some : 0 < energy_in D b p) where
  causer_exact : b.factored p ≡ true → (exact_top D b p ≡ b.part * b.factor p) × (exact_bottom D b p ≡ cmpf D b + crmpf D b)
  unfolding exact_top exact_bottom
  causer_exact on = let q = lt-ltb 0 (energy_in D b p) some in (rw (q, on), rw (q, on))

  customer_exact : b.factored p ≡ false → (exact_top D b p ≡ b.part * crmpf D b * energy_in D b p) × (exact_bottom D b p ≡ (cmpf D b + crmpf D b) * atce D b)
  unfolding exact_top exact_bottom
  customer_exact off = let q = lt-ltb 0 (energy_in D b p) some in (rw (q, off), rw (q, off))

module _ (D : ℕ) (b : Basis) (s : Split) (parted : Parted D b s) (p : ℕ) (inside : p < 64) (some : 0 < energy_of s p) where
  has_energy : 0 < energy_in D b p
  has_energy = omega (arith, energy_is D b s parted p inside)

  pub of_causer : (weight weights top bottom : ℕ) → b.factored p ≡ true → weight ≡ b.factor p → weights ≡ s.cmpf + s.crmpf → top ≡ b.part * weight → bottom ≡ weights → (top ≡ exact_top D b p) × (bottom ≡ exact_bottom D b p)
  of_causer weight weights top bottom on w ws t u =
      let x = causer_exact D b p has_energy on in
      (t ∙ ap (λ n. b.part * n) w ∙ sym x.0, u ∙ ws ∙ weights_are D b s parted ∙ sym x.1)

  pub of_customer : (weight weights energy energies top bottom : ℕ) → b.factored p ≡ false → weight ≡ s.crmpf → weights ≡ s.cmpf + s.crmpf → energy ≡ energy_of s p → energies ≡ s.residual_energy → top ≡ b.part * weight * energy → bottom ≡ weights * energies → (top ≡ exact_top D b p) × (bottom ≡ exact_bottom D b p)
  of_customer weight weights energy energies top bottom off w ws e es t u =
      let x = customer_exact D b p has_energy off in
      let k : weight ≡ crmpf D b = w ∙ parted.residual in
      let m : energy ≡ energy_in D b p = e ∙ energy_is D b s parted p inside in
      let v : weights ≡ cmpf D b + crmpf D b = ws ∙ weights_are D b s parted in
      let n : energies ≡ atce D b = es ∙ parted.all_customers in
      (t ∙ rw (k, m) (sym x.0), u ∙ rw (v, n) (sym x.1))
