-- Tables of causers and customers, as lists.
use Rattle.std.proofs.Common.{◌≡◌, ℕ, ◌+◌, ◌*◌, ◌/◌, ◌<◌, ◌≤◌, cond, ◌&&◌, ltb, List, length, refl, sym, ap, ◌∙◌, ⊎_elim, arith}
use Rattle.std.proofs.lemmas.Bool.{cases_lt, lt-ltb, le-ltb}
use Rattle.foundation.specs.Division.{share}
use Rattle.foundation.specs.Sums.{sum_to, listed}
use Rattle.foundation.proofs.Shares.{share_eq}
use Rattle.foundation.proofs.Sums.{sum_to_eq}
use Rattle.sampling.specs.declared.factors.Factors.{Factors}
use Rattle.energy.specs.declared.figures.Figures.{Figures}
use Rattle.energy.specs.Table.{figure_of}
use Rattle.recovery.specs.declared.weights.Weights.{Weights}
use Rattle.recovery.specs.Weights.{Weighed}
use Rattle.recovery.specs.Shares.{Basis, Alike, basis_of, energy_in, causer, customer, atce, cmpf, crmpf, everywhere, weight, residual_part_of, share_paid}
use Rattle.recovery.proofs.Laws.{energy_eq, customer_eq, weight_eq, causer_is, customer_is, atce_is, cmpf_is, crmpf_is, atce_alike, cmpf_alike, crmpf_alike, weight_party, weight_last, residual_is, paid_both}

pub customers_are : (D : ℕ) (b : Basis) (es xs : List ℕ) → ((p : ℕ) → p < 64 → listed es p ≡ energy_in D b p) → ((p : ℕ) → p < 64 → listed xs p ≡ cond (b.factored p) 0 (listed es p)) → (p : ℕ) → p < 64 → listed xs p ≡ customer D b p
customers_are D b es xs energies chosen p l = chosen p l ∙ ap (λ n. cond (b.factored p) 0 n) (energies p l) ∙ sym (customer_is D b p)

pub causers_are : (D : ℕ) (b : Basis) (es xs : List ℕ) → ((p : ℕ) → p < 64 → listed es p ≡ energy_in D b p) → ((p : ℕ) → p < 64 → listed xs p ≡ cond (b.factored p && ltb 0 (listed es p)) (b.factor p) 0) → (p : ℕ) → p < 64 → listed xs p ≡ causer D b p
causers_are D b es xs energies chosen p l = chosen p l ∙ ap (λ n. cond (b.factored p && ltb 0 n) (b.factor p) 0) (energies p l) ∙ sym (causer_is D b p)

-- the sum of a table of customers or of causers, as `total` makes it
pub customers_total : (D : ℕ) (b : Basis) (es xs : List ℕ) → length xs ≡ 64 → ((p : ℕ) → p < 64 → listed es p ≡ energy_in D b p) → ((p : ℕ) → p < 64 → listed xs p ≡ cond (b.factored p) 0 (listed es p)) → sum_to (length xs) (listed xs) ≡ atce D b
customers_total D b es xs long energies chosen =
    ap (λ n. sum_to n (listed xs)) long ∙ sum_to_eq 64 (listed xs) (customer D b) (customers_are D b es xs energies chosen) ∙ sym (atce_is D b)

pub causers_total : (D : ℕ) (b : Basis) (es xs : List ℕ) → length xs ≡ 64 → ((p : ℕ) → p < 64 → listed es p ≡ energy_in D b p) → ((p : ℕ) → p < 64 → listed xs p ≡ cond (b.factored p && ltb 0 (listed es p)) (b.factor p) 0) → sum_to (length xs) (listed xs) ≡ cmpf D b
causers_total D b es xs long energies chosen =
    ap (λ n. sum_to n (listed xs)) long ∙ sum_to_eq 64 (listed xs) (causer D b) (causers_are D b es xs energies chosen) ∙ sym (cmpf_is D b)

-- what the code makes of the residual's factor is CRMPF
pub crmpf_made : (D : ℕ) (b : Basis) (made residual inside overall : ℕ) → made ≡ residual * inside / overall → residual ≡ b.residual → inside ≡ atce D b → overall ≡ atce everywhere b → made ≡ crmpf D b
crmpf_made D b made residual inside overall e r i o =
    e ∙ ap (λ n. n * inside / overall) r ∙ ap (λ n. b.residual * n / overall) i ∙ ap (λ n. b.residual * atce D b / n) o ∙ sym (crmpf_is D b)

-- the residual's weight stands after those of the parties
pub weights_are : (D : ℕ) (b : Basis) (xs ws : List ℕ) (v : ℕ) → ((p : ℕ) → p < 64 → listed xs p ≡ causer D b p) → v ≡ crmpf D b → ((k : ℕ) → k < 65 → listed ws k ≡ cond (ltb k 64) (listed xs k) v) → (k : ℕ) → k < 65 → listed ws k ≡ weight D b k
weights_are D b xs ws v are last made k l =
    ⊎_elim
    (λ (m : k < 64). made k l ∙ ap (λ t. cond t (listed xs k) v) (lt-ltb k 64 m) ∙ are k m ∙ sym (weight_party D b k m))
    (λ (m : 64 ≤ k).
    let e : k ≡ 64 = omega arith in
    made k l ∙ ap (λ t. cond t (listed xs k) v) (le-ltb k 64 m) ∙ last ∙ sym (weight_last D b) ∙ sym (ap (weight D b) e))
    (cases_lt k 64)

-- the figures copied from a source weigh what the source's do
pub weighed : (D part : ℕ) (f : Factors) (kwh : ℕ → ℕ → ℕ) (copy : Figures) (w : Weights) → ((p r : ℕ) → p < 64 → r < 5 → figure_of copy.rows p r ≡ kwh p r) → Weighed D (basis_of part f (figure_of copy.rows)) w → Weighed D (basis_of part f kwh) w
weighed D part f kwh copy w same h =
    let b = basis_of part f (figure_of copy.rows) in
    let c = basis_of part f kwh in
    let a : Alike b c = record { part = refl; factor = λ p l. refl; factored = λ p l. refl; residual = refl; energy = same } in
    record {
      energies = λ p l. h.energies p l ∙ energy_eq D b c a p l;
      causers = λ k l. h.causers k l ∙ weight_eq D b c a k l;
      customers = λ p l. h.customers p l ∙ customer_eq D b c a p l;
      all_causers = h.all_causers ∙ cmpf_alike D b c a;
      residual = h.residual ∙ crmpf_alike D b c a;
      all_customers = h.all_customers ∙ atce_alike D b c a;
    }

-- what two divisions over such tables give
pub borne_is : (D : ℕ) (b : Basis) (cs : List ℕ) (r : ℕ) → ((k : ℕ) → k < 65 → listed cs k ≡ weight D b k) → r ≡ share b.part 65 (listed cs) 64 → r ≡ residual_part_of D b
borne_is D b cs r causers e = e ∙ share_eq b.part 65 (listed cs) (weight D b) causers 64 (omega arith) ∙ sym (residual_is D b)

pub paid_are : (D : ℕ) (b : Basis) (cs es ss : List ℕ) (r : ℕ) → ((k : ℕ) → k < 65 → listed cs k ≡ weight D b k) → ((p : ℕ) → p < 64 → listed es p ≡ customer D b p) → r ≡ share b.part 65 (listed cs) 64 → ((p : ℕ) → p < 64 → listed ss p ≡ share b.part 65 (listed cs) p + share r 64 (listed es) p) → (p : ℕ) → p < 64 → listed ss p ≡ share_paid D b p
paid_are D b cs es ss r causers customers e both p l =
    omega (
      arith,
      both p l,
      share_eq b.part 65 (listed cs) (weight D b) causers p (omega arith),
      share_eq r 64 (listed es) (customer D b) customers p l,
      ap (λ n. share n 64 (customer D b) p) (borne_is D b cs r causers e),
      paid_both D b p l,
    )
