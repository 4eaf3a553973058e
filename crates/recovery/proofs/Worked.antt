-- The recovery that is worked out in figures.
use Rattle.std.proofs.Common.{◌≡◌, ℕ, zero, suc, ◌<◌, ◌≤◌, Bool, true, false, cond, eqb, sym, refl, ◌∙◌, arith}
use Rattle.std.proofs.lemmas.Bool.Decides.{nat_tests}
use Rattle.foundation.specs.Division.{share}
use Rattle.foundation.specs.Sums.{sum_to}
use Rattle.foundation.proofs.Sums.{sum_to_zero}
use Rattle.energy.specs.Energy.{member, within}
use Rattle.recovery.specs.Shares.{held_in, energy_in, causer, customer, atce, cmpf, crmpf, weight, residual_part_of, share_paid, lines_for}
use Rattle.recovery.specs.Worked.{worked_basis, WorkedRecovery}
use Rattle.recovery.proofs.Laws.{held_is, share_nought}
use Rattle.recovery.proofs.Lines.{lines_eq}

-- what each party pays
abbrev paid : ℕ → ℕ
paid p = cond (eqb p 1) 316097 (cond (eqb p 3) 26341 (cond (eqb p 5) 17562 0))

hidden : (t : Bool) (n : ℕ) → n ≡ 0 → cond t n 0 ≡ 0
hidden true n e = e
hidden false n e = refl

no_figure : (p r : ℕ) → 6 ≤ p → worked_basis.energy p r ≡ 0
no_figure p r l = grind (arith, nat_tests)

no_energy : (p : ℕ) → 6 ≤ p → energy_in 3 worked_basis p ≡ 0
no_energy p l = held_is 3 worked_basis.energy p ∙ sum_to_zero 5 (λ r. within 3 worked_basis.energy p r) (λ r m. hidden (member 3 r) (worked_basis.energy p r) (no_figure p r l))

no_share : (p : ℕ) → 6 ≤ p → paid p ≡ 0
no_share p l = grind (arith, nat_tests)

shares : (p : ℕ) → p < 64 → share_paid 3 worked_basis p ≡ paid p
unfolding share_paid residual_part_of weight crmpf cmpf atce customer causer held_in share sum_to
shares zero l = refl
shares (suc zero) l = refl
shares (suc (suc zero)) l = refl
shares (suc (suc (suc zero))) l = refl
shares (suc (suc (suc (suc zero)))) l = refl
shares (suc (suc (suc (suc (suc zero))))) l = refl
shares (suc (suc (suc (suc (suc (suc p)))))) l =
    let far : 6 ≤ suc (suc (suc (suc (suc (suc p))))) = omega arith in
    share_nought 3 worked_basis (suc (suc (suc (suc (suc (suc p)))))) l (no_energy (suc (suc (suc (suc (suc (suc p)))))) far) ∙ sym (no_share (suc (suc (suc (suc (suc (suc p)))))) far)

three : lines_for paid 64 ≡ 3
unfolding lines_for sum_to
three = refl

pub worked : WorkedRecovery
unfolding residual_part_of weight crmpf cmpf atce customer causer held_in share sum_to
worked =
    record {
      causers = refl;
      residual = refl;
      borne = refl;
      shares = shares;
      lines = lines_eq (share_paid 3 worked_basis) paid 64 shares ∙ three;
    }
