-- A recovery worked out in figures.
use Rattle.std.specs.Prelude.{◌≡◌, ℕ, ◌<◌, cond, ◌&&◌, ◌||◌, ◌==◌}
use Rattle.recovery.specs.Shares.{Basis, cmpf, crmpf, lines_of, residual_part_of, share_paid}

-- 360,000 ticks; factors 600,000 of party 1, 300,000 of party 2 and 100,000 of the residual; energies of parties 1 to 5
abbrev pub worked_basis : Basis
worked_basis =
    record {
      part = 360000;
      factor = λ p. cond (p == 1) 600000 (cond (p == 2) 300000 0);
      factored = λ p. (p == 1) || (p == 2);
      residual = 100000;
      energy =
          λ p r. cond (p == 1 && r == 0) 50 (cond (p == 2 && r == 2) 70 (cond (p == 3 && r == 0) 30 (cond (p == 4 && r == 2) 10 (cond (p == 5 && r == 1) 20 0))));
    }

-- over regions 0 and 1, the set 3
pub record WorkedRecovery : Type 0 where
  pub causers : cmpf 3 worked_basis ≡ 600000
  pub residual : crmpf 3 worked_basis ≡ 83333
  pub borne : residual_part_of 3 worked_basis ≡ 43903
  -- parties 1, 3 and 5 pay, and no other
  pub shares : (p : ℕ) → p < 64 → share_paid 3 worked_basis p ≡ cond (p == 1) 316097 (cond (p == 3) 26341 (cond (p == 5) 17562 0))
  pub lines : lines_of 3 worked_basis ≡ 3
