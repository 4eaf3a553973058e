use Rattle.std.proofs.Common.{◌≡◌, ◌+◌, false, sym, arith}
use Rattle.sampling.specs.Factors.{is_factored}
use Rattle.recovery.specs.Shares.{basis_of}
use Rattle.settle.proofs.Fractions.{energy_most, of_causer, of_customer}
use Rattle.settle.proofs.exact.PartSplit.of_party.Goals as goal

pub overflow_add-weights : goal.overflow_add-weights
overflow_add-weights c = omega (arith, c.cmpf.ensures, c.crmpf.ensures, c.args.self.now.bounded.weights)

pub returns-then-is_factored : goal.returns-then-is_factored
returns-then-is_factored c D kwh parted =
    let weights : c.cmpf.result + c.crmpf.result ≡ c.args.self.now.shares.cmpf + c.args.self.now.shares.crmpf = omega (arith, c.cmpf.ensures, c.crmpf.ensures) in
    of_causer D (basis_of c.args.self.now.part c.args.self.now.factors.now kwh) c.args.self.now.shares parted c.args.party c.requires.party c.requires.energy c.factor.result (c.cmpf.result + c.crmpf.result) c.of_weight.result.top c.of_weight.result.bottom (sym c.if-is_factored.ensures) c.factor.ensures weights c.of_weight.ensures.top c.of_weight.ensures.bottom

pub of_energy-requires : goal.of_energy-requires
of_energy-requires c =
    let s = c.args.self.now.bounded in
    let off : is_factored c.args.self.now.factors.now c.args.party ≡ false = sym c.if-is_factored.ensures in
    record {
      part = s.small;
      weights = (omega (arith, c.cmpf.ensures, c.crmpf.ensures, s.weighed), omega (arith, c.cmpf.ensures, c.crmpf.ensures, s.weights));
      energy = omega (arith, c.energy.ensures, energy_most _ _ _ s c.args.party c.requires.party);
      energies = (omega (arith, c.residual_energy.ensures, s.customer c.args.party c.requires.party off c.requires.energy), omega (arith, c.residual_energy.ensures, s.customers));
    }

pub returns : goal.returns
returns c D kwh parted =
    let weights : c.cmpf.result + c.crmpf.result ≡ c.args.self.now.shares.cmpf + c.args.self.now.shares.crmpf = omega (arith, c.cmpf.ensures, c.crmpf.ensures) in
    of_customer D (basis_of c.args.self.now.part c.args.self.now.factors.now kwh) c.args.self.now.shares parted c.args.party c.requires.party c.requires.energy c.crmpf-2.result (c.cmpf.result + c.crmpf.result) c.energy.result c.residual_energy.result c.of_energy.result.top c.of_energy.result.bottom (sym c.if-is_factored.ensures) c.crmpf-2.ensures weights c.energy.ensures c.residual_energy.ensures c.of_energy.ensures.top c.of_energy.ensures.bottom
