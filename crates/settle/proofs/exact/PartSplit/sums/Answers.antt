use Rattle.std.proofs.Common.{◌≡◌, suc, sym, ◌∙◌, add-one, arith}
use Rattle.foundation.proofs.Sums.{sum_to_none, sum_to_more, sum_to_mono}
use Rattle.recovery.specs.Split.{share_in, energy_of}
use Rattle.settle.proofs.exact.PartSplit.sums.Goals as goal

pub overflow_add-energy : goal.overflow_add-energy
overflow_add-energy c =
    let f = energy_of c.args.self.now.shares in
    let k = c.loop-party.party in
    omega (arith, c.loop-party.invariant.0, c.energy-energy.ensures, sum_to_more k f, sum_to_mono (suc k) 64 f (omega arith), c.args.self.now.bounded.energies)

pub overflow_add-share : goal.overflow_add-share
overflow_add-share c =
    let f = share_in c.args.self.now.shares in
    let k = c.loop-party.party in
    omega (arith, c.loop-party.invariant.1, c.share-share.ensures, sum_to_more k f, sum_to_mono (suc k) 64 f (omega arith), c.args.self.now.bounded.whole, c.args.self.now.bounded.small)

pub loop-party-init : goal.loop-party-init
loop-party-init c = (sym (sum_to_none _), sym (sum_to_none _))

pub loop-party-preserved : goal.loop-party-preserved
loop-party-preserved c =
    let k = c.loop-party.party in
    let energies = energy_of c.args.self.now.shares in
    let shares = share_in c.args.self.now.shares in
    rw (add-one k) (omega (arith, c.loop-party.invariant.0, c.energy-energy.ensures, sum_to_more k energies), omega (arith, c.loop-party.invariant.1, c.share-share.ensures, sum_to_more k shares))

pub returns : goal.returns
returns c =
    let all : c.loop-party.party ≡ 64 = omega arith in
    record {
      energy = rw all at c.loop-party.invariant.0;
      share = (rw all at c.loop-party.invariant.1) ∙ c.args.self.now.bounded.whole;
    }
