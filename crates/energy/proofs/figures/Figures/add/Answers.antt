use Rattle.std.proofs.Common.{◌≡◌, length, arith, rules}
use Rattle.energy.specs.Table.{figure_of, bumped}
use Rattle.energy.proofs.Tables.{bumped_all, figure_put}
use Rattle.energy.specs.Totals.{figure_le, grand_eq}
use Rattle.energy.proofs.figures.Figures.add.Goals as goal

pub raised-requires : goal.raised-requires
raised-requires c = record {
  region = c.requires.region;
  room = omega (arith, c.requires.room, figure_le (figure_of c.args.self.now.rows) c.args.party c.args.region c.requires.party c.requires.region);
}

pub invariant_of-self : goal.invariant_of-self
invariant_of-self c =
    let rows : length c.args.self.now.rows ≡ 64 = search rules in
    let new : _ = figure_put c.args.self.now.rows c.raised.result c.args.party c.args.region c.args.kwh (omega (arith, c.requires.party)) c.raised.ensures in
    record { limited = omega (arith, c.requires.room, grand_eq _ (bumped c.args.party c.args.region c.args.kwh (figure_of c.args.self.now.rows)) (λ p r l m. new p r), bumped_all c.args.party c.args.region c.args.kwh (figure_of c.args.self.now.rows) c.requires.party c.requires.region) }

pub returns : goal.returns
returns c =
    let rows : length c.args.self.now.rows ≡ 64 = search rules in
    figure_put c.args.self.now.rows c.raised.result c.args.party c.args.region c.args.kwh (omega (arith, c.requires.party)) c.raised.ensures
