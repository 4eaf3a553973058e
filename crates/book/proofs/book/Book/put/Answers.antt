use Rattle.std.proofs.Common.{◌≡◌, length, rules}
use Rattle.book.proofs.Soundness.{sound_written}
use Rattle.book.proofs.book.Book.put.Goals as goal

pub invariant_of-self : goal.invariant_of-self
invariant_of-self c =
    let long : length c.args.self.now.states ≡ 16 = search rules in
    rw c.from.ensures (record { few = c.args.self.now.few; sound = sound_written c.args.self.now.made c.args.number c.args.state c.args.self.now.states c.requires.number long c.requires.sound c.args.self.now.sound })
