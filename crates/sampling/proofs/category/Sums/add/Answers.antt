use Rattle.sampling.specs.declared.category.Category.TheVariants.{RaiseNotEnabled, RaiseEnabled, LowerNotEnabled, LowerEnabled}
use Rattle.sampling.specs.Category.{sum_in}
use Rattle.foundation.proofs.Signed.{sum_fits}
use Rattle.sampling.proofs.category.Sums.add.Goals as goal

pub overflow_add-self : goal.overflow_add-self
overflow_add-self c = sum_fits (sum_in c.args.self.now RaiseNotEnabled) c.args.product (c.requires.sums RaiseNotEnabled) c.requires.product

pub overflow_add-self-in-RaiseEnabled : goal.overflow_add-self-in-RaiseEnabled
overflow_add-self-in-RaiseEnabled c = sum_fits (sum_in c.args.self.now RaiseEnabled) c.args.product (c.requires.sums RaiseEnabled) c.requires.product

pub overflow_add-self-in-LowerNotEnabled : goal.overflow_add-self-in-LowerNotEnabled
overflow_add-self-in-LowerNotEnabled c = sum_fits (sum_in c.args.self.now LowerNotEnabled) c.args.product (c.requires.sums LowerNotEnabled) c.requires.product

pub overflow_add-self-in-LowerEnabled : goal.overflow_add-self-in-LowerEnabled
overflow_add-self-in-LowerEnabled c = sum_fits (sum_in c.args.self.now LowerEnabled) c.args.product (c.requires.sums LowerEnabled) c.requires.product
