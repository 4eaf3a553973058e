use Rattle.std.proofs.Common.{◌≡◌, ℤ, ◌+ℤ◌, w64, to_z, of_z}
use Rattle.sampling.specs.declared.category.Category.{Category}
use Rattle.sampling.specs.declared.category.Category.TheVariants.{RaiseNotEnabled, RaiseEnabled, LowerNotEnabled, LowerEnabled}
use Rattle.sampling.specs.Category.{Small, sum_in}
use Rattle.sampling.specs.declared.category.Sums.{Sums}
use Rattle.foundation.proofs.Signed.{sum_fits, sum_is}
use Rattle.sampling.proofs.category.SumsAddAssign.add_assign.Goals as goal

pub overflow_add-self : goal.overflow_add-self
overflow_add-self c = sum_fits (sum_in c.args.self.now RaiseNotEnabled) (sum_in c.args.other RaiseNotEnabled) (c.requires.0 RaiseNotEnabled) (c.requires.1 RaiseNotEnabled)

pub overflow_add-self-2 : goal.overflow_add-self-2
overflow_add-self-2 c = sum_fits (sum_in c.args.self.now RaiseEnabled) (sum_in c.args.other RaiseEnabled) (c.requires.0 RaiseEnabled) (c.requires.1 RaiseEnabled)

pub overflow_add-self-3 : goal.overflow_add-self-3
overflow_add-self-3 c = sum_fits (sum_in c.args.self.now LowerNotEnabled) (sum_in c.args.other LowerNotEnabled) (c.requires.0 LowerNotEnabled) (c.requires.1 LowerNotEnabled)

pub overflow_add-self-4 : goal.overflow_add-self-4
overflow_add-self-4 c = sum_fits (sum_in c.args.self.now LowerEnabled) (sum_in c.args.other LowerEnabled) (c.requires.0 LowerEnabled) (c.requires.1 LowerEnabled)

-- a sum as the code makes it
abbrev plus : ℤ → ℤ → ℤ
plus x y = to_z w64 (of_z w64 (to_z w64 (of_z w64 x) +ℤ to_z w64 (of_z w64 y)))

added : (s t : Sums) → Small s → Small t → (c : Category) → sum_in (record { raise_not_enabled = plus s.raise_not_enabled t.raise_not_enabled; raise_enabled = plus s.raise_enabled t.raise_enabled; lower_not_enabled = plus s.lower_not_enabled t.lower_not_enabled; lower_enabled = plus s.lower_enabled t.lower_enabled }) c ≡ sum_in s c +ℤ sum_in t c
added s t h k RaiseNotEnabled = sum_is s.raise_not_enabled t.raise_not_enabled (h RaiseNotEnabled) (k RaiseNotEnabled)
added s t h k RaiseEnabled = sum_is s.raise_enabled t.raise_enabled (h RaiseEnabled) (k RaiseEnabled)
added s t h k LowerNotEnabled = sum_is s.lower_not_enabled t.lower_not_enabled (h LowerNotEnabled) (k LowerNotEnabled)
added s t h k LowerEnabled = sum_is s.lower_enabled t.lower_enabled (h LowerEnabled) (k LowerEnabled)

pub returns : goal.returns
returns c = record { after = added c.args.self.now c.args.other c.requires.0 c.requires.1 }
