use Rattle.std.proofs.Common.{◌≡◌, ltb, length, ap, ◌∙◌, rules}
use Rattle.std.specs.List.{count_by}
use Rattle.foundation.specs.Sums.{listed}
use Rattle.recovery.specs.Shares.{lines_for}
use Rattle.recovery.proofs.Lines.{lines_counted}
use Rattle.recovery.proofs.split.Split.lines.Goals as goal

pub returns : goal.returns
returns c =
    let counted : c.count.result ≡ count_by (λ s. ltb 0 s) c.args.self.now.shares = search rules in
    let long : length c.args.self.now.shares ≡ 64 = search rules in
    counted ∙ lines_counted c.args.self.now.shares ∙ ap (lines_for (listed c.args.self.now.shares)) long
