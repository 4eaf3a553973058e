use Rattle.std.proofs.Common.{◌≡◌, ℕ, zero, suc, ◌<◌, [], ◌∷◌, length, refl, ◌∙◌, arith, rules}
use Rattle.std.proofs.lemmas.List.{ext_get_or}
use Rattle.foundation.specs.Division.{share}
use Rattle.foundation.specs.Sums.{listed, sum_to}
use Rattle.figures.specs.Figures.{thirds}
use Rattle.figures.proofs.shares_of_ten.Goals as goal

shares : (k : ℕ) → k < 3 → share 10 3 thirds k ≡ listed (3 ∷ 3 ∷ 4 ∷ []) k
unfolding share sum_to
shares zero l = refl
shares (suc zero) l = refl
shares (suc (suc zero)) l = refl
shares (suc (suc (suc k))) l = absurd (omega arith)

pub shares-requires : goal.shares-requires
unfolding sum_to
shares-requires c = search rules

pub returns : goal.returns
returns c =
    let long : length c.shares.result ≡ 3 = search rules in
    ext_get_or 0 c.shares.result (3 ∷ 3 ∷ 4 ∷ []) long (λ k l. let m : k < 3 = omega arith in c.shares.ensures.shares k m ∙ shares k m)
