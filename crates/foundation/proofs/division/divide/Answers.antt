use Rattle.std.proofs.Common.{◌≡◌, suc, ◌+◌, ◌*◌, ◌/◌, ◌<◌, ◌≢◌, length, sym, add-one, arith, get_or-set_other, get_or-set_same, below_more}
use Rattle.foundation.specs.Sums.{sum_to, listed}
use Rattle.foundation.proofs.Sums.{sum_to_none, sum_to_more, sum_to_mono}
use Rattle.foundation.proofs.Shares.{reached_none, share_is, divided}
use Rattle.foundation.proofs.division.divide.Goals as goal

pub loop-k-init : goal.loop-k-init
loop-k-init c =
    let w = listed c.args.weights.now in
    (sym (sum_to_none w), sym (reached_none c.args.amount (length c.args.weights.now) w), λ i h. absurd (omega arith))

-- no sum of the first weights is above that of all
pub overflow_add-reached : goal.overflow_add-reached
overflow_add-reached c =
    let w = listed c.args.weights.now in
    let k = c.loop-k.k in
    omega (arith, sum_to_more k w, sum_to_mono (suc k) (length c.args.weights.now) w (omega arith))

pub portion-next-requires : goal.portion-next-requires
portion-next-requires c =
    let w = listed c.args.weights.now in
    let k = c.loop-k.k in
    omega (arith, sum_to_more k w, sum_to_mono (suc k) (length c.args.weights.now) w (omega arith))

-- what `portion` answered is the quotient that the first k + 1 weights reach
next_is : (c : goal.After-portion-next) → c.portion-next.result ≡ c.args.amount * sum_to (suc c.loop-k.k) (listed c.args.weights.now) / sum_to (length c.args.weights.now) (listed c.args.weights.now)
next_is c =
    let w = listed c.args.weights.now in
    let so_far : c.loop-k.reached + w c.loop-k.k ≡ sum_to (suc c.loop-k.k) w = omega (arith, sum_to_more c.loop-k.k w) in
    cc so_far

pub loop-k-preserved : goal.loop-k-preserved
loop-k-preserved c =
    let k = c.loop-k.k in
    let w = listed c.args.weights.now in
    let step = share_is c.args.amount (length c.args.weights.now) w k in (
      rw add-one (omega (arith, sum_to_more k w)),
      rw add-one (next_is c),
      below_more _ _
          (λ i h. let ne : i ≢ k = omega arith in rw get_or-set_other (c.loop-k.invariant.2 i h))
          (let lt : k < length c.loop-k.shares = omega arith in rw get_or-set_same (omega (arith, next_is c, step))),
    )

pub returns : goal.returns
returns c =
    divided c.args.amount (length c.args.weights.now) (listed c.args.weights.now) (listed c.loop-k.shares)
    (λ i h. c.loop-k.invariant.2 i (omega arith))
