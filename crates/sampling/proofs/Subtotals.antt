-- Bounds and laws of subtotals and weights.
use Rattle.std.proofs.Common.{◌≡◌, ℕ, suc, ◌+◌, ◌*◌, ◌/◌, ◌^◌, ◌<◌, ◌≤◌, eqb, List, length, set, ℤ, pos, negsuc, nat_abs, refl, ap, ◌∙◌, div-le_self, arith}
use Rattle.std.proofs.lemmas.List.Edits.{fill_by_more}
use Rattle.foundation.specs.Sums.{listed, sum_to_int}
use Rattle.foundation.proofs.Sums.{sum_to_int_abs}
use Rattle.sampling.specs.declared.category.Category.{Category}
use Rattle.sampling.specs.declared.unit.Unit.{Unit}
use Rattle.sampling.specs.Units.{Bounded, owner_at, sum_at, sampled}
use Rattle.sampling.specs.Weights.{average, part, subtotal, loss}
use Rattle.sampling.proofs.Products.{cond_bound}
use Rattle.foundation.proofs.Signed.{nat_abs_neg}

average_bound : (z : ℤ) (n : ℕ) → nat_abs (average z n) ≤ nat_abs z
average_bound (pos a) n = div-le_self a n
average_bound (negsuc a) n = omega (arith, nat_abs_neg (suc a / n), div-le_self (suc a) n)

pub part_bound : (owner o : ℕ) (z : ℤ) (used m : ℕ) → nat_abs z ≤ m → nat_abs (part owner o z used) ≤ m
part_bound owner o z used m h = cond_bound (eqb owner o) (average z used) m (omega (arith, average_bound z used))

-- what the first n units add
abbrev pub parts_of : List Unit → ℕ → ℕ → Category → ℕ → ℤ
parts_of us used o c u = part (owner_at us u) o (sum_at us u c) used

pub parts_bound : (us : List Unit) (used o : ℕ) (c : Category) (n : ℕ) → Bounded 8064 us → nat_abs (sum_to_int n (parts_of us used o c)) ≤ n * 18869760000000
parts_bound us used o c n h = sum_to_int_abs n 18869760000000 (parts_of us used o c) (λ u l. part_bound (owner_at us u) o (sum_at us u c) used 18869760000000 (h u c))

pub loss_bound : (z : ℤ) → loss z ≤ nat_abs z
loss_bound (pos n) = omega arith
loss_bound (negsuc n) = omega arith

pub subtotal_is : (us : List Unit) (used o : ℕ) (c : Category) → subtotal (sampled us used) o c ≡ sum_to_int (length us) (parts_of us used o c)
unfolding subtotal
subtotal_is us used o c = refl

pub loss_most : (us : List Unit) (used o : ℕ) (c : Category) → length us ≤ 256 → Bounded 8064 us → loss (subtotal (sampled us used) o c) ≤ 2 ^ 55
loss_most us used o c few h =
    omega (arith, loss_bound (subtotal (sampled us used) o c), ap nat_abs (subtotal_is us used o c), parts_bound us used o c (length us) h)

-- a table that is filled place by place
pub filled : (f : ℕ → ℕ) (xs : List ℕ) (n v : ℕ) → n < length xs → v ≡ f n → ((o : ℕ) → o < n → listed xs o ≡ f o) → (o : ℕ) → o < n + 1 → listed (set xs n v) o ≡ f o
filled f xs n v h e old o l = ap (λ w. listed (set xs n w) o) e ∙ fill_by_more f xs n 0 h old o l
