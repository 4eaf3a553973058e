-- Signed figures that are far from the limits of 64 bits.
use Rattle.std.proofs.Common.{◌≡◌, ℕ, suc, ◌+◌, ◌*◌, ◌^◌, ◌≤◌, ℤ, pos, negsuc, ◌+ℤ◌, ◌*ℤ◌, neg_ℤ, nat_abs, refl, mul-le-mul, arith, w16, w64, SFits, to_z, of_z}
use Rattle.std.proofs.lemmas.Int.{ints, to_z-of_z}

pub nat_abs_add : (a b : ℤ) → nat_abs (a +ℤ b) ≤ nat_abs a + nat_abs b
nat_abs_add a b = omega (arith, ints)

pub nat_abs_neg : (n : ℕ) → nat_abs (neg_ℤ (pos n)) ≡ n
nat_abs_neg n = omega (arith, ints)

pub nat_abs_mul : (a b : ℤ) → nat_abs (a *ℤ b) ≡ nat_abs a * nat_abs b
nat_abs_mul (pos a) (pos b) = refl
nat_abs_mul (pos a) (negsuc b) = nat_abs_neg (a * suc b)
nat_abs_mul (negsuc a) (pos b) = nat_abs_neg (suc a * b)
nat_abs_mul (negsuc a) (negsuc b) = refl

pub fits : (a : ℤ) → nat_abs a ≤ 2 ^ 62 → SFits w64 a
fits (pos n) h = record { sfits = omega arith }
fits (negsuc n) h = record { sfits = omega arith }

-- a sum as the code makes it
pub sum_fits : (a b : ℤ) → nat_abs a ≤ 2 ^ 60 → nat_abs b ≤ 2 ^ 60 → SFits w64 (to_z w64 (of_z w64 a) +ℤ to_z w64 (of_z w64 b))
sum_fits a b h k =
    rw (to_z-of_z w64 a (fits a (omega arith)), to_z-of_z w64 b (fits b (omega arith)))
    (fits (a +ℤ b) (omega (arith, nat_abs_add a b)))

pub sum_is : (a b : ℤ) → nat_abs a ≤ 2 ^ 60 → nat_abs b ≤ 2 ^ 60 → to_z w64 (of_z w64 (to_z w64 (of_z w64 a) +ℤ to_z w64 (of_z w64 b))) ≡ a +ℤ b
sum_is a b h k =
    rw (to_z-of_z w64 a (fits a (omega arith)), to_z-of_z w64 b (fits b (omega arith)))
    (to_z-of_z w64 (a +ℤ b) (fits (a +ℤ b) (omega (arith, nat_abs_add a b))))

-- a product of two numbers of 16 bits as the code makes it
short : (a : ℤ) → SFits w16 a → nat_abs a ≤ 2 ^ 15
short (pos n) f = omega (arith, f.sfits)
short (negsuc n) f = omega (arith, f.sfits)

wide : (a : ℤ) → SFits w16 a → to_z w64 (of_z w64 (to_z w16 (of_z w16 a))) ≡ a
wide a f = rw (to_z-of_z w16 a f) (to_z-of_z w64 a (fits a (omega (arith, short a f))))

pub product_small : (a b : ℤ) → SFits w16 a → SFits w16 b → nat_abs (a *ℤ b) ≤ 2 ^ 30
product_small a b f g = rw (nat_abs_mul a b) (mul-le-mul (short a f) (short b g))

pub product_is : (a b : ℤ) → SFits w16 a → SFits w16 b → to_z w64 (of_z w64 (to_z w64 (of_z w64 (to_z w16 (of_z w16 a))) *ℤ to_z w64 (of_z w64 (to_z w16 (of_z w16 b))))) ≡ a *ℤ b
product_is a b f g = rw (wide a f, wide b g) (to_z-of_z w64 (a *ℤ b) (fits (a *ℤ b) (omega (arith, product_small a b f g))))

pub fits_sum : (a b : ℤ) → nat_abs a ≤ 2 ^ 60 → nat_abs b ≤ 2 ^ 60 → SFits w64 (a +ℤ b)
fits_sum a b h k = fits (a +ℤ b) (omega (arith, nat_abs_add a b))

-- the same where the first is a running sum
pub running_fits : (a b : ℤ) → nat_abs a ≤ 2 ^ 60 → nat_abs b ≤ 2 ^ 60 → SFits w64 (a +ℤ to_z w64 (of_z w64 b))
running_fits a b h k = rw (to_z-of_z w64 b (fits b (omega arith))) (fits_sum a b h k)

pub running_is : (a b : ℤ) → nat_abs a ≤ 2 ^ 60 → nat_abs b ≤ 2 ^ 60 → to_z w64 (of_z w64 (a +ℤ to_z w64 (of_z w64 b))) ≡ a +ℤ b
running_is a b h k = rw (to_z-of_z w64 b (fits b (omega arith))) (to_z-of_z w64 (a +ℤ b) (fits_sum a b h k))
