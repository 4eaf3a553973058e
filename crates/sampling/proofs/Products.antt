-- What a sample adds to a category.
use Rattle.std.proofs.Common.{◌≡◌, ℕ, suc, ◌+◌, ◌*◌, ◌≤◌, Bool, true, false, cond, List, length, get_or, ℤ, pos, ◌+ℤ◌, ◌*ℤ◌, nat_abs, Some, None, Option, sym, ap, ◌∙◌, mul-le-mul, arith}
use Rattle.foundation.specs.Sums.{sum_to_int}
use Rattle.foundation.proofs.Sums.{sum_to_int_more, sum_to_int_abs}
use Rattle.sampling.specs.Units.{Within}
use Rattle.sampling.specs.declared.category.Category.{Category}
use Rattle.sampling.specs.Category.{category_of, same, counted, product_in}
use Rattle.foundation.proofs.Signed.{nat_abs_mul}

pub product_some : (c d : Category) (i : ℤ) (raise lower : Bool) (v : ℤ) → category_of i raise lower ≡ Some d → product_in c i raise lower v ≡ cond (same c d) (v *ℤ i) (pos 0)
unfolding product_in
product_some c d i raise lower v e = ap (λ o. counted c o (v *ℤ i)) e

pub product_none : (c : Category) (i : ℤ) (raise lower : Bool) (v : ℤ) → category_of i raise lower ≡ None → product_in c i raise lower v ≡ pos 0
unfolding product_in
product_none c i raise lower v e = ap (λ o. counted c o (v *ℤ i)) e

pub cond_bound : (t : Bool) (x : ℤ) (m : ℕ) → nat_abs x ≤ m → nat_abs (cond t x (pos 0)) ≤ m
cond_bound true x m h = h
cond_bound false x m h = omega arith

counted_bound : (c : Category) (o : Option Category) (x : ℤ) (m : ℕ) → nat_abs x ≤ m → nat_abs (counted c o x) ≤ m
counted_bound c (Some d) x m h = cond_bound (same c d) x m h
counted_bound c None x m h = omega arith

pub product_bound : (c : Category) (i : ℤ) (raise lower : Bool) (v : ℤ) (m n : ℕ) → nat_abs i ≤ m → nat_abs v ≤ n → nat_abs (product_in c i raise lower v) ≤ n * m
unfolding product_in
product_bound c i raise lower v m n h k = counted_bound c (category_of i raise lower) (v *ℤ i) (n * m) (rw (nat_abs_mul v i) (mul-le-mul k h))

-- the first n products of an interval
abbrev pub products_of : (is vs : List ℤ) (raise lower : Bool) → Category → ℕ → ℤ
products_of is vs raise lower c k = product_in c (get_or is k (pos 0)) raise lower (get_or vs k (pos 0))

pub products_bound : (is vs : List ℤ) (raise lower : Bool) (c : Category) (n : ℕ) → n ≤ length vs → length is ≡ length vs → Within 1560 is → Within 20000 vs → nat_abs (sum_to_int n (products_of is vs raise lower c)) ≤ n * 31200000
products_bound is vs raise lower c n h e i v =
    sum_to_int_abs n 31200000 (products_of is vs raise lower c)
    (λ k l. product_bound c (get_or is k (pos 0)) raise lower (get_or vs k (pos 0)) 1560 20000 (i k (omega arith)) (v k (omega arith)))

pub products_more : (is vs : List ℤ) (raise lower : Bool) (c : Category) (n m : ℕ) (i v s t : ℤ) → i ≡ get_or is n (pos 0) → v ≡ get_or vs n (pos 0) → m ≡ n + 1 → s ≡ sum_to_int n (products_of is vs raise lower c) → t ≡ s +ℤ product_in c i raise lower v → t ≡ sum_to_int m (products_of is vs raise lower c)
products_more is vs raise lower c n m i v s t at at' more h f =
    let next : m ≡ suc n = omega arith in
    f
    ∙ ap (λ z. z +ℤ product_in c i raise lower v) h
    ∙ ap (λ x. sum_to_int n (products_of is vs raise lower c) +ℤ product_in c x raise lower v) at
    ∙ ap (λ x. sum_to_int n (products_of is vs raise lower c) +ℤ product_in c (get_or is n (pos 0)) raise lower x) at'
    ∙ sym (sum_to_int_more n (products_of is vs raise lower c))
    ∙ ap (λ j. sum_to_int j (products_of is vs raise lower c)) (sym next)
