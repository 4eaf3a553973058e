-- When a recovery is refused.
use Rattle.std.proofs.Common.{◌≡◌, ℕ, ◌+◌, ◌<◌, ◌≤◌, Bool, true, false, ◌&&◌, leb, ◌⊎◌, Some, None, Option, refl, ap, ◌∙◌, ⊎_elim, arith}
use Rattle.std.proofs.lemmas.Bool.{leb-true}
use Rattle.std.proofs.lemmas.Bool.Decides.{nat_tests}
use Rattle.foundation.specs.Fault.{Refused, refused_in, unless_in}
use Rattle.foundation.specs.First.{or_else}
use Rattle.foundation.proofs.First.{or_else_left, some_none}
use Rattle.recovery.specs.Shares.{Basis, cmpf, crmpf, lines_of}
use Rattle.recovery.specs.Recovery.{part_fault, regions_fault, serial_fault, nobody_fault, lines_fault, split_fault, recover_fault}

-- of two numbers one is not 0
pub not_both : (m n : ℕ) → ((m ≡ 0) × (n ≡ 0 → ⊥)) ⊎ (m ≡ 0 → ⊥) → 0 < m + n
not_both m n h = ⊎_elim (λ (p : (m ≡ 0) × (n ≡ 0 → ⊥)). let q = p.1 in omega arith) (λ (p : m ≡ 0 → ⊥). omega arith) h

in_range : (low high n : ℕ) → low ≤ n → n ≤ high → (leb low n && leb n high) ≡ true
in_range low high n h k = grind (arith, nat_tests)

at_least : (low n : ℕ) → low ≤ n → leb low n ≡ true
at_least low n h = grind (arith, nat_tests)

below_least : (low n : ℕ) → n < low → leb low n ≡ false
below_least low n h = grind (arith, nat_tests)

pub part_passes : (part : ℕ) → 1 ≤ part → part ≤ 200000000000 → part_fault part ≡ None
part_passes part h k = ap (λ t. unless_in 3 t 2 0) (in_range 1 200000000000 part h k)

pub regions_pass : (D : ℕ) → 1 ≤ D → D ≤ 31 → regions_fault D ≡ None
regions_pass D h k = ap (λ t. unless_in 3 t 2 0) (in_range 1 31 D h k)

pub serial_passes : (serial : ℕ) → 1 ≤ serial → serial ≤ 32 → serial_fault serial ≡ None
serial_passes serial h k = ap (λ t. unless_in 3 t 2 0) (in_range 1 32 serial h k)

pub somebody_pays : (D : ℕ) (b : Basis) → 0 < cmpf D b + crmpf D b → nobody_fault D b ≡ None
somebody_pays D b h = ap (λ t. unless_in 3 t 17 0) (at_least 1 (cmpf D b + crmpf D b) h)

pub lines_suffice : (D : ℕ) (b : Basis) (left : ℕ) → lines_of D b ≤ left → lines_fault D b left ≡ None
lines_suffice D b left h = ap (λ t. unless_in 4 t 18 0) (at_least (lines_of D b) left h)

pub lines_lack : (D : ℕ) (b : Basis) (left : ℕ) → left < lines_of D b → lines_fault D b left ≡ Some (refused_in 4 18 0)
lines_lack D b left h = ap (λ t. unless_in 4 t 18 0) (below_least (lines_of D b) left h)

pub split_passes : (D : ℕ) (b : Basis) → 1 ≤ b.part → b.part ≤ 200000000000 → 1 ≤ D → D ≤ 31 → 0 < cmpf D b + crmpf D b → split_fault D b ≡ None
split_passes D b p q r s t = let x = part_passes b.part p q in let y = regions_pass D r s in let z = somebody_pays D b t in rw (x, y, z)

pub nobody_pays : (D : ℕ) (b : Basis) → 1 ≤ b.part → b.part ≤ 200000000000 → 1 ≤ D → D ≤ 31 → cmpf D b + crmpf D b ≡ 0 → split_fault D b ≡ Some (refused_in 3 17 0)
nobody_pays D b p q r s e =
    let x = part_passes b.part p q in
    let y = regions_pass D r s in
    let z = below_least 1 (cmpf D b + crmpf D b) (omega arith) in
    rw (x, y, z)

-- with a serial in range, what the split refuses the recovery refuses, and only then the lines count
regroup : (p r n l : Option Refused) → or_else p (or_else r (or_else None (or_else n l))) ≡ or_else (or_else p (or_else r n)) l
regroup None None None l = refl
regroup None None (Some n) l = refl
regroup None (Some r) n l = refl
regroup (Some p) r n l = refl

pub recover_by_split : (D : ℕ) (b : Basis) (serial left : ℕ) → 1 ≤ serial → serial ≤ 32 → recover_fault D b serial left ≡ or_else (split_fault D b) (lines_fault D b left)
recover_by_split D b serial left h k =
    ap (λ o. or_else (part_fault b.part) (or_else (regions_fault D) (or_else o (or_else (nobody_fault D b) (lines_fault D b left))))) (serial_passes serial h k)
    ∙ regroup (part_fault b.part) (regions_fault D) (nobody_fault D b) (lines_fault D b left)

-- a part that was not refused is in range
unless_none : (layer : ℕ) (t : Bool) (number place : ℕ) → unless_in layer t number place ≡ None → t ≡ true
unless_none layer true number place e = refl
unless_none layer false number place e = absurd (some_none (refused_in layer number place) e)

second : (a b : Bool) → (a && b) ≡ true → b ≡ true
second true b e = e
second false b e = absurd (let z : ◌≡◌ {A = ℕ} 0 1 = cc in omega arith)

pub part_bounded : (D : ℕ) (b : Basis) → split_fault D b ≡ None → b.part ≤ 200000000000
part_bounded D b e =
    let fine = unless_none 3 (leb 1 b.part && leb b.part 200000000000) 2 0 (or_else_left (part_fault b.part) (or_else (regions_fault D) (nobody_fault D b)) e) in
    leb-true b.part 200000000000 (second (leb 1 b.part) (leb b.part 200000000000) fine)

-- the lines are judged last
pub recover_passes : (D : ℕ) (b : Basis) (serial left : ℕ) → 1 ≤ serial → serial ≤ 32 → split_fault D b ≡ None → lines_of D b ≤ left → recover_fault D b serial left ≡ None
recover_passes D b serial left h k fine enough =
    recover_by_split D b serial left h k ∙ ap (λ o. or_else o (lines_fault D b left)) fine ∙ lines_suffice D b left enough

pub recover_lacks : (D : ℕ) (b : Basis) (serial left : ℕ) → 1 ≤ serial → serial ≤ 32 → split_fault D b ≡ None → left < lines_of D b → recover_fault D b serial left ≡ Some (refused_in 4 18 0)
recover_lacks D b serial left h k fine few =
    recover_by_split D b serial left h k ∙ ap (λ o. or_else o (lines_fault D b left)) fine ∙ lines_lack D b left few

-- a number that is taken for a set is one
pub set_held : (D : ℕ) (r : Bool) → r ≡ (leb 1 D && leb D 31) → r ≡ true → (1 ≤ D) × (D ≤ 31)
set_held D r e f = (grind (arith, nat_tests), grind (arith, nat_tests))
