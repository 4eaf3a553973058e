-- What the states hold stays in range, whatever the table makes of them.
use Rattle.std.proofs.Common.{◌≡◌, ℕ, suc, ◌-◌, ◌≤◌, Bool, true, false, cond, ◌&&◌, eqb, leb, List, length, set, None, sym, refl, ap, ◌∙◌, arith, true-eqb}
use Rattle.std.proofs.lemmas.Bool.{leb-true}
use Rattle.std.proofs.lemmas.Bool.Decides.{nat_tests}
use Rattle.foundation.specs.Fault.{refused_in}
use Rattle.foundation.proofs.First.{some_none}
use Rattle.book.specs.declared.claim.OpenClaim.{OpenClaim}
use Rattle.book.specs.declared.state.Declaration.{Declaration}
use Rattle.book.specs.declared.state.State.{State}
use Rattle.book.specs.declared.state.State.TheVariants.{Free, Declared, Claimed}
use Rattle.book.specs.Calls.{declared_in, is_open, not_open}
use Rattle.book.specs.States.{is_declaration, is_number, is_sound, state_in}
use Rattle.book.proofs.Slots.{written}
use Rattle.book.proofs.Terms.{and_first, and_second, unless_none}

declaration_more : (made : ℕ) (d : Declaration) → is_declaration made d ≡ true → is_declaration (suc made) d ≡ true
declaration_more made d h = grind (arith, nat_tests)

pub sound_more : (made : ℕ) (s : State) → is_sound made s ≡ true → is_sound (suc made) s ≡ true
sound_more made Free h = refl
sound_more made (Declared d) h = declaration_more made d h
sound_more made (Claimed d p) h = grind (arith, nat_tests)

one_of : (b : Bool) (made : ℕ) (s t : State) → is_sound made s ≡ true → is_sound made t ≡ true → is_sound made (cond b s t) ≡ true
one_of true made s t h k = h
one_of false made s t h k = k

-- one number's state is written
pub sound_written : (made n : ℕ) (s : State) (states : List State) → is_number n ≡ true → length states ≡ 16 → is_sound made s ≡ true → ((k : ℕ) → is_sound made (state_in states k) ≡ true) → (k : ℕ) → is_sound made (state_in (set states (n - 1) s) k) ≡ true
sound_written made n s states isn long new old k = ap (is_sound made) (written states n s isn long k) ∙ one_of (eqb k n) made s (state_in states k) new (old k)

-- what the claim that a number holds open has: a part, regions and a serial in range
pub record Fair (s : State) (c : OpenClaim) : Type 0 where
  pub part_least : 1 ≤ c.part
  pub part_most : c.part ≤ 200000000000
  pub regions_least : 1 ≤ declared_in s
  pub regions_most : declared_in s ≤ 31
  pub serial_least : 1 ≤ c.serial
  pub serial_most : c.serial ≤ 32

pub fair : (made : ℕ) (s : State) (c : OpenClaim) → made ≤ 32 → is_sound made s ≡ true → not_open s c ≡ None → Fair s c
fair made Free c few h none = absurd (some_none (refused_in 3 16 0) none)
fair made (Declared d) c few h none = absurd (some_none (refused_in 3 16 0) none)
fair made (Claimed d p) c few h none =
    let same = unless_none 3 (is_open (Claimed d p) c) 16 0 none in
    let serials = eqb d.serial c.serial in
    let serial = true-eqb d.serial c.serial (sym (and_first serials (eqb p.interval.number c.interval.number && eqb p.part c.part) same)) in
    let part = true-eqb p.part c.part (sym (and_second (eqb p.interval.number c.interval.number) (eqb p.part c.part) (and_second serials (eqb p.interval.number c.interval.number && eqb p.part c.part) same))) in
    let parts = and_second (is_declaration made d) (leb 1 p.part && leb p.part 200000000000) h in
    let whole = and_first (is_declaration made d) (leb 1 p.part && leb p.part 200000000000) h in
    let rest = and_second (leb 1 d.serial) (leb d.serial made && (leb 1 d.regions && leb d.regions 31)) whole in
    let regions = and_second (leb d.serial made) (leb 1 d.regions && leb d.regions 31) rest in
    record {
      part_least = omega (arith, part, leb-true 1 p.part (and_first (leb 1 p.part) (leb p.part 200000000000) parts));
      part_most = omega (arith, part, leb-true p.part 200000000000 (and_second (leb 1 p.part) (leb p.part 200000000000) parts));
      regions_least = leb-true 1 d.regions (and_first (leb 1 d.regions) (leb d.regions 31) regions);
      regions_most = leb-true d.regions 31 (and_second (leb 1 d.regions) (leb d.regions 31) regions);
      serial_least = omega (arith, serial, leb-true 1 d.serial (and_first (leb 1 d.serial) (leb d.serial made && (leb 1 d.regions && leb d.regions 31)) whole));
      serial_most = omega (arith, serial, few, leb-true d.serial made (and_first (leb d.serial made) (leb 1 d.regions && leb d.regions 31) rest));
    }
