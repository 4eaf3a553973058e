-- What the amounts of a ledger mean, and what a post does to them.
use Rattle.std.specs.Prelude.{◌≡◌, ℕ, suc, ◌+◌, ◌≤◌, Bool, true, cond, ◌&&◌, ℤ, pos, ◌+ℤ◌, Ok, Err, Option, Result, ◌==◌, int_le, nat_le, nat_lt, unsigned_abs}
use Rattle.foundation.specs.Fault.{Refused, unless_in}
use Rattle.foundation.specs.First.{or_else}
use Rattle.foundation.specs.Sums.{sum_to}

-- whether there is an amount of this party and serial
abbrev pub is_amount : ℕ → ℕ → Bool
is_amount p s = nat_lt p 64 && (nat_le 1 s && nat_le s 32)

-- the answer for a party and a serial: nothing out of range
abbrev pub seen : (ℕ → ℕ → ℤ) → ℕ → ℕ → ℤ
seen f p s = cond (is_amount p s) (f p s) (pos 0)

-- whether a line is a debit of a size that can be posted
abbrev pub is_debit : ℤ → Bool
is_debit line = int_le line (pos 0) && nat_le (unsigned_abs line) 200000000000

-- the sizes of all amounts together
unfoldable pub magnitudes : (ℕ → ℕ → ℤ) → ℕ
magnitudes f = sum_to 64 (λ p. sum_to 32 (λ s. unsigned_abs (f p (suc s))))

-- amounts are debts, and together within the limit
pub record Bounded (f : ℕ → ℕ → ℤ) : Type 0 where
  pub debts : (p s : ℕ) → is_amount p s ≡ true → int_le (f p s) (pos 0) ≡ true
  pub all : magnitudes f ≤ 200000000000000000

-- amounts with a line added to one of them
abbrev pub posted : (p s : ℕ) (line : ℤ) → (ℕ → ℕ → ℤ) → ℕ → ℕ → ℤ
posted p s line f q t = f q t +ℤ cond (q == p && t == s) line (pos 0)

-- what a post is answered where so many lines are left: the arguments are judged first
abbrev pub post_fault : (p s : ℕ) (line : ℤ) (left : ℕ) → Option Refused
post_fault p s line left = or_else (unless_in 4 (is_amount p s && is_debit line) 2 0) (unless_in 4 (nat_le 1 left) 18 0)

-- the amounts after a post, by its answer
abbrev pub after_post : {A E : Type 0} → Result A E → (p s : ℕ) (line : ℤ) → (ℕ → ℕ → ℤ) → ℕ → ℕ → ℤ
after_post (Ok u) p s line f = posted p s line f
after_post (Err e) p s line f = f

-- the lines left fall by at most one where a line was posted, and stay where not
abbrev pub Falls : {A E : Type 0} → Result A E → (before after : ℕ) → Type 0
Falls (Ok u) before after = (before ≤ after + 1) × (after ≤ before)
Falls (Err e) before after = after ≡ before
