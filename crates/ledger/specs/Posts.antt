-- What was posted to a ledger, read from the calls and their answers alone, the newest first.
use Rattle.std.specs.Prelude.{◌≡◌, ℕ, true, List, [], ◌∷◌, ℤ, pos, Ok, Err, Result}
use Rattle.ledger.specs.Amounts.{posted, is_amount}

-- a line of a party under a serial
pub record Post : Type 0 where
  pub party : ℕ
  pub serial : ℕ
  pub line : ℤ

-- a call to post, by its answer: one that was refused counts for nothing
pub data Event : Type 0 where
  accepted : Post → Event
  refused : Event

abbrev pub called_post : {A E : Type 0} → Result A E → (party serial : ℕ) (line : ℤ) → Event
called_post (Ok u) party serial line = accepted (record { party = party; serial = serial; line = line })
called_post (Err e) party serial line = refused

-- the lines that were accepted
abbrev pub lines_in : List Event → List Post
lines_in [] = []
lines_in (accepted l ∷ h) = l ∷ lines_in h
lines_in (refused ∷ h) = lines_in h

-- the sum of the lines for a party and serial
abbrev pub sum_of : List Post → ℕ → ℕ → ℤ
sum_of [] p s = pos 0
sum_of (l ∷ ls) p s = posted l.party l.serial l.line (sum_of ls) p s

-- amounts that started at 0 and have gone through the posts of h
abbrev pub Holds : List Event → (ℕ → ℕ → ℤ) → Type 0
Holds h f = (p s : ℕ) → is_amount p s ≡ true → f p s ≡ sum_of (lines_in h) p s
