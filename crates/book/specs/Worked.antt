-- Payments worked out in figures.
use Rattle.std.specs.Prelude.{◌≡◌, ℕ, [], ◌∷◌}
use Rattle.book.specs.declared.term.Term.{Term}
use Rattle.book.specs.Calls.{payment}

-- a term of regulation in region 0
abbrev pub enabled : ℕ → Term
enabled tenths = record { region = 0; service = 1; amount = tenths }

pub record WorkedPayments : Type 0 where
  -- 300 cents per MWh for 60, 24 and 36 MW: 360,000 ticks, which are 30 dollars
  pub three_terms : payment 300 (enabled 600 ∷ enabled 240 ∷ enabled 360 ∷ []) ≡ 360000
  -- 200 cents per MWh for 192 MW
  pub one_term : payment 200 (enabled 1920 ∷ []) ≡ 384000
