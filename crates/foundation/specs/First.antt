-- The first of several findings, in the order of judging.
use Rattle.std.specs.Prelude.{ℕ, zero, suc, Bool, true, false, ◌&&◌, Some, None, Option}

-- a, or b where a finds nothing
abbrev pub or_else : {A : Type 0} → Option A → Option A → Option A
or_else (Some a) b = Some a
or_else None b = b

-- the first finding among f 0, .., f (n - 1)
unfoldable pub first_to : {A : Type 0} → ℕ → (ℕ → Option A) → Option A
first_to zero f = None
first_to (suc n) f = or_else (first_to n f) (f n)

-- whether there is no finding
abbrev pub silent : {A : Type 0} → Option A → Bool
silent None = true
silent (Some a) = false

-- whether p 0, .., p (n - 1) all hold
unfoldable pub all_to : ℕ → (ℕ → Bool) → Bool
all_to zero p = true
all_to (suc n) p = all_to n p && p n
