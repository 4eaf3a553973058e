-- What the words of a claim write.
use Rattle.std.specs.Prelude.{◌≡◌, ℕ, min, List, [], ◌∷◌, length, Some}
use Rattle.book.specs.declared.term.Term.{Term}
use Rattle.session.specs.declared.call.Terms.{Terms}
use Rattle.session.specs.Terms.{first_terms}
use Rattle.settle.specs.Numbers.{Reads}

-- four words write the number, the week interval, the marginal value and the part
abbrev pub Heading : List (List ℕ) → (number interval value part : ℕ) → Type 0
Heading [] n i v p = ⊥
Heading (a ∷ []) n i v p = ⊥
Heading (a ∷ b ∷ []) n i v p = ⊥
Heading (a ∷ b ∷ c ∷ []) n i v p = ⊥
Heading (a ∷ b ∷ c ∷ d ∷ []) n i v p = Reads 255 a (Some n) × (Reads 65535 b (Some i) × (Reads 4294967295 c (Some v) × Reads 18446744073709551615 d (Some p)))
Heading (a ∷ b ∷ c ∷ d ∷ e ∷ ws) n i v p = ⊥

-- the words write the terms, each by three: its region, its service and its amount
abbrev pub Termed : List (List ℕ) → List Term → Type 0
Termed [] [] = Unit {0}
Termed [] (t ∷ ts) = ⊥
Termed (a ∷ []) ts = ⊥
Termed (a ∷ b ∷ []) ts = ⊥
Termed (a ∷ b ∷ c ∷ ws) [] = ⊥
Termed (a ∷ b ∷ c ∷ ws) (t ∷ ts) = (Reads 255 a (Some t.region) × (Reads 255 b (Some t.service) × Reads 65535 c (Some t.amount))) × Termed ws ts

-- the terms are the first of those that the words write
unfoldable pub ClaimTerms : List (List ℕ) → Terms → Type 0
ClaimTerms words terms = (ts : List Term) × (Termed words ts × (terms.items ≡ first_terms ts) × (terms.count ≡ min (length ts) 11))
