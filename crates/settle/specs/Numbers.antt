-- Numbers that words write.
use Rattle.std.specs.Prelude.{◌≡◌, ℕ, ◌-◌, ◌<◌, ◌≤◌, List, [], ◌∷◌, ◌++◌, length, replicate, Some, Option, MatchOption, slice_index}
use Rattle.std.specs.Str.Parse.{IsNumeral, digits_value}

-- the number that the word writes in digits, if it writes one of at most `most`
abbrev pub Reads : ℕ → List ℕ → Option ℕ → Type 0
Reads most word r = MatchOption r (IsNumeral 10 word → digits_value 10 word ≤ most → ⊥) (λ n. IsNumeral 10 word × (n ≡ digits_value 10 word) × (n ≤ most))

-- each word writes the number at its place
abbrev pub Numbers : ℕ → List (List ℕ) → List ℕ → Type 0
Numbers most [] [] = Unit {0}
Numbers most [] (n ∷ ns) = ⊥
Numbers most (w ∷ ws) [] = ⊥
Numbers most (w ∷ ws) (n ∷ ns) = Reads most w (Some n) × Numbers most ws ns

abbrev pub Within : ℕ → List ℕ → Type 0
Within most ns = (k : ℕ) → k < length ns → slice_index ns k ≤ most

-- the numbers, and 0 after them, n in all
abbrev pub padded : ℕ → List ℕ → List ℕ
padded n ns = ns ++ replicate (n - length ns) 0

-- n words write the numbers
abbrev pub Exactly : (n most : ℕ) → List (List ℕ) → List ℕ → Type 0
Exactly n most words ns = (length ns ≡ n) × Numbers most words ns

-- the words write the totals of the five regions
abbrev pub FiveTotals : List (List ℕ) → List ℕ → Type 0
FiveTotals words totals = (length totals ≡ 5) × Numbers 4294967295 words totals

-- the words write the weights of the first parties, and those of the others are 0
unfoldable pub PartyWeights : List (List ℕ) → List ℕ → Type 0
PartyWeights words weights = (ns : List ℕ) × (Numbers 65535 words ns × (length ns ≤ 64) × (weights ≡ padded 64 ns))
