-- What a line of a run sheet says.
use Rattle.std.specs.Prelude.{◌≡◌, ℕ, Bool, cond, List, [], ◌∷◌, ◌++◌, map, take, drop, Some, None, Ok, Err, vec_items, string_bytes, codes, Option, Result, ◌==◌}
use Rattle.std.specs.Borrow.{Bor}
use Rattle.std.specs.Char.{char_set_contains}
use Rattle.session.specs.declared.call.Call.{Call as ACall}
use Rattle.session.specs.declared.call.Call.TheVariants.{Declare, Withdraw, Claim, Recover, HandBack}
use Rattle.settle.specs.declared.sheet.NoStep.{NoStep}
use Rattle.settle.specs.declared.sheet.NoStep.TheVariants.{Unknown, NoMemory}
use Rattle.settle.specs.declared.sheet.Step.{Step}
use Rattle.settle.specs.declared.sheet.Step.TheVariants.{Units, UnitsFile, Samples, Publish, Metered, Profile, Island, Handover, Totals, Dispatch, Table, Journal, Amounts, Records, Split, Call}
use Rattle.settle.specs.Numbers.{Numbers, FiveTotals, PartyWeights}
use Rattle.settle.specs.Terms.{Heading, ClaimTerms}

-- the line up to its comment, which begins with a '#' (35)
unfoldable pub said_of : List ℕ → List ℕ
said_of [] = []
said_of (b ∷ bs) = cond (b == 35) [] (b ∷ said_of bs)

-- what separates words: blanks (32) and tabs (9)
abbrev pub blank : ℕ → Bool
blank b = char_set_contains (32 ∷ 9 ∷ []) b

abbrev pub unless_empty : List ℕ → List (List ℕ)
unless_empty [] = []
unless_empty (b ∷ bs) = (b ∷ bs) ∷ []

-- the words of a text of which the bytes w of the first are read already
unfoldable pub words_from : List ℕ → List ℕ → List (List ℕ)
words_from w [] = unless_empty w
words_from w (b ∷ bs) = cond (blank b) (unless_empty w ++ words_from [] bs) (words_from (w ++ (b ∷ [])) bs)

abbrev pub words_of : List ℕ → List (List ℕ)
words_of text = words_from [] text

-- what words are parsed to: something that they ask for (P of what x holds), or that they ask for nothing; or there was no memory
abbrev pub ParsedAs : {T U : Type 0} → (T → U) → (U → Type 0) → Result T NoStep → Type 0
ParsedAs held P (Ok x) = P (held x)
ParsedAs {U} held P (Err Unknown) = (u : U) → P u → ⊥
ParsedAs held P (Err NoMemory) = Unit {0}

abbrev pub Parsed : {T : Type 0} → (T → Type 0) → Result T NoStep → Type 0
Parsed P r = ParsedAs (λ x. x) P r

abbrev pub texts : List (Bor (List ℕ)) → List (List ℕ)
texts words = map (λ word. word.now) words

-- the keyword and the words after it ask for the call
abbrev pub AsksCall : List ℕ → List (List ℕ) → ACall → Type 0
AsksCall keyword words (Declare number kind regions) = (keyword ≡ codes "declare") × Numbers 255 words (number ∷ kind ∷ regions ∷ [])
AsksCall keyword words (Withdraw number) = (keyword ≡ codes "withdraw") × Numbers 255 words (number ∷ [])
AsksCall keyword words (Claim number interval value part terms) = (keyword ≡ codes "claim") × (Heading (take 4 words) number interval value part × ClaimTerms (drop 4 words) terms)
AsksCall keyword words (Recover number) = (keyword ≡ codes "recover") × Numbers 255 words (number ∷ [])
AsksCall keyword words (HandBack number) = (keyword ≡ codes "return") × Numbers 255 words (number ∷ [])

-- the keyword and the words after it ask for the step
abbrev pub Asks : List ℕ → List (List ℕ) → Step → Type 0
Asks keyword words (Units owners) = (keyword ≡ codes "units") × Numbers 255 words (vec_items owners)
Asks keyword words (UnitsFile name) = (keyword ≡ codes "units-file") × (words ≡ string_bytes name ∷ [])
Asks keyword words (Samples name) = (keyword ≡ codes "samples") × (words ≡ string_bytes name ∷ [])
Asks keyword words (Publish anyway) = (keyword ≡ codes "publish") × (words ≡ cond anyway (codes "anyway" ∷ []) [])
Asks keyword words (Metered name) = (keyword ≡ codes "metered") × (words ≡ string_bytes name ∷ [])
Asks keyword words (Profile totals weights) = (keyword ≡ codes "profile") × (FiveTotals (take 5 words) totals × PartyWeights (drop 5 words) weights)
Asks keyword words (Island set) = (keyword ≡ codes "island") × Numbers 255 words (set ∷ [])
Asks keyword words (Handover leaver successor) = (keyword ≡ codes "handover") × Numbers 65535 words (leaver ∷ successor ∷ [])
Asks keyword words Totals = (keyword ≡ codes "totals") × (words ≡ [])
Asks keyword words (Dispatch set) = (keyword ≡ codes "dispatch") × Numbers 255 words (set ∷ [])
Asks keyword words Table = (keyword ≡ codes "table") × (words ≡ [])
Asks keyword words (Journal records name) = (keyword ≡ codes "journal") × (Numbers 65535 (take 1 words) (records ∷ []) × (drop 1 words ≡ string_bytes name ∷ []))
Asks keyword words Amounts = (keyword ≡ codes "amounts") × (words ≡ [])
Asks keyword words (Records name) = (keyword ≡ codes "records") × (words ≡ string_bytes name ∷ [])
Asks keyword words (Split part set) = (keyword ≡ codes "split") × (Numbers 18446744073709551615 (take 1 words) (part ∷ []) × Numbers 255 (drop 1 words) (set ∷ []))
Asks keyword words (Call call) = AsksCall keyword words call

-- the words of a line ask for the step, or there are no words and no step
abbrev pub AsksAll : List (List ℕ) → Option Step → Type 0
AsksAll [] None = Unit {0}
AsksAll [] (Some step) = ⊥
AsksAll (keyword ∷ words) None = ⊥
AsksAll (keyword ∷ words) (Some step) = Asks keyword words step
