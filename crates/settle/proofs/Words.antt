-- Words of a run sheet.
use Rattle.std.proofs.Common.{◌≡◌, ℕ, ◌-◌, ◌<◌, List, [], ◌∷◌, ◌++◌, length, get_or, take, drop, Some, None, Err, codes, Option, sym, subst, refl, ap, ◌∙◌, arith, Bor, rules}
use Rattle.std.proofs.lemmas.List.{take_all, take-map, map-append, length-map}
use Rattle.settle.specs.declared.sheet.NoStep.{NoStep}
use Rattle.settle.specs.declared.sheet.NoStep.TheVariants.{Unknown, NoMemory}
use Rattle.session.specs.declared.call.Call.TheVariants as call
use Rattle.settle.specs.declared.sheet.Step.{Step}
use Rattle.settle.specs.declared.sheet.Step.TheVariants as step
use Rattle.settle.specs.Sheet.{Parsed, ParsedAs, texts, Asks, AsksAll}
use Rattle.settle.specs.Terms.{Heading}

pub texts_push : (old new : List (Bor (List ℕ))) (word : Bor (List ℕ)) → new ≡ old ++ (word ∷ []) → texts new ≡ texts old ++ (word.now ∷ [])
texts_push old new word e = ap texts e ∙ map-append (λ (w : Bor (List ℕ)). w.now) old (word ∷ [])

pub no_texts : (words : List (Bor (List ℕ))) → length words ≡ 0 → texts words ≡ []
no_texts [] h = refl
no_texts (w ∷ ws) h = absurd (omega arith)

pub one_text : (words : List (Bor (List ℕ))) (d : Bor (List ℕ)) → length words ≡ 1 → texts words ≡ (get_or words 0 d).now ∷ []
one_text [] d h = absurd (omega arith)
one_text (w ∷ []) d h = refl
one_text (w ∷ v ∷ ws) d h = absurd (omega arith)

pub length_texts : (words : List (Bor (List ℕ))) (ts : List (List ℕ)) → texts words ≡ ts → length words ≡ length ts
length_texts words ts e = sym (length-map words (λ (w : Bor (List ℕ)). w.now)) ∙ ap length e

-- what a proof reads past the end of a list of texts
abbrev pub nowhere : Bor (List ℕ)
nowhere = record { ref_ptr = (0, 0); now = [] }

pub first_text : (words : List (Bor (List ℕ))) (d : Bor (List ℕ)) (t : List ℕ) (ts : List (List ℕ)) → texts words ≡ t ∷ ts → (get_or words 0 d).now ≡ t
first_text [] d t ts e = cc
first_text (w ∷ ws) d t ts e = cc

pub first_and_rest : (words : List (Bor (List ℕ))) (d : Bor (List ℕ)) → 0 < length words → texts words ≡ (get_or words 0 d).now ∷ texts (take (length words - 1) (drop 1 words))
first_and_rest [] d some = absurd (omega arith)
first_and_rest (w ∷ ws) d some = ap {B = List (List ℕ)} (λ (r : List (Bor (List ℕ))). w.now ∷ texts r) (sym (take_all (length (w ∷ ws) - 1) ws (omega arith)))

module _ (all : List (List ℕ)) (keyword : List ℕ) (words : List (List ℕ)) (parts : all ≡ keyword ∷ words) where
  pub asked_all : (step : Step) → Asks keyword words step → AsksAll all (Some step)
  asked_all step h = rw parts h

  pub refused_all : (why : NoStep) → Parsed {T = Step} (λ step. Asks keyword words step) (Err why) → Parsed {T = Option Step} (λ step. AsksAll all step) (Err why)
  refused_all Unknown h = none
    where
      none : (step : Option Step) → AsksAll all step → ⊥
      none None asks = rw parts at asks
      none (Some step) asks = h step (rw parts at asks)
  refused_all NoMemory h = tt

-- where a part that something would need is refused, it is refused itself
pub refused : {S T U : Type 0} (P : S → Type 0) (held : T → U) (Q : U → Type 0) → ((u : U) → Q u → (s : S) × P s) → (why : NoStep) → Parsed P (Err why) → ParsedAs held Q (Err why)
refused P held Q needed Unknown none = λ u q. let n = needed u q in none n.0 n.1
refused P held Q needed NoMemory none = tt

-- where words follow a keyword that nothing may follow
pub refused_nothing : (named keyword : List ℕ) (words : List (List ℕ)) (why : NoStep) → keyword ≡ named → ((step : Step) → Asks named words step → words ≡ []) → Parsed {T = Unit {0}} (λ _. words ≡ []) (Err why) → Parsed {T = Step} (λ step. Asks keyword words step) (Err why)
refused_nothing named keyword words why e needed none = refused {S = Unit {0}} (λ _. words ≡ []) (λ (step : Step). step) (λ step. Asks keyword words step) (λ step asks. (tt, needed step (subst (λ k. Asks k words step) e asks))) why none

-- where the words after a keyword are refused, no step is asked for
pub no_claim : (words : List (List ℕ)) → ((n i v p : ℕ) → Heading (take 4 words) n i v p → ⊥) → (step : Step) → Asks (codes "claim") words step → ⊥
no_claim words none (step.Units x) asks = search rules
no_claim words none (step.UnitsFile x) asks = search rules
no_claim words none (step.Samples x) asks = search rules
no_claim words none (step.Publish x) asks = search rules
no_claim words none (step.Metered x) asks = search rules
no_claim words none (step.Profile x y) asks = search rules
no_claim words none (step.Island x) asks = search rules
no_claim words none (step.Handover x y) asks = search rules
no_claim words none step.Totals asks = search rules
no_claim words none (step.Dispatch x) asks = search rules
no_claim words none step.Table asks = search rules
no_claim words none (step.Journal x y) asks = search rules
no_claim words none step.Amounts asks = search rules
no_claim words none (step.Records x) asks = search rules
no_claim words none (step.Split x y) asks = search rules
no_claim words none (step.Call (call.Declare n k s)) asks = search rules
no_claim words none (step.Call (call.Withdraw n)) asks = search rules
no_claim words none (step.Call (call.Claim n i v p ts)) asks = none n i v p asks.1.0
no_claim words none (step.Call (call.Recover n)) asks = search rules
no_claim words none (step.Call (call.HandBack n)) asks = search rules

pub refused_heading : (words first : List (Bor (List ℕ))) → first ≡ take 4 words → (why : NoStep) → Parsed {T = ℕ × ℕ × ℕ × ℕ} (λ h. Heading (texts first) h.0 h.1 h.2 h.3) (Err why) → Parsed {T = Step} (λ step. Asks (codes "claim") (texts words) step) (Err why)
refused_heading words first e Unknown none = no_claim (texts words) (λ n i v p h. none (n, i, v, p) (rw (e, ← (take-map (λ (w : Bor (List ℕ)). w.now) 4 words)) h))
refused_heading words first e NoMemory none = tt
