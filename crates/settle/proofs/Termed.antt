-- Terms that words write.
use Rattle.std.proofs.Common.{◌≡◌, ℕ, zero, suc, ◌+◌, ◌*◌, ◌<◌, ◌≤◌, List, [], ◌∷◌, ◌++◌, length, get_or, take, drop, Err, sym, refl, ap, ◌∙◌, arith, length-drop, Bor}
use Rattle.std.proofs.lemmas.List.{append-nil, append_assoc, drop_all, drop-drop, drop-map, take-map}
use Rattle.std.specs.Simd.{first_chunks}
use Rattle.foundation.proofs.Chunks.{chunk_is}
use Rattle.book.specs.declared.term.Term.{Term}
use Rattle.settle.specs.declared.sheet.NoStep.{NoStep}
use Rattle.settle.specs.declared.sheet.NoStep.TheVariants.{Unknown, NoMemory}
use Rattle.settle.specs.Sheet.{texts, Parsed}
use Rattle.settle.specs.Terms.{Heading, Termed}

pub heading_long : (ws : List (List ℕ)) (n i v p : ℕ) → Heading ws n i v p → length ws ≡ 4
heading_long [] n i v p h = elim h [ ]
heading_long (a ∷ []) n i v p h = elim h [ ]
heading_long (a ∷ b ∷ []) n i v p h = elim h [ ]
heading_long (a ∷ b ∷ c ∷ []) n i v p h = elim h [ ]
heading_long (a ∷ b ∷ c ∷ d ∷ []) n i v p h = refl
heading_long (a ∷ b ∷ c ∷ d ∷ e ∷ ws) n i v p h = elim h [ ]

module _ (words : List (Bor (List ℕ))) (x : Bor (List ℕ)) where
  pub four_texts : length words ≡ 4 → texts words ≡ (get_or words 0 x).now ∷ (get_or words 1 x).now ∷ (get_or words 2 x).now ∷ (get_or words 3 x).now ∷ []
  four_texts e = four words e
    where
      four : (ws : List (Bor (List ℕ))) → length ws ≡ 4 → texts ws ≡ (get_or ws 0 x).now ∷ (get_or ws 1 x).now ∷ (get_or ws 2 x).now ∷ (get_or ws 3 x).now ∷ []
      four [] l = absurd (omega arith)
      four (a ∷ []) l = absurd (omega arith)
      four (a ∷ b ∷ []) l = absurd (omega arith)
      four (a ∷ b ∷ c ∷ []) l = absurd (omega arith)
      four (a ∷ b ∷ c ∷ d ∷ []) l = refl
      four (a ∷ b ∷ c ∷ d ∷ e ∷ ws) l = absurd (omega arith)

  pub three_words : length words ≡ 3 → texts words ≡ (get_or words 0 x).now ∷ (get_or words 1 x).now ∷ (get_or words 2 x).now ∷ []
  three_words e = three words e
    where
      three : (ws : List (Bor (List ℕ))) → length ws ≡ 3 → texts ws ≡ (get_or ws 0 x).now ∷ (get_or ws 1 x).now ∷ (get_or ws 2 x).now ∷ []
      three [] l = absurd (omega arith)
      three (a ∷ []) l = absurd (omega arith)
      three (a ∷ b ∷ []) l = absurd (omega arith)
      three (a ∷ b ∷ c ∷ []) l = refl
      three (a ∷ b ∷ c ∷ d ∷ ws) l = absurd (omega arith)

-- a term by the first three words, and others by the rest
pub termed_more : (ws : List (List ℕ)) (t : Term) (ts : List Term) → Termed (take 3 ws) (t ∷ []) → Termed (drop 3 ws) ts → Termed ws (t ∷ ts)
termed_more [] t ts one rest = elim one [ ]
termed_more (a ∷ []) t ts one rest = elim one [ ]
termed_more (a ∷ b ∷ []) t ts one rest = elim one [ ]
termed_more (a ∷ b ∷ c ∷ ws) t ts one rest = (one.0, rest)

pub termed_less : (ws : List (List ℕ)) (ts : List Term) → 0 < length ws → Termed ws ts → (t : Term) × ((us : List Term) × (Termed (take 3 ws) (t ∷ []) × Termed (drop 3 ws) us))
termed_less [] ts some h = absurd (omega arith)
termed_less (a ∷ []) ts some h = elim h [ ]
termed_less (a ∷ b ∷ []) ts some h = elim h [ ]
termed_less (a ∷ b ∷ c ∷ ws) [] some h = elim h [ ]
termed_less (a ∷ b ∷ c ∷ ws) (t ∷ ts) some h = (t, (ts, ((h.0, tt), h.1)))

pub termed_length : (ws : List (List ℕ)) (ts : List Term) → Termed ws ts → length ws ≡ 3 * length ts
termed_length [] [] h = refl
termed_length [] (t ∷ ts) h = elim h [ ]
termed_length (a ∷ []) ts h = elim h [ ]
termed_length (a ∷ b ∷ []) ts h = elim h [ ]
termed_length (a ∷ b ∷ c ∷ ws) [] h = elim h [ ]
termed_length (a ∷ b ∷ c ∷ ws) (t ∷ ts) h = omega (arith, termed_length ws ts h.1)

-- the terms are what the first i words write
pub record Begun (words : List (List ℕ)) (i : ℕ) (ts : List Term) : Type 0 where
  pub grown : (us : List Term) → Termed (drop i words) us → Termed words (ts ++ us)
  pub left : (us : List Term) → Termed words us → (vs : List Term) × Termed (drop i words) vs

pub begun : (words : List (List ℕ)) (i : ℕ) (ts : List Term) → i ≡ 0 → ts ≡ [] → Begun words i ts
begun words zero ts e f = record { grown = λ us h. rw f h; left = λ us h. (us, h) }
begun words (suc i) ts e f = absurd (omega arith)

module _ (words : List (List ℕ)) (i : ℕ) (ts : List Term) (b : Begun words i ts) where
  pub begun_more : (j : ℕ) (t : Term) → j ≡ i + 3 → i < length words → Termed (take 3 (drop i words)) (t ∷ []) → Begun words j (ts ++ (t ∷ []))
  begun_more j t e l one =
      let on : drop 3 (drop i words) ≡ drop j words = drop-drop 3 i words ∙ ap (λ n. drop n words) (sym e) in
      record {
        grown = λ us h. rw (append_assoc ts (t ∷ []) us) (b.grown (t ∷ us) (termed_more (drop i words) t us one (rw on h)));
        left = λ us h. let v = b.left us h in let w = termed_less (drop i words) v.0 (omega (arith, length-drop i words)) v.1 in (w.1.0, rw (← on) w.1.1.1);
      }

  pub begun_stuck : i < length words → ((t : Term) → Termed (take 3 (drop i words)) (t ∷ []) → ⊥) → (us : List Term) → Termed words us → ⊥
  begun_stuck l none us h =
      let v = b.left us h in
      let w = termed_less (drop i words) v.0 (omega (arith, length-drop i words)) v.1 in
      none w.0 w.1.1.0

  pub begun_all : length words ≤ i → Termed words ts
  begun_all l =
      let nothing : Termed (drop i words) [] = rw (drop_all i words l) tt in
      rw (append-nil ts) at (b.grown [] nothing)

-- the words of a term are three of all words
pub three_texts : (words : List (Bor (List ℕ))) (chunks : List (List (Bor (List ℕ)))) (k i : ℕ) → chunks ≡ first_chunks 3 k words → i < k → texts (get_or chunks i []) ≡ take 3 (drop (3 * i) (texts words))
three_texts words chunks k i e l =
    let now_of : Bor (List ℕ) → List ℕ = λ w. w.now in
    ap (λ (cs : List (List (Bor (List ℕ)))). texts (get_or cs i [])) e
    ∙ ap texts (chunk_is 3 k words i l)
    ∙ sym (take-map now_of 3 (drop (3 * i) words))
    ∙ ap (take 3) (sym (drop-map now_of (3 * i) words))

module _ (words three : List (Bor (List ℕ))) (i : ℕ) (same : texts three ≡ take 3 (drop i (texts words))) (inside : i < length (texts words)) (ts : List Term) (b : Begun (texts words) i ts) where
  pub refused_term : (why : NoStep) → Parsed {T = Term} (λ t. Termed (texts three) (t ∷ [])) (Err why) → Parsed {T = List Term} (λ us. Termed (texts words) us) (Err why)
  refused_term Unknown none = λ us h. begun_stuck (texts words) i ts b inside (λ t one. none t (rw same one)) us h
  refused_term NoMemory none = tt

  pub read_term : (j : ℕ) (t : Term) → j ≡ i + 3 → Termed (texts three) (t ∷ []) → Begun (texts words) j (ts ++ (t ∷ []))
  read_term j t e one = begun_more (texts words) i ts b j t e inside (rw same at one)
