-- Numbers that words write.
use Rattle.std.proofs.Common.{◌≡◌, ℕ, zero, suc, ◌+◌, ◌-◌, ◌^◌, ◌<◌, ◌≤◌, false, eqb, List, [], ◌∷◌, ◌++◌, length, get_or, take, drop, set, replicate, Some, sym, refl, ap, ◌∙◌, arith, length-take, take-append-drop, Bor}
use Rattle.std.specs.Str.Parse.{IsNumeral, digits_value, without_leading_plus}
use Rattle.std.proofs.lemmas.List.{take_more, map-append, drop-drop, drop-set-lt}
use Rattle.std.proofs.lemmas.Grind.{take-set_at}
use Rattle.settle.specs.Numbers.{Reads, Numbers, Within, padded}
use Rattle.settle.specs.Sheet.{texts}

-- what `parse` reads of a word that begins with no plus
module _ (most : ℕ) (word : List ℕ) (plain : eqb (get_or word 0 0) 43 ≡ false) where
  abbrev Fitting : Type 0
  Fitting = IsNumeral 10 (without_leading_plus word) × (digits_value 10 (without_leading_plus word) < 2 ^ 64)

  pub read_some : (n : ℕ) → Fitting × (n ≡ digits_value 10 (without_leading_plus word)) → n ≤ most → Reads most word (Some n)
  read_some n read h = let p = rw plain at read in (p.0.0, p.1, h)

  pub read_over : (n : ℕ) → Fitting × (n ≡ digits_value 10 (without_leading_plus word)) → most < n → (m : ℕ) → Reads most word (Some m) → ⊥
  read_over n read h m reads = let p = rw plain at read in omega (arith, p.1, reads.1, reads.2)

  pub read_none : (Fitting → ⊥) → most < 2 ^ 64 → (m : ℕ) → Reads most word (Some m) → ⊥
  read_none read h m reads = let p = rw plain at read in p (reads.0, omega (arith, reads.1, reads.2))

module _ (most : ℕ) where
  -- one word more, and its number
  numbers_push : (ws : List (List ℕ)) (ns : List ℕ) (w : List ℕ) (n : ℕ) → Numbers most ws ns → Reads most w (Some n) → Numbers most (ws ++ (w ∷ [])) (ns ++ (n ∷ []))
  numbers_push [] [] w n h r = (r, tt)
  numbers_push [] (m ∷ ns) w n h r = elim h [ ]
  numbers_push (v ∷ ws) [] w n h r = elim h [ ]
  numbers_push (v ∷ ws) (m ∷ ns) w n h r = (h.0, numbers_push ws ns w n h.1 r)

  pub numbers_more : (words : List (Bor (List ℕ))) (i : ℕ) (d : Bor (List ℕ)) (ns : List ℕ) (n : ℕ) → i < length words → Numbers most (texts (take i words)) ns → Reads most (get_or words i d).now (Some n) → Numbers most (texts (take (i + 1) words)) (ns ++ (n ∷ []))
  numbers_more words i d ns n l h r =
      rw (take_more words i d l, map-append (λ (w : Bor (List ℕ)). w.now) (take i words) (get_or words i d ∷ [])) (numbers_push (texts (take i words)) ns (get_or words i d).now n h r)

  -- one word more, and its number in the place of another
  pub put_number : (words : List (Bor (List ℕ))) (ns : List ℕ) (i : ℕ) (d : Bor (List ℕ)) (n : ℕ) → i < length words → i < length ns → Numbers most (texts (take i words)) (take i ns) → Reads most (get_or words i d).now (Some n) → Numbers most (texts (take (i + 1) words)) (take (i + 1) (set ns i n))
  put_number words ns i d n l m h r = rw (take-set_at ns i (i + 1) n refl m) (numbers_more words i d (take i ns) n l h r)

  -- the number that one of the words writes
  pub number_at : (words : List (Bor (List ℕ))) (i : ℕ) (d : Bor (List ℕ)) (ns : List ℕ) → i < length words → Numbers most (texts words) ns → (n : ℕ) × Reads most (get_or words i d).now (Some n)
  number_at [] i d ns l h = absurd (omega arith)
  number_at (w ∷ ws) i d [] l h = elim h [ ]
  number_at (w ∷ ws) zero d (n ∷ ns) l h = (n, h.0)
  number_at (w ∷ ws) (suc i) d (n ∷ ns) l h = number_at ws i d ns (omega arith) h.1

  pub as_many : (ws : List (List ℕ)) (ns : List ℕ) → Numbers most ws ns → length ns ≡ length ws
  as_many [] [] h = refl
  as_many [] (n ∷ ns) h = elim h [ ]
  as_many (w ∷ ws) [] h = elim h [ ]
  as_many (w ∷ ws) (n ∷ ns) h = ap suc (as_many ws ns h.1)

  pub within : (ws : List (List ℕ)) (ns : List ℕ) → Numbers most ws ns → Within most ns
  within [] [] h k l = absurd (omega arith)
  within [] (n ∷ ns) h k l = elim h [ ]
  within (w ∷ ws) [] h k l = elim h [ ]
  within (w ∷ ws) (n ∷ ns) h zero l = h.0.2
  within (w ∷ ws) (n ∷ ns) h (suc k) l = within ws ns h.1 k (omega arith)

-- a number put in the first place that is still 0
pub put_padded : (n i : ℕ) (ns : List ℕ) (m : ℕ) → i < n → drop i ns ≡ replicate (n - i) 0 → drop (i + 1) (set ns i m) ≡ replicate (n - (i + 1)) 0
put_padded n i ns m l h =
    let left : n - i ≡ suc (n - (i + 1)) = omega arith in
    let more : drop 1 (replicate {A = ℕ} (n - i) 0) ≡ replicate {A = ℕ} (n - (i + 1)) 0 = rw left refl in
    drop-set-lt (i + 1) ns i m (omega arith) ∙ sym (drop-drop 1 i ns) ∙ ap (drop 1) h ∙ more

pub all_padded : (n i : ℕ) (ns : List ℕ) → length ns ≡ n → i ≤ n → drop i ns ≡ replicate (n - i) 0 → ns ≡ padded n (take i ns)
all_padded n i ns e l h =
    let long : length (take i ns) ≡ i = omega (arith, length-take i ns) in
    sym (take-append-drop i ns) ∙ ap (λ (r : List ℕ). take i ns ++ r) (h ∙ ap (λ m. replicate (n - m) 0) (sym long))
