-- A line up to its comment, and its words.
use Rattle.std.proofs.Common.{◌≡◌, ℕ, suc, ◌<◌, ◌≤◌, Bool, true, false, cond, eqb, ◌⊎◌, List, [], ◌∷◌, ◌++◌, length, get_or, take, drop, Some, None, Option, sym, refl, ap, ◌∙◌, inl, inr, append_assoc, append-nil, arith, take-append-drop, Bor, ne_eqb, MatchOption}
use Rattle.std.specs.declared.str.Split.{Split}
use Rattle.std.specs.Char.{char_set_contains}
use Rattle.std.specs.Str.Pattern.{FindsBy, IsSplitAtFirstMatch}
use Rattle.std.specs.Str.Iter.{split_has_more, split_text, split_parts_left, split_pattern}
use Rattle.std.specs.Str.{NoCharPasses}
use Rattle.std.proofs.lemmas.Str.Pattern.{drop_at_char}
use Rattle.std.proofs.lemmas.Bool.{cases_lt}
use Rattle.std.proofs.lemmas.Str.{NoCharPasses-byte, len_utf8_ascii}
use Rattle.std.proofs.lemmas.Bool.Decides.{nat_tests}
use Rattle.settle.specs.Sheet.{said_of, blank, texts, unless_empty, words_from, words_of}

-- what stands before the first '#'
pub said_before : (said comment : List ℕ) → ((i : ℕ) → i < length said → get_or said i 0 ≡ 35 → ⊥) → said ≡ said_of (said ++ (35 ∷ comment))
unfolding said_of
said_before [] comment bare = refl
said_before (b ∷ bs) comment bare =
    let other : eqb b 35 ≡ false = ne_eqb b 35 (bare 0 (omega arith)) in
    rw other (ap {B = List ℕ} (λ (r : List ℕ). b ∷ r) (said_before bs comment (λ i l e. bare (suc i) (omega arith) e)))

pub said_all : (line : List ℕ) → ((i : ℕ) → i < length line → get_or line i 0 ≡ 35 → ⊥) → line ≡ said_of line
unfolding said_of
said_all [] bare = refl
said_all (b ∷ bs) bare =
    let other : eqb b 35 ≡ false = ne_eqb b 35 (bare 0 (omega arith)) in
    rw other (ap {B = List ℕ} (λ (r : List ℕ). b ∷ r) (said_all bs (λ i l e. bare (suc i) (omega arith) e)))

-- no blank among the bytes
abbrev Solid : List ℕ → Type 0
Solid [] = Unit {0}
Solid (b ∷ bs) = (blank b ≡ false) × Solid bs

solid_from : (bs : List ℕ) → ((i : ℕ) → i < length bs → blank (get_or bs i 0) ≡ false) → Solid bs
solid_from [] h = tt
solid_from (b ∷ bs) h = (h 0 (omega arith), solid_from bs (λ i l. h (suc i) (omega arith)))

high_solid : (b : ℕ) → 128 ≤ b → blank b ≡ false
high_solid b h = grind (arith, nat_tests)

low_blank : (c : ℕ) → blank c ≡ true → c < 128
low_blank c h = grind (arith, nat_tests)

solid_at : (bs : List ℕ) (i : ℕ) → NoCharPasses blank bs → i < length bs → (get_or bs i 0 < 128) ⊎ (128 ≤ get_or bs i 0) → blank (get_or bs i 0) ≡ false
solid_at bs i w l (inl low) = NoCharPasses-byte blank bs i w l low
solid_at bs i w l (inr high) = high_solid (get_or bs i 0) high

solid : (bs : List ℕ) → NoCharPasses blank bs → Solid bs
solid bs w = solid_from bs (λ i l. solid_at bs i w l (cases_lt (get_or bs i 0) 128))

through : (w p rest : List ℕ) → Solid p → words_from w (p ++ rest) ≡ words_from (w ++ p) rest
unfolding words_from
through w [] rest h = rw append-nil
through w (b ∷ p) rest h = rw h.0 (through (w ++ (b ∷ [])) p rest h.1 ∙ rw append_assoc)

cut : (p rest : List ℕ) (c : ℕ) → Solid p → blank c ≡ true → words_of (p ++ (c ∷ rest)) ≡ unless_empty p ++ words_of rest
unfolding words_from
cut p rest c h b = through [] p (c ∷ rest) h ∙ rw b

last : (p : List ℕ) → Solid p → words_of p ≡ unless_empty p
unfolding words_from
last p h = ap words_of (sym (append-nil p)) ∙ through [] p [] h

-- what is left of a text that is cut at blanks
abbrev pub left : Bool → List ℕ → List (List ℕ)
left live rest = cond live (words_of rest) []

found : (text x rest : List ℕ) (live : Bool) (o : Option (ℕ × ℕ)) → FindsBy blank text o → MatchOption o ((x ≡ text) × (live ≡ false)) (λ q. 0 < q.1 → (x ≡ take q.0 text) × (live ≡ true) × (rest ≡ drop q.1 text)) → words_of text ≡ unless_empty x ++ left live rest
found text x rest live None f e = rw (e.0, e.1) (last text (solid text f) ∙ sym (append-nil (unless_empty text)))
found text x rest live (Some q) f e =
    let c = f.1.0 in
    let at = f.1.2 in
    let low : c < 128 = low_blank c f.1.1 in
    let after = e (omega (arith, at.ends, len_utf8_ascii c low)) in
    let whole : text ≡ take q.0 text ++ (c ∷ drop q.1 text) = sym (take-append-drop q.0 text) ∙ ap (λ (r : List ℕ). take q.0 text ++ r) (drop_at_char c text q.0 q.1 at low) in
    rw (after.0, after.1, after.2) (ap words_of whole ∙ cut (take q.0 text) (drop q.1 text) c (solid (take q.0 text) f.0) f.1.1)

pub parted : (text x rest : List ℕ) (live : Bool) → IsSplitAtFirstMatch (FindsBy blank) text x live rest → words_of text ≡ unless_empty x ++ left live rest
parted text x rest live h = found text x rest live h.1.0 h.1.1 h.1.2

-- the characters that the test passes are those of the pattern
abbrev pub Pattern : List ℕ → (ℕ → Bool) → Type 0
Pattern p test = (c : ℕ) → char_set_contains p c ≡ test c

-- done and the words that the iterator has yet to cut off are those of the text
abbrev pub Sofar : List ℕ → List (List ℕ) → Split (List ℕ) → Type 0
Sofar text done s = (done ++ left (split_has_more s) (split_text s) ≡ words_of text) × Pattern (split_pattern s) blank

-- what `next` says where it gives the piece x
abbrev Next : Split (List ℕ) → List ℕ → Split (List ℕ) → Type 0
Next s x t =
    (true ≡ split_has_more s)
    × (((test : ℕ → Bool) → Pattern (split_pattern s) test → Pattern (split_pattern t) test)
    × IsSplitAtFirstMatch (λ w o. (test : ℕ → Bool) → Pattern (split_pattern s) test → FindsBy test w o) (split_text s) x (split_has_more t) (split_text t))
    × (0 < split_parts_left s → true ≡ true)

next : (text : List ℕ) (done : List (List ℕ)) (s t : Split (List ℕ)) (x : List ℕ) → Sofar text done s → Next s x t → done ++ (unless_empty x ++ left (split_has_more t) (split_text t)) ≡ words_of text
next text done s t x so h =
    let cut_off = h.1.1 in
    let piece = parted (split_text s) x (split_text t) (split_has_more t) (cut_off.0, (cut_off.1.0, cut_off.1.1 blank so.1, cut_off.1.2)) in
    ap (λ (ws : List (List ℕ)). done ++ ws) (sym piece) ∙ rw (← h.0) at so.0

pub no_word : (text : List ℕ) (done : List (List ℕ)) (s t : Split (List ℕ)) (x : List ℕ) → Sofar text done s → Next s x t → length x ≡ 0 → Sofar text done t
no_word text done s t [] so h empty = (next text done s t [] so h, h.1.0 blank so.1)
no_word text done s t (b ∷ x) so h empty = absurd (omega arith)

pub one_word : (text : List ℕ) (done : List (List ℕ)) (s t : Split (List ℕ)) (x : List ℕ) → Sofar text done s → Next s x t → 0 < length x → Sofar text (done ++ (x ∷ [])) t
one_word text done s t [] so h some = absurd (omega arith)
one_word text done s t (b ∷ x) so h some = (rw append_assoc (next text done s t (b ∷ x) so h), h.1.0 blank so.1)

pub none_yet : (text : List ℕ) (words : List (Bor (List ℕ))) (s : Split (List ℕ)) → words ≡ [] → split_has_more s ≡ true → split_text s ≡ text → split_pattern s ≡ 32 ∷ 9 ∷ [] → Sofar text (texts words) s
none_yet text words s none on all blanks = (rw (none, on, all) refl, λ c. rw blanks refl)

pub all_words : (text : List ℕ) (done : List (List ℕ)) (s : Split (List ℕ)) → Sofar text done s → false ≡ split_has_more s → done ≡ words_of text
all_words text done s so off = sym (append-nil done) ∙ rw (← off) at so.0
