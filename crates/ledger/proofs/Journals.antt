-- A record more in a journal's bytes.
use Rattle.std.proofs.Common.{◌≡◌, ℕ, zero, suc, ◌+◌, ◌-◌, ◌*◌, ◌/◌, ◌%◌, ◌<◌, ◌≤◌, Bool, true, false, cond, ◌&&◌, eqb, List, [], ◌∷◌, ◌++◌, length, get_or, take, drop, ℤ, pos, ◌+ℤ◌, nat_abs, sym, refl, ap, ◌∙◌, subst, ⊎_elim, None, add-one, arith, w64, SFits, to_z, of_z}
use lib.Signed.{le_z}
use Rattle.std.proofs.lemmas.List.{places, length-append, take-append-drop, take_at, drop_at, drop-drop, append_assoc}
use Rattle.std.proofs.lemmas.Slice.{take-put_mid, drop-put_mid}
use borrow.Rule.Slice.PartMut.{put_mid}
use Rattle.std.proofs.lemmas.Int.{to_z-of_z}
use mir.ValLaws.{of_z_fits}
use Rattle.std.proofs.lemmas.Bool.{cases_lt}
use Rattle.foundation.proofs.Signed.{nat_abs_add}
use Rattle.foundation.specs.Bytes.{number_at, long_at}
use Rattle.ledger.specs.Amounts.{magnitudes, posted, post_fault}
use Rattle.ledger.specs.Posts.{Event, Post, accepted, lines_in}
use Rattle.ledger.specs.declared.entry.Entry.{Entry}
use Rattle.ledger.specs.Entries.{EntryAt}
use Rattle.ledger.specs.Journal.{JournalHolds, encoded, laid, line_at, owed_in, party_at, record_of, records_in, serial_at}
use Rattle.ledger.proofs.Postings.{Sound, sound, debt_more, sizes_more}

-- the bytes with a record laid
pub laid_length : (b : List ℕ) (n : ℕ) (x : List ℕ) → 16 * n + 16 ≤ length b → length x ≡ 16 → length (laid b n x) ≡ length b
laid_length b n x l m = grind (arith, places)

-- what stood before the record stays
laid_before : (b : List ℕ) (n : ℕ) (x : List ℕ) (i : ℕ) → 16 * n + 16 ≤ length b → i < 16 * n → get_or (laid b n x) i 0 ≡ get_or b i 0
laid_before b n x i l m = grind (arith, places)

laid_record : (b : List ℕ) (n : ℕ) (x : List ℕ) (i : ℕ) → 16 * n + 16 ≤ length b → i < length x → get_or (laid b n x) (16 * n + i) 0 ≡ get_or x i 0
laid_record b n x i l m = grind (arith, places)

-- amounts are told by the bytes of the records alone
number_eq : (b c : List ℕ) (i : ℕ) → ((j : ℕ) → j < 2 → get_or b (i + j) 0 ≡ get_or c (i + j) 0) → number_at b i ≡ number_at c i
unfolding number_at
number_eq b c i h =
    let first : get_or b i 0 ≡ get_or c i 0 = subst (λ n. get_or b n 0 ≡ get_or c n 0) (omega arith) (h 0 (omega arith)) in
    omega (arith, first, h 1 (omega arith))

long_eq : (b c : List ℕ) (i : ℕ) → ((j : ℕ) → j < 8 → get_or b (i + j) 0 ≡ get_or c (i + j) 0) → long_at b i ≡ long_at c i
unfolding long_at
long_eq b c i h =
    let first : get_or b i 0 ≡ get_or c i 0 = subst (λ n. get_or b n 0 ≡ get_or c n 0) (omega arith) (h 0 (omega arith)) in
    omega (arith, first, h 1 (omega arith), h 2 (omega arith), h 3 (omega arith), h 4 (omega arith), h 5 (omega arith), h 6 (omega arith), h 7 (omega arith))

owed_kept : (b c : List ℕ) (n : ℕ) → ((i : ℕ) → i < 16 * n → get_or b i 0 ≡ get_or c i 0) → (p s : ℕ) → owed_in b n p s ≡ owed_in c n p s
owed_kept b c zero h p s = refl
owed_kept b c (suc n) h p s =
    let party : party_at b n ≡ party_at c n = number_eq b c (16 * n) (λ j l. h (16 * n + j) (omega arith)) in
    let serial : serial_at b n ≡ serial_at c n = number_eq b c (16 * n + 2) (λ j l. h (16 * n + 2 + j) (omega arith)) in
    let line : line_at b n ≡ line_at c n = ap (to_z w64) (long_eq b c (16 * n + 8) (λ j l. h (16 * n + 8 + j) (omega arith))) in
    ap (λ z. posted z (serial_at b n) (line_at b n) (owed_in b n) p s) party
    ∙ ap (λ z. posted (party_at c n) z (line_at b n) (owed_in b n) p s) serial
    ∙ ap (λ z. posted (party_at c n) (serial_at c n) z (owed_in b n) p s) line
    ∙ ap (λ z. z +ℤ cond (eqb p (party_at c n) && eqb s (serial_at c n)) (line_at c n) (pos 0)) (owed_kept b c n (λ i l. h i (omega arith)) p s)

-- a record says what was encoded
number_of : (n : ℕ) → n < 65536 → n / 256 % 256 * 256 + n % 256 ≡ n
number_of n h = omega arith

long_of : (n : ℕ) → n < 18446744073709551616 → n / 72057594037927936 % 256 * 72057594037927936 + n / 281474976710656 % 256 * 281474976710656 + n / 1099511627776 % 256 * 1099511627776 + n / 4294967296 % 256 * 4294967296 + n / 16777216 % 256 * 16777216 + n / 65536 % 256 * 65536 + n / 256 % 256 * 256 + n % 256 ≡ n
long_of n h = omega arith

number_laid : (b x : List ℕ) (at i : ℕ) (n : ℕ) → get_or b at 0 ≡ get_or x i 0 → get_or b (at + 1) 0 ≡ get_or x (i + 1) 0 → get_or x i 0 * 256 + get_or x (i + 1) 0 ≡ n → number_at b at ≡ n
unfolding number_at
number_laid b x at i n g h e = omega (arith, g, h, e)

long_laid : (b x : List ℕ) (at n : ℕ) → ((j : ℕ) → j < 8 → get_or b (at + j) 0 ≡ get_or x (8 + j) 0) → long_at x 8 ≡ n → long_at b at ≡ n
unfolding long_at
long_laid b x at n h e =
    let first : get_or b at 0 ≡ get_or x 8 0 = subst (λ k. get_or b k 0 ≡ get_or x 8 0) (omega arith) (h 0 (omega arith)) in
    omega (arith, first, h 1 (omega arith), h 2 (omega arith), h 3 (omega arith), h 4 (omega arith), h 5 (omega arith), h 6 (omega arith), h 7 (omega arith), e)

long_encoded : (p s : ℕ) (line : ℤ) → SFits w64 line → long_at (record_of p s line) 8 ≡ of_z w64 line
unfolding long_at
long_encoded p s line f = long_of (of_z w64 line) (of_z_fits w64 line f).fits

-- the fields of the record laid
module _ (b : List ℕ) (n p s : ℕ) (line : ℤ) (l : 16 * n + 16 ≤ length b) where
  byte_laid : (i : ℕ) → i < 16 → get_or (laid b n (record_of p s line)) (16 * n + i) 0 ≡ get_or (record_of p s line) i 0
  byte_laid i h = laid_record b n (record_of p s line) i l h

  byte_at : (k i : ℕ) → k ≡ 16 * n + i → i < 16 → get_or (laid b n (record_of p s line)) k 0 ≡ get_or (record_of p s line) i 0
  byte_at k i e h = ap (λ m. get_or (laid b n (record_of p s line)) m 0) e ∙ byte_laid i h

  party_laid : p < 65536 → party_at (laid b n (record_of p s line)) n ≡ p
  party_laid h = number_laid (laid b n (record_of p s line)) (record_of p s line) (16 * n) 0 p (byte_at (16 * n) 0 (omega arith) (omega arith)) (byte_at (16 * n + 1) 1 refl (omega arith)) (number_of p h)

  serial_laid : s < 65536 → serial_at (laid b n (record_of p s line)) n ≡ s
  serial_laid h = number_laid (laid b n (record_of p s line)) (record_of p s line) (16 * n + 2) 2 s (byte_at (16 * n + 2) 2 refl (omega arith)) (byte_at (16 * n + 2 + 1) 3 (omega arith) (omega arith)) (number_of s h)

  line_laid : SFits w64 line → line_at (laid b n (record_of p s line)) n ≡ line
  line_laid f =
      ap (to_z w64) (long_laid (laid b n (record_of p s line)) (record_of p s line) (16 * n + 8) (of_z w64 line) (λ j h. byte_at (16 * n + 8 + j) (8 + j) (omega arith) (omega arith)) (long_encoded p s line f))
      ∙ to_z-of_z w64 line f

  before_laid : (q t : ℕ) → owed_in (laid b n (record_of p s line)) n q t ≡ owed_in b n q t
  before_laid = owed_kept (laid b n (record_of p s line)) b n (λ i h. laid_before b n (record_of p s line) i l h)

  owed_more : p < 65536 → s < 65536 → SFits w64 line → (q t : ℕ) → owed_in (laid b n (record_of p s line)) (suc n) q t ≡ posted p s line (owed_in b n) q t
  owed_more hp hs f q t =
      ap (λ z. posted z (serial_at new n) (line_at new n) (owed_in new n) q t) (party_laid hp)
      ∙ ap (λ z. posted p z (line_at new n) (owed_in new n) q t) (serial_laid hs)
      ∙ ap (λ z. posted p s z (owed_in new n) q t) (line_laid f)
      ∙ ap (λ z. z +ℤ cond (eqb q p && eqb t s) line (pos 0)) (before_laid q t)
    where
      new : List ℕ
      new = laid b n (record_of p s line)

encoded_length : (ls : List Post) → length (encoded ls) ≡ 16 * length ls
encoded_length [] = refl
encoded_length (l ∷ ls) = length-append (encoded ls) (record_of l.party l.serial l.line) ∙ omega (arith, encoded_length ls)

-- the records written, then the old bytes, with one record more
pub written_more : (old b : List ℕ) (ls : List Post) (n : ℕ) (l : Post) → n ≡ length ls → b ≡ encoded ls ++ drop (16 * length ls) old → laid b n (record_of l.party l.serial l.line) ≡ encoded (l ∷ ls) ++ drop (16 * length (l ∷ ls)) old
written_more old b ls n l e h =
    let long : length (encoded ls) ≡ 16 * n = encoded_length ls ∙ ap (λ k. 16 * k) (sym e) in
    let rest : drop (16 * n + 16) b ≡ drop (16 * suc (length ls)) old =
    ap (drop (16 * n + 16)) h
    ∙ sym (drop-drop 16 (16 * n) (encoded ls ++ drop (16 * length ls) old))
    ∙ ap (drop 16) (drop_at (encoded ls) (drop (16 * length ls) old) (16 * n) long)
    ∙ drop-drop 16 (16 * length ls) old
    ∙ ap (λ k. drop k old) (omega arith) in
    let front : take (16 * n) b ≡ encoded ls = ap (take (16 * n)) h ∙ take_at (encoded ls) (drop (16 * length ls) old) (16 * n) long in
    ap (λ y. y ++ (record_of l.party l.serial l.line ++ drop (16 * n + 16) b)) front
    ∙ ap (λ y. encoded ls ++ (record_of l.party l.serial l.line ++ y)) rest
    ∙ sym (append_assoc (encoded ls) (record_of l.party l.serial l.line) (drop (16 * suc (length ls)) old))

-- a line that is not the last stays, and so does what is known of all before
line_kept : (b c : List ℕ) (n k : ℕ) → ((i : ℕ) → i < 16 * n → get_or b i 0 ≡ get_or c i 0) → k < n → line_at b k ≡ line_at c k
line_kept b c n k h l = ap (to_z w64) (long_eq b c (16 * k + 8) (λ j m. h (16 * k + 8 + j) (omega arith)))

-- sums of lines are far from the limits of 64 bits
pub owed_size : (b : List ℕ) (n : ℕ) → ((k : ℕ) → k < n → nat_abs (line_at b k) ≤ 200000000000) → (p s : ℕ) → nat_abs (owed_in b n p s) ≤ n * 200000000000
owed_size b zero h p s = omega arith
owed_size b (suc n) h p s =
    omega (arith, nat_abs_add (owed_in b n p s) (cond (eqb p (party_at b n) && eqb s (serial_at b n)) (line_at b n) (pos 0)), owed_size b n (λ k l. h k (omega arith)) p s, picked (eqb p (party_at b n) && eqb s (serial_at b n)) (line_at b n) (h n (omega arith)))
  where
    picked : (t : Bool) (z : ℤ) → nat_abs z ≤ 200000000000 → nat_abs (cond t z (pos 0)) ≤ 200000000000
    picked true z l = l
    picked false z l = omega arith

-- what is known of the records written
pub record Sure (b : List ℕ) (written : ℕ) : Type 0 where
  pub inside : written ≤ records_in b
  pub lines : (k : ℕ) → k < written → nat_abs (line_at b k) ≤ 200000000000
  pub debts : (p s : ℕ) → le_z (owed_in b written p s) (pos 0) ≡ true
  pub sizes : magnitudes (owed_in b written) ≤ written * 200000000000

sure_more : (b : List ℕ) (n p s : ℕ) (line : ℤ) (left : ℕ) → p < 65536 → s < 65536 → SFits w64 line → n < records_in b → Sound p s line left → Sure b n → Sure (laid b n (record_of p s line)) (suc n)
sure_more b n p s line left hp hs f room x sure =
    let fits : 16 * n + 16 ≤ length b = omega arith in
    let kept : (k : ℕ) → k < n → line_at (laid b n (record_of p s line)) k ≡ line_at b k = λ k l. line_kept (laid b n (record_of p s line)) b n k (λ i h. laid_before b n (record_of p s line) i fits h) l in
    record {
      inside = omega (arith, laid_length b n (record_of p s line) fits refl);
      lines = λ k l.
          ⊎_elim
          (λ (e : k < n). rw (kept k e) (sure.lines k e))
          (λ (e : n ≤ k).
          let last : k ≡ n = omega arith in
          rw last (rw (line_laid b n p s line fits f) x.size))
          (cases_lt k n);
      debts = λ q t. rw (owed_more b n p s line fits hp hs f q t) (debt_more _ (owed_in b n q t) line (sure.debts q t) x.debt);
      sizes = omega (arith, sizes_more p s line left n (owed_in b n) (owed_in (laid b n (record_of p s line)) (suc n)) x (owed_more b n p s line fits hp hs f) sure.sizes);
    }

-- a record that is written over a part of the bytes
pub put_laid : (b x : List ℕ) (n p s : ℕ) (line : ℤ) → 16 * n + 16 ≤ length b → x ≡ record_of p s line → put_mid (16 * n) (16 * n + 16 - 16 * n) b x ≡ laid b n (record_of p s line)
put_laid b x n p s line fits e =
    let part : 16 * n + 16 - 16 * n ≡ 16 = omega arith in
    let long : length x ≡ 16 = ap length e in
    ap (λ k. put_mid (16 * n) k b x) part
    ∙ sym (take-append-drop (16 * n + 16) (put_mid (16 * n) 16 b x))
    ∙ ap (λ y. y ++ drop (16 * n + 16) (put_mid (16 * n) 16 b x)) (take-put_mid (16 * n) 16 b x (16 * n + 16) (omega (arith, long)) (omega arith))
    ∙ ap (λ y. (take (16 * n) b ++ x) ++ y) (drop-put_mid (16 * n) 16 b x (16 * n + 16) (omega arith) (omega arith) long)
    ∙ append_assoc (take (16 * n) b) x (drop (16 * n + 16) b)
    ∙ ap (laid b n) e

-- a journal's bytes after a post that was taken
pub record Written (b c : List ℕ) (n p s : ℕ) (line : ℤ) : Type 0 where
  pub bytes : c ≡ laid b n (record_of p s line)
  pub sure : Sure c (n + 1)
  pub amounts : (q t : ℕ) → owed_in c (n + 1) q t ≡ posted p s line (owed_in b n) q t

-- from what the calls of the post say: the line is as the code keeps it
pub written : (b x y : List ℕ) (n p s : ℕ) (line : ℤ) (left : ℕ) → SFits w64 line → p < 65536 → s < 65536 → Sure b n → None ≡ post_fault p s (to_z w64 (of_z w64 line)) left → left ≡ records_in b - n → x ≡ y → y ≡ record_of p s (to_z w64 (of_z w64 line)) → Written b (put_mid (16 * n) (16 * n + 16 - 16 * n) b x) n p s line
written b x y n p s line left f hp hs sure none room copied e =
    let same : to_z w64 (of_z w64 line) ≡ line = to_z-of_z w64 line f in
    let sound-is : Sound p s line left = sound p s line left (sym (none ∙ ap (λ z. post_fault p s z left) same)) in
    let few : n < records_in b = omega (arith, sound-is.some) in
    let new : put_mid (16 * n) (16 * n + 16 - 16 * n) b x ≡ laid b n (record_of p s line) = put_laid b x n p s line (omega arith) (copied ∙ e ∙ ap (record_of p s) same) in
    let next : n + 1 ≡ suc n = add-one n in
    record {
      bytes = new;
      sure = rw (new, next) (sure_more b n p s line left hp hs f few sound-is sure);
      amounts = λ q t. rw (new, next) (owed_more b n p s line (omega arith) hp hs f q t);
    }

pub holds_laid : (b c old : List ℕ) (n m : ℕ) (h : List Event) (l : Post) → c ≡ laid b n (record_of l.party l.serial l.line) → m ≡ suc n → JournalHolds h old b n → JournalHolds (accepted l ∷ h) old c m
holds_laid b c old n m h l e f g = record { lines = f ∙ ap suc g.lines; bytes = e ∙ written_more old b (lines_in h) n l g.lines g.bytes }

-- one record more in the sum
pub owed_next : (b : List ℕ) (k p s : ℕ) (e : Entry) (line : ℤ) → EntryAt b k e → line ≡ cond (eqb p e.party && eqb s e.serial) e.line (pos 0) → owed_in b (k + 1) p s ≡ owed_in b k p s +ℤ line
owed_next b k p s e line at h =
    let next : k + 1 ≡ suc k = omega arith in
    rw next (ap (λ z. owed_in b k p s +ℤ z) (sym (h ∙ ap (λ z. cond (eqb p z && eqb s e.serial) e.line (pos 0)) at.party ∙ ap (λ z. cond (eqb p (party_at b k) && eqb s z) e.line (pos 0)) at.serial ∙ ap (λ z. cond (eqb p (party_at b k) && eqb s (serial_at b k)) z (pos 0)) at.line)))

pub line_size : (b : List ℕ) (k : ℕ) (t : Bool) (e : Entry) (line : ℤ) → EntryAt b k e → line ≡ cond t e.line (pos 0) → nat_abs (line_at b k) ≤ 200000000000 → nat_abs line ≤ 200000000000
line_size b k true e line at h l = rw (h ∙ at.line) l
line_size b k false e line at h l = rw h (omega arith)
