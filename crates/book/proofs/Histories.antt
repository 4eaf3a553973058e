-- What a history says after one event more, and what a book that is kept with it keeps.
use Rattle.std.proofs.Common.{◌≡◌, ℕ, suc, ◌+◌, ◌<◌, ◌≤◌, Bool, true, false, cond, eqb, ltb, ◌≢◌, List, [], ◌∷◌, ℤ, pos, ◌+ℤ◌, neg_ℤ, sym, refl, ap, ◌∙◌, subst, ⊎_elim, arith}
use Rattle.std.proofs.lemmas.Int.{ints}
use Rattle.std.proofs.lemmas.Bool.{and_from, and_left, cases_Bool, cases_eq, cases_lt, cond-true, cond-false, eq-eqb, lt-ltb, ne_eqb}
use Rattle.sampling.specs.declared.factors.Factors.{Factors}
use Rattle.recovery.specs.Recovery.{lowered}
use Rattle.recovery.specs.Shares.{Basis, basis_of, cmpf, crmpf, share_paid}
use Rattle.book.specs.declared.state.Declaration.{Declaration}
use Rattle.book.specs.declared.state.Pending.{Pending}
use Rattle.book.specs.declared.state.State.{State}
use Rattle.book.specs.declared.state.State.TheVariants as state
use Rattle.book.specs.Calls.{changed}
use Rattle.book.specs.History.{Claimed, History, claimed, declared, not_of, of_number, paid, recovered, recoveries, refused, regions_of, returned, serials, standing, still_open, ticks, withdrawn}
use Rattle.book.specs.Kept.{Kept, held_in, regions_in, serial_in}
use Rattle.book.specs.Settled.{Each}

-- a number stands for a serial that was made
pub standing_most : (h : History) (n : ℕ) → standing h n ≤ serials h
standing_most [] n = omega arith
standing_most (declared m d ∷ h) n = made (eqb n m) (serials h) (standing h n) (standing_most h n)
  where
    made : (b : Bool) (k s : ℕ) → s ≤ k → cond b (suc k) s ≤ suc k
    made true k s l = omega arith
    made false k s l = omega arith
standing_most (withdrawn m ∷ h) n = made (eqb n m) (serials h) (standing h n) (standing_most h n)
  where
    made : (b : Bool) (k s : ℕ) → s ≤ k → cond b 0 s ≤ k
    made true k s l = omega arith
    made false k s l = l
standing_most (claimed c ∷ h) n = standing_most h n
standing_most (recovered c f e ∷ h) n = standing_most h n
standing_most (returned c ∷ h) n = standing_most h n
standing_most (refused ∷ h) n = standing_most h n

-- claims of a number and of the others
of_none : (n : ℕ) (cs : List Claimed) → of_number n (not_of n cs) ≡ []
of_none n [] = refl
of_none n (c ∷ cs) =
    ⊎_elim
    (λ (e : eqb c.number n ≡ true). ap (of_number n) (cond-true (eqb c.number n) (not_of n cs) (c ∷ not_of n cs) e) ∙ of_none n cs)
    (λ (e : eqb c.number n ≡ false).
    ap (of_number n) (cond-false (eqb c.number n) (not_of n cs) (c ∷ not_of n cs) e)
    ∙ cond-false (eqb c.number n) (c ∷ of_number n (not_of n cs)) (of_number n (not_of n cs)) e
    ∙ of_none n cs)
    (cases_Bool (eqb c.number n))

of_others : (n m : ℕ) (cs : List Claimed) → n ≢ m → of_number n (not_of m cs) ≡ of_number n cs
of_others n m [] d = refl
of_others n m (c ∷ cs) d =
    ⊎_elim
    (λ (e : c.number ≡ m).
    ap (of_number n) (cond-true (eqb c.number m) (not_of m cs) (c ∷ not_of m cs) (eq-eqb c.number m e))
    ∙ of_others n m cs d
    ∙ sym (cond-false (eqb c.number n) (c ∷ of_number n cs) (of_number n cs) (ne_eqb c.number n (λ k. d (sym k ∙ e)))))
    (λ (e : c.number ≢ m).
    ap (of_number n) (cond-false (eqb c.number m) (not_of m cs) (c ∷ not_of m cs) (ne_eqb c.number m e))
    ∙ ap (λ xs. cond (eqb c.number n) (c ∷ xs) xs) (of_others n m cs d))
    (cases_eq c.number m)

ticks_parted : (s n : ℕ) (cs : List Claimed) → ticks s (not_of n cs) + ticks s (of_number n cs) ≡ ticks s cs
ticks_parted s n [] = refl
ticks_parted s n (c ∷ cs) = parted (eqb c.number n) (ticks_parted s n cs)
  where
    parted : (b : Bool) → ticks s (not_of n cs) + ticks s (of_number n cs) ≡ ticks s cs → ticks s (cond b (not_of n cs) (c ∷ not_of n cs)) + ticks s (cond b (c ∷ of_number n cs) (of_number n cs)) ≡ cond (eqb c.serial s) c.part 0 + ticks s cs
    parted true h = omega (arith, h)
    parted false h = omega (arith, h)

-- a number's state after a call, where the number is that of the call or another
here : (f g : ℕ → State) (n : ℕ) (new : State) → ((k : ℕ) → g k ≡ changed n new f k) → g n ≡ new
here f g n new h = h n ∙ cond-true (eqb n n) new (f n) (eq-eqb n n refl)

there : (f g : ℕ → State) (n : ℕ) (new : State) → ((k : ℕ) → g k ≡ changed n new f k) → (k : ℕ) → k ≢ n → g k ≡ f k
there f g n new h k d = h k ∙ cond-false (eqb k n) new (f k) (ne_eqb k n d)

-- a refused call
pub kept_refused : (h : History) (f : ℕ → State) (m : ℕ) (owed : ℕ → ℕ → ℤ) → Kept h f m owed → Kept (refused ∷ h) f m owed
kept_refused h f m owed k =
    record { count = k.count; serial = k.serial; regions = k.regions; claim = k.claim; owes = k.owes; accounted = k.accounted; fresh = k.fresh; weighed = k.weighed }

-- the claim of a number is that of its state
of_free : (h : History) (f : ℕ → State) (m : ℕ) (owed : ℕ → ℕ → ℤ) → Kept h f m owed → (n : ℕ) → 1 ≤ n → n ≤ 16 → held_in n (f n) ≡ [] → of_number n (still_open h) ≡ []
of_free h f m owed k n lo hi e = sym (k.claim n lo hi) ∙ e

-- the regions of a serial that was made before stay, and a new one has no recovery
module _ (h : History) (n D : ℕ) where
  old_regions : (s : ℕ) → s ≤ serials h → regions_of (declared n D ∷ h) s ≡ regions_of h s
  old_regions s l = cond-false (eqb s (suc (serials h))) D (regions_of h s) (ne_eqb s (suc (serials h)) (λ e. apart s (serials h) l e))
    where
      apart : (a b : ℕ) → a ≤ b → a ≡ suc b → ⊥
      apart a b l e = omega (arith, l, e)

  new_regions : regions_of (declared n D ∷ h) (suc (serials h)) ≡ D
  new_regions = cond-true (eqb (suc (serials h)) (suc (serials h))) D (regions_of h (suc (serials h))) (eq-eqb (suc (serials h)) (suc (serials h)) refl)

  by_serial : (P : ℕ → List Basis → Type 0) → ((s : ℕ) → serials h < s → recoveries h s ≡ []) → ((A B : ℕ) → P A [] → P B []) → (s : ℕ) → P (regions_of h s) (recoveries h s) → P (regions_of (declared n D ∷ h) s) (recoveries h s)
  by_serial P fresh none s x =
      ⊎_elim
      (λ (l : serials h < s).
      subst (P (regions_of (declared n D ∷ h) s)) (sym (fresh s l)) (none (regions_of h s) (regions_of (declared n D ∷ h) s) (subst (P (regions_of h s)) (fresh s l) x)))
      (λ (l : s ≤ serials h). subst (λ A. P A (recoveries h s)) (sym (old_regions s l)) x)
      (cases_lt (serials h) s)

pub kept_declared : (h : History) (f g : ℕ → State) (m l n D : ℕ) (d : Declaration) (owed : ℕ → ℕ → ℤ) → Kept h f m owed → 1 ≤ n → n ≤ 16 → f n ≡ state.Free → d.serial ≡ suc m → d.regions ≡ D → ((k : ℕ) → g k ≡ changed n (state.Declared d) f k) → l ≡ suc m → Kept (declared n D ∷ h) g l owed
kept_declared h f g m l n D d owed k lo hi free ser reg new more =
    record {
      count = more ∙ ap suc k.count;
      serial = λ j a b.
          ⊎_elim
          (λ (e : j ≡ n).
          rw e (ap serial_in (here f g n (state.Declared d) new) ∙ ser ∙ ap suc k.count ∙ sym (cond-true (eqb n n) (suc (serials h)) (standing h n) (eq-eqb n n refl))))
          (λ (e : j ≢ n).
          ap serial_in (there f g n (state.Declared d) new j e) ∙ k.serial j a b ∙ sym (cond-false (eqb j n) (suc (serials h)) (standing h j) (ne_eqb j n e)))
          (cases_eq j n);
      regions = λ j a b c.
          ⊎_elim
          (λ (e : j ≡ n).
          rw e
          (ap regions_in (here f g n (state.Declared d) new)
          ∙ reg
          ∙ sym (new_regions h n D)
          ∙ ap (regions_of (declared n D ∷ h)) (sym (cond-true (eqb n n) (suc (serials h)) (standing h n) (eq-eqb n n refl)))))
          (λ (e : j ≢ n).
          let same : standing (declared n D ∷ h) j ≡ standing h j = cond-false (eqb j n) (suc (serials h)) (standing h j) (ne_eqb j n e) in
          ap regions_in (there f g n (state.Declared d) new j e)
          ∙ k.regions j a b (subst (λ x. 1 ≤ x) same c)
          ∙ sym (old_regions h n D (standing h j) (standing_most h j))
          ∙ ap (regions_of (declared n D ∷ h)) (sym same))
          (cases_eq j n);
      claim = λ j a b.
          ⊎_elim
          (λ (e : j ≡ n). rw e (ap (held_in n) (here f g n (state.Declared d) new) ∙ sym (of_free h f m owed k n lo hi (ap (held_in n) free))))
          (λ (e : j ≢ n). ap (held_in j) (there f g n (state.Declared d) new j e) ∙ k.claim j a b)
          (cases_eq j n);
      owes = λ p s a b c. by_serial h n D (λ A bs. owed p s ≡ neg_ℤ (pos (paid A bs p))) k.fresh (λ A B x. x) s (k.owes p s a b c);
      accounted = k.accounted;
      fresh = λ s a. k.fresh s (omega (arith, a));
      weighed = λ s. by_serial h n D (λ A bs. Each (λ b. 0 < cmpf A b + crmpf A b) bs) k.fresh (λ A B x. x) s (k.weighed s);
    }

pub kept_withdrawn : (h : History) (f g : ℕ → State) (m n : ℕ) (d : Declaration) (owed : ℕ → ℕ → ℤ) → Kept h f m owed → 1 ≤ n → n ≤ 16 → f n ≡ state.Declared d → ((k : ℕ) → g k ≡ changed n state.Free f k) → Kept (withdrawn n ∷ h) g m owed
kept_withdrawn h f g m n d owed k lo hi was new =
    record {
      count = k.count;
      serial = λ j a b.
          ⊎_elim
          (λ (e : j ≡ n). rw e (ap serial_in (here f g n state.Free new) ∙ sym (cond-true (eqb n n) 0 (standing h n) (eq-eqb n n refl))))
          (λ (e : j ≢ n). ap serial_in (there f g n state.Free new j e) ∙ k.serial j a b ∙ sym (cond-false (eqb j n) 0 (standing h j) (ne_eqb j n e)))
          (cases_eq j n);
      regions = λ j a b c.
          ⊎_elim
          (λ (e : j ≡ n).
          let gone : standing (withdrawn n ∷ h) j ≡ 0 = cond-true (eqb j n) 0 (standing h j) (eq-eqb j n e) in
          let none : 1 ≤ 0 = subst (λ x. 1 ≤ x) gone c in
          absurd (nothing none))
          (λ (e : j ≢ n).
          let same : standing (withdrawn n ∷ h) j ≡ standing h j = cond-false (eqb j n) 0 (standing h j) (ne_eqb j n e) in
          ap regions_in (there f g n state.Free new j e) ∙ k.regions j a b (subst (λ x. 1 ≤ x) same c) ∙ ap (regions_of h) (sym same))
          (cases_eq j n);
      claim = λ j a b.
          ⊎_elim
          (λ (e : j ≡ n). rw e (ap (held_in n) (here f g n state.Free new) ∙ sym (of_free h f m owed k n lo hi (ap (held_in n) was))))
          (λ (e : j ≢ n). ap (held_in j) (there f g n state.Free new j e) ∙ k.claim j a b)
          (cases_eq j n);
      owes = k.owes;
      accounted = k.accounted;
      fresh = k.fresh;
      weighed = k.weighed;
    }
  where
    nothing : 1 ≤ 0 → ⊥
    nothing h = omega (arith, h)

-- the claim that a state holds open, by its figures
abbrev claim_of : ℕ → Declaration → Pending → Claimed
claim_of n d p = record { number = n; serial = d.serial; interval = p.interval.number; part = p.part }

pub kept_claimed : (h : History) (f g : ℕ → State) (m n : ℕ) (d : Declaration) (p : Pending) (c : Claimed) (owed : ℕ → ℕ → ℤ) → Kept h f m owed → 1 ≤ n → n ≤ 16 → f n ≡ state.Declared d → ((k : ℕ) → g k ≡ changed n (state.Claimed d p) f k) → c ≡ claim_of n d p → Kept (claimed c ∷ h) g m owed
kept_claimed h f g m n d p c owed k lo hi was new figures =
    record {
      count = k.count;
      serial = λ j a b.
          ⊎_elim
          (λ (e : j ≡ n). rw e (ap serial_in (here f g n (state.Claimed d p) new) ∙ sym (ap serial_in was) ∙ k.serial n lo hi))
          (λ (e : j ≢ n). ap serial_in (there f g n (state.Claimed d p) new j e) ∙ k.serial j a b)
          (cases_eq j n);
      regions = λ j a b l.
          ⊎_elim
          (λ (e : j ≡ n). rw e (ap regions_in (here f g n (state.Claimed d p) new) ∙ sym (ap regions_in was) ∙ k.regions n lo hi (subst (λ i. 1 ≤ standing h i) e l)))
          (λ (e : j ≢ n). ap regions_in (there f g n (state.Claimed d p) new j e) ∙ k.regions j a b l)
          (cases_eq j n);
      claim = λ j a b.
          ⊎_elim
          (λ (e : j ≡ n).
          subst
          (λ i. held_in i (g i) ≡ of_number i (c ∷ still_open h))
          (sym e)
          (ap (held_in n) (here f g n (state.Claimed d p) new)
          ∙ ap (λ x. x ∷ []) (sym figures)
          ∙ ap (λ xs. c ∷ xs) (sym (of_free h f m owed k n lo hi (ap (held_in n) was)))
          ∙ sym (cond-true (eqb c.number n) (c ∷ of_number n (still_open h)) (of_number n (still_open h)) (eq-eqb c.number n (ap number figures)))))
          (λ (e : j ≢ n).
          ap (held_in j) (there f g n (state.Claimed d p) new j e)
          ∙ k.claim j a b
          ∙ sym (cond-false (eqb c.number j) (c ∷ of_number j (still_open h)) (of_number j (still_open h)) (ne_eqb c.number j (λ x. e (sym x ∙ ap number figures)))))
          (cases_eq j n);
      owes = k.owes;
      accounted = λ s. omega (arith, k.accounted s);
      fresh = k.fresh;
      weighed = k.weighed;
    }
  where
    number : Claimed → ℕ
    number x = x.number

-- a claim that ends, whether recovered or handed back
module _ (h : History) (f g : ℕ → State) (m n : ℕ) (d e : Declaration) (p : Pending) (c : Claimed) (owed : ℕ → ℕ → ℤ) (k : Kept h f m owed) (lo : 1 ≤ n) (hi : n ≤ 16) (was : f n ≡ state.Claimed d p) (ser : e.serial ≡ d.serial) (reg : e.regions ≡ d.regions) (new : (j : ℕ) → g j ≡ changed n (state.Declared e) f j) (figures : c ≡ claim_of n d p) where
  ended_serial : (j : ℕ) → 1 ≤ j → j ≤ 16 → serial_in (g j) ≡ standing h j
  ended_serial j a b =
      ⊎_elim
      (λ (x : j ≡ n). rw x (ap serial_in (here f g n (state.Declared e) new) ∙ ser ∙ sym (ap serial_in was) ∙ k.serial n lo hi))
      (λ (x : j ≢ n). ap serial_in (there f g n (state.Declared e) new j x) ∙ k.serial j a b)
      (cases_eq j n)

  ended_regions : (j : ℕ) → 1 ≤ j → j ≤ 16 → 1 ≤ standing h j → regions_in (g j) ≡ regions_of h (standing h j)
  ended_regions j a b l =
      ⊎_elim
      (λ (x : j ≡ n). rw x (ap regions_in (here f g n (state.Declared e) new) ∙ reg ∙ sym (ap regions_in was) ∙ k.regions n lo hi (subst (λ i. 1 ≤ standing h i) x l)))
      (λ (x : j ≢ n). ap regions_in (there f g n (state.Declared e) new j x) ∙ k.regions j a b l)
      (cases_eq j n)

  ended_claim : (j : ℕ) → 1 ≤ j → j ≤ 16 → held_in j (g j) ≡ of_number j (not_of c.number (still_open h))
  ended_claim j a b =
      ⊎_elim
      (λ (x : j ≡ n). rw x (ap (held_in n) (here f g n (state.Declared e) new) ∙ sym (ap (λ i. of_number n (not_of i (still_open h))) (ap number figures) ∙ of_none n (still_open h))))
      (λ (x : j ≢ n).
      ap (held_in j) (there f g n (state.Declared e) new j x)
      ∙ k.claim j a b
      ∙ sym (ap (λ i. of_number j (not_of i (still_open h))) (ap number figures) ∙ of_others j n (still_open h) x))
      (cases_eq j n)
    where
      number : Claimed → ℕ
      number y = y.number

  -- its part was open before
  ended_ticks : (s : ℕ) → ticks s (still_open h) ≡ ticks s (not_of c.number (still_open h)) + cond (eqb c.serial s) c.part 0
  ended_ticks s =
      let only : of_number c.number (still_open h) ≡ c ∷ [] = ap (λ i. of_number i (still_open h)) (ap number figures) ∙ sym (k.claim n lo hi) ∙ ap (held_in n) was ∙ ap (λ y. y ∷ []) (sym figures) in
      let one : ticks s (of_number c.number (still_open h)) ≡ cond (eqb c.serial s) c.part 0 + 0 = ap (ticks s) only in
      omega (arith, ticks_parted s c.number (still_open h), one)
    where
      number : Claimed → ℕ
      number y = y.number

  pub kept_returned : Kept (returned c ∷ h) g m owed
  kept_returned =
      record {
        count = k.count;
        serial = ended_serial;
        regions = ended_regions;
        claim = ended_claim;
        owes = k.owes;
        accounted = λ s. omega (arith, k.accounted s, ended_ticks s);
        fresh = k.fresh;
        weighed = k.weighed;
      }

  -- the serial of the claim is the one its number stands for
  claim_serial : c.serial ≡ standing h n
  claim_serial = ap serial_of figures ∙ sym (ap serial_in was) ∙ k.serial n lo hi
    where
      serial_of : Claimed → ℕ
      serial_of y = y.serial

  claim_regions : 1 ≤ d.serial → d.regions ≡ regions_of h c.serial
  claim_regions l =
      sym (ap regions_in was) ∙ k.regions n lo hi (subst (λ i. 1 ≤ i) (sym (ap serial_in was) ∙ k.serial n lo hi) l) ∙ ap (regions_of h) (sym claim_serial)

  pub kept_recovered : (fac : Factors) (kwh : ℕ → ℕ → ℕ) (after : ℕ → ℕ → ℤ) → 1 ≤ d.serial → 0 < cmpf d.regions (basis_of c.part fac kwh) + crmpf d.regions (basis_of c.part fac kwh) → ((q s : ℕ) → after q s ≡ lowered (share_paid d.regions (basis_of c.part fac kwh)) 64 c.serial owed q s) → Kept (recovered c fac kwh ∷ h) g m after
  kept_recovered fac kwh after l some amounts =
      record {
        count = k.count;
        serial = ended_serial;
        regions = ended_regions;
        claim = ended_claim;
        owes = λ q s a lo' hi'.
            ⊎_elim
            (λ (x : c.serial ≡ s).
            amounts q s
            ∙ ap (λ t. owed q s +ℤ cond t (neg_ℤ (pos (share_paid d.regions (basis_of c.part fac kwh) q))) (pos 0)) (and_from (eqb s c.serial) (ltb q 64) (eq-eqb s c.serial (sym x)) (lt-ltb q 64 a))
            ∙ ap (λ z. z +ℤ neg_ℤ (pos (share_paid d.regions (basis_of c.part fac kwh) q))) (k.owes q s a lo' hi')
            ∙ ap (λ A. neg_ℤ (pos (paid (regions_of h s) (recoveries h s) q)) +ℤ neg_ℤ (pos (share_paid A (basis_of c.part fac kwh) q))) (claim_regions l ∙ ap (regions_of h) x)
            ∙ both (paid (regions_of h s) (recoveries h s) q) (share_paid (regions_of h s) (basis_of c.part fac kwh) q)
            ∙ ap (λ bs. neg_ℤ (pos (paid (regions_of h s) bs q))) (sym (cond-true (eqb c.serial s) (basis_of c.part fac kwh ∷ recoveries h s) (recoveries h s) (eq-eqb c.serial s x))))
            (λ (x : c.serial ≢ s).
            amounts q s
            ∙ ap (λ t. owed q s +ℤ cond t (neg_ℤ (pos (share_paid d.regions (basis_of c.part fac kwh) q))) (pos 0)) (and_left (eqb s c.serial) (ltb q 64) (ne_eqb s c.serial (λ y. x (sym y))))
            ∙ none (owed q s)
            ∙ k.owes q s a lo' hi'
            ∙ ap (λ bs. neg_ℤ (pos (paid (regions_of h s) bs q))) (sym (cond-false (eqb c.serial s) (basis_of c.part fac kwh ∷ recoveries h s) (recoveries h s) (ne_eqb c.serial s x))))
            (cases_eq c.serial s);
        accounted = λ s. omega (arith, k.accounted s, ended_ticks s);
        fresh = λ s a.
            let below : standing h n ≤ serials h = standing_most h n in
            cond-false (eqb c.serial s) (basis_of c.part fac kwh ∷ recoveries h s) (recoveries h s) (ne_eqb c.serial s (λ x. over c.serial (standing h n) (serials h) s claim_serial below a x)) ∙ k.fresh s a;
        weighed = λ s.
            ⊎_elim
            (λ (x : c.serial ≡ s).
            subst
            (Each (λ b. 0 < cmpf (regions_of h s) b + crmpf (regions_of h s) b))
            (sym (cond-true (eqb c.serial s) (basis_of c.part fac kwh ∷ recoveries h s) (recoveries h s) (eq-eqb c.serial s x)))
            (subst (λ A. 0 < cmpf A (basis_of c.part fac kwh) + crmpf A (basis_of c.part fac kwh)) (claim_regions l ∙ ap (regions_of h) x) some, k.weighed s))
            (λ (x : c.serial ≢ s).
            subst
            (Each (λ b. 0 < cmpf (regions_of h s) b + crmpf (regions_of h s) b))
            (sym (cond-false (eqb c.serial s) (basis_of c.part fac kwh ∷ recoveries h s) (recoveries h s) (ne_eqb c.serial s x)))
            (k.weighed s))
            (cases_eq c.serial s);
      }
    where
      both : (a b : ℕ) → neg_ℤ (pos a) +ℤ neg_ℤ (pos b) ≡ neg_ℤ (pos (b + a))
      both a b = omega (arith, ints)

      none : (z : ℤ) → z +ℤ pos 0 ≡ z
      none z = omega (arith, ints)

      over : (x a b y : ℕ) → x ≡ a → a ≤ b → b < y → x ≡ y → ⊥
      over x a b y e f g i = omega (arith, e, f, g, i)
