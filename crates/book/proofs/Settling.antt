-- What a book that is kept with a history has settled.
use Rattle.std.proofs.Common.{◌≡◌, ℕ, zero, suc, ◌+◌, ◌<◌, ◌≤◌, Bool, true, false, cond, eqb, List, [], ◌∷◌, ℤ, pos, ◌+ℤ◌, neg_ℤ, sym, refl, ap, ◌∙◌, arith}
use Rattle.std.proofs.lemmas.Int.{ints}
use Rattle.foundation.specs.Sums.{sum_to, sum_to_int}
use Rattle.foundation.proofs.Sums.{sum_to_add, sum_to_more, sum_to_none, sum_to_zero, sum_to_int_eq, sum_to_int_more, sum_to_int_none}
use Rattle.recovery.specs.Shares.{Basis, basis_of, cmpf, crmpf, share_paid}
use Rattle.recovery.proofs.Laws.{exact_divisor, share_alike, share_near, share_nought, shares_whole}
use Rattle.book.specs.declared.state.State.{State}
use Rattle.book.specs.declared.state.State.TheVariants as state
use Rattle.book.specs.History.{History, claimed, declared, paid, recovered, recovered_claims, recoveries, refused, regions_of, returned, standing, ticks, withdrawn}
use Rattle.book.specs.Kept.{Kept, held_in, serial_in}
use Rattle.book.specs.Settled.{AllAlike, Charged, Each, Likened, Settled}

-- the parts of recoveries, added up
abbrev parts_of : List Basis → ℕ
parts_of [] = 0
parts_of (b ∷ bs) = b.part + parts_of bs

ticks_parts : (h : History) (s : ℕ) → ticks s (recovered_claims h) ≡ parts_of (recoveries h s)
ticks_parts [] s = refl
ticks_parts (declared n d ∷ h) s = ticks_parts h s
ticks_parts (withdrawn n ∷ h) s = ticks_parts h s
ticks_parts (claimed c ∷ h) s = ticks_parts h s
ticks_parts (recovered c f e ∷ h) s = one (eqb c.serial s) (ticks_parts h s)
  where
    one : (t : Bool) → ticks s (recovered_claims h) ≡ parts_of (recoveries h s) → cond t c.part 0 + ticks s (recovered_claims h) ≡ parts_of (cond t (basis_of c.part f e ∷ recoveries h s) (recoveries h s))
    one true x = ap (λ n. c.part + n) x
    one false x = omega (arith, x)
ticks_parts (returned c ∷ h) s = ticks_parts h s
ticks_parts (refused ∷ h) s = ticks_parts h s

-- the shares of all parties add up to the parts
paid_whole : (D : ℕ) (bs : List Basis) → Each (λ b. 0 < cmpf D b + crmpf D b) bs → sum_to 64 (paid D bs) ≡ parts_of bs
paid_whole D [] x = sum_to_zero 64 (paid D []) (λ p l. refl)
paid_whole D (b ∷ bs) (x, xs) =
    sum_to_add 64 (share_paid D b) (paid D bs)
    ∙ ap (λ n. n + sum_to 64 (paid D bs)) (shares_whole D b x)
    ∙ ap (λ n. b.part + n) (paid_whole D bs xs)

minus_sum : (n : ℕ) (g : ℕ → ℕ) → sum_to_int n (λ p. neg_ℤ (pos (g p))) ≡ neg_ℤ (pos (sum_to n g))
minus_sum zero g = sum_to_int_none (λ p. neg_ℤ (pos (g p))) ∙ sym (ap (λ m. neg_ℤ (pos m)) (sum_to_none g))
minus_sum (suc n) g =
    sum_to_int_more n (λ p. neg_ℤ (pos (g p)))
    ∙ ap (λ z. z +ℤ neg_ℤ (pos (g n))) (minus_sum n g)
    ∙ both (sum_to n g) (g n)
    ∙ ap (λ m. neg_ℤ (pos m)) (sym (sum_to_more n g))
  where
    both : (a b : ℕ) → neg_ℤ (pos a) +ℤ neg_ℤ (pos b) ≡ neg_ℤ (pos (a + b))
    both a b = omega (arith, ints)

each_of : {A : Type 0} (P Q : A → Type 0) → ((x : A) → P x → Q x) → (xs : List A) → Each P xs → Each Q xs
each_of P Q f [] u = tt
each_of P Q f (x ∷ xs) (p, ps) = (f x p, each_of P Q f xs ps)

under_serial : (n s : ℕ) (st : State) → serial_in st ≡ s → Each (λ c. c.serial ≡ s) (held_in n st)
under_serial n s state.Free e = tt
under_serial n s (state.Declared d) e = tt
under_serial n s (state.Claimed d p) e = (e, tt)

pub settled : (h : History) (f : ℕ → State) (m : ℕ) (owed : ℕ → ℕ → ℤ) → Kept h f m owed → Settled h (λ n. held_in n (f n)) owed
settled h f m owed k =
    record {
      whole = λ s a b.
          sum_to_int_eq 64 (λ p. owed p s) (λ p. neg_ℤ (pos (paid (regions_of h s) (recoveries h s) p))) (λ p l. k.owes p s l a b)
          ∙ minus_sum 64 (paid (regions_of h s) (recoveries h s))
          ∙ ap (λ n. neg_ℤ (pos n)) (paid_whole (regions_of h s) (recoveries h s) (k.weighed s) ∙ sym (ticks_parts h s));
      accounted = k.accounted;
      holds = k.claim;
      under = λ n a b. under_serial n (standing h n) (f n) (k.serial n a b);
      shares = k.owes;
      charged = λ s. each_of _ (Charged (regions_of h s)) (λ b x. record { weighed = x; divisor = λ p l. exact_divisor (regions_of h s) b p l x; near = λ p l. share_near (regions_of h s) b p l x; nought = λ p l. share_nought (regions_of h s) b p l }) (recoveries h s) (k.weighed s);
    }

paid_alike : (D : ℕ) (bs cs : List Basis) → AllAlike bs cs → (p : ℕ) → p < 64 → paid D bs p ≡ paid D cs p
paid_alike D [] [] x p l = refl
paid_alike D [] (c ∷ cs) x p l = absurd x
paid_alike D (b ∷ bs) [] x p l = absurd x
paid_alike D (b ∷ bs) (c ∷ cs) (x, xs) p l = ap (λ n. n + paid D bs p) (share_alike D b c x p l) ∙ ap (λ n. share_paid D c p + n) (paid_alike D bs cs xs p l)

-- two declarations that are alike give every party the same amount
pub same_amounts : (h k : History) (f g : ℕ → State) (m l : ℕ) (owed due : ℕ → ℕ → ℤ) → Kept h f m owed → Kept k g l due → (s t : ℕ) → 1 ≤ s → s ≤ 32 → 1 ≤ t → t ≤ 32 → Likened h s k t → (p : ℕ) → p < 64 → owed p s ≡ due p t
same_amounts h k f g m l owed due x y s t a b c d like p e =
    x.owes p s e a b
    ∙ ap (λ A. neg_ℤ (pos (paid A (recoveries h s) p))) like.regions
    ∙ ap (λ n. neg_ℤ (pos n)) (paid_alike (regions_of k t) (recoveries h s) (recoveries k t) like.each p e)
    ∙ sym (y.owes p t e c d)
