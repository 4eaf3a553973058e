-- Laws of the first finding.
use Rattle.std.proofs.Common.{◌≡◌, ℕ, zero, suc, ◌<◌, ◌≤◌, Bool, true, false, ◌&&◌, Some, None, Option, refl, ap, ◌∙◌, ⊎_elim, arith}
use Rattle.std.proofs.Math.Bool.{and-false}
use Rattle.std.proofs.lemmas.Bool.{cases_lt}
use Rattle.foundation.specs.First.{first_to, or_else, silent, all_to}

no_less : (k : ℕ) → k < 0 → ⊥
no_less k h = omega arith

pub some_none : {A : Type 0} (a : A) → Some a ≡ None → ⊥
some_none a h = let z : ◌≡◌ {A = ℕ} 0 1 = cc in omega arith

pub first_to_none : {A : Type 0} (f : ℕ → Option A) → first_to 0 f ≡ None
unfolding first_to
first_to_none f = refl

pub first_to_more : {A : Type 0} (n : ℕ) (f : ℕ → Option A) → first_to (suc n) f ≡ or_else (first_to n f) (f n)
unfolding first_to
first_to_more n f = refl

pub first_to_all : {A : Type 0} (n : ℕ) (f : ℕ → Option A) → ((k : ℕ) → k < n → f k ≡ None) → first_to n f ≡ None
unfolding first_to
first_to_all zero f h = refl
first_to_all (suc n) f h = rw (first_to_all n f (λ k l. h k (omega arith))) (h n (omega arith))

pub first_to_eq : {A : Type 0} (n : ℕ) (f g : ℕ → Option A) → ((k : ℕ) → k < n → f k ≡ g k) → first_to n f ≡ first_to n g
unfolding first_to
first_to_eq zero f g h = refl
first_to_eq (suc n) f g h = rw (first_to_eq n f g (λ k l. h k (omega arith)), h n (omega arith))

pub first_to_at : {A : Type 0} (n : ℕ) (f : ℕ → Option A) (k : ℕ) (a : A) → k < n → ((i : ℕ) → i < k → f i ≡ None) → f k ≡ Some a → first_to n f ≡ Some a
unfolding first_to
first_to_at zero f k a h before e = absurd (no_less k h)
first_to_at (suc n) f k a h before e =
    ⊎_elim
    (λ (l : k < n). rw (first_to_at n f k a l before e))
    (λ (l : n ≤ k). let same : n ≡ k = omega arith in rw (same, first_to_all k f before) e)
    (cases_lt k n)

pub or_else_left : {A : Type 0} (a b : Option A) → or_else a b ≡ None → a ≡ None
or_else_left (Some a) b h = h
or_else_left None b h = refl

pub or_else_right : {A : Type 0} (a b : Option A) → or_else a b ≡ None → b ≡ None
or_else_right (Some a) b h = absurd (some_none a h)
or_else_right None b h = h

pub first_to_silent : {A : Type 0} (n : ℕ) (f : ℕ → Option A) → first_to n f ≡ None → (k : ℕ) → k < n → f k ≡ None
unfolding first_to
first_to_silent zero f h k l = absurd (no_less k l)
first_to_silent (suc n) f h k l =
    ⊎_elim
    (λ (m : k < n). first_to_silent n f (or_else_left _ _ h) k m)
    (λ (m : n ≤ k). let same : k ≡ n = omega arith in rw same (or_else_right _ _ h))
    (cases_lt k n)

pub silent_or_else : {A : Type 0} (a b : Option A) → silent (or_else a b) ≡ (silent a && silent b)
silent_or_else (Some a) b = refl
silent_or_else None b = refl

-- no finding at all is what each place says
pub silent_first_to : {A : Type 0} (n : ℕ) (f : ℕ → Option A) → silent (first_to n f) ≡ all_to n (λ k. silent (f k))
unfolding first_to all_to
silent_first_to zero f = refl
silent_first_to (suc n) f = silent_or_else (first_to n f) (f n) ∙ ap (λ t. t && silent (f n)) (silent_first_to n f)

pub silent_none : {A : Type 0} (a : Option A) → silent a ≡ true → a ≡ None
silent_none (Some a) h = absurd (let z : ◌≡◌ {A = ℕ} 0 1 = cc in omega arith)
silent_none None h = refl

pub all_to_none : (p : ℕ → Bool) → all_to 0 p ≡ true
unfolding all_to
all_to_none p = refl

pub all_to_more : (n : ℕ) (p : ℕ → Bool) → all_to (suc n) p ≡ (all_to n p && p n)
unfolding all_to
all_to_more n p = refl

pub all_to_eq : (n : ℕ) (p q : ℕ → Bool) → ((k : ℕ) → k < n → p k ≡ q k) → all_to n p ≡ all_to n q
unfolding all_to
all_to_eq zero p q h = refl
all_to_eq (suc n) p q h = rw (all_to_eq n p q (λ k l. h k (omega arith)), h n (omega arith))

pub all_to_all : (n : ℕ) (p : ℕ → Bool) → ((k : ℕ) → k < n → p k ≡ true) → all_to n p ≡ true
unfolding all_to
all_to_all zero p h = refl
all_to_all (suc n) p h = rw (all_to_all n p (λ k l. h k (omega arith))) (h n (omega arith))

pub all_to_bad : (n : ℕ) (p : ℕ → Bool) (k : ℕ) → k < n → p k ≡ false → all_to n p ≡ false
unfolding all_to
all_to_bad zero p k h e = absurd (no_less k h)
all_to_bad (suc n) p k h e =
    ⊎_elim
    (λ (l : k < n). ap (λ t. t && p n) (all_to_bad n p k l e))
    (λ (l : n ≤ k). let same : n ≡ k = omega arith in ap (λ t. all_to n p && t) (ap p same ∙ e) ∙ and-false (all_to n p))
    (cases_lt k n)
