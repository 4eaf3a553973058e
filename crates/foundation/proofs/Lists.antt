-- Sums and tests of a list, said by its places.
use Rattle.std.specs.Prelude.{◌≡◌, ℕ, zero, suc, ◌+◌, ◌<◌, Bool, true, false, cond, not, ◌&&◌, ◌||◌, ◌≤◌, List, [], ◌∷◌, length, Some, None, Option, sum, sum_by, slice_index_or}
use Rattle.std.specs.List.{list_all, list_any, position, position_or_len}
use Rattle.std.specs.Option.{option_map}
use Rattle.std.proofs.Common.{refl, ap, ◌∙◌, sym, ⊎_elim, arith}
use Rattle.std.proofs.Math.Bool.{and_assoc, and-true}
use Rattle.std.proofs.lemmas.List.Sums.{sum_by-cons, fails_before_first, passes_at_first}
use Rattle.std.proofs.lemmas.Bool.{cases_lt, lt-ltb, le-ltb}
use Rattle.foundation.specs.Sums.{sum_to, listed}
use Rattle.foundation.specs.First.{all_to, first_to, or_else}
use Rattle.foundation.proofs.Sums.{sum_to_none, sum_to_more}
use Rattle.foundation.proofs.First.{first_to_none, first_to_more, first_to_at, first_to_all, all_to_none, all_to_more}

-- the first place apart from the others
pub sum_to_first : (n : ℕ) (f : ℕ → ℕ) → sum_to (suc n) f ≡ f 0 + sum_to n (λ k. f (suc k))
sum_to_first zero f = omega (arith, sum_to_more 0 f, sum_to_none f, sum_to_none (λ k. f (suc k)))
sum_to_first (suc n) f = omega (arith, sum_to_more (suc n) f, sum_to_first n f, sum_to_more n (λ k. f (suc k)))

pub all_to_first : (n : ℕ) (p : ℕ → Bool) → all_to (suc n) p ≡ (p 0 && all_to n (λ k. p (suc k)))
all_to_first zero p = all_to_more 0 p ∙ ap (λ t. t && p 0) (all_to_none p) ∙ sym (and-true (p 0)) ∙ ap (λ t. p 0 && t) (sym (all_to_none (λ k. p (suc k))))
all_to_first (suc n) p =
    all_to_more (suc n) p ∙ ap (λ t. t && p (suc n)) (all_to_first n p) ∙ and_assoc (p 0) (all_to n (λ k. p (suc k))) (p (suc n))
    ∙ ap (λ t. p 0 && t) (sym (all_to_more n (λ k. p (suc k))))

or_else_assoc : {A : Type 0} (a b c : Option A) → or_else (or_else a b) c ≡ or_else a (or_else b c)
or_else_assoc (Some a) b c = refl
or_else_assoc None b c = refl

or_else_none : {A : Type 0} (a : Option A) → or_else a None ≡ a
or_else_none (Some a) = refl
or_else_none None = refl

pub first_to_first : {A : Type 0} (n : ℕ) (f : ℕ → Option A) → first_to (suc n) f ≡ or_else (f 0) (first_to n (λ k. f (suc k)))
first_to_first zero f = first_to_more 0 f ∙ ap (λ t. or_else t (f 0)) (first_to_none f) ∙ sym (or_else_none (f 0)) ∙ ap (or_else (f 0)) (sym (first_to_none (λ k. f (suc k))))
first_to_first (suc n) f =
    first_to_more (suc n) f ∙ ap (λ t. or_else t (f (suc n))) (first_to_first n f) ∙ or_else_assoc (f 0) (first_to n (λ k. f (suc k))) (f (suc n))
    ∙ ap (or_else (f 0)) (sym (first_to_more n (λ k. f (suc k))))

-- a sum over the elements of a list, of whatever they are worth
pub sum_by_places : {X : Type 0} (f : X → ℕ) (xs : List X) (d : X) → sum_by f xs ≡ sum_to (length xs) (λ k. f (slice_index_or xs k d))
sum_by_places f [] d = sym (sum_to_none (λ k. f (slice_index_or [] k d)))
sum_by_places f (x ∷ xs) d =
    sum_by-cons f x xs ∙ ap (λ s. f x + s) (sum_by_places f xs d) ∙ sym (sum_to_first (length xs) (λ k. f (slice_index_or (x ∷ xs) k d)))

pub sum_places : (xs : List ℕ) → sum xs ≡ sum_to (length xs) (listed xs)
sum_places xs = sum_by_places (λ x. x) xs 0

pub all_places : {X : Type 0} (p : X → Bool) (xs : List X) (d : X) → list_all p xs ≡ all_to (length xs) (λ k. p (slice_index_or xs k d))
all_places p [] d = sym (all_to_none (λ k. p (slice_index_or [] k d)))
all_places p (x ∷ xs) d = ap (λ t. p x && t) (all_places p xs d) ∙ sym (all_to_first (length xs) (λ k. p (slice_index_or (x ∷ xs) k d)))

not_and : (a b : Bool) → (not a || not b) ≡ not (a && b)
not_and true b = refl
not_and false b = refl

-- an element that does not pass stands somewhere unless all pass
pub any_places : {X : Type 0} (p : X → Bool) (xs : List X) (d : X) → list_any (λ x. not (p x)) xs ≡ not (all_to (length xs) (λ k. p (slice_index_or xs k d)))
any_places p [] d = ap not (sym (all_to_none (λ k. p (slice_index_or [] k d))))
any_places p (x ∷ xs) d =
    ap (λ t. not (p x) || t) (any_places p xs d) ∙ not_and (p x) (all_to (length xs) (λ k. p (slice_index_or xs k d)))
    ∙ ap not (sym (all_to_first (length xs) (λ k. p (slice_index_or (x ∷ xs) k d))))

-- the finding at the first element that passes
pub position_places : {X A : Type 0} (p : X → Bool) (g : ℕ → A) (xs : List X) (d : X) → option_map g (position p xs) ≡ first_to (length xs) (λ k. cond (p (slice_index_or xs k d)) (Some (g k)) None)
position_places p g xs d =
    ⊎_elim
    (λ (l : position_or_len p xs < length xs).
    ap (λ b. option_map g (cond b (Some (position_or_len p xs)) None)) (lt-ltb (position_or_len p xs) (length xs) l)
    ∙ sym (first_to_at (length xs) (λ k. cond (p (slice_index_or xs k d)) (Some (g k)) None) (position_or_len p xs) (g (position_or_len p xs)) l
    (λ i m. ap (λ b. cond b (Some (g i)) None) (fails_before_first p xs i d m)) (ap (λ b. cond b (Some (g (position_or_len p xs))) None) (passes_at_first p xs d l))))
    (λ (l : length xs ≤ position_or_len p xs).
    ap (λ b. option_map g (cond b (Some (position_or_len p xs)) None)) (le-ltb (position_or_len p xs) (length xs) l)
    ∙ sym (first_to_all (length xs) (λ k. cond (p (slice_index_or xs k d)) (Some (g k)) None) (λ i m. ap (λ b. cond b (Some (g i)) None) (fails_before_first p xs i d (omega arith)))))
    (cases_lt (position_or_len p xs) (length xs))
