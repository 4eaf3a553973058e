-- What an array holds that is made by a call at each place.
use Rattle.std.specs.Prelude.{◌≡◌, ◌≢◌, ℕ, zero, suc, ◌+◌, ◌<◌, ◌≤◌, List, slice_index_or}
use Rattle.std.proofs.Common.{arith, sym, subst, ⊎_elim}
use Rattle.std.proofs.lemmas.Bool.{cases_eq}
use Rattle.std.specs.Array.{IsFromFnResultFrom, IsFromFnResult}
use Rattle.std.specs.Fn.{Called}
use denote.Param.Members.{Mut}

-- calls that leave the closure as it is, from an index on
calls_from : {F B : Type 0} (g : Mut F (ℕ × Unit {0}) B) (P : ℕ → B → Type 0) (f : F) → ((i : ℕ) (y : B) (q : F) → Called g f (i, tt) y q → P i y × (q ≡ f))
    → (ys : List B) (n i : ℕ) → IsFromFnResultFrom g f ys i n → (j : ℕ) (e : B) → i ≤ j → j < i + n → P j (slice_index_or ys j e)
calls_from g P f each ys zero i h j e low high = absurd (omega arith)
calls_from {F} {B} g P f each ys (suc n) i h j e low high =
    let here = each i h.1 h.0 h.3 in
    ⊎_elim
    (λ (s : j ≡ i). subst (λ (m : ℕ). P m (slice_index_or ys m e)) (sym s) (subst (λ (y : B). P i y) (sym (h.2.1 e)) here.0))
    (λ (s : j ≢ i). calls_from g P f each ys n (i + 1) (subst (λ (q : F). IsFromFnResultFrom g q ys (i + 1) n) here.1 h.4) j e (omega arith) (omega arith))
    (cases_eq j i)

-- what each call gives, where no call changes the closure
pub made_at : {F B : Type 0} (g : Mut F (ℕ × Unit {0}) B) (P : ℕ → B → Type 0) (f : F) → ((i : ℕ) (y : B) (q : F) → Called g f (i, tt) y q → P i y × (q ≡ f))
    → (ys : List B) (n : ℕ) → IsFromFnResult g f ys n → (k : ℕ) (e : B) → k < n → P k (slice_index_or ys k e)
made_at g P f each ys n h k e l = calls_from g P f each ys n 0 h.each k e (omega arith) (omega arith)
