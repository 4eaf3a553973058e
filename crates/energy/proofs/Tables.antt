-- A table of figures: one figure more, none at all, and all of a source.
use Rattle.std.proofs.Common.{◌≡◌, ℕ, ◌+◌, ◌<◌, ◌≤◌, Bool, true, false, cond, eqb, ◌≢◌, List, [], length, get_or, set, replicate, sym, ap, ◌∙◌, ⊎_elim, arith, eq-eqb, ne_eqb}
use Rattle.std.proofs.lemmas.List.{get_or-set_same, get_or-set_other, get_or-replicate, get_or_past, length-replicate}
use Rattle.std.proofs.lemmas.Bool.{cases_eq, cases_lt}
use Rattle.foundation.specs.Sums.{sum_to}
use Rattle.foundation.proofs.Sums.{sum_to_add, sum_to_cond, sum_to_eq, sum_to_single, sum_to_zero}
use Rattle.energy.specs.Energy.{in_region, grand}
use Rattle.energy.specs.Table.{figure_of, bumped}
use Rattle.energy.specs.Totals.{region_is, grand_is}

-- v more for one party in one region is v more in all
pub bumped_region : (p r v : ℕ) (f : ℕ → ℕ → ℕ) (s : ℕ) → p < 64 → in_region (bumped p r v f) s ≡ in_region f s + cond (eqb s r) v 0
bumped_region p r v f s l =
    region_is (bumped p r v f) s
    ∙ sum_to_add 64 (λ q. f q s) (λ q. cond (eqb s r) (cond (eqb q p) v 0) 0)
    ∙ ap (λ n. sum_to 64 (λ q. f q s) + n) (sum_to_cond (eqb s r) 64 (λ q. cond (eqb q p) v 0) ∙ ap (λ n. cond (eqb s r) n 0) (sum_to_single 64 p v l))
    ∙ ap (λ n. n + cond (eqb s r) v 0) (sym (region_is f s))

pub bumped_all : (p r v : ℕ) (f : ℕ → ℕ → ℕ) → p < 64 → r < 5 → grand (bumped p r v f) ≡ grand f + v
bumped_all p r v f l m =
    grand_is (bumped p r v f)
    ∙ sum_to_eq 5 (in_region (bumped p r v f)) (λ s. in_region f s + cond (eqb s r) v 0) (λ s h. bumped_region p r v f s l)
    ∙ sum_to_add 5 (in_region f) (λ s. cond (eqb s r) v 0)
    ∙ ap (λ n. n + sum_to 5 (λ s. cond (eqb s r) v 0)) (sym (grand_is f))
    ∙ ap (λ n. grand f + n) (sum_to_single 5 r v m)

nothing : (b : Bool) (n : ℕ) → n + cond b 0 0 ≡ n
nothing true n = omega arith
nothing false n = omega arith

-- one row is raised
pub figure_put : (rows : List (List ℕ)) (row : List ℕ) (p r v : ℕ) → p < length rows → ((s : ℕ) → get_or row s 0 ≡ figure_of rows p s + cond (eqb s r) v 0) → (q s : ℕ) → figure_of (set rows p row) q s ≡ bumped p r v (figure_of rows) q s
figure_put rows row p r v l h q s =
    ⊎_elim
    (λ (e : q ≡ p).
    ap (λ k. get_or (get_or (set rows p row) k []) s 0) e
    ∙ ap (λ x. get_or x s 0) (get_or-set_same rows p row [] l)
    ∙ h s
    ∙ sym (ap (λ b. figure_of rows q s + cond (eqb s r) (cond b v 0) 0) (eq-eqb q p e) ∙ ap (λ k. figure_of rows k s + cond (eqb s r) v 0) e))
    (λ (e : q ≢ p).
    ap (λ x. get_or x s 0) (get_or-set_other rows p q row [] e)
    ∙ sym (ap (λ b. figure_of rows q s + cond (eqb s r) (cond b v 0) 0) (ne_eqb q p e) ∙ nothing (eqb s r) (figure_of rows q s)))
    (cases_eq q p)

-- no figure at all
abbrev zeros : ℕ → List ℕ
zeros n = replicate n 0

zero_row : (n r : ℕ) → get_or (zeros n) r 0 ≡ 0
zero_row n r =
    ⊎_elim
    (λ (l : r < n). get_or-replicate n r 0 0 l)
    (λ (l : n ≤ r). get_or_past (zeros n) r 0 (omega (arith, length-replicate {A = ℕ} n 0)))
    (cases_lt r n)

pub zero_figures : (n m p r : ℕ) → figure_of (replicate n (zeros m)) p r ≡ 0
zero_figures n m p r =
    ⊎_elim
    (λ (l : p < n). ap (λ x. get_or x r 0) (get_or-replicate n p (zeros m) [] l) ∙ zero_row m r)
    (λ (l : n ≤ p). ap (λ x. get_or x r 0) (get_or_past (replicate n (zeros m)) p [] (omega (arith, length-replicate n (zeros m)))))
    (cases_lt p n)

pub grand_zero : (f : ℕ → ℕ → ℕ) → ((p r : ℕ) → f p r ≡ 0) → grand f ≡ 0
grand_zero f h = grand_is f ∙ sum_to_zero 5 (in_region f) (λ r l. region_is f r ∙ sum_to_zero 64 (λ p. f p r) (λ p m. h p r))
