-- An interval is added to one unit after the other.
use Rattle.std.proofs.Common.{◌≡◌, ℕ, zero, suc, ◌+◌, ◌<◌, ◌≤◌, Bool, ◌≢◌, List, [], ◌∷◌, map, length, get_or, set, pos, ◌+ℤ◌, nat_abs, sym, refl, ap, ◌∙◌, ⊎_elim, arith}
use Rattle.std.proofs.lemmas.List.{get_or-set_same, get_or-set_other, get_or_past}
use Rattle.std.proofs.lemmas.Bool.{cases_eq, cases_lt}
use Rattle.foundation.specs.Sums.{sum_to_int}
use Rattle.foundation.proofs.Sums.{sum_to_int_eq, sum_to_int_abs}
use Rattle.sampling.specs.declared.category.Category.{Category}
use Rattle.sampling.specs.declared.category.Category.TheVariants.{RaiseNotEnabled, RaiseEnabled, LowerNotEnabled, LowerEnabled}
use Rattle.sampling.specs.declared.category.Sums.{Sums}
use Rattle.sampling.specs.declared.reader.Record.{Record}
use Rattle.sampling.specs.declared.unit.Unit.{Unit}
use Rattle.sampling.specs.Category.{sum_in}
use Rattle.sampling.specs.Records.{Holds, Inside, value_at, raise_at, lower_at}
use Rattle.sampling.specs.Units.{Added, Bounded, Within, added_by, new_unit, no_unit, owner_at, sum_at}
use Rattle.sampling.proofs.Products.{products_of, product_bound}
use Rattle.foundation.proofs.Signed.{nat_abs_add}

pub within_held : (b : List ℕ) (r m : ℕ) (x : Record) → Holds b r x → length x.values ≡ 75 → ((k : ℕ) → k < 75 → nat_abs (value_at b r k) ≤ m) → Within m x.values
within_held b r m x h long limit k l = omega (arith, ap nat_abs (h.values k (omega arith)), limit k (omega arith))

pub added_held : (b : List ℕ) (u : ℕ) (c : Category) (x y : Record) (raise lower : Bool) → Holds b 0 x → Holds b (suc u) y → raise ≡ raise_at b (suc u) → lower ≡ lower_at b (suc u) → sum_to_int 75 (products_of x.values y.values raise lower c) ≡ added_by b u c
unfolding added_by
added_held b u c x y raise lower h k e f =
    sum_to_int_eq 75 _ _ (λ j l. rw (h.values j l, k.values j l, e, f))

pub added_bound : (n : ℕ) (b : List ℕ) (u : ℕ) (c : Category) → Inside n b → u < n → nat_abs (added_by b u c) ≤ 2340000000
unfolding added_by
added_bound n b u c h l =
    sum_to_int_abs 75 31200000 _ (λ k m. product_bound c (value_at b 0 k) (raise_at b (suc u)) (lower_at b (suc u)) (value_at b (suc u) k) 1560 20000 (h.indicator k m) (h.deviations u k l m))

-- the first u units have the interval's sums
pub record Sofar (b : List ℕ) (before us : List Unit) (u : ℕ) : Type 0 where
  pub owners : (v : ℕ) → owner_at us v ≡ owner_at before v
  pub done : (v : ℕ) (c : Category) → v < u → sum_at us v c ≡ sum_at before v c +ℤ added_by b v c
  pub rest : (v : ℕ) (c : Category) → u ≤ v → sum_at us v c ≡ sum_at before v c

pub one_more : (b : List ℕ) (before us : List Unit) (u : ℕ) (s : Sums) → u < length us → Sofar b before us u → ((c : Category) → sum_in s c ≡ sum_at us u c +ℤ added_by b u c) → Sofar b before (set us u (record { owner = owner_at us u; sums = s })) (u + 1)
one_more b before us u s l h e =
    let new : Unit = record { owner = owner_at us u; sums = s } in
    record {
      owners =
          λ v.
          ⊎_elim
          (λ (q : v ≡ u). ap (owner_at (set us u new)) q ∙ ap (λ x. x.owner) (get_or-set_same us u new no_unit l) ∙ sym (ap (owner_at us) q) ∙ h.owners v)
          (λ (q : v ≢ u). ap (λ x. x.owner) (get_or-set_other us u v new no_unit q) ∙ h.owners v)
          (cases_eq v u);
      done =
          λ v c m.
          ⊎_elim
          (λ (q : v ≡ u). ap (λ w. sum_at (set us u new) w c) q ∙ ap (λ x. sum_in x.sums c) (get_or-set_same us u new no_unit l) ∙ e c ∙ ap (λ z. z +ℤ added_by b u c) (h.rest u c (omega arith)) ∙ ap (λ w. sum_at before w c +ℤ added_by b w c) (sym q))
          (λ (q : v ≢ u). ap (λ x. sum_in x.sums c) (get_or-set_other us u v new no_unit q) ∙ h.done v c (omega arith))
          (cases_eq v u);
      rest = λ v c m. let q : v ≢ u = omega arith in ap (λ x. sum_in x.sums c) (get_or-set_other us u v new no_unit q) ∙ h.rest v c (omega arith);
    }

pub zero_sum : (c : Category) → sum_in no_unit.sums c ≡ pos 0
zero_sum RaiseNotEnabled = refl
zero_sum RaiseEnabled = refl
zero_sum LowerNotEnabled = refl
zero_sum LowerEnabled = refl

pub bounded_more : (b : List ℕ) (used : ℕ) (us ws : List Unit) → Inside (length us) b → Bounded used us → Added b us ws → Bounded (used + 1) ws
bounded_more b used us ws h old new u c =
    ⊎_elim
    (λ (l : u < length us). omega (arith, ap nat_abs (new.sums u c l), nat_abs_add (sum_at us u c) (added_by b u c), old u c, added_bound (length us) b u c h l))
    (λ (l : length us ≤ u). omega (arith, ap (λ x. nat_abs (sum_in x.sums c)) (get_or_past ws u no_unit (omega (arith, new.many))), ap nat_abs (zero_sum c)))
    (cases_lt u (length us))

-- a unit as it is registered
pub new_at : (os : List ℕ) (u : ℕ) → get_or (map new_unit os) u no_unit ≡ new_unit (get_or os u 0)
new_at [] u = refl
new_at (o ∷ os) zero = refl
new_at (o ∷ os) (suc u) = new_at os u

pub new_sum : (os : List ℕ) (u : ℕ) (c : Category) → sum_at (map new_unit os) u c ≡ pos 0
new_sum os u c = ap (λ x. sum_in x.sums c) (new_at os u) ∙ zero_sum c
