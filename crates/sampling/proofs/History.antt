-- Each call leads from what a sampling has gone through to that with the call added.
use Rattle.std.proofs.Common.{◌≡◌, ℕ, suc, ◌<◌, Bool, cond, ◌||◌, eqb, List, [], ◌∷◌, map, length, ◌+ℤ◌, Some, None, vec_items, vec_len, Option, sym, ap, ◌∙◌, arith, lit<}
use Rattle.std.proofs.lemmas.List.{length-map}
use Rattle.foundation.specs.Fault.{Refused}
use Rattle.foundation.specs.First.{silent, all_to}
use Rattle.foundation.specs.Sums.{sum_to, sum_to_int}
use Rattle.foundation.proofs.First.{all_to_eq}
use Rattle.foundation.proofs.Shares.{share_eq}
use Rattle.foundation.proofs.Sums.{sum_to_eq, sum_to_int_eq}
use Rattle.sampling.specs.declared.category.Category.{Category}
use Rattle.sampling.specs.declared.category.Category.TheVariants.{RaiseNotEnabled, RaiseEnabled, LowerNotEnabled, LowerEnabled}
use Rattle.sampling.specs.declared.factors.Factors.{Factors}
use Rattle.sampling.specs.declared.state.Sampling.{Sampling}
use Rattle.sampling.specs.Accepted.{meets}
use Rattle.sampling.specs.Factors.{Published}
use Rattle.sampling.specs.History.{Event, Gone, registered, offered, owners_in, accepted, next, total_in, sampled_in}
use Rattle.sampling.specs.Interval.{after, in_samples, interval_fault}
use Rattle.sampling.specs.Records.{interval_at}
use Rattle.sampling.specs.Registration.{registration_fault}
use Rattle.sampling.specs.Units.{Added, added_by, new_unit, owner_at, sum_at, sampled}
use Rattle.sampling.specs.Weights.{Sampled, part, subtotal, loss, weight, units_in, ready_fault}
use Rattle.sampling.proofs.Accepted.{silent_interval, some_units}
use Rattle.sampling.proofs.Registration.{none_before}
use Rattle.sampling.proofs.Units.{new_at, new_sum}

pub gone_registered : (h : List Event) (s t : Sampling) (os : List ℕ) → Gone h s → registration_fault (vec_len s.units) os ≡ None → vec_items t.units ≡ map new_unit os → t.used ≡ s.used → t.last ≡ s.last → Gone (registered os ∷ h) t
gone_registered h s t os g none new used last =
    let nothing : accepted h ≡ [] = g.idle (sym g.many ∙ none_before (vec_len s.units) os none) in
    record {
      many = omega (arith, t.units.ok.0, ap length new, length-map os new_unit);
      owners = λ u. ap (λ us. owner_at us u) new ∙ ap (λ x. x.owner) (new_at os u);
      count = used ∙ g.count;
      last = ap after last ∙ g.last;
      sums = λ u c l. ap (λ us. sum_at us u c) new ∙ new_sum os u c ∙ sym (ap (λ bs. total_in bs u c) nothing);
      idle = λ e. nothing;
    }

-- whether an interval is accepted, as the sampling judged it
judged : (h : List Event) (s : Sampling) (b : List ℕ) → Gone h s → silent (interval_fault (vec_len s.units) (after s.last) b) ≡ meets (length (owners_in h)) (next (accepted h)) b
judged h s b g = ap (λ n. silent (interval_fault n (after s.last) b)) g.many ∙ ap (λ m. silent (interval_fault (length (owners_in h)) m b)) g.last ∙ silent_interval (length (owners_in h)) (next (accepted h)) b

pub gone_refused : (h : List Event) (s : Sampling) (b : List ℕ) (f : Refused) → Gone h s → Some f ≡ interval_fault (vec_len s.units) (after s.last) b → Gone (offered b ∷ h) s
gone_refused h s b f g e =
    let same : accepted (offered b ∷ h) ≡ accepted h = ap (λ t. cond t (b ∷ accepted h) (accepted h)) (sym (judged h s b g) ∙ ap silent (sym e)) in
    record {
      many = g.many;
      owners = g.owners;
      count = g.count ∙ ap length (sym same);
      last = g.last ∙ ap next (sym same);
      sums = λ u c l. g.sums u c l ∙ ap (λ bs. total_in bs u c) (sym same);
      idle = λ z. same ∙ g.idle z;
    }

pub gone_added : (h : List Event) (s t : Sampling) (b : List ℕ) → Gone h s → None ≡ interval_fault (vec_len s.units) (after s.last) b → Added b (vec_items s.units) (vec_items t.units) → t.used ≡ suc s.used → after t.last ≡ suc (interval_at b) → Gone (offered b ∷ h) t
gone_added h s t b g e added used last =
    let more : accepted (offered b ∷ h) ≡ b ∷ accepted h = ap (λ k. cond k (b ∷ accepted h) (accepted h)) (sym (judged h s b g) ∙ ap silent (sym e)) in
    let long : length (vec_items s.units) ≡ length (owners_in h) = omega (arith, s.units.ok.0, g.many) in
    record {
      many = omega (arith, t.units.ok.0, added.many, long);
      owners = λ u. added.owners u ∙ g.owners u;
      count = used ∙ ap suc g.count ∙ ap length (sym more);
      last = last ∙ ap next (sym more);
      sums = λ u c l. added.sums u c (omega arith) ∙ ap (λ z. z +ℤ added_by b u c) (g.sums u c l) ∙ ap (λ bs. total_in bs u c) (sym more);
      idle = λ z. absurd (some_units (vec_len s.units) (after s.last) b (sym e) (g.many ∙ z));
    }

-- two samplings that came to the same
pub record Same (s t : Sampled) : Type 0 where
  pub units : s.units ≡ t.units
  pub owner : (u : ℕ) → s.owner u ≡ t.owner u
  pub sum : (u : ℕ) (c : Category) → u < s.units → s.sum u c ≡ t.sum u c
  pub used : s.used ≡ t.used

pub gone_same : (h : List Event) (s : Sampling) → Gone h s → Same (sampled (vec_items s.units) s.used) (sampled_in h)
gone_same h s g = record {
  units = omega (arith, s.units.ok.0, g.many);
  owner = g.owners;
  sum = λ u c l. g.sums u c (omega (arith, s.units.ok.0, g.many));
  used = g.count;
}

subtotal_same : (s t : Sampled) → Same s t → (o : ℕ) (c : Category) → subtotal s o c ≡ subtotal t o c
unfolding subtotal
subtotal_same s t e o c =
    sum_to_int_eq s.units _ _ (λ u l. rw (e.owner u, e.sum u c l, e.used))
    ∙ ap (λ n. sum_to_int n (λ u. part (t.owner u) o (t.sum u c) t.used)) e.units

weight_same : (s t : Sampled) → Same s t → (o : ℕ) → weight s o ≡ weight t o
unfolding weight
weight_same s t e o =
    omega (
      arith,
      ap loss (subtotal_same s t e o RaiseNotEnabled),
      ap loss (subtotal_same s t e o RaiseEnabled),
      ap loss (subtotal_same s t e o LowerNotEnabled),
      ap loss (subtotal_same s t e o LowerEnabled),
    )

units_same : (s t : Sampled) → Same s t → (o : ℕ) → units_in s o ≡ units_in t o
unfolding units_in
units_same s t e o =
    sum_to_eq s.units _ _ (λ u l. ap (λ n. cond (eqb n o) 1 0) (e.owner u))
    ∙ ap (λ n. sum_to n (λ u. cond (eqb (t.owner u) o) 1 0)) e.units

pub published_same : (s t : Sampled) (f : Factors) → Same s t → Published s f → Published t f
published_same s t f e p =
    let factors = share_eq 1000000 65 (weight s) (weight t) (λ o l. weight_same s t e o) in
    record {
      factor = λ q l. p.factor q l ∙ factors q (omega arith);
      residual = p.residual ∙ factors 64 (lit< tt);
      units = λ o l. p.units o l ∙ units_same s t e o;
    }

-- the fault of a sampling, by whether it has units, intervals and a weight
abbrev fault_by : Bool → Bool → Bool → Option Refused
fault_by units used weights = cond (units || used) (Some (in_samples 6 0)) (cond weights (Some (in_samples 7 0)) None)

pub ready_same : (s t : Sampled) → Same s t → ready_fault s ≡ ready_fault t
unfolding ready_fault
ready_same s t e =
    let weights : Bool = all_to 65 (λ o. eqb (weight s o) 0) in
    ap (λ n. fault_by (eqb n 0) (eqb s.used 0) weights) e.units
    ∙ ap (λ n. fault_by (eqb t.units 0) (eqb n 0) weights) e.used
    ∙ ap (fault_by (eqb t.units 0) (eqb t.used 0)) (all_to_eq 65 (λ o. eqb (weight s o) 0) (λ o. eqb (weight t o) 0) (λ o l. ap (λ n. eqb n 0) (weight_same s t e o)))
