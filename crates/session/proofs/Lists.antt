-- A list of calls with one call more.
use Rattle.std.proofs.Common.{◌≡◌, ℕ, suc, ◌+◌, ◌<◌, List, [], ◌∷◌, ◌++◌, length, get_or, take, set, Option, sym, refl, ap, ◌∙◌, arith}
use Rattle.std.proofs.lemmas.List.{length-take-le, take_more, take_more_set}
use Rattle.sampling.specs.declared.factors.Factors.{Factors}
use Rattle.book.specs.History.{History}
use Rattle.session.specs.declared.call.Answer.{Answer}
use Rattle.session.specs.declared.call.Call.{Call}
use Rattle.session.specs.Runs.{event_of, run_through}

run_one : (cs : List Call) (bs : List Answer) (c : Call) (b : Answer) (f : Option Factors) (e : ℕ → ℕ → ℕ) (h : History) → length cs ≡ length bs → run_through (cs ++ (c ∷ [])) (bs ++ (b ∷ [])) f e h ≡ event_of c b f e ∷ run_through cs bs f e h
run_one [] [] c b f e h l = refl
run_one [] (x ∷ bs) c b f e h l = absurd (let z : suc (length bs) ≡ 0 = sym l in no (length bs) z)
  where
    no : (n : ℕ) → suc n ≡ 0 → ⊥
    no n z = omega (arith, z)
run_one (y ∷ cs) [] c b f e h l = absurd (no (length cs) l)
  where
    no : (n : ℕ) → suc n ≡ 0 → ⊥
    no n z = omega (arith, z)
run_one (y ∷ cs) (x ∷ bs) c b f e h l = run_one cs bs c b f e (event_of y x f e ∷ h) (less (length cs) (length bs) l)
  where
    less : (m n : ℕ) → suc m ≡ suc n → m ≡ n
    less m n z = omega (arith, z)

pub run_more : (cs : List Call) (bs : List Answer) (k : ℕ) (d : Call) (b : Answer) (f : Option Factors) (e : ℕ → ℕ → ℕ) (h : History) → length bs ≡ length cs → k < length cs → run_through (take (k + 1) cs) (take (k + 1) (set bs k b)) f e h ≡ event_of (get_or cs k d) b f e ∷ run_through (take k cs) (take k bs) f e h
run_more cs bs k d b f e h l m =
    ap (λ x. run_through x (take (k + 1) (set bs k b)) f e h) (take_more cs k d m)
    ∙ ap (λ x. run_through (take k cs ++ (get_or cs k d ∷ [])) x f e h) (take_more_set bs k b (omega (arith, l, m)))
    ∙ run_one (take k cs) (take k bs) (get_or cs k d) b f e h (length-take-le k cs (omega (arith, m)) ∙ sym (length-take-le k bs (omega (arith, l, m))))
