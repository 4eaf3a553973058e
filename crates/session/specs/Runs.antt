-- Lists of calls with their answers, as they count in a history.
use Rattle.std.specs.Prelude.{ℕ, List, [], ◌∷◌, Some, None, Option}
use Rattle.sampling.specs.declared.factors.Factors.{Factors}
use Rattle.book.specs.Calls.{figures_of}
use Rattle.book.specs.History.{Event, History, claimed, declared, recovered, refused, returned, withdrawn}
use Rattle.session.specs.declared.call.Answer.{Answer}
use Rattle.session.specs.declared.call.Answer.TheVariants as answer
use Rattle.session.specs.declared.call.Call.{Call}
use Rattle.session.specs.declared.call.Call.TheVariants as call

-- the number that a call names, and the regions that it declares
abbrev pub number_in : Call → ℕ
number_in (call.Declare n k d) = n
number_in (call.Withdraw n) = n
number_in (call.Claim n i v p ts) = n
number_in (call.Recover n) = n
number_in (call.HandBack n) = n

abbrev pub regions_in : Call → ℕ
regions_in (call.Declare n k d) = d
regions_in (call.Withdraw n) = 0
regions_in (call.Claim n i v p ts) = 0
regions_in (call.Recover n) = 0
regions_in (call.HandBack n) = 0

abbrev pub recovered_with : Option Factors → Event → (Factors → Event) → Event
recovered_with None e f = e
recovered_with (Some x) e f = f x

-- a call by its answer, with the factors and energies then
abbrev pub event_of : Call → Answer → Option Factors → (ℕ → ℕ → ℕ) → Event
event_of c (answer.Declared s) f e = declared (number_in c) (regions_in c)
event_of c answer.Withdrawn f e = withdrawn (number_in c)
event_of c (answer.Claimed x) f e = claimed (figures_of x)
event_of c (answer.Recovered x cmpf crmpf lines) f e = recovered_with f refused (λ fs. recovered (figures_of x) fs e)
event_of c (answer.HandedBack x) f e = returned (figures_of x)
event_of c (answer.Refused x) f e = refused
event_of c answer.NoClaim f e = refused
event_of c answer.NoFactors f e = refused

-- a history with the calls of a list, each with its answer
abbrev pub run_through : List Call → List Answer → Option Factors → (ℕ → ℕ → ℕ) → History → History
run_through [] bs f e h = h
run_through (c ∷ cs) [] f e h = h
run_through (c ∷ cs) (b ∷ bs) f e h = run_through cs bs f e (event_of c b f e ∷ h)
