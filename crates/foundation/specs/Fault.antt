-- A refusal as operators read it: three numbers.
use Rattle.std.specs.Prelude.{ℕ, Bool, true, false, Some, None, Ok, Err, Option, Result}
use Rattle.foundation.specs.declared.fault.Refusal.{Refusal}
use Rattle.foundation.specs.declared.fault.Refusal.TheVariants.{WrongLength, OutOfRange, MissingSample, Repeated, UnexpectedUnit, NothingSampled, NoWeight, AlreadyDeclared, NotDeclared, TooManyDeclarations, ClaimOpen, RegionNotDeclared, WrongPart, NoPart, PaymentTooLarge, ClaimNotOpen, NobodyToPay, TooFewLines, TooMuchEnergy, NoMemory}
use Rattle.foundation.specs.declared.fault.Layer.{Layer}
use Rattle.foundation.specs.declared.fault.Layer.TheVariants.{Samples, Energies, Book, Ledger}
use Rattle.foundation.specs.declared.fault.Fault.{Fault}

-- the number of each reason
abbrev pub number_of : Refusal → ℕ
number_of WrongLength = 1
number_of OutOfRange = 2
number_of MissingSample = 3
number_of Repeated = 4
number_of UnexpectedUnit = 5
number_of NothingSampled = 6
number_of NoWeight = 7
number_of AlreadyDeclared = 8
number_of NotDeclared = 9
number_of TooManyDeclarations = 10
number_of ClaimOpen = 11
number_of RegionNotDeclared = 12
number_of WrongPart = 13
number_of NoPart = 14
number_of PaymentTooLarge = 15
number_of ClaimNotOpen = 16
number_of NobodyToPay = 17
number_of TooFewLines = 18
number_of TooMuchEnergy = 19
number_of NoMemory = 0

-- the number of each layer
abbrev pub layer_number : Layer → ℕ
layer_number Samples = 1
layer_number Energies = 2
layer_number Book = 3
layer_number Ledger = 4

-- a refusal by its number, its layer's number and its place
pub record Refused : Type 0 where
  pub number : ℕ
  pub layer : ℕ
  pub place : ℕ

abbrev pub told : Fault → Refused
told f = record { number = number_of f.refusal; layer = layer_number f.layer; place = f.place }

-- what an answer says: nothing where the call was carried out, else the refusal
abbrev pub refusal : {A : Type 0} → Result A Fault → Option Refused
refusal (Ok a) = None
refusal (Err f) = Some (told f)

-- a refusal in a layer
abbrev pub refused_in : (layer number place : ℕ) → Refused
refused_in layer number place = record { number = number; layer = layer; place = place }

-- that refusal, unless the test holds
abbrev pub unless_in : (layer : ℕ) → Bool → (number place : ℕ) → Option Refused
unless_in layer true number place = None
unless_in layer false number place = Some (refused_in layer number place)
