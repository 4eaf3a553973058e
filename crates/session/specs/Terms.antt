-- The terms that a call holds.
use Rattle.std.specs.Prelude.{◌-◌, List, ◌++◌, length, take, replicate}
use Rattle.book.specs.declared.term.Term.{Term}

abbrev pub no_term : Term
no_term = record { region = 0; service = 0; amount = 0 }

-- the first eleven terms, and 0 in all others
abbrev pub first_terms : List Term → List Term
first_terms ts = take 11 ts ++ replicate (11 - length ts) no_term
