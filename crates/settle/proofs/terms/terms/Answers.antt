use Rattle.std.proofs.Common.{rules}
use Rattle.settle.specs.Terms.{ClaimTerms}
use Rattle.settle.proofs.terms.terms.Goals as goal

pub returns-in_err-terms : goal.returns-in_err-terms
unfolding ClaimTerms
returns-in_err-terms c = search rules

pub returns : goal.returns
unfolding ClaimTerms
returns c = (c.as_slice.result.now, (rw c.as_slice.ensures.value c.in_ok-terms.ensures, c.first_of.ensures.items, c.first_of.ensures.count))
