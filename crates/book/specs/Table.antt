-- The table of a number's states: when each event is refused in each state, and the state that it leaves.
use Rattle.std.specs.Prelude.{ℕ, suc, Bool, not, ◌&&◌, Some, None, Option, ◌==◌, nat_le, nat_lt}
use Rattle.foundation.specs.Fault.{Refused, refused_in, unless_in}
use Rattle.foundation.specs.First.{or_else}
use Rattle.foundation.specs.declared.fault.Fault.{Fault}
use Rattle.foundation.specs.declared.fault.Layer.TheVariants.{Book}
use Rattle.foundation.specs.declared.fault.Refusal.{Refusal}
use Rattle.book.specs.declared.state.Declaration.{Declaration}
use Rattle.book.specs.declared.state.Kind.{Kind}
use Rattle.book.specs.declared.state.Kind.TheVariants.{Regulation, Delayed}
use Rattle.book.specs.declared.state.State.{State}
use Rattle.book.specs.declared.state.State.TheVariants.{Free, Declared, Claimed}
use Rattle.book.specs.declared.state.table.Event.{Event}
use Rattle.book.specs.declared.state.table.Event.TheVariants.{Declare, Withdraw, Claim, Recover, HandBack}
use Rattle.book.specs.declared.state.table.Proposal.{Proposal}
use Rattle.book.specs.Calls.{not_open, recovered_state, returned_state}
use Rattle.book.specs.States.{after}

-- a refusal of the book that has no place
abbrev pub in_book : Refusal → Fault
in_book r = record { refusal = r; layer = Book; place = 0 }

-- the first term outside the declared regions
abbrev pub outside_fault : Option ℕ → Option Refused
outside_fault None = None
outside_fault (Some k) = Some (refused_in 3 12 k)

abbrev pub is_fitting : Kind → Proposal → Bool
is_fitting Regulation p = not p.delayed && p.part == p.payment
is_fitting Delayed p = nat_le p.part p.payment

abbrev pub proposal_fault : Declaration → Proposal → Option Refused
proposal_fault d p =
    or_else (unless_in 3 (nat_le (after d.last) p.interval.number) 4 0)
    (or_else (outside_fault p.outside)
    (or_else (unless_in 3 (is_fitting d.kind p) 13 0)
    (or_else (unless_in 3 (nat_le p.payment 200000000000) 15 0) (unless_in 3 (nat_le 1 p.part) 14 0))))

abbrev pub table_fault : State → Event → Option Refused
table_fault Free (Declare kind regions made) = unless_in 3 (nat_lt made 32) 10 0
table_fault Free Withdraw = Some (refused_in 3 9 0)
table_fault Free (Claim p) = Some (refused_in 3 9 0)
table_fault Free (Recover c) = Some (refused_in 3 16 0)
table_fault Free (HandBack c) = Some (refused_in 3 16 0)
table_fault (Declared d) (Declare kind regions made) = Some (refused_in 3 8 0)
table_fault (Declared d) Withdraw = None
table_fault (Declared d) (Claim p) = proposal_fault d p
table_fault (Declared d) (Recover c) = Some (refused_in 3 16 0)
table_fault (Declared d) (HandBack c) = Some (refused_in 3 16 0)
table_fault (Claimed d q) (Declare kind regions made) = Some (refused_in 3 8 0)
table_fault (Claimed d q) Withdraw = Some (refused_in 3 11 0)
table_fault (Claimed d q) (Claim p) = Some (refused_in 3 11 0)
table_fault (Claimed d q) (Recover c) = not_open (Claimed d q) c
table_fault (Claimed d q) (HandBack c) = not_open (Claimed d q) c

-- where the event is not refused
abbrev pub table_state : State → Event → State
table_state Free (Declare kind regions made) = Declared (record { serial = suc made; kind = kind; regions = regions; last = None })
table_state Free Withdraw = Free
table_state Free (Claim p) = Free
table_state Free (Recover c) = Free
table_state Free (HandBack c) = Free
table_state (Declared d) (Declare kind regions made) = Declared d
table_state (Declared d) Withdraw = Free
table_state (Declared d) (Claim p) = Claimed d (record { interval = p.interval; part = p.part })
table_state (Declared d) (Recover c) = Declared d
table_state (Declared d) (HandBack c) = Declared d
table_state (Claimed d q) (Declare kind regions made) = Claimed d q
table_state (Claimed d q) Withdraw = Claimed d q
table_state (Claimed d q) (Claim p) = Claimed d q
table_state (Claimed d q) (Recover c) = recovered_state (Claimed d q)
table_state (Claimed d q) (HandBack c) = returned_state (Claimed d q)
