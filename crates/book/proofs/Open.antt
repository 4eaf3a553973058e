-- A claim that its number holds open: it passes every check of a recovery but the last two.
use Rattle.std.proofs.Common.{◌≡◌, ℕ, ◌-◌, ◌≤◌, Bool, true, false, cond, List, get_or, None, Option, sym, refl, ap, ◌∙◌}
use Rattle.foundation.specs.Fault.{Refused, refused_in}
use Rattle.foundation.specs.First.{or_else}
use Rattle.foundation.proofs.First.{some_none}
use Rattle.recovery.specs.Recovery.{lines_fault, nobody_fault, part_fault, recover_fault, regions_fault, serial_fault}
use Rattle.recovery.specs.Shares.{Basis}
use Rattle.recovery.proofs.Faults.{part_passes, regions_pass, serial_passes}
use Rattle.book.specs.declared.claim.OpenClaim.{OpenClaim}
use Rattle.book.specs.declared.state.State.{State}
use Rattle.book.specs.declared.state.State.TheVariants.{Free}
use Rattle.book.specs.declared.state.table.Event.TheVariants.{Recover}
use Rattle.book.specs.Calls.{declared_in, not_open, recovery_fault}
use Rattle.book.specs.States.{is_number, is_sound, state_in}
use Rattle.book.specs.Table.{table_fault}
use Rattle.book.proofs.Judged.{recover_table}
use Rattle.book.proofs.Soundness.{Fair, fair}

passes : (s : State) (c : OpenClaim) (b : Basis) (left : ℕ) → Fair s c → b.part ≡ c.part → recover_fault (declared_in s) b c.serial left ≡ or_else (nobody_fault (declared_in s) b) (lines_fault (declared_in s) b left)
passes s c b left is same =
    let rest = or_else (nobody_fault (declared_in s) b) (lines_fault (declared_in s) b left) in
    ap (λ o. or_else o (or_else (regions_fault (declared_in s)) (or_else (serial_fault c.serial) rest))) (ap part_fault same ∙ part_passes c.part is.part_least is.part_most)
    ∙ ap (λ o. or_else o (or_else (serial_fault c.serial) rest)) (regions_pass (declared_in s) is.regions_least is.regions_most)
    ∙ ap (λ o. or_else o rest) (serial_passes c.serial is.serial_least is.serial_most)

-- what the recovery of an open claim answers is what the book answers
pub recovery_late : (made : ℕ) (s : State) (c : OpenClaim) (b : Basis) (left : ℕ) (o : Option Refused) → made ≤ 32 → is_sound made s ≡ true → None ≡ table_fault s (Recover c) → b.part ≡ c.part → o ≡ recover_fault (declared_in s) b c.serial left → o ≡ recovery_fault s c b left
recovery_late made s c b left o few sound none same e =
    let held : None ≡ not_open s c = none ∙ recover_table s c in
    e ∙ passes s c b left (fair made s c few sound (sym held)) same
    ∙ ap (λ x. or_else x (or_else (nobody_fault (declared_in s) b) (lines_fault (declared_in s) b left))) held

by_number : (t : Bool) (states : List State) (n : ℕ) (c : OpenClaim) → None ≡ not_open (cond t (get_or states (n - 1) Free) Free) c → t ≡ true
by_number true states n c e = refl
by_number false states n c e = absurd (some_none (refused_in 3 16 0) (sym e))

-- there is such a number
pub open_number : (states : List State) (n : ℕ) (c : OpenClaim) → None ≡ not_open (state_in states n) c → is_number n ≡ true
open_number states n c e = by_number (is_number n) states n c e
