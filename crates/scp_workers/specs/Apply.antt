-- The applier as a worker's stage.
use Rattle.std.specs.Prelude.{◌≡◌, List, []}
use Rattle.scp_theorem.specs.scp_ledger.specs.declared.took.Onward.{Onward}
use Rattle.scp_theorem.specs.scp_ledger.specs.declared.took.Outgoing.{Outgoing}
use Rattle.scp_theorem.specs.Handed.{nothing_applied, AnswersEach}
use Rattle.scp_theorem.specs.scp_apply.specs.Applier.{ApplierView}
use Rattle.scp_theorem.specs.scp_apply.specs.Applies.{Applies}
use Rattle.scp_workers.specs.declared.apply.Nothing.{Nothing}
use Rattle.scp_workers.specs.Working.{Work, End, HasRun}

-- what contracts see of the worker of the applier
abbrev pub ApplyWork : Type 0
ApplyWork = Work Onward Nothing ApplierView

-- and of what it ends with
abbrev pub ApplyEnd : Type 0
ApplyEnd = End Onward Nothing ApplierView

-- The applier, which had taken nothing and began with slot 1 and the application's first state, took these, and handed out its answers to them, one or none to each. It gives
-- nothing on.
pub record AppliesFrom (first : ApplierView) (took : List Onward) (gave : List Nothing) (out : List Outgoing) (now : ApplierView) : Type 0 where
  pub begun : first ≡ nothing_applied 1 []
  pub applies : Applies took now
  pub answers : AnswersEach first took out now
  pub from_one : now.first ≡ 1
  pub no_base : now.base ≡ []

-- nothing is ever left to give
abbrev pub GivesNothing : ApplierView → Type 0
GivesNothing now = Unit {0}

-- the slot stage ended; the applier took what was received, and its answers were put into the outboxes
abbrev pub HasAppliedAll : ApplyEnd → Type 0
HasAppliedAll e = HasRun AppliesFrom GivesNothing e
