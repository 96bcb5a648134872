-- What the node takes of its stages: their public laws.
use Rattle.scp_theorem.specs.scp_driver.specs.Driver.{Says}
use Rattle.scp_theorem.specs.scp_wire.specs.Parts.{OneMoreIsOfLink}
use Rattle.scp_theorem.specs.scp_wire.specs.ReaderLaws.{ReadingsAreInOrder, ReadingsGrow, ReadingsGrowByOne}
use Rattle.scp_theorem.specs.scp_pending.specs.Fetching.{RepliesAreAskedFor}
use Rattle.scp_theorem.specs.scp_pending.specs.Linked.{NothingIsOfAStranger, WhoItIsStays}
use Rattle.scp_theorem.specs.scp_outbox.specs.Sending.{EmptySends, PutsKeepSends, GivesKeepSends}
use Rattle.scp_theorem.specs.scp_ledger.specs.Journals.{JournalsPass, TakesGrow}
use Rattle.scp_theorem.specs.scp_apply.specs.Applies.{AppliesPass}
use Rattle.scp_theorem.specs.Kept.{RanKeepsLedger}

-- of what is read of a link
pub record ReadLaws : Type 0 where
  pub grow : ReadingsGrow
  pub one : ReadingsGrowByOne
  pub in_order : ReadingsAreInOrder
  pub more : OneMoreIsOfLink

module _ {D : Type 0} (says : Says D) where
  -- of one step of each stage
  pub record StepLaws : Type 0 where
    pub read : ReadLaws
    pub stays : WhoItIsStays
    pub journals : JournalsPass says.level says.extracted says.combined says.place
    pub grows : TakesGrow says.level says.extracted says.combined says.place
    pub applies : AppliesPass

  -- of what is kept, what was handed out and what was sent
  pub record Laws : Type 0 where
    pub read : ReadLaws
    pub ran : RanKeepsLedger says.level says.extracted says.combined says.place
    pub stays : WhoItIsStays
    pub links : NothingIsOfAStranger
    pub replies : RepliesAreAskedFor
    pub empty : EmptySends
    pub puts : PutsKeepSends
    pub gives : GivesKeepSends
    pub journals : JournalsPass says.level says.extracted says.combined says.place
    pub applies : AppliesPass
