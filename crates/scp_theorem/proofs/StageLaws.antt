-- What the account takes of the wire and of the pending stage: their public laws.
use Rattle.scp_outbox.specs.scp_wire.specs.Lanes.{LanesOfSent, WholeFollows}
use Rattle.scp_outbox.specs.scp_wire.specs.Parts.{FrontsAreInOrder, OrderIsOfThePeer, OthersHaveNoNumber, PartsSayWhatTheWholeSays, LanesArePartByPart, PeersSayAllOfTheirs, NumbersNameMessages}
use Rattle.scp_outbox.specs.scp_wire.specs.ReaderLaws.{ReadingsAreInOrder, ReadingsAreSent}
use Rattle.scp_apply.specs.scp_pending.specs.Independence.{PassesInPlace, LanesAreLed}
use Rattle.scp_apply.specs.scp_pending.specs.Laws.{AllAccounts, AllExits, AllHaveCauses, CommandsPass}
use Rattle.scp_apply.specs.scp_pending.specs.Linked.{NothingIsOfAStranger}
use Rattle.scp_apply.specs.scp_pending.specs.Living.{OpenAtEachPlace}
use Rattle.scp_apply.specs.scp_pending.specs.Messages.{ParkedStandFor}
use Rattle.scp_apply.specs.scp_pending.specs.Placing.{CommandsKeepPlace}

pub record Laws : Type 0 where
  pub in_order : ReadingsAreInOrder
  pub sent_is : ReadingsAreSent
  pub front : FrontsAreInOrder
  pub of_peer : OrderIsOfThePeer
  pub parts : PartsSayWhatTheWholeSays
  pub lanes : LanesArePartByPart
  pub peers : PeersSayAllOfTheirs
  pub numbers : NumbersNameMessages
  pub others : OthersHaveNoNumber
  pub lanes_sent : LanesOfSent
  pub follows : WholeFollows
  pub accounts : AllAccounts
  pub exits : AllExits
  pub causes : AllHaveCauses
  pub commands : CommandsPass
  pub places : CommandsKeepPlace
  pub passing : PassesInPlace
  pub led : LanesAreLed
  pub links : NothingIsOfAStranger
  pub parked : ParkedStandFor
  pub live : OpenAtEachPlace
