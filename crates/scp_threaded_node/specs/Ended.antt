-- What is reported of a node that has ended.
use Rattle.std.specs.Prelude.{◌≡◌, ℕ, Bool, true, false, List, length, map, slice_get, Some}
use Rattle.std.specs.List.{AllByRecursion}
use Rattle.scp_gather.specs.scp_types.specs.declared.names.NodeId.{NodeId}
use Rattle.scp_gather.specs.scp_quorum.specs.QuorumTree.{QuorumTree}
use Rattle.scp_gather.specs.scp_wire.specs.declared.link.Inbound.{Inbound}
use Rattle.scp_gather.specs.scp_wire.specs.declared.link.LinkItem.{LinkItem}
use Rattle.scp_gather.specs.scp_driver.specs.Driver.{Says}
use Rattle.scp_gather.specs.scp_ends.specs.Links.{LinkEnd}
use Rattle.scp_gather.specs.scp_workers.specs.Carrying.{IsCarried}
use Rattle.scp_gather.specs.declared.gathering.NodeReport.{NodeReport}
use Rattle.scp_gather.specs.Headline.{IsReportHeadlined}
use Rattle.scp_gather.specs.Left.{Left}
use Rattle.scp_gather.specs.Report.{IsReportOf, AreFatesOf, AreCame, AreKept, keeps_by}
use Rattle.scp_gather.specs.scp_types.specs.declared.capacities.Capacities.{Capacities}
use Rattle.scp_threaded_node.specs.declared.ending.Stood.{Stood}
use Rattle.scp_threaded_node.specs.Seats.{Each}

-- If the host drives the link, exactly these items went over it. Else a courier carried the encodings of messages over it, and opened and
-- closed it as often as `stood` says.
abbrev pub IsSentBy : Bool → List LinkItem → Stood → LinkEnd → Type 0
IsSentBy true sent stood k = k.tail.sent ≡ sent
IsSentBy false sent stood k = IsCarried stood.lives stood.is_open k

-- the same for each link, by its place
abbrev pub AreSentBy : (ℕ → Bool) → (ℕ → List LinkItem) → List Stood → List LinkEnd → Type 0
AreSentBy driven sent stood links = Each (λ i k. (st : Stood) → slice_get stood i ≡ Some st → IsSentBy (driven i) (sent i) st k) links

module _ {A : Type 0} where
  -- each channel of the node has the capacity that is set for it
  pub record AreSized (caps : Capacities) (e : Left A) : Type 0 where
    pub links : AllByRecursion (λ r. r.input.room ≡ caps.link) e.readers
    pub inbox : e.pend.input.room ≡ caps.inbox
    pub ready : e.slot.input.room ≡ caps.ready
    pub decided : e.apply.input.room ≡ caps.decided

module _ {A S : Type 0} (says : Says A) (first : S) (after' : S → List ℕ → S) where
  -- This is the report of a node with these peers, gathered from what its threads left. The headline holds of it, and its state is what the
  -- applied values make of the application's first state. There is a link for each peer, and each channel has its capacity.
  -- The node's own commands were these, and the report shows what became of them. The links that the host drives carried exactly these items.
  -- The report has what came over a link exactly where the link's reader was to keep it.
  pub record IsEnded (me : NodeId) (set : QuorumTree) (peers : List NodeId) (caps : Capacities) (commands : List Inbound) (driven : ℕ → Bool) (sent : ℕ → List LinkItem) (stood : List Stood) (left : Left A) (r : NodeReport A S) : Type 0 where
    pub report : IsReportOf says me set peers left r.journal.items r.parked.items r.applied.items
    pub headline : IsReportHeadlined first after' me set peers left r
    pub sized : AreSized caps left
    pub commands_are : left.local.sent ≡ commands
    pub fates_are : AreFatesOf says me set peers left r.commands.items
    pub links_count : length left.links ≡ length peers
    pub links_are : AreSentBy driven sent stood left.links
    pub came_are : AreCame left r.came.items
    pub kept_are : AreKept (map keeps_by left.readers) r.came.items
