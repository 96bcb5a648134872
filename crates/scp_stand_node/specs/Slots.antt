-- The lines of a slot at a node (this project's profile).
use Rattle.std.specs.Prelude.{ℕ, zero, suc, ◌≡◌, ◌+◌, Bool, true, false, ◌&&◌, ◌||◌, List, [], ◌∷◌, ◌++◌, ◌⊎◌, Option, Some, None, codes, nat_eq, nat_le, find, if◌then◌else◌}
use Rattle.std.specs.Fmt.{decimal}
use Rattle.std.specs.List.{list_any}
use Rattle.scp_turn.specs.scp_types.specs.declared.names.NodeId.{NodeId}
use Rattle.scp_turn.specs.scp_driver.specs.declared.kv_driver.KvDriver.{KvDriver}
use Rattle.scp_turn.specs.scp_slot.specs.declared.machine.SlotMachine.{SlotMachine}
use Rattle.scp_turn.specs.scp_wire.specs.declared.message.Message.{Message}
use Rattle.scp_turn.specs.scp_wire.specs.declared.message.Message.TheVariants.{Envelope, GetSet, Set, NoSet, GetRecord, Record, Records}
use Rattle.scp_turn.specs.scp_ledger.specs.declared.journal.Fate.{Fate}
use Rattle.scp_turn.specs.scp_ledger.specs.declared.journal.Fate.TheVariants.{Taken, Dropped, Closed}
use Rattle.scp_turn.specs.scp_ledger.specs.declared.journal.Verdict.{Verdict}
use Rattle.scp_turn.specs.scp_ledger.specs.declared.journal.Verdict.TheVariants.{OldSlot, FarSlot, Already, Unasked, Own, BadStatement, BadValue, Stale, Idle, Fresh, Forwarded, Decided}
use Rattle.scp_turn.specs.scp_ledger.specs.declared.journal.Decision.{Decision}
use Rattle.scp_turn.specs.scp_ledger.specs.Decisions.{is_at}
use Rattle.scp_turn.specs.scp_ledger.specs.Seen.{is_asked, machine_at}
use Rattle.scp_turn.specs.scp_core.specs.Kv.{NodeView}
use Rattle.scp_turn.specs.Turn.{links_of}
use Rattle.scp_stand_slot.specs.scp_text.specs.Values.{value_text}
use Rattle.scp_stand_slot.specs.scp_script.specs.declared.command.Command.{Command}
use Rattle.scp_stand_slot.specs.scp_script.specs.declared.command.Command.TheVariants as script
use Rattle.scp_stand_slot.specs.declared.names.Names.{Names}
use Rattle.scp_stand_slot.specs.Names.{nodes_text, slot_words}
use Rattle.scp_stand_slot.specs.Machine.{IsMachineText, IsBlankMachine}
use Rattle.scp_stand_node.specs.Links.{peers_with, ScriptLines, number_in}

-- ---- decided, or asked for

-- The line of a decision that isn't applied yet, because the lowest slot isn't decided. There is none without a decision.
abbrev pub decided_text : Names → NodeId → ℕ → ℕ → Option Decision → List ℕ
decided_text names me lowest slot None = []
decided_text names me lowest slot (Some decision) = slot_words names me slot ++ codes " decided " ++ value_text decision.value ++ codes " waits " ++ decimal lowest ++ codes "\n"

-- The nodes that were asked for the slot's record.
abbrev pub asked_of : NodeView → ℕ → List NodeId
asked_of v slot = peers_with v.config (λ link. is_asked v.ledger.asked (record { link = link; slot = record { 0 = slot } })) (links_of v)

-- The line of the nodes that were asked, if there are any.
abbrev pub asked_text : Names → NodeId → ℕ → List NodeId → List ℕ
asked_text names me slot [] = []
asked_text names me slot (node ∷ nodes) = slot_words names me slot ++ codes " asked " ++ nodes_text names (node ∷ nodes) ++ codes "\n"

-- ---- whether anything began the slot

-- The verdict is one that a slot's machine gives on another node's envelope. The node's own envelopes get none.
abbrev pub is_machines : Verdict → Bool
is_machines OldSlot = false
is_machines FarSlot = false
is_machines Already = false
is_machines Unasked = false
is_machines Own = false
is_machines BadStatement = true
is_machines BadValue = true
is_machines Stale = true
is_machines Idle = false
is_machines Fresh = true
is_machines Forwarded = false
is_machines Decided = false

-- The message is an envelope of the slot.
abbrev pub is_of : ℕ → Message → Bool
is_of slot (Envelope envelope) = nat_eq envelope.value.statement.slot.0 slot
is_of slot (GetSet hash) = false
is_of slot (Set set) = false
is_of slot (NoSet hash) = false
is_of slot (GetRecord at) = false
is_of slot (Record at value) = false
is_of slot (Records first values) = false

-- The entry is an envelope of the slot that its machine judged. It is another node's.
abbrev pub is_judged : ℕ → Fate → Bool
is_judged slot (Taken conn seq message set verdict) = is_of slot message && is_machines verdict
is_judged slot (Dropped conn seq cause) = false
is_judged slot (Closed conn cause) = false

-- The command begins a round of the slot at the node, or fires the slot's timer there.
abbrev pub moves : ℕ → ℕ → Command → Bool
moves number slot (script.Caps capacities) = false
moves number slot (script.Nodes count quorum) = false
moves number slot (script.Set at set) = false
moves number slot (script.Open from to) = false
moves number slot (script.Close from to) = false
moves number slot (script.Send from to bytes) = false
moves number slot (script.Propose at of value) = false
moves number slot (script.Round at of) = nat_eq at number && nat_eq of slot
moves number slot (script.Timer at of) = nat_eq at number && nat_eq of slot
moves number slot (script.Tick at) = false
moves number slot (script.Ask from to of) = false
moves number slot script.Settle = false
moves number slot (script.Wait at things) = false
moves number slot (script.Report at) = false

-- The command lets the nodes settle, so that each takes what is in its queues.
abbrev pub rests : Command → Bool
rests script.Settle = true
rests (script.Wait at things) = true
rests command = false

-- A command begins a round of the slot at the node or fires its timer, and the node took it: a later command lets the nodes settle.
abbrev pub is_taken : ℕ → ℕ → List Command → Bool
is_taken number slot [] = false
is_taken number slot (command ∷ commands) = if moves number slot command then list_any rests commands else is_taken number slot commands

-- The same, if the node plays in a script.
abbrev pub is_taken_in : Option ScriptLines → ℕ → ℕ → Bool
is_taken_in None number slot = false
is_taken_in (Some lines) number slot = is_taken number slot lines.played

-- Something began the slot at the node. It was another node's envelope that its machine judged, or a round or timer of a script that the
-- node took. The node's own envelope that comes back doesn't begin it, nor does a refused proposal.
abbrev pub is_begun : NodeId → ℕ → List Fate → Option ScriptLines → Bool
is_begun me slot journal lines = list_any (is_judged slot) journal || is_taken_in lines (number_in me) slot

-- The machine isn't shown, because nothing that came changed it, and nothing began the slot.
abbrev pub IsHidden : NodeId → ℕ → List Fate → Option ScriptLines → SlotMachine KvDriver → Type 0
IsHidden me slot journal lines machine = IsBlankMachine machine × (is_begun me slot journal lines ≡ false)

-- ---- a slot's lines

-- The lines of the slot's machine, if there is one and it is shown.
abbrev pub IsToldOf : Names → NodeId → List NodeId → ℕ → List Fate → Option ScriptLines → Option (SlotMachine KvDriver) → List ℕ → Type 0
IsToldOf names me members slot journal lines None text = text ≡ []
IsToldOf names me members slot journal lines (Some machine) text =
    (IsHidden me slot journal lines machine × (text ≡ []))
    ⊎ ((¬ (IsHidden me slot journal lines machine)) × IsMachineText names me members slot machine text)

-- The lines of a slot at a node: its decision, the nodes that it asked, and its machine.
pub record IsSlotText (names : Names) (members : List NodeId) (lines : Option ScriptLines) (v : NodeView) (slot : ℕ) (text : List ℕ) : Type 0 where
  pub machine : List ℕ
  pub is : text ≡ decided_text names v.config.me v.ledger.lowest slot (find (is_at slot) v.ledger.decisions) ++ asked_text names v.config.me slot (asked_of v slot) ++ machine
  pub told : IsToldOf names v.config.me members slot v.ledger.journal lines (machine_at v.ledger.machines slot) machine

-- The slot this many after the lowest one, if it isn't after the last slot, 4294967295.
abbrev pub slot_above : ℕ → ℕ → Option ℕ
slot_above lowest place = if nat_le (lowest + place) 4294967295 then Some (lowest + place) else None

-- The text of a slot, or an empty text if there is no slot.
abbrev pub IsTextOf : (ℕ → List ℕ → Type 0) → Option ℕ → List ℕ → Type 0
IsTextOf P None text = text ≡ []
IsTextOf P (Some slot) text = P slot text

-- The lines of the slot this many after the lowest one.
abbrev pub IsTextAbove : Names → List NodeId → Option ScriptLines → NodeView → ℕ → List ℕ → Type 0
IsTextAbove names members lines v place text = IsTextOf (IsSlotText names members lines v) (slot_above v.ledger.lowest place) text

-- This many texts, one after the other. P says which text each is, by its index from 0 on.
unfoldable pub AreTexts : (ℕ → List ℕ → Type 0) → ℕ → List ℕ → Type 0
AreTexts P zero text = text ≡ []
AreTexts P (suc n) text = (first : List ℕ) × (last : List ℕ) × (text ≡ first ++ last) × AreTexts P n first × P n last
