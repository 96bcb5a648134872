-- The status of a node, in lines (this project's profile).
use Rattle.std.specs.Prelude.{ℕ, ◌≡◌, false, List, Option, ◌++◌, length, codes}
use Rattle.std.specs.Fmt.{decimal}
use Rattle.scp_turn.specs.scp_types.specs.declared.limits.TheConstants.{WINDOW}
use Rattle.scp_turn.specs.scp_types.specs.declared.names.NodeId.{NodeId}
use Rattle.scp_turn.specs.scp_nominate.specs.Turns.{AreInTurn}
use Rattle.scp_turn.specs.scp_core.specs.Kv.{NodeView}
use Rattle.scp_turn.specs.Turn.{links_of}
use Rattle.scp_turn.specs.scp_driver.specs.Kv.{kv_says}
use Rattle.scp_turn.specs.scp_ledger.specs.By.{RunsBy}
use Rattle.scp_stand_slot.specs.declared.names.Names.{Names}
use Rattle.scp_stand_slot.specs.Names.{node_name, set_named}
use Rattle.scp_stand_node.specs.Links.{of_links, link_text, queues_text, unsent_text, ScriptLines}
use Rattle.scp_stand_node.specs.Holding.{wants_text, held_on}
use Rattle.scp_stand_node.specs.Slots.{IsTextAbove, AreTexts}

-- The node whose status is shown hasn't failed, and its ledger runs.
pub record IsSeen (v : NodeView) : Type 0 where
  pub runs : v.failed ≡ false
  pub ledger : RunsBy kv_says v.ledger

-- The words of the first line behind the node's name, up to the quorum set.
unfoldable pub stands_words : ℕ → ℕ → List ℕ
stands_words lowest applied = codes " stands lowest " ++ decimal lowest ++ codes " applied " ++ decimal applied ++ codes " set "

-- The first line: the lowest undecided slot, the number of applied slots, and the node's quorum set.
abbrev pub stands_line : Names → NodeView → List ℕ
stands_line names v = node_name names v.config.me ++ stands_words v.ledger.lowest (length v.applier.applied) ++ set_named names v.config.set ++ codes "\n"

-- The text is the status of the node, with these names, and by all lines of its script and those played so far, if it plays in one. It
-- has the first line, and the links that were never open or have ended. It has the 16 slots from the lowest undecided one on, what the
-- node wants, and what it holds. It has what is in its queues, and what it didn't send. The members, of which a slot's machine may lack
-- one, are the nodes of the node's set and itself, ascending, each once.
pub record IsStand (names : Names) (lines : Option ScriptLines) (v : NodeView) (text : List ℕ) : Type 0 where
  pub members : List NodeId
  pub these : AreInTurn v.config.me v.config.set members
  pub slots : List ℕ
  pub of_slots : AreTexts (IsTextAbove names members lines v) WINDOW slots
  pub is : text ≡
      stands_line names v
      ++ of_links (link_text names v) (links_of v)
      ++ slots
      ++ wants_text names v
      ++ of_links (held_on names v) (links_of v)
      ++ queues_text names v
      ++ of_links (unsent_text names lines v) (links_of v)
