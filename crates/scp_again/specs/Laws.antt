-- What is sent, and what is sent once more, never goes back.
use Rattle.std.specs.Prelude.{ℕ, ◌≡◌, false, List, ◌++◌}
use Rattle.std.specs.List.{AllZip}
use Rattle.scp_core.specs.scp_driver.specs.Driver.{Says}
use Rattle.scp_core.specs.scp_wire.specs.declared.message.Message.{Message}
use Rattle.scp_core.specs.scp_wire.specs.Message.{message_value, SpellsMessage}
use Rattle.scp_core.specs.declared.config.Config.{Config}
use Rattle.scp_core.specs.History.{Exchange, past_of, nothing_heard}
use Rattle.scp_core.specs.Node.{NodeView}
use Rattle.scp_core.specs.Sent.{sent_to}
use Rattle.scp_core.specs.Theorem.{begun, made, AreSteps}
use Rattle.scp_again.specs.Again.{again_of}
use Rattle.scp_again.specs.Ascending.{Ascend}

-- These bytes are the encodings of these messages, in order.
abbrev pub AreEncoded : List (List ℕ) → List Message → Type 0
AreEncoded sent messages = AllZip (λ bytes m. SpellsMessage bytes (message_value m)) sent messages

module _ {D : Type 0} where
  -- Of a link: what was sent up to a moment, what would be sent once more then, what was sent after it, and what would be sent once more at the end.
  -- In this order, the statements of each slot and kind never go back.
  pub record NeverGoesBack (link : ℕ) (past rest : List Exchange) (moment v : NodeView D) : Type 0 where
    pub before : List Message
    pub sent_before : AreEncoded (sent_to link past) before
    pub behind : List Message
    pub sent_behind : AreEncoded (sent_to link rest) behind
    pub ascend : Ascend (before ++ again_of moment.ledger link ++ behind ++ again_of v.ledger link)

module _ {D : Type 0} (says : Says D) where
  -- Take a node of a configuration from its start, which is this one, to a moment, and on to an end, where it still runs. Over each link it never
  -- goes back.
  abbrev pub NodesNeverGoBackFrom : (D → Config → NodeView D) → Type 0
  NodesNeverGoBackFrom start =
      (driver : D) (c : Config) (past rest : List Exchange) (moment v : NodeView D) → AreSteps says c nothing_heard (start driver c) past moment → AreSteps says c (past_of c past) moment rest v → moment.failed ≡ false → v.failed ≡ false → (link : ℕ) → NeverGoesBack link past rest moment v

  -- the same of a node as it is made
  abbrev pub NodesNeverGoBack : Type 0
  NodesNeverGoBack = NodesNeverGoBackFrom made

  -- the same of a node that begins late, with whichever slot and state
  abbrev pub LateNodesNeverGoBack : Type 0
  LateNodesNeverGoBack = (first : ℕ) (base : List ℕ) → NodesNeverGoBackFrom (λ driver c. begun driver c first base)
