-- The lines of what a node sends once more to a peer (this project's profile).
use Rattle.std.specs.Prelude.{◌≡◌, ℕ, List, ◌++◌, flat_map}
use Rattle.std.specs.List.{AllZip}
use Rattle.scp_again.specs.scp_wire.specs.declared.message.Message.{Message}
use Rattle.scp_again.specs.scp_wire.specs.Message.{message_value, SpellsMessage}
use Rattle.scp_live_lines.specs.Sent.{again_line}

-- The text is followed by one `again` line with this name for each of these messages, in order, with the message's encoding.
pub record SaysAgain (name : List ℕ) (messages : List Message) (text longer : List ℕ) : Type 0 where
  pub spelled : List (List ℕ)
  pub spelt : AllZip (λ bytes message. SpellsMessage bytes (message_value message)) spelled messages
  pub lines : longer ≡ text ++ flat_map (again_line name) spelled
