-- What is written is read as what it was (this project's profile).
use Rattle.std.specs.Prelude.{◌≡◌, ◌==◌, ◌≤◌, ℕ, false, List, length, Some, Ok}
use Rattle.std.specs.List.{AllByRecursion}
use Rattle.hex.specs.Hex.{IsBytes}
use Rattle.scp_kv.specs.scp_xdr.specs.Kind.{Spells}
use Rattle.scp_wire.specs.scp_quorum.specs.QuorumTree.{QuorumTree}
use Rattle.scp_wire.specs.scp_quorum.specs.QuorumKind.{set_kind, set_value}
use Rattle.scp_wire.specs.declared.message.Message.{Message}
use Rattle.scp_wire.specs.Message.{message_value, SpellsMessage}
use Rattle.scp_text.specs.Values.{value_text, value_in}
use Rattle.scp_text.specs.Sets.{set_text, set_in}
use Rattle.scp_text.specs.Messages.{message_text, message_in, words_of}

-- the mark isn't in the text
abbrev pub HasNo : ℕ → List ℕ → Type 0
HasNo mark text = AllByRecursion (λ byte. (byte == mark) ≡ false) text

-- a message that bytes spell is written in one line, which says it
abbrev pub MessagesComeBack : Type 0
MessagesComeBack = (bytes : List ℕ) (m : Message) → IsBytes bytes → SpellsMessage bytes (message_value m)
    → (message_in (words_of (message_text m)) ≡ Ok m) × HasNo 10 (message_text m)

-- a value within its limit is written in one word, which says it
abbrev pub ValuesComeBack : Type 0
ValuesComeBack = (bytes : List ℕ) → IsBytes bytes → length bytes ≤ 4096
    → (value_in (value_text bytes) ≡ Some bytes) × HasNo 32 (value_text bytes) × HasNo 10 (value_text bytes)

-- a quorum set that bytes spell is written in one word, which says it
abbrev pub SetsComeBack : Type 0
SetsComeBack = (bytes : List ℕ) (s : QuorumTree) → IsBytes bytes → Spells set_kind bytes (set_value s)
    → (set_in (set_text s) ≡ Some s) × HasNo 32 (set_text s) × HasNo 10 (set_text s)
