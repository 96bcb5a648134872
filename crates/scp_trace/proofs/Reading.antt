-- Bytes that were read are the message that they spell.
use Rattle.std.proofs.Common.{◌≡◌, ◌∙◌, ◌++◌, ℕ, List, sym, ap}
use Rattle.std.specs.Prelude.{Some, Ok, codes}
use Rattle.scp_line.specs.scp_wire.specs.declared.message.Message.{Message}
use Rattle.scp_line.specs.scp_wire.specs.Message.{message_value, message_of, message_reading}
use Rattle.scp_line.specs.scp_wire.specs.Reading.{message_in, reading_of}
use Rattle.scp_stand_node.specs.scp_stand_slot.specs.declared.names.Names.{Names}
use Rattle.scp_trace_text.specs.Messages.{message_named}
use Rattle.scp_trace.specs.Lines.{with_two, send_words}

read_back : (bytes : List ℕ) (m : Message) → message_reading bytes ≡ Ok (message_value m) → reading_of bytes ≡ Some m → message_of (message_value m) ≡ m
unfolding reading_of
read_back bytes m read is = cc (ap message_in (sym read) ∙ is)

-- what is told of them
pub told_as_read : (names : Names) (from to : ℕ) (bytes : List ℕ) (m : Message) → message_reading bytes ≡ Ok (message_value m) → reading_of bytes ≡ Some m → with_two (codes "send") from to ++ codes " " ++ message_named names m ≡ send_words names from to (message_reading bytes)
told_as_read names from to bytes m read is =
    ap (λ (x : Message). with_two (codes "send") from to ++ codes " " ++ message_named names x) (sym (read_back bytes m read is)) ∙ ap (send_words names from to) (sym read)
