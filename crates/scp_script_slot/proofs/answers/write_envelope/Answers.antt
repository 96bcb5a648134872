use Rattle.std.proofs.Common.{refl}
use Rattle.scp_script_slot.specs.Answers.{emitted_line}
use Rattle.scp_script_slot.proofs.answers.write_envelope.Goals as goal

pub returns : goal.returns
returns c =
    let spelt = c.in_ok-bytes.bytes.items in
    (emitted_line spelt, record { bytes = spelt; spells = c.in_ok-bytes.ensures.spells; line = refl }, rw c.as_slice.ensures.value at c.in_ok-write_bytes.ensures)
