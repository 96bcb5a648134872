use Rattle.std.proofs.Common.{◌≡◌, ◌++◌, ℕ, List, false, subst, string_bytes}
use Rattle.std.specs.Prelude.{OnOk}
use Rattle.scp_slot.specs.scp_types.specs.declared.names.Slot.{Slot}
use Rattle.scp_text.specs.Pieces.{listed}
use Rattle.scp_text.specs.Messages.{signature_words}
use Rattle.scp_stand_slot.proofs.Words.{signed}
use Rattle.scp_stand_slot.proofs.statements.write_statement.Goals as goal

pub returns-clause-added : goal.returns-clause-added
returns-clause-added c =
    let e = c.args.envelope.now in
    let slot : Slot = record { 0 = c.args.slot } in
    signed c.write_signature.result (string_bytes c.args.out.now) (string_bytes c.write_pledges.new.out) (string_bytes c.write_signature.new.out) c.args.names.now c.args.node slot e.statement.pledges e.signature c.in_ok-write_pledges.ensures.added
    (subst (λ (s : List ℕ). OnOk c.write_signature.result (string_bytes c.write_signature.new.out ≡ string_bytes c.write_pledges.new.out ++ listed 32 false (signature_words s))) c.as_slice.ensures c.write_signature.ensures.added)
