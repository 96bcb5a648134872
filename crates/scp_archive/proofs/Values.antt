-- An entry is its value.
use Rattle.std.proofs.Common.{◌≡◌, List, sym, ap, ◌∙◌}
use Rattle.std.specs.Prelude.{map}
use Rattle.scp_quorum.specs.scp_xdr.specs.Kind.{Values}
use Rattle.scp_quorum.specs.scp_xdr.proofs.Again.{each_again}
use Rattle.scp_quorum.specs.QuorumKind.{set_value, quorum_set_of, SetIsItsValue}
use Rattle.scp_envelope.specs.Kinds.{envelope_value}
use Rattle.scp_envelope.specs.Envelopes.{envelope_of, EnvelopeIsItsValue}
use Rattle.scp_archive.specs.declared.entry.Entry.{Entry}
use Rattle.scp_archive.specs.Entry.{parts_kind, parts_value, entry_value}
use Rattle.scp_archive.specs.Laws.{AreSameEntry}

same_list : {X Y : Type 0} (f : X → Y) (g : Y → X) → ((x : X) → g (f x) ≡ x) → (xs ys : List X) → map f xs ≡ map f ys → xs ≡ ys
same_list f g law xs ys e = sym (each_again f g law xs) ∙ ap (λ l. map g l) e ∙ each_again f g law ys

pub same_entry : SetIsItsValue → EnvelopeIsItsValue → (e f : Entry) → entry_value e ≡ entry_value f → AreSameEntry e f
same_entry sets envelopes e f same =
    let parts : parts_value e ≡ parts_value f = cc in
    record {
      ledger = ap (λ (v : Values parts_kind). v.1.0) parts;
      sets = same_list set_value quorum_set_of sets e.sets.items f.sets.items (ap (λ (v : Values parts_kind). v.0) parts);
      messages = same_list envelope_value envelope_of envelopes e.messages.items f.messages.items (ap (λ (v : Values parts_kind). v.1.1) parts);
    }
