use Rattle.std.proofs.Common.{subst}
use Rattle.scp_kv.specs.scp_xdr.specs.Kind.{spelling}
use Rattle.scp_wire.specs.scp_quorum.specs.QuorumKind.{set_kind, set_value}
use Rattle.scp_text.proofs.Leaves.{AreBytes, Leaves, leaves, bytes_to}
use Rattle.scp_text.proofs.MessageTexts.{set_good_again}
use Rattle.scp_text.proofs.single.see_set.Goals as goal

pub returns : goal.returns
returns c =
    let value = set_value c.args.set.now in
    let spelt : AreBytes (spelling set_kind value) = subst AreBytes c.requires.spelt (bytes_to c.args.bytes.now c.see_bytes.ensures) in
    set_good_again c.args.set.now c.requires.fits (leaves set_kind value spelt)
