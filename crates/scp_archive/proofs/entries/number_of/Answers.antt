use Rattle.std.proofs.Common.{◌≡◌, sym, rules, arith}
use Rattle.std.specs.Int.{w32, from_be_bytes}
use Rattle.std.proofs.lemmas.Grind.{common_steps}
use Rattle.std.proofs.lemmas.Nat.{be_bytes_4}
use Rattle.scp_quorum.specs.scp_xdr.specs.Kind.{word}
use Rattle.scp_archive.proofs.entries.number_of.Goals as goal

pub returns : goal.returns
unfolding word
returns c =
    let read : c.from_be_bytes.result ≡ from_be_bytes w32 c.args.mark.now = first_of (search rules, grind (arith, common_steps)) in
    sym (be_bytes_4 c.args.mark.now c.from_be_bytes.result c.requires (λ i. omega (arith, c.type_inv.mark i)) read)
