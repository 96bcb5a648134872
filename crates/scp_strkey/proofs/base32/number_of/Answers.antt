use Rattle.std.proofs.Common.{ap, ℕ, arith}
use Rattle.scp_strkey.specs.Base32.{letters}
use Rattle.scp_strkey.proofs.Letters.{five_number}
use Rattle.scp_strkey.proofs.base32.number_of.Goals as goal

pub returns : goal.returns
returns c = ap (λ (n : ℕ). letters 8 n) (omega (arith, five_number c.args.five.now c.requires))
