use Rattle.std.proofs.Common.{string_bytes}
use Rattle.scp_script_hints.proofs.QuorumTexts.{tells_apart}
use Rattle.scp_script_hints.proofs.told.apart_of.Goals as goal

pub returns-clause-tells : goal.returns-clause-tells
returns-clause-tells c = tells_apart c.args.members.now c.in_ok-found.found (string_bytes c.in_ok-text.text) c.in_ok-found.ensures.one c.in_ok-found.ensures.other c.in_ok-found.ensures.disjoint c.in_ok-found.ensures.none c.in_ok-text.ensures.text
