use Rattle.std.proofs.Common.{◌≡◌, map, arith, rules}
use Rattle.std.proofs.lemmas.Grind.{common_steps}
use Rattle.scp_ledger.specs.scp_quorum.specs.NodeSet.{is_in}
use Rattle.scp_ledger.specs.scp_vote.specs.Board.{Certificate, kind_of}
use Rattle.scp_ledger.specs.scp_vote.specs.Seen.{seen}
use Rattle.scp_ledger.specs.scp_vote.specs.declared.claim.StatementKind.{StatementKind}
use Rattle.scp_judged.specs.Verdicts.{heard_of}
use Rattle.scp_judged.proofs.Certifying.{uncertified_by, certified_by, some_from}
use Rattle.scp_judged.proofs.certificates.certificate_of.Goals as goal

pub returns-in_default-clause-none : goal.returns-in_default-clause-none
returns-in_default-clause-none c =
    let sees = λ (kind : StatementKind). seen kind c.in_ok-board.board in
    let set : c.in_ok-local.local.value ≡ c.args.said.now.set.value = first_of (search rules, grind (arith, common_steps)) in
    uncertified_by c.args.node (map heard_of c.args.counting.now) sees (heard_of c.args.said.now) c.in_ok-local.local.value c.args.externalize.now c.in_ok-claim.claim c.in_ok-nodes.field-0 set c.requires.sane c.requires.last c.requires.said c.in_ok-board.ensures.board c.in_ok-claim.ensures.commit c.in_default.not-Some c.in_ok-nodes.ensures.none

pub returns-clause-found : goal.returns-clause-found
returns-clause-found c =
    let sees = λ (kind : StatementKind). seen kind c.in_ok-board.board in
    let set : c.in_ok-local.local.value ≡ c.args.said.now.set.value = first_of (search rules, grind (arith, common_steps)) in
    let here : Certificate (sees (kind_of c.in_ok-claim.claim)) c.in_ok-claim.claim (is_in c.in-Some.nodes) = some_from c.in_ok-nodes.field-0 c.in-Some.nodes (λ nodes. Certificate (sees (kind_of c.in_ok-claim.claim)) c.in_ok-claim.claim (is_in nodes)) c.in-Some.is c.in_ok-nodes.ensures.found in
    certified_by c.args.node (map heard_of c.args.counting.now) sees (heard_of c.args.said.now) c.in_ok-local.local.value c.args.externalize.now c.in_ok-claim.claim c.in-Some.nodes c.in_ok-certificate.certificate set c.requires.last c.requires.said c.in_ok-board.ensures.board c.in_ok-claim.ensures.commit here c.in_ok-certificate.ensures.value c.in_ok-certificate.ensures.n c.in_ok-certificate.ensures.nodes
