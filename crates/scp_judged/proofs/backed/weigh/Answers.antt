use Rattle.std.proofs.Common.{refl, sym, subst}
use Rattle.std.specs.Prelude.{OnOk}
use Rattle.scp_ledger.specs.scp_quorum.specs.Quorum.{set_of}
use Rattle.scp_ledger.specs.Journal.{Heard}
use Rattle.scp_judged.specs.Verdicts.{heard_with}
use Rattle.scp_judged.specs.inside.Backed.{Weighs}
use Rattle.scp_judged.proofs.Backing.{weighs_nomination, weighs_ballot}
use Rattle.scp_judged.proofs.Boards.{heard_is}
use Rattle.scp_judged.proofs.backed.weigh.Goals as goal

pub returns-in-Nomination-clause-weighed : goal.returns-in-Nomination-clause-weighed
returns-in-Nomination-clause-weighed c =
    let e = c.get.result.now in
    let q = c.args.said.now.set.value in
    let sets = set_of c.args.sets.now in
    subst (λ (k : Heard). Weighs sets sets k c.args.counter c.args.value.now) (heard_is e c.args.said.now.envelope q q c.get.ensures refl)
    (weighs_nomination sets (heard_with e.statement q) c.args.counter c.args.value.now (sym c.in-Nomination.ensures))

pub returns-in-Balloting-clause-weighed : goal.returns-in-Balloting-clause-weighed
returns-in-Balloting-clause-weighed c =
    let e = c.get.result.now in
    let q = c.args.said.now.set.value in
    let old = set_of c.args.sets.now in
    let new = set_of c.weigh_ballot.new.sets in
    subst (λ (k : Heard). OnOk c.weigh_ballot.result (Weighs old new k c.args.counter c.args.value.now)) (heard_is e c.args.said.now.envelope q q c.get.ensures refl)
    (weighs_ballot c.weigh_ballot.result old new (heard_with e.statement q) c.args.counter c.args.value.now c.accepts_commit.result (sym c.in-Balloting.ensures) c.accepts_commit.ensures c.weigh_ballot.ensures.kept)
