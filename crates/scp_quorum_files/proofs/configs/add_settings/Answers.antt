use Rattle.std.proofs.Common.{List, Bool, subst}
use Rattle.scp_live_config.specs.Names.{Identity}
use Rattle.scp_quorum_files.specs.inside.Agreeing.{AddsNames, NoneHave}
use Rattle.scp_quorum_files.proofs.configs.add_settings.Goals as goal

pub returns-then-not-branch-clause-refused : goal.returns-then-not-branch-clause-refused
returns-then-not-branch-clause-refused c =
    let A : Bool → Type 0 = λ b. AddsNames c.args.network.now.nodes.items c.deref-2.result.now c.add_names.new.nodes.items b in
    let N : List Identity → Type 0 = λ l. NoneHave c.args.network.now.nodes.items l in
    subst N c.deref-2.ensures.value (subst A c.if-not-branch.true c.in_ok-add_names.ensures)
