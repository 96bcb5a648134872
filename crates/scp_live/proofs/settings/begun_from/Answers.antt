use Rattle.std.proofs.Common.{◌+◌, ◌∙◌}
use Rattle.scp_again.specs.scp_driver.specs.Driver.{IsBase}
use Rattle.scp_again.specs.scp_kv.specs.Saved.{bytes_of, state_of}
use Rattle.scp_live.proofs.Beginning.{is_new, is_live, begun_only}
use Rattle.scp_live.proofs.settings.begun_from.Goals as goal

pub returns-clause-new : goal.returns-clause-new
returns-clause-new c =
    is_new c.begin.result c.args.settings.now c.in_ok-config.config _ c.in_ok-nodes.nodes.items (c.args.before + 1) c.args.base.items c.in_ok-config.ensures.is c.in_ok-link_names.ensures (c.in_ok-nodes.ensures ∙ c.as_slice.ensures.value) c.begin.ensures.config c.begin.ensures.names c.begin.ensures.nodes
    c.begin.ensures.theorem

pub returns-clause-live : goal.returns-clause-live
returns-clause-live c = is_live c.begin.result (c.args.before + 1) c.args.base.items c.begin.ensures.theorem c.begin.ensures.runs

pub returns-clause-only : goal.returns-clause-only
returns-clause-only c = begun_only (IsBase state_of bytes_of c.args.base.items) c.begin.result c.args.settings.now c.in_ok-config.config c.in_ok-config.ensures.is c.begin.ensures.refused c.begin.ensures.no_state c.begin.ensures.only
