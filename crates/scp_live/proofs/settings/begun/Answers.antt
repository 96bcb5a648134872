use Rattle.std.proofs.Common.{[], ◌∙◌}
use Rattle.scp_live.proofs.Beginning.{is_new, is_live, new_only}
use Rattle.scp_live.proofs.settings.begun.Goals as goal

pub returns-clause-new : goal.returns-clause-new
returns-clause-new c = is_new c.new.result c.args.settings.now c.in_ok-config.config _ c.in_ok-nodes.nodes.items 1 [] c.in_ok-config.ensures.is c.in_ok-link_names.ensures (c.in_ok-nodes.ensures ∙ c.as_slice.ensures.value) c.new.ensures.config c.new.ensures.names c.new.ensures.nodes c.new.ensures.theorem

pub returns-clause-live : goal.returns-clause-live
returns-clause-live c = is_live c.new.result 1 [] c.new.ensures.theorem c.new.ensures.runs

pub returns-clause-only : goal.returns-clause-only
returns-clause-only c = new_only c.new.result c.args.settings.now c.in_ok-config.config c.in_ok-config.ensures.is c.new.ensures.refused c.new.ensures.only
