use Rattle.std.proofs.Common.{◌∙◌, is_ok, string_bytes}
use Rattle.scp_sim.proofs.Happened.{added}
use Rattle.scp_sim.proofs.lines.Happened.add.Goals as goal

pub invariant_of-self : goal.invariant_of-self
invariant_of-self c =
    added (is_ok c.push_str.result) (string_bytes c.self.inside.text) c.as_str.result.now (string_bytes c.push_str.new.self) c.args.command.now c.self.invariant c.requires.names c.requires.begun c.see.ensures
    (c.as_str.ensures.value ∙ c.in_ok-line.ensures) c.push_str.ensures.bytes
