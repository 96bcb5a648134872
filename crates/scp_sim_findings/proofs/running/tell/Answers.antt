use Rattle.std.proofs.Common.{List, None, ℕ, ◌++◌, ◌∙◌, ap, length, refl, string_bytes, subst}
use Rattle.scp_sim_findings.specs.declared.running.Told.{Told}
use Rattle.scp_sim_findings.specs.Told.{counted_text, cut_text, slots_for}
use Rattle.scp_notices.specs.scp_script_text.specs.declared.script.Form.TheVariants.{Text}
use Rattle.scp_notices.specs.scp_script_text.specs.declared.script.Kind.TheVariants.{Nodes as OfNodes}
use Rattle.scp_notices.specs.scp_script_text.specs.Scripts.{IsScriptOf}
use Rattle.scp_sim_findings.proofs.Telling.{is_told}
use Rattle.scp_sim_findings.proofs.running.tell.Goals as goal

pub returns : goal.returns
returns c =
    let run = c.args.run.now in
    let told : Told = record {
      script = c.in_ok-script.script;
      shrunk = None;
      text = c.write_outcome.new.text;
      finding = c.finding_of-finding.result;
      closed = c.closed-closed.result;
      time = run.time;
      counts = run.counts;
    } in
    is_told c.args.plan.now c.args.seed run told c.as_slice.result.now c.as_str.result.now (string_bytes c.in_ok-text.text) c.judging_for-judging.result.marks c.judging_for-judging.result.slots c.nodes-nodes.result.now c.as_slice-notices.result.now c.in-Ok.ran.notices.items c.in-Ok.ran.script c.in-Ok.ran.network
    c.judging_for-judging.ensures.marks c.judging_for-judging.ensures.slots c.nodes-nodes.ensures c.as_slice-notices.ensures.value c.as_slice.ensures.value c.as_str.ensures.value
    (subst (λ (s : List ℕ). IsScriptOf OfNodes Text s c.in_ok-script.script.items) c.as_bytes.ensures.value c.in_ok-script.ensures)
    c.in-Ok.ensures
    (c.in_ok-text.ensures ∙ ap (λ (s : List ℕ). counted_text c.args.seed run.time run.counts (length s) ++ cut_text run.is_cut c.args.plan.now.slots) c.as_slice-2.ensures.value)
    (c.in_ok-write_outcome.ensures, c.finding_of-finding.ensures, c.closed-closed.ensures) refl refl refl
