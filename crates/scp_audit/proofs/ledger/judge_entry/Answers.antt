use Rattle.std.proofs.Common.{◌≡◌, ℕ, [], map, refl, subst, rules, arith}
use Rattle.std.proofs.lemmas.Grind.{common_steps}
use Rattle.scp_archive.specs.scp_envelope.specs.declared.statement.Envelope.{Envelope}
use Rattle.scp_judged.specs.Named.{set_in}
use Rattle.scp_judged.specs.Verdicts.{AreVerdicts, heard_of}
use Rattle.scp_judged.specs.declared.messages.Message.{Message}
use Rattle.scp_audit.proofs.ledger.judge_entry.Goals as goal

pub returns-clause-judged : goal.returns-clause-judged
returns-clause-judged c =
    let e = c.args.entry in
    let judged = c.in_ok-judged.judged in
    let number : c.from.result ≡ e.ledger = first_of (search rules, grind (arith, common_steps)) in
    record {
      number = refl;
      messages = c.in_ok-judged.ensures.same;
      verdicts = subst (λ (n : ℕ). AreVerdicts (set_in c.name_all.new.sets) n [] (map (λ (m : Envelope). m.statement) e.messages.items) (map (λ (m : Message). m.verdict) judged.messages.items) (map heard_of judged.counting.items)) number c.in_ok-judged.ensures.exact;
    }
