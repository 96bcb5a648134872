use Rattle.std.proofs.Common.{◌≡◌, ◌∙◌, ◌++◌, ℕ, List, map, ap, sym, subst}
use Rattle.scp_shown.specs.scp_history.specs.declared.line.Line.{Line}
use Rattle.scp_shown.specs.Parts.{Entry, entry_of}
use Rattle.scp_shown.specs.declared.part.Part.{Part}
use Rattle.scp_ledgers.specs.Entries.{entries_of, numbers_of, of_ledger}
use Rattle.scp_ledgers.specs.Report.{record_lines, AreEach, end_lines}
use Rattle.scp_ledgers.specs.inside.Grouped.{entries_at}
use Rattle.scp_ledgers.proofs.Reporting.{joined, whole, each_same, added_three}
use Rattle.scp_ledgers.proofs.report.report.Goals as goal

pub returns-clause-report : goal.returns-clause-report
returns-clause-report c =
    let es = entries_of c.args.span c.args.archives.now in
    let entries : map entry_of c.as_slice-entries.result.now ≡ es = ap (λ (l : List Part). map entry_of l) c.as_slice-entries.ensures.value ∙ c.in_ok-parts.ensures in
    let numbers : c.as_slice-numbers.result.now ≡ numbers_of es = c.as_slice-numbers.ensures.value ∙ c.in_ok-list.ensures ∙ ap (λ (l : List Entry). numbers_of l) entries in
    let added = c.in_ok-certified.ensures.added in
    let each = added.0 in
    let two = c.add_ledgers.new.lines.items in
    let ended : c.add_end.new.lines.items ≡ two ++ end_lines (numbers_of es) (whole each) =
    c.in_ok-add_end.ensures
    ∙ ap (λ (ns : List ℕ). two ++ end_lines ns c.len.result) numbers
    ∙ ap (λ (k : ℕ). two ++ end_lines (numbers_of es) k) (c.len.ensures ∙ c.in_ok-certified.certified.ok.0 ∙ added.3)
    in
    record {
      each = each;
      of_ledgers = subst (λ (ns : List ℕ). AreEach (of_ledger es) ns each) numbers (each_same (entries_at c.in_ok-grouped.grouped) (of_ledger es) c.as_slice-numbers.result.now each (λ n. c.in_ok-grouped.ensures n ∙ ap (λ (l : List Entry). of_ledger l n) entries) added.1);
      all = added_three c.new-lines.result.items c.add_records.new.lines.items two c.add_end.new.lines.items (record_lines 1 c.args.archives.now) (joined each) (end_lines (numbers_of es) (whole each)) c.new-lines.ensures.items c.in_ok-add_records.ensures added.2 ended;
    }
