use Rattle.std.proofs.Common.{◌≡◌, ◌∙◌, ◌+◌, ◌++◌, List, flat_map, map, ap, arith}
use Rattle.scp_shown.specs.scp_audit.specs.declared.archive.Record.{Record}
use Rattle.scp_shown.specs.Parts.{entry_of}
use Rattle.scp_shown.specs.declared.part.Part.{Part}
use Rattle.scp_ledgers.specs.Entries.{record_entries, entries_from}
use Rattle.scp_ledgers.proofs.Entering.{archive_more, archive_all}
use Rattle.scp_ledgers.proofs.entries.parts_of.Goals as goal

pub loop-at-init : goal.loop-at-init
loop-at-init c = ap (λ (l : List Part). map entry_of l ++ entries_from c.args.span 1 c.args.archives.now) c.new-parts.ensures.items

pub loop-at-preserved : goal.loop-at-preserved
loop-at-preserved c =
    let xs = c.args.archives.now in
    let i = c.loop-at.at in
    let s = c.args.span in
    let old = map entry_of c.loop-at.parts.items in
    archive_more s (i + 1) xs i c.index-archives-at.result old (map entry_of c.add_records.new.parts.items) (entries_from s 1 xs) (omega arith) c.index-archives-at.is
    (c.in_ok-add_records.ensures ∙ ap (λ (rs : List Record). old ++ flat_map (record_entries s (i + 1)) rs) c.as_slice.ensures.value)
    c.loop-at.invariant

pub returns : goal.returns
returns c = archive_all c.args.span (c.loop-at.at + 1) c.args.archives.now c.loop-at.at (map entry_of c.loop-at.parts.items) (entries_from c.args.span 1 c.args.archives.now) (omega arith) c.loop-at.invariant
