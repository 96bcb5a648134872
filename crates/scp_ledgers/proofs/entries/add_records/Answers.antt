use Rattle.std.proofs.Common.{◌++◌, flat_map, map, arith}
use Rattle.scp_shown.specs.Parts.{entry_of}
use Rattle.scp_shown.proofs.Listing.{flat_more, flat_all}
use Rattle.scp_ledgers.specs.Entries.{record_entries}
use Rattle.scp_ledgers.proofs.entries.add_records.Goals as goal

pub loop-found-preserved : goal.loop-found-preserved
loop-found-preserved c =
    let f = record_entries c.args.span c.args.file in
    let xs = c.args.records.now in
    flat_more f xs c.loop-found.found-index c.found-item.result (map entry_of c.loop-found.parts.items) (map entry_of c.add_record.new.parts.items) (map entry_of c.args.parts.now.items ++ flat_map f xs) (omega arith) c.found-item.is c.in_ok-add_record.ensures c.loop-found.invariant

pub returns : goal.returns
returns c =
    let f = record_entries c.args.span c.args.file in
    let xs = c.args.records.now in
    flat_all f xs c.loop-found.found-index (map entry_of c.loop-found.parts.items) (map entry_of c.args.parts.now.items ++ flat_map f xs) (omega arith) c.loop-found.invariant
