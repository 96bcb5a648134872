use Rattle.std.proofs.Common.{◌≡◌, ◌∙◌, rules}
use Rattle.scp_live_log.specs.Log.{EntryView, spelled_entry}
use Rattle.scp_live_log.proofs.Entries.{not_here}
use Rattle.scp_live_log.proofs.reading.first_entry.Goals as goal

pub returns-then-not-begins_with-clause-none : goal.returns-then-not-begins_with-clause-none
returns-then-not-begins_with-clause-none c begins e rest ie is =
    let found = c.in-Some.ensures.found c.args.before.now.0 begins e rest ie is in
    let f : EntryView = record { line = c.in_ok-from_slice.field-0.items; sent = c.in-Some.parts.sent.0 } in
    let text : c.deref.result.now ≡ spelled_entry c.args.before.now.0 c.in-Some.parts.begins f = search rules in
    let line : f.line ≡ e.line = c.in_ok-from_slice.ensures.items ∙ found.1 in
    not_here c.args.bytes.now c.deref.result.now c.args.before.now.0 c.in-Some.parts.begins begins f e rest text c.if-not-begins_with.ensures.none found.0 line found.2 is
