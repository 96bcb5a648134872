use Rattle.std.proofs.Common.{string_bytes}
use Rattle.scp_stand_node.specs.Links.{script_of}
use Rattle.scp_stand_node.proofs.Whole.{stand_told}
use Rattle.scp_stand_node.proofs.stand.write_lines.Goals as goal

pub returns-clause-added : goal.returns-clause-added
returns-clause-added c = stand_told c.args.seen.names.now (script_of c.args.seen.lines) c.args.seen.node.now c.args.members.now
    (string_bytes c.args.out.now) (string_bytes c.write_first.new.out) (string_bytes c.write_links.new.out) (string_bytes c.write_slots.new.out) (string_bytes c.write_wants.new.out) (string_bytes c.write_holds.new.out) (string_bytes c.write_queues.new.out) (string_bytes c.write_unsent.new.out)
    c.requires.members c.in_ok-write_first.ensures.added c.in_ok-write_links.ensures.added c.in_ok-write_slots.ensures.added c.in_ok-write_wants.ensures.added c.in_ok-write_holds.ensures.added c.in_ok-write_queues.ensures.added c.in_ok-write_unsent.ensures.added
