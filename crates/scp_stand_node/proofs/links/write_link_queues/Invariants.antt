use Rattle.std.proofs.Common.{◌≡◌, ◌++◌, string_bytes}
use Rattle.scp_stand_node.specs.Links.{of_links, queued_on}
use Rattle.scp_stand_node.proofs.links.write_link_queues.Given as goal

abbrev pub invariant-loop-link : goal.invariant-loop-link
invariant-loop-link l = string_bytes l.out ≡ string_bytes l.initial.out ++ of_links (queued_on l.names l.node) l.link
