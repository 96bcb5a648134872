use Rattle.std.proofs.Common.{◌≡◌, ◌++◌, string_bytes}
use Rattle.scp_stand_node.specs.Links.{of_links, link_text}
use Rattle.scp_stand_node.proofs.links.write_links.Given as goal

abbrev pub invariant-loop-link : goal.invariant-loop-link
invariant-loop-link l = string_bytes l.out ≡ string_bytes l.initial.out ++ of_links (link_text l.names l.node) l.link
