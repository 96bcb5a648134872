use Rattle.std.proofs.Common.{◌≡◌, ◌++◌, drop, flat_map, string_bytes}
use Rattle.scp_draw.specs.Elements.{ring_at}
use Rattle.scp_draw.proofs.element.write_rings.Given as goal

-- with those of what is left they are all
abbrev pub invariant-loop-id : goal.invariant-loop-id
invariant-loop-id l = string_bytes l.out ++ flat_map (ring_at l.row) (drop l.id-index l.ids) ≡ string_bytes l.initial.out ++ flat_map (ring_at l.row) l.ids
