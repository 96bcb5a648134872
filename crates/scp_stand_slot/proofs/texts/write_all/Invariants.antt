use Rattle.std.proofs.Common.{◌≡◌, ◌++◌, drop, true, map, string_bytes}
use Rattle.scp_text.specs.Pieces.{listed}
use Rattle.scp_stand_slot.proofs.texts.write_all.Given as goal

-- with what is left it is all
abbrev pub invariant-loop-term : goal.invariant-loop-term
invariant-loop-term g l = string_bytes l.out ++ listed 44 l.first (map g.T.Term.writes (drop l.term-index l.terms)) ≡ string_bytes l.initial.out ++ listed 44 true (map g.T.Term.writes l.terms)
