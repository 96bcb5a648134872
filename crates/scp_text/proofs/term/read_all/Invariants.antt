use Rattle.std.proofs.Common.{◌≡◌, ◌++◌, drop, map, option_map}
use Rattle.scp_text.specs.Pieces.{all_of}
use Rattle.scp_text.proofs.term.read_all.Given as goal

-- what was read and what is left are all
abbrev pub invariant-loop-text : goal.invariant-loop-text
invariant-loop-text g l =
    option_map (λ others. l.terms.items ++ others) (all_of g.T.Term.reads (map (λ t. t.now) (drop l.text-index l.texts))) ≡ all_of g.T.Term.reads (map (λ t. t.now) l.texts)
