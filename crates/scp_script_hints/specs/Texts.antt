-- The lines that report hints.
use Rattle.std.specs.Prelude.{ℕ, List, ◌++◌, flat_map, codes}
use Rattle.std.specs.Fmt.{decimal}
use Rattle.scp_text.specs.Sets.{node_text}
use Rattle.scp_script_hints.specs.Told.{nodes_text}
use Rattle.scp_script_hints.specs.declared.hint.Hint.{Hint}
use Rattle.scp_script_hints.specs.declared.hint.Hint.TheVariants.{Unknown, Outside, Muted, Disjoint}

-- The line that reports a hint.
abbrev pub hint_text : Hint → List ℕ
hint_text (Unknown line node) = codes "warn line " ++ decimal line ++ codes " unknown " ++ node_text node ++ codes "\n"
hint_text (Outside line slot) = codes "warn line " ++ decimal line ++ codes " outside " ++ decimal slot ++ codes "\n"
hint_text (Muted line from to) = codes "warn line " ++ decimal line ++ codes " muted " ++ decimal from ++ codes " " ++ decimal to ++ codes "\n"
hint_text (Disjoint one other) = codes "warn disjoint " ++ nodes_text one.keys ++ codes " | " ++ nodes_text other.keys ++ codes "\n"

-- The lines that report hints, in their order.
abbrev pub hints_text : List Hint → List ℕ
hints_text hints = flat_map hint_text hints
