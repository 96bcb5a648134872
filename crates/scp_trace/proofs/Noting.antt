-- What is noted of the steps of nodes.
use Rattle.std.proofs.Common.{List, [], ◌∷◌, ◌++◌, map, refl}
use Rattle.scp_line.specs.scp_turn.specs.Kv.{Noting}
use Rattle.scp_line.specs.scp_turn.specs.Heard.{Nodes, Heard, Noted}
use Rattle.scp_trace_text.specs.scp_facts.specs.declared.fact.Telling.{Telling}
use Rattle.scp_trace_text.specs.scp_facts.specs.Facts.{facts_in}
use Rattle.scp_trace_text.specs.scp_facts.specs.Telling.{of_node, Tells}

-- whoever noted the steps, they have their facts
pub have_facts : {W : Type 0} (Note : Noting W) (w z : W) (start : List Telling) (old new : Nodes) (heard : List Heard) → Noted Note w z old heard new → (tellings : List Telling) × Noted Tells start tellings old heard new
have_facts {W} Note w z start old new [] noted = (start, (noted.0, refl))
have_facts {W} Note w z start old new (h ∷ heard) noted =
    let told : List Telling = start ++ map (of_node h.node) (facts_in h.event h.reply noted.2.before noted.2.after') in
    let rest = have_facts Note noted.1 z told noted.0 new heard noted.4 in
    (rest.0, (noted.0, told, noted.2, refl, rest.1))
