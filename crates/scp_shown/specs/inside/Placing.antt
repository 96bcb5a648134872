-- Statements with their places, apart from memory.
use Rattle.scp_shown.specs.Contradictions.{Placed as There}
use Rattle.scp_shown.specs.declared.contradictions.Placed.{Placed}

-- a statement and its place, apart from memory
abbrev pub placed : Placed → There
placed p = (p.place, p.statement.now)
