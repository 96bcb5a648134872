-- Which values are certified, and who is against them.
use Rattle.std.specs.Prelude.{◌≡◌, ℕ, cond, List, [], ◌∷◌, flat_map}
use Rattle.std.specs.Option.{option_map_or}
use Rattle.std.specs.Str.{bytes_eq}
use Rattle.scp_history.specs.scp_types.specs.declared.names.NodeId.{NodeId}
use Rattle.scp_history.specs.scp_ledger.specs.Journal.{Heard}
use Rattle.scp_history.specs.scp_judged.specs.Verdicts.{heard_by}
use Rattle.scp_history.specs.declared.line.Line.{Line}
use Rattle.scp_history.specs.declared.line.Line.TheVariants.{Split, Against}
use Rattle.scp_history.specs.declared.line.StatementWord.TheVariants.{Externalize}
use Rattle.scp_history.specs.declared.side.Side.{Side}
use Rattle.scp_shown.specs.Listed.{Picks}
use Rattle.scp_shown.specs.Spoken.{Spoken, spoken_last, AreSayers}
use Rattle.scp_shown.specs.ValueLines.{IsCertified}

-- those of the nodes for whom the value is certified
pub record AreCertified (hs : List Heard) (nodes : List NodeId) (x : List ℕ) (certified : List NodeId) : Type 0 where
  pub externalize : List NodeId
  pub externalize_it : AreSayers hs Externalize x nodes externalize
  pub are_certified : Picks (IsCertified (heard_by hs)) externalize certified

-- a value with the nodes for which it is certified, if there are any
abbrev pub side_of : List ℕ → List NodeId → List Side
side_of x [] = []
side_of x (v ∷ vs) = record { value = x; nodes = v ∷ vs } ∷ []

-- the value is a side if it is certified for some of the nodes
pub record IsSide (hs : List Heard) (nodes : List NodeId) (x : List ℕ) (sides : List Side) : Type 0 where
  pub certified : List NodeId
  pub are_certified : AreCertified hs nodes x certified
  pub all : sides ≡ side_of x certified

-- the line of a node that says this last, unless it says the value that is certified
abbrev pub against : ℕ → List ℕ → NodeId → Spoken → List Line
against ledger x v s = cond (bytes_eq x s.1) [] (Against ledger v s.0 s.1 ∷ [])

-- the line of a node, if its last ballot statement has another value
abbrev pub against_line : ℕ → List Heard → List ℕ → NodeId → List Line
against_line ledger hs x v = option_map_or (against ledger x v) (spoken_last hs v) []

-- the lines of the values that are certified: of none there is no line, of one there are those of the nodes that are against it, of several their split
abbrev pub side_lines : ℕ → List Heard → List NodeId → List Side → List Line
side_lines ledger hs nodes [] = []
side_lines ledger hs nodes (s ∷ []) = flat_map (against_line ledger hs s.value) nodes
side_lines ledger hs nodes (s ∷ t ∷ rest) = Split ledger (s ∷ t ∷ rest) ∷ []
