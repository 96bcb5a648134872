-- The lines of a value.
use Rattle.std.specs.Prelude.{◌≡◌, ℕ, List, [], ◌∷◌, ◌++◌, length, Option}
use Rattle.scp_history.specs.scp_types.specs.declared.names.NodeId.{NodeId}
use Rattle.scp_history.specs.scp_ledger.specs.Journal.{Heard}
use Rattle.scp_history.specs.scp_judged.specs.Verdicts.{heard_by}
use Rattle.scp_history.specs.scp_judged.specs.Certified.{IsCertifiedFor}
use Rattle.scp_history.specs.scp_judged.specs.Backed.{IsBacked}
use Rattle.scp_history.specs.declared.line.Counts.{Counts}
use Rattle.scp_history.specs.declared.line.Line.{Line}
use Rattle.scp_history.specs.declared.line.Line.TheVariants.{Value, Uncertified, Unbacked}
use Rattle.scp_history.specs.declared.line.StatementWord.TheVariants.{Externalize, Confirm, Prepare}
use Rattle.scp_shown.specs.Listed.{Picks}
use Rattle.scp_shown.specs.Spoken.{AreSayers}

-- the ledger is certified for the node: with some value, nH and nodes
abbrev pub IsCertified : (NodeId → Option Heard) → NodeId → Type 0
IsCertified heard v = (x : List ℕ) × (n : ℕ) × (nodes : List NodeId) × IsCertifiedFor heard v x n nodes

-- it isn't
abbrev pub IsNotCertified : (NodeId → Option Heard) → NodeId → Type 0
IsNotCertified heard v = ¬ IsCertified heard v

-- the node isn't backed
abbrev pub IsNotBacked : (NodeId → Option Heard) → List ℕ → NodeId → Type 0
IsNotBacked heard x v = ¬ IsBacked heard x v

-- a line of some nodes, where there are any
abbrev pub if_any : (List NodeId → Line) → List NodeId → List Line
if_any line [] = []
if_any line (v ∷ vs) = line (v ∷ vs) ∷ []

-- The numbers of a value.
abbrev pub counts_of : List NodeId → List NodeId → List NodeId → List NodeId → List NodeId → Counts
counts_of externalize confirm prepare certified backed = record { externalize = length externalize; confirm = length confirm; prepare = length prepare; certified = length certified; backed = length backed }

-- The lines of a value among these nodes: how many say it last by which statement, for how many of those who externalize it it is certified, and
-- how many nodes are backed; then, of those who externalize it, for whom it isn't certified, and who isn't backed.
pub record AreValueLines (ledger : ℕ) (hs : List Heard) (nodes : List NodeId) (x : List ℕ) (lines : List Line) : Type 0 where
  pub externalize : List NodeId
  pub confirm : List NodeId
  pub prepare : List NodeId
  pub certified : List NodeId
  pub uncertified : List NodeId
  pub backed : List NodeId
  pub others : List NodeId
  pub unbacked : List NodeId
  pub externalize_it : AreSayers hs Externalize x nodes externalize
  pub confirm_it : AreSayers hs Confirm x nodes confirm
  pub prepare_it : AreSayers hs Prepare x nodes prepare
  pub are_certified : Picks (IsCertified (heard_by hs)) externalize certified
  pub are_uncertified : Picks (IsNotCertified (heard_by hs)) externalize uncertified
  pub are_backed : Picks (IsBacked (heard_by hs) x) nodes backed
  pub are_others : Picks (IsNotBacked (heard_by hs) x) nodes others
  pub are_unbacked : AreSayers hs Externalize x others unbacked
  pub all : lines ≡ (Value ledger x (counts_of externalize confirm prepare certified backed) ∷ if_any (λ vs. Uncertified ledger vs) uncertified) ++ if_any (λ vs. Unbacked ledger vs) unbacked
