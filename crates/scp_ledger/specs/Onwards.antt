-- What goes on to the applier, and the window of its decisions.
use Rattle.std.specs.Prelude.{ℕ, List, [], ◌∷◌, ◌++◌, flat_map}
use Rattle.scp_ledger.specs.declared.journal.Decision.{Decision}
use Rattle.scp_ledger.specs.declared.took.Onward.{Onward}
use Rattle.scp_ledger.specs.declared.took.Onward.TheVariants.{Decided, Asked}
use Rattle.scp_ledger.specs.Decisions.{IsNext, AreInWindow}

-- the decision, if it is one that goes on
abbrev pub decision_on : Onward → List Decision
decision_on (Decided d) = d ∷ []
decision_on (Asked link slot) = []

-- the decisions among what goes on
abbrev pub decisions_on : List Onward → List Decision
decisions_on onwards = flat_map decision_on onwards

-- the request for a record, if it is one that goes on
abbrev pub request_on : Onward → List Onward
request_on (Decided d) = []
request_on (Asked link slot) = Asked link slot ∷ []

-- the requests among what goes on
abbrev pub requests_on : List Onward → List Onward
requests_on onwards = flat_map request_on onwards

-- ---- the window

-- After these the thing may be sent: a request always; a decision if its slot is one of the 16 from the
-- lowest slot, from the first one on, without a decision among them, and has none itself.
abbrev pub MaySend : ℕ → List Onward → Onward → Type 0
MaySend first earlier (Decided d) = IsNext first (decisions_on earlier) d
MaySend first earlier (Asked link slot) = Unit {0}

-- each thing might be sent after those before it
abbrev pub KeepsWindow : ℕ → List Onward → Type 0
KeepsWindow first sent = AreInWindow first [] (decisions_on sent)

-- The window is kept by each beginning of a list that keeps it, and with one thing more exactly where that may be sent.
pub record WindowIsKept : Type 0 where
  pub begins : (first : ℕ) (xs ys : List Onward) → KeepsWindow first (xs ++ ys) → KeepsWindow first xs
  pub more : (first : ℕ) (xs : List Onward) (x : Onward) → KeepsWindow first xs → MaySend first xs x → KeepsWindow first (xs ++ x ∷ [])
  pub last : (first : ℕ) (xs : List Onward) (x : Onward) → KeepsWindow first (xs ++ x ∷ []) → MaySend first xs x
