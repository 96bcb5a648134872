-- What is heard of a ledger: of each node the newest ballot statement, in the order of the entries.
use Rattle.std.specs.Prelude.{◌≡◌, ◌⊎◌, ◌++◌, List, [], ◌∷◌}
use Rattle.std.specs.Option.{ForSome}
use Rattle.scp_history.specs.scp_envelope.specs.Newer.{IsNewer}
use Rattle.scp_history.specs.scp_vote.specs.Board.{kind_of_pledges}
use Rattle.scp_history.specs.scp_vote.specs.declared.claim.StatementKind.TheVariants.{Balloting}
use Rattle.scp_history.specs.scp_ledger.specs.Journal.{Heard}
use Rattle.scp_history.specs.scp_judged.specs.Verdicts.{heard_by}
use Rattle.scp_history.specs.scp_judged.specs.Certified.{IsSaneHeard}

-- it is a sane ballot statement that is the first of its node, or newer than the last one (what counts of an archive is sane)
abbrev pub IsNextBallot : List Heard → Heard → Type 0
IsNextBallot hs h = IsSaneHeard h × (kind_of_pledges h.statement.pledges ≡ Balloting) × ForSome (heard_by hs h.statement.node) (λ last. IsNewer last.statement h.statement)

-- a statement is heard too if it is the next of its node
abbrev pub JoinsOne : List Heard → Heard → List Heard → Type 0
JoinsOne old h new = (IsNextBallot old h × (new ≡ old ++ h ∷ [])) ⊎ ((¬ IsNextBallot old h) × (new ≡ old))

-- more statements are heard, each in turn
abbrev pub Joins : List Heard → List Heard → List Heard → Type 0
Joins first [] last = last ≡ first
Joins first (h ∷ hs) last = (next : List Heard) × JoinsOne first h next × Joins next hs last
