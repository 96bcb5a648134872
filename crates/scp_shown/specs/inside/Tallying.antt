-- Who says a value, and for whom it is certified and backed.
use Rattle.std.specs.Prelude.{ℕ, List}
use Rattle.scp_history.specs.scp_types.specs.declared.names.NodeId.{NodeId}
use Rattle.scp_history.specs.scp_ledger.specs.Journal.{Heard}
use Rattle.scp_history.specs.scp_judged.specs.Verdicts.{heard_by}
use Rattle.scp_history.specs.scp_judged.specs.Backed.{IsBacked}
use Rattle.scp_history.specs.declared.line.Counts.{Counts}
use Rattle.scp_history.specs.declared.line.StatementWord.TheVariants.{Externalize, Confirm, Prepare}
use Rattle.scp_shown.specs.Listed.{Picks}
use Rattle.scp_shown.specs.Spoken.{AreSayers}
use Rattle.scp_shown.specs.ValueLines.{IsCertified, IsNotCertified, IsNotBacked, counts_of}
use Rattle.scp_shown.specs.declared.tally.Tally.{Tally}

-- the tally of a value among these nodes
pub record IsTally (hs : List Heard) (nodes : List NodeId) (x : List ℕ) (t : Tally) : Type 0 where
  pub externalize : AreSayers hs Externalize x nodes t.externalize.items
  pub confirm : AreSayers hs Confirm x nodes t.confirm.items
  pub prepare : AreSayers hs Prepare x nodes t.prepare.items
  pub certified : Picks (IsCertified (heard_by hs)) t.externalize.items t.certified.holds.items
  pub uncertified : Picks (IsNotCertified (heard_by hs)) t.externalize.items t.certified.fails.items
  pub backed : Picks (IsBacked (heard_by hs) x) nodes t.backed.holds.items
  pub others : Picks (IsNotBacked (heard_by hs) x) nodes t.backed.fails.items
  pub unbacked : AreSayers hs Externalize x t.backed.fails.items t.unbacked.items

-- the numbers of a tally
abbrev pub counted : Tally → Counts
counted t = counts_of t.externalize.items t.confirm.items t.prepare.items t.certified.holds.items t.backed.holds.items
