-- An entry of an archive, judged.
use Rattle.std.specs.Prelude.{◌≡◌, List, [], Option, map}
use Rattle.std.specs.List.{AllByRecursion}
use Rattle.scp_archive.specs.scp_types.specs.declared.names.Hash.{Hash}
use Rattle.scp_archive.specs.scp_quorum.specs.QuorumTree.{QuorumTree}
use Rattle.scp_archive.specs.scp_envelope.specs.declared.statement.Envelope.{Envelope}
use Rattle.scp_archive.specs.declared.entry.Entry.{Entry}
use Rattle.scp_judged.specs.Named.{named, first_there}
use Rattle.scp_judged.specs.Verdicts.{AreVerdicts, heard_of}
use Rattle.scp_judged.specs.Certified.{IsSaneHeard}
use Rattle.scp_judged.specs.declared.messages.Message.{Message}
use Rattle.scp_audit.specs.declared.ledger.Ledger.{Ledger}

-- all of these sets are named too: of the sets of one hash the first counts
abbrev pub NamesAll : (Hash → Option QuorumTree) → List QuorumTree → (Hash → Option QuorumTree) → Type 0
NamesAll old qs new = (h : Hash) → new h ≡ first_there (old h) (named qs h)

-- what counts of a ledger is sane
abbrev pub IsSaneLedger : Ledger → Type 0
IsSaneLedger l = AllByRecursion IsSaneHeard (map heard_of l.judged.counting.items)

-- A ledger has the entry's number and its messages, in their order. Each message has its verdict by the sets that are named.
pub record IsJudged (sets : Hash → Option QuorumTree) (e : Entry) (l : Ledger) : Type 0 where
  pub number : l.number ≡ e.ledger
  pub messages : map (λ (m : Message). m.envelope) l.judged.messages.items ≡ e.messages.items
  pub verdicts : AreVerdicts sets e.ledger [] (map (λ (m : Envelope). m.statement) e.messages.items) (map (λ (m : Message). m.verdict) l.judged.messages.items) (map heard_of l.judged.counting.items)
