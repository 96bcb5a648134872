-- What can be encoded: the messages, quorum sets and envelopes of nodes that break no limit.
use Rattle.std.specs.Prelude.{All, Option, Some, None}
use Rattle.scp_line.specs.scp_xdr.specs.Kind.{Fits}
use Rattle.scp_line.specs.scp_quorum.specs.QuorumTree.{QuorumTree}
use Rattle.scp_line.specs.scp_quorum.specs.QuorumKind.{set_kind, set_value}
use Rattle.scp_line.specs.scp_quorum.specs.SharedSet.{SharedSet}
use Rattle.scp_line.specs.scp_envelope.specs.declared.statement.Envelope.{Envelope}
use Rattle.scp_line.specs.scp_envelope.specs.Kinds.{envelope_kind, envelope_value}
use Rattle.scp_line.specs.scp_wire.specs.Fitting.{IsFitting}
use Rattle.scp_line.specs.scp_ledger.specs.declared.journal.Fate.{Fate}
use Rattle.scp_line.specs.scp_ledger.specs.declared.journal.Fate.TheVariants.{Taken, Dropped, Closed}
use Rattle.scp_line.specs.scp_ledger.specs.declared.journal.Origin.{Origin}
use Rattle.scp_line.specs.scp_ledger.specs.declared.journal.Origin.TheVariants.{Machine, Named}
use Rattle.scp_line.specs.scp_report.specs.Report.{ReportView}

-- The quorum set can be encoded.
abbrev pub FitsSet : QuorumTree → Type 0
FitsSet set = Fits set_kind (set_value set)

-- The set that came with a message can be encoded, if there is one.
abbrev pub FitsBeside : Option SharedSet → Type 0
FitsBeside None = Unit {0}
FitsBeside (Some set) = FitsSet set.value

-- The envelope can be encoded.
abbrev pub FitsOwn : Envelope → Type 0
FitsOwn own = Fits envelope_kind (envelope_value own)

-- The message of an entry and the set that came with it can be encoded.
abbrev pub FitsEntry : Fate → Type 0
FitsEntry (Taken conn seq message set verdict) = IsFitting message × FitsBeside set
FitsEntry (Dropped conn seq cause) = Unit {0}
FitsEntry (Closed conn cause) = Unit {0}

-- The own envelope of a decision can be encoded, if it has one.
abbrev pub FitsOrigin : Origin → Type 0
FitsOrigin (Machine n quorum own) = FitsOwn own
FitsOrigin (Named conn seq) = Unit {0}

-- All messages, sets and own envelopes in the account of a node can be encoded.
pub record FitsNode (r : ReportView) : Type 0 where
  pub entries : All FitsEntry r.journal
  pub decisions : All (λ d. FitsOrigin d.origin) r.decisions
  pub set : FitsSet r.set
