-- The audit of an archive: what came of each of its records.
use Rattle.std.specs.Prelude.{◌≡◌, ◌≢◌, ◌↔◌, ℕ, List, [], ◌∷◌, Option, None, Result, Ok, Err, IsTrue}
use Rattle.scp_archive.specs.scp_types.specs.declared.names.Hash.{Hash}
use Rattle.scp_archive.specs.scp_quorum.specs.QuorumTree.{QuorumTree}
use Rattle.scp_archive.specs.scp_xdr.specs.Kind.{Values}
use Rattle.scp_archive.specs.Entry.{entry_kind, entry_value}
use Rattle.scp_archive.specs.Stream.{Framed, IsStream, HasNoRecord, read_of}
use Rattle.scp_archive.specs.declared.entry.Entry.{Entry}
use Rattle.scp_archive.specs.declared.entries.Unread.{Unread as Reason}
use Rattle.scp_audit.specs.Judging.{NamesAll, IsSaneLedger, IsJudged}
use Rattle.scp_audit.specs.declared.archive.Archive.{Archive}
use Rattle.scp_audit.specs.declared.archive.Record.{Record}
use Rattle.scp_audit.specs.declared.archive.Record.TheVariants.{Ledger, Unread}

-- the same sets are named
abbrev pub SameNamed : (Hash → Option QuorumTree) → (Hash → Option QuorumTree) → Type 0
SameNamed old new = (h : Hash) → new h ≡ old h

-- no set is named
abbrev pub nothing_named : Hash → Option QuorumTree
nothing_named h = None

-- What comes of a record, by what is read of it: an entry's sets are named, and its messages are judged by all sets that are named then. Of a
-- record that isn't read the reason is kept, and it names nothing.
abbrev pub Comes : (Hash → Option QuorumTree) → Result (Values entry_kind) Reason → Record → (Hash → Option QuorumTree) → Type 0
Comes old read (Ledger l) new = (e : Entry) × (read ≡ Ok (entry_value e)) × NamesAll old e.sets.items new × IsJudged new e l
Comes old read (Unread why) new = (read ≡ Err why) × SameNamed old new

-- what came of each record in turn, from the sets that are named first to those that are named in the end
abbrev pub AreAudited : (Hash → Option QuorumTree) → List Framed → List Record → (Hash → Option QuorumTree) → Type 0
AreAudited first [] [] last = SameNamed first last
AreAudited first [] (x ∷ xs) last = ⊥
AreAudited first (r ∷ rs) [] last = ⊥
AreAudited first (r ∷ rs) (x ∷ xs) last = (next : Hash → Option QuorumTree) × Comes first (read_of r) x next × AreAudited next rs xs last

-- The bytes are the archive's records, one after another, and a rest that has no whole record. The archive is cut where there is such a rest.
pub record IsArchive (bytes : List ℕ) (a : Archive) : Type 0 where
  pub records : List Framed
  pub rest : List ℕ
  pub stream : IsStream bytes records rest
  pub ends : HasNoRecord rest
  pub cut : IsTrue a.is_cut ↔ (rest ≢ [])
  pub last : Hash → Option QuorumTree
  pub audited : AreAudited nothing_named records a.records.items last

-- what counts of a record is sane
abbrev pub IsSaneRecord : Record → Type 0
IsSaneRecord (Ledger l) = IsSaneLedger l
IsSaneRecord (Unread why) = Unit {0}
