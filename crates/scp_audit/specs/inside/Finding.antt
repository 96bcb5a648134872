-- What is found next in an archive.
use Rattle.std.specs.Prelude.{ℕ, List, Option}
use Rattle.scp_archive.specs.scp_types.specs.declared.names.Hash.{Hash}
use Rattle.scp_archive.specs.scp_quorum.specs.QuorumTree.{QuorumTree}
use Rattle.scp_archive.specs.scp_device.specs.Device.{Loses, HasEnded}
use Rattle.scp_archive.specs.Stream.{Framed, IsFramed, framed, read_of, IsCutShort, TakesAll}
use Rattle.scp_audit.specs.Audit.{Comes, IsSaneRecord}
use Rattle.scp_audit.specs.declared.archive.Found.{Found}
use Rattle.scp_audit.specs.declared.archive.Found.TheVariants.{Record, End, Cut}

-- a record is taken off and this comes of it, or nothing is left, or what is left is no whole record
abbrev pub Finds : (Hash → Option QuorumTree) → Option (List ℕ) → Found → (Hash → Option QuorumTree) → Option (List ℕ) → Type 0
Finds old left (Record x) new after = ((r : Framed) × IsFramed r × Loses left (framed r) after × Comes old (read_of r) x new) × IsSaneRecord x
Finds old left End new after = HasEnded left × TakesAll left after
Finds old left Cut new after = IsCutShort left × TakesAll left after
