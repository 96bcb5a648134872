-- Why a document isn't read.
use Rattle.std.specs.Prelude.{◌≡◌, ◌+◌, ◌++◌, ℕ, List, None, IsSomeAnd, codes}
use Rattle.std.specs.Fmt.{decimal}
use Rattle.serde_json.specs.Data.{Data}
use Rattle.serde_json.specs.Read.{read}
use Rattle.scp_quorum_files.specs.declared.network.Network.{Network}
use Rattle.scp_quorum_files.specs.declared.fault.FileFault.{FileFault}
use Rattle.scp_quorum_files.specs.declared.fault.FileFault.TheVariants as fault
use Rattle.scp_quorum_files.specs.Networks.{IsNetworkOf}

-- The document says of no network that it is this one.
abbrev pub SaysNone : Data → Type 0
SaysNone doc = (network : Network) → IsNetworkOf doc network → ⊥

-- This is why a text isn't read: memory ran out; or it isn't JSON; or it says nothing of a network.
abbrev pub IsFileFault : List ℕ → FileFault → Type 0
IsFileFault text fault.NoMemory = Unit {0}
IsFileFault text fault.Text = read text ≡ None
IsFileFault text fault.Nodes = IsSomeAnd (read text) SaysNone
IsFileFault text (fault.Node place) = IsSomeAnd (read text) SaysNone
IsFileFault text (fault.Twice place) = IsSomeAnd (read text) SaysNone
IsFileFault text (fault.Organisation place) = IsSomeAnd (read text) SaysNone

-- The words of a fault. Nodes and organisations are counted from 1.
abbrev pub file_words : FileFault → List ℕ
file_words fault.NoMemory = codes "no memory"
file_words fault.Text = codes "expected JSON"
file_words fault.Nodes = codes "expected a list of nodes"
file_words (fault.Node place) = codes "node " ++ decimal (place + 1) ++ codes ": expected a name, and a quorum set or none"
file_words (fault.Twice place) = codes "node " ++ decimal (place + 1) ++ codes ": expected another name than an earlier one"
file_words (fault.Organisation place) = codes "organisation " ++ decimal (place + 1) ++ codes ": expected a name and a list of nodes"
