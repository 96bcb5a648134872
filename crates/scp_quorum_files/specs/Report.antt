-- The report on the quorums of a network, in lines, with the names of its nodes (this project's profile).
use Rattle.std.specs.Prelude.{◌≡◌, ℕ, Bool, false, not, List, [], ◌∷◌, ◌++◌, filter, flat_map, map, count_by, length, codes, string_bytes}
use Rattle.std.specs.Fmt.{decimal}
use Rattle.std.specs.List.{list_any}
use Rattle.std.specs.Str.{bytes_eq}
use Rattle.std.specs.Cmp.Lexicographic.{pointwise}
use Rattle.std.specs.Prelude.{nat_eq}
use Rattle.std.specs.BTreeSet.{BTreeSet}
use Rattle.scp_quorum_search.specs.scp_types.specs.declared.names.NodeId.{NodeId}
use Rattle.scp_quorum_search.specs.scp_quorum.specs.NodeSet.{is_in}
use Rattle.scp_quorum_search.specs.declared.member.Member.{Member}
use Rattle.scp_quorum_search.specs.declared.tries.Tries.{Tries}
use Rattle.scp_quorum_search.specs.declared.meeting.Meeting.{Meeting}
use Rattle.scp_quorum_search.specs.declared.meeting.Meeting.TheVariants as meeting
use Rattle.scp_quorum_search.specs.declared.halting.Halting.{Halting}
use Rattle.scp_quorum_search.specs.declared.halting.Halting.TheVariants as halting
use Rattle.scp_quorum_search.specs.declared.surviving.Survival.{Survival}
use Rattle.scp_quorum_search.specs.declared.surviving.Survival.TheVariants as survival
use Rattle.scp_quorum_search.specs.Meeting.{ShowsBeside}
use Rattle.scp_quorum_search.specs.Losses.{ShowsHalting, ShowsSurvived}
use Rattle.scp_quorum_files.specs.declared.network.Named.{Named}
use Rattle.scp_quorum_files.specs.declared.network.Network.{Network}
use Rattle.scp_quorum_files.specs.declared.network.Organisation.{Organisation}
use Rattle.scp_quorum_files.specs.Networks.{each_once}

-- ---- names

-- The names of those that are among these nodes.
abbrev pub names_among : List Named → (NodeId → Bool) → List (List ℕ)
names_among all nodes = map (λ node. string_bytes node.name) (filter (λ node. nodes node.id) all)

-- Names with commas between them, or `-` for none.
abbrev pub listed_text : List (List ℕ) → List ℕ
listed_text [] = codes "-"
listed_text (name ∷ names) = name ++ flat_map (λ other. codes "," ++ other) names

-- The names of the nodes, with commas between them, or `-` for none.
abbrev pub names_text : List Named → (NodeId → Bool) → List ℕ
names_text all nodes = listed_text (names_among all nodes)

-- The node is this member's.
abbrev pub is_members : NodeId → Member → Bool
is_members node m = pointwise nat_eq m.node.0 node.0

-- The node is a member.
abbrev pub is_member : List Member → NodeId → Bool
is_member members node = list_any (is_members node) members

-- ---- what the document says

-- How many nodes there are, and how many of them have a quorum set.
abbrev pub count_line : List Named → List Member → List ℕ
count_line all members = codes "nodes " ++ decimal (length all) ++ codes ", " ++ decimal (length members) ++ codes " with a quorum set\n"

-- The nodes that have no quorum set, if there are any.
abbrev pub without_line : List (List ℕ) → List ℕ
without_line [] = []
without_line (name ∷ names) = codes "no quorum set of " ++ decimal (length (name ∷ names)) ++ codes ": " ++ listed_text (name ∷ names) ++ codes "\n"

-- A key that isn't known, and how often it comes.
abbrev pub stray_line : List (List ℕ) → List ℕ → List ℕ
stray_line strays key = codes "unknown key " ++ key ++ codes ", " ++ decimal (count_by (bytes_eq key) strays) ++ codes " times\n"

-- An organisation, and its nodes.
abbrev pub organisation_line : List Named → Organisation → List ℕ
organisation_line all o = codes "organisation " ++ string_bytes o.name ++ codes ": " ++ names_text all (λ v. list_any (λ w. pointwise nat_eq w.0 v.0) o.nodes.items) ++ codes "\n"

-- What the document says of the network.
abbrev pub said_text : List (List ℕ) → Network → List ℕ
said_text strays network =
    count_line network.nodes.items network.members.items
    ++ without_line (names_among network.nodes.items (λ v. not (is_member network.members.items v)))
    ++ flat_map (stray_line strays) (each_once strays)
    ++ flat_map (organisation_line network.nodes.items) network.organisations.items

-- ---- what its quorums come to

-- The line on two quorums without a common node.
abbrev pub meeting_line : List Named → ℕ → Meeting → List ℕ
meeting_line all made (meeting.Disjoint one other) = codes "disjoint " ++ names_text all (is_in one) ++ codes " | " ++ names_text all (is_in other) ++ codes "\n"
meeting_line all made meeting.Intersect = codes "intersect yes\n"
meeting_line all made meeting.Unknown = codes "intersect unknown after " ++ decimal made ++ codes " tries\n"

-- The name of a node.
abbrev pub name_text : List Named → NodeId → List ℕ
name_text all node = names_text all (λ v. pointwise nat_eq v.0 node.0)

-- The line of a set of nodes whose loss halts a node.
abbrev pub lost_line : List Named → NodeId → BTreeSet NodeId → List ℕ
lost_line all at lost = codes "blocks " ++ name_text all at ++ codes ": " ++ names_text all (is_in lost) ++ codes "\n"

-- The lines of the smallest sets of nodes whose loss halts a node. Where not all are known, a line says so.
abbrev pub halting_lines : List Named → NodeId → ℕ → Halting → List ℕ
halting_lines all at made (halting.All found) = flat_map (lost_line all at) found.items
halting_lines all at made (halting.Some found) =
    flat_map (lost_line all at) found.items ++ (codes "blocks " ++ name_text all at ++ codes ": unknown after " ++ decimal made ++ codes " tries\n")

-- How many nodes may be lost.
abbrev pub survival_line : ℕ → Survival → List ℕ
survival_line made (survival.Most count) = codes "survives " ++ decimal count ++ codes "\n"
survival_line made survival.None = codes "survives none\n"
survival_line made (survival.Unknown below) = codes "survives unknown, all below " ++ decimal below ++ codes ", after " ++ decimal made ++ codes " tries\n"

-- The line that shows whether each two quorums of the members beside the liars have a common node.
abbrev pub TellsMeeting : List Named → (NodeId → Bool) → List Member → List ℕ → Type 0
TellsMeeting all liars members text = (tries : Tries) × (found : Meeting) × ShowsBeside liars members tries found × (text ≡ meeting_line all tries.made found)

-- The lines of the smallest sets whose loss halts a node.
abbrev pub TellsHalting : List Named → List Member → NodeId → List ℕ → Type 0
TellsHalting all members at text = (tries : Tries) × (found : Halting) × ShowsHalting members at tries found × (text ≡ halting_lines all at tries.made found)

-- These lines for each of these members, in their order.
abbrev pub TellAllHalting : List Named → List Member → List Member → List ℕ → Type 0
TellAllHalting all members [] text = text ≡ []
TellAllHalting all members (m ∷ ms) text = (front back : List ℕ) × TellsHalting all members m.node front × TellAllHalting all members ms back × (text ≡ front ++ back)

-- The line on how many members may be lost.
abbrev pub TellsSurvival : List Member → List ℕ → Type 0
TellsSurvival members text = (tries : Tries) × (found : Survival) × ShowsSurvived members tries found × (text ≡ survival_line tries.made found)

-- The whole report: what the document says, whether quorums have common nodes, which losses halt each node, and how many nodes may be lost.
pub record TellsNetwork (network : Network) (text : List ℕ) : Type 0 where
  pub meeting : List ℕ
  pub halting : List ℕ
  pub survival : List ℕ
  pub intersects : TellsMeeting network.nodes.items (λ v. false) network.members.items meeting
  pub halts : TellAllHalting network.nodes.items network.members.items network.members.items halting
  pub survives : TellsSurvival network.members.items survival
  pub is : text ≡ said_text (map string_bytes network.strays.items) network ++ (meeting ++ (halting ++ survival))

-- The report beside nodes that lie: what the document says, who lies, and whether quorums have common nodes all the same.
pub record TellsBeside (network : Network) (liars : NodeId → Bool) (text : List ℕ) : Type 0 where
  pub meeting : List ℕ
  pub intersects : TellsMeeting network.nodes.items liars network.members.items meeting
  pub is : text ≡ said_text (map string_bytes network.strays.items) network
      ++ ((codes "lying " ++ names_text network.nodes.items liars ++ codes "\n") ++ meeting)
