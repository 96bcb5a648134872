-- Why a part of a document isn't read.
-- No public clause reaches this: nothing here need be believed.
use Rattle.std.specs.Prelude.{◌≡◌, ◌⊎◌, ℕ, true, List, [], ◌∷◌, ◌++◌, map, filter, flat_map, Some}
use Rattle.std.specs.List.{AllZip, slice_get}
use Rattle.serde_json.specs.Data.{Data}
use Rattle.scp_quorum_search.specs.declared.member.Member.{Member}
use Rattle.scp_quorum_files.specs.declared.form.Form.{Form}
use Rattle.scp_quorum_files.specs.declared.network.Named.{Named}
use Rattle.scp_quorum_files.specs.declared.network.Organisation.{Organisation}
use Rattle.scp_quorum_files.specs.declared.fault.FileFault.{FileFault}
use Rattle.scp_quorum_files.specs.declared.fault.FileFault.TheVariants as fault
use Rattle.scp_quorum_files.specs.Networks.{node_name, node_set, has_set, names_in, each_once, id_at, names_of, SaysMember, SaysOrganisation}
use Rattle.scp_quorum_files.specs.Faults.{SaysNone}

-- memory ran out, or this can't be
abbrev pub OrFails : FileFault → Type 0 → Type 0
OrFails f never = (f ≡ fault.NoMemory) ⊎ never

-- it isn't that the text isn't JSON
abbrev pub IsNotText : FileFault → Type 0
IsNotText f = f ≡ fault.Text → ⊥

-- these are all names of nodes, and of their quorum sets
pub record AreAllNames (form : Form) (nodes : List Data) (names : List (List ℕ)) : Type 0 where
  pub own : List (List ℕ)
  pub own_are : map (node_name form) nodes ≡ map Some own
  pub once : each_once own ≡ own
  pub names_are : names ≡ each_once (own ++ flat_map (λ d. flat_map (names_in form) (node_set form d)) nodes)

-- these nodes have these names, and each the id of its place
abbrev pub AreNumbered : List (List ℕ) → List Named → Type 0
AreNumbered names nodes = (names_of nodes ≡ names) × ((place : ℕ) (node : Named) → slice_get nodes place ≡ Some node → node.id ≡ id_at place)

-- a node has no name, or two have one
abbrev pub NamesFail : Form → List Data → FileFault → Type 0
NamesFail form nodes f =
    (IsNotText f) × OrFails f ((own : List (List ℕ)) → map (node_name form) nodes ≡ map Some own → each_once own ≡ own → ⊥)

-- the node is this member more, if it has a quorum set
abbrev pub AddsMember : Form → List (List ℕ) → Data → List Member → List Member → Type 0
AddsMember form names d old new =
    (nodes : List Data) → AllZip (SaysMember form names) (filter (has_set form) nodes) old → AllZip (SaysMember form names) (filter (has_set form) (nodes ++ d ∷ [])) new

-- the node has a quorum set, and is no member
abbrev pub MemberFails : Form → List (List ℕ) → Data → FileFault → Type 0
MemberFails form names d f = IsNotText f × OrFails f ((has_set form d ≡ true) × ((m : Member) → SaysMember form names d m → ⊥))

-- a quorum set can't be read
abbrev pub MembersFail : Form → List (List ℕ) → List Data → FileFault → Type 0
MembersFail form names nodes f = IsNotText f × OrFails f ((members : List Member) → AllZip (SaysMember form names) (filter (has_set form) nodes) members → ⊥)

-- an organisation can't be read
abbrev pub OrganisationsFail : List (List ℕ) → List Data → FileFault → Type 0
OrganisationsFail names values f = IsNotText f × OrFails f ((found : List Organisation) → AllZip (SaysOrganisation names) values found → ⊥)

-- the document says nothing of a network
abbrev pub DocumentFails : Data → FileFault → Type 0
DocumentFails doc f = IsNotText f × OrFails f (SaysNone doc)
