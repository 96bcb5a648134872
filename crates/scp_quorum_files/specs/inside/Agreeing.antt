-- Names of configurations, added one after another.
-- No public clause reaches this: nothing here need be believed.
use Rattle.std.specs.Prelude.{◌≡◌, ◌↔◌, ◌⊎◌, Bool, true, false, List, [], ◌∷◌, ◌++◌, string_bytes}
use Rattle.std.specs.List.{All, Any}
use Rattle.scp_live_config.specs.Names.{Identity, NoTwo}
use Rattle.scp_live_config.specs.declared.settings.Settings.{Settings}
use Rattle.scp_quorum_search.specs.declared.member.Member.{Member}
use Rattle.scp_quorum_files.specs.declared.network.Named.{Named}
use Rattle.scp_quorum_files.specs.declared.network.Network.{Network}
use Rattle.scp_quorum_files.specs.declared.configs.ConfigsFault.{ConfigsFault}
use Rattle.scp_quorum_files.specs.declared.configs.ConfigsFault.TheVariants as fault
use Rattle.scp_quorum_files.specs.Configs.{IsNamed, IsMemberOf}

-- a node has the name exactly if it has the id
abbrev pub Agrees : Named → Identity → Type 0
Agrees node identity = (string_bytes node.name ≡ identity.name) ↔ (node.id ≡ identity.id)

-- no two nodes have one name or one id
abbrev pub AreApart : List Named → Type 0
AreApart nodes = NoTwo (λ (node : Named). string_bytes node.name) nodes × NoTwo (λ (node : Named). node.id) nodes

-- Each identity was added: it is there, and so are those that were, and no others. The nodes are apart if they were.
pub record AddAll (old : List Named) (identities : List Identity) (new : List Named) : Type 0 where
  pub kept : (i : Identity) → Any (IsNamed i) old → Any (IsNamed i) new
  pub there : All (λ i. Any (IsNamed i) new) identities
  pub from : (i : Identity) → Any (IsNamed i) new → Any (IsNamed i) old ⊎ Any (λ j. j ≡ i) identities
  pub apart : AreApart old → AreApart new

-- no nodes that are apart are all the old ones and these
abbrev pub NoneHave : List Named → List Identity → Type 0
NoneHave old identities =
    (all : List Named) → ((i : Identity) → Any (IsNamed i) old → Any (IsNamed i) all) → All (λ i. Any (IsNamed i) all) identities → AreApart all → ⊥

-- the identities were added, or can't be
abbrev pub AddsNames : List Named → List Identity → List Named → Bool → Type 0
AddsNames old identities new true = AddAll old identities new
AddsNames old identities new false = NoneHave old identities

-- the node of the settings was added to the network
pub record AddsSettings (old : Network) (settings : Settings) (new : Network) : Type 0 where
  pub names : AddAll old.nodes.items settings.names.items new.nodes.items
  pub other : Any (λ m. m.node ≡ settings.node.id) old.members.items → ⊥
  pub member : Member
  pub member_is : IsMemberOf settings member
  pub members : new.members.items ≡ old.members.items ++ member ∷ []
  pub strays : new.strays ≡ old.strays
  pub organisations : new.organisations ≡ old.organisations

-- why the node of the settings isn't added
abbrev pub DontAgree : Network → Settings → ConfigsFault → Type 0
DontAgree network settings fault.NoMemory = Unit {0}
DontAgree network settings (fault.Config place f) = ⊥
DontAgree network settings (fault.Twice place) = Any (λ m. m.node ≡ settings.node.id) network.members.items
DontAgree network settings (fault.Names place) = NoneHave network.nodes.items settings.names.items
