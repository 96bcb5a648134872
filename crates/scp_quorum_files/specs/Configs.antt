-- What the configurations of nodes say of a network (this project's profile).
use Rattle.std.specs.Prelude.{◌≡◌, ℕ, List, [], Some, IsSomeAnd, string_bytes, codes}
use Rattle.std.specs.List.{All, Any, AllZip, slice_get}
use Rattle.toml.specs.Parse.{parse_document}
use Rattle.scp_live_config.specs.Names.{Identity, NoTwo}
use Rattle.scp_live_config.specs.Config.{IsConfigOf}
use Rattle.scp_live_config.specs.Wrong.{IsFaultOf}
use Rattle.scp_live_config.specs.Texts.{fault_text}
use Rattle.scp_live_config.specs.declared.settings.Settings.{Settings}
use Rattle.scp_quorum_search.specs.declared.member.Member.{Member}
use Rattle.scp_quorum_files.specs.declared.network.Named.{Named}
use Rattle.scp_quorum_files.specs.declared.network.Network.{Network}
use Rattle.scp_quorum_files.specs.declared.configs.ConfigsFault.{ConfigsFault}
use Rattle.scp_quorum_files.specs.declared.configs.ConfigsFault.TheVariants as fault

-- The node has this name and this id.
abbrev pub IsNamed : Identity → Named → Type 0
IsNamed identity node = (string_bytes node.name ≡ identity.name) × (node.id ≡ identity.id)

-- The settings of a node, and its quorum set, are this member.
abbrev pub IsMemberOf : Settings → Member → Type 0
IsMemberOf settings m = (m.node ≡ settings.node.id) × (m.set ≡ settings.set)

-- The text is a valid configuration, and these are its settings.
abbrev pub SaysSettings : List ℕ → Settings → Type 0
SaysSettings text settings = IsSomeAnd (parse_document text) (λ doc. IsConfigOf doc settings)

-- Each text is a configuration. The members are their nodes, with their quorum sets, in this order. The nodes are all that the
-- configurations name. No two nodes have one name or one id, and no two configurations are of one node.
pub record AreConfigsOf (texts : List (List ℕ)) (network : Network) : Type 0 where
  pub settings : List Settings
  pub said : AllZip SaysSettings texts settings
  pub members : AllZip IsMemberOf settings network.members.items
  pub once : NoTwo (λ (m : Member). m.node) network.members.items
  pub named : All (λ s. All (λ i. Any (IsNamed i) network.nodes.items) s.names.items) settings
  pub no_more : All (λ node. Any (λ s. Any (λ i. IsNamed i node) s.names.items) settings) network.nodes.items
  pub names : NoTwo (λ (node : Named). string_bytes node.name) network.nodes.items
  pub ids : NoTwo (λ (node : Named). node.id) network.nodes.items
  pub no_strays : network.strays.items ≡ []
  pub no_organisations : network.organisations.items ≡ []

-- This is why configurations give no network: memory ran out; or the text at this place is no configuration; or they don't agree.
abbrev pub IsConfigsFault : List (List ℕ) → ConfigsFault → Type 0
IsConfigsFault texts fault.NoMemory = Unit {0}
IsConfigsFault texts (fault.Config place f) = (text : List ℕ) × (slice_get texts place ≡ Some text) × IsFaultOf text f
IsConfigsFault texts (fault.Twice place) = (network : Network) → AreConfigsOf texts network → ⊥
IsConfigsFault texts (fault.Names place) = (network : Network) → AreConfigsOf texts network → ⊥

-- The words of a fault, without its place.
abbrev pub configs_words : ConfigsFault → List ℕ
configs_words fault.NoMemory = codes "no memory"
configs_words (fault.Config place f) = fault_text f
configs_words (fault.Twice place) = codes "NODE: expected another node than an earlier file's"
configs_words (fault.Names place) = codes "NODES: expected the names and ids of earlier files"
