-- The one form of a configuration as bytes, from which its digest is made (this project's profile).
use Rattle.std.specs.Prelude.{◌≡◌, ℕ, ◌<◌, ◌^◌, ◌++◌, List, length, flat_map}
use Rattle.std.specs.List.{AllByRecursion}
use Rattle.scp_quorum.specs.scp_xdr.specs.Kind.{Fits}
unfoldable pub use Rattle.scp_quorum.specs.scp_xdr.specs.Kind.{long_word}
use Rattle.scp_quorum.specs.QuorumKind.{set_kind, set_value, set_spelling}
use Rattle.scp_live_config.specs.Names.{Identity}
use Rattle.scp_live_config.specs.declared.settings.Settings.{Settings}
use Rattle.scp_quorum.specs.scp_types.specs.declared.capacities.Capacities.{Capacities}

-- A name and an id: the length of the name as 8 bytes, the name, and the 32 bytes of the id.
abbrev pub identity_form : Identity → List ℕ
identity_form identity = long_word (length identity.name) ++ identity.name ++ identity.id.0

-- The number of names and ids as 8 bytes, and then each of them.
abbrev pub identities_form : List Identity → List ℕ
identities_form identities = long_word (length identities) ++ flat_map identity_form identities

-- The four capacities, each as 8 bytes.
abbrev pub capacities_form : Capacities → List ℕ
capacities_form c = long_word c.link ++ long_word c.inbox ++ long_word c.ready ++ long_word c.decided

-- The form of settings: the node, the names, the peers in their order, the capacities, and the XDR of the quorum set (RFC 4506).
abbrev pub form : Settings → List ℕ
form s = identity_form s.node ++ identities_form s.names.items ++ identities_form s.peers.items ++ capacities_form s.capacities ++ set_spelling s.set

-- The name's length is below 2^64, as for every text in memory, and the id has 32 bytes.
abbrev pub IsFormed : Identity → Type 0
IsFormed identity = (length identity.name < 2 ^ 64) × (length identity.id.0 ≡ 32)

-- Each number and length of the settings is below 2^64, each id has 32 bytes, and the quorum set can be encoded as XDR.
pub record AreFormed (s : Settings) : Type 0 where
  pub node : IsFormed s.node
  pub names : AllByRecursion IsFormed s.names.items
  pub names_len : length s.names.items < 2 ^ 64
  pub peers : AllByRecursion IsFormed s.peers.items
  pub peers_len : length s.peers.items < 2 ^ 64
  pub link : s.capacities.link < 2 ^ 64
  pub inbox : s.capacities.inbox < 2 ^ 64
  pub ready : s.capacities.ready < 2 ^ 64
  pub decided : s.capacities.decided < 2 ^ 64
  pub set : Fits set_kind (set_value s.set)

-- The two settings are the same in each part.
pub record SayTheSame (s t : Settings) : Type 0 where
  pub node : s.node ≡ t.node
  pub names : s.names.items ≡ t.names.items
  pub peers : s.peers.items ≡ t.peers.items
  pub capacities : s.capacities ≡ t.capacities
  pub set : s.set ≡ t.set

-- Two settings with the same form are the same settings.
abbrev pub OneFormOneMeaning : Type 0
OneFormOneMeaning = (s t : Settings) → AreFormed s → AreFormed t → form s ≡ form t → SayTheSame s t
