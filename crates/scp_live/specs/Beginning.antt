-- What a node begins with when it runs as a process (this project's profile).
use Rattle.std.specs.Prelude.{ℕ, ◌≡◌, List, [], ◌++◌, map, codes, Some}
use Rattle.hex.specs.Hex.{encode_lower}
use Rattle.sha2.specs.Sha256.{sha256}
use Rattle.toml.specs.Data.{Members}
use Rattle.toml.specs.Parse.{parse_document}
use Rattle.scp_again.specs.scp_driver.specs.Kv.{kv_says}
use Rattle.scp_again.specs.scp_core.specs.declared.config.Config.{Config}
use Rattle.scp_again.specs.scp_core.specs.Theorem.{LedgerTheoremFrom}
use Rattle.scp_live_config.specs.Config.{IsConfigOf}
use Rattle.scp_live_config.specs.Form.{form}
use Rattle.scp_live_config.specs.Names.{Identity}
use Rattle.scp_live_config.specs.declared.settings.Settings.{Settings}
use Rattle.scp_live.specs.Live.{LiveView}

-- The text is the TOML of a configuration with these settings.
pub record Configures (text : List ℕ) (settings : Settings) : Type 0 where
  pub doc : Members
  pub parsed : parse_document text ≡ Some doc
  pub says : IsConfigOf doc settings

-- The digest of a configuration: the SHA-256 (FIPS 180-4) of its one form.
abbrev pub digest_of : Settings → List ℕ
digest_of settings = sha256 (form settings)

-- The first line of a log. It says by its digest which configuration the log belongs to.
abbrev pub header_of : List ℕ → List ℕ
header_of digest = codes "scp_node 1 " ++ encode_lower digest ++ codes "\n"

-- The line that `check` writes for a valid configuration.
abbrev pub checked_line : List ℕ → List ℕ
checked_line digest = codes "ok " ++ encode_lower digest ++ codes "\n"

-- The configuration of the node itself, as these settings give it.
abbrev pub config_in : Settings → Config
config_in settings = record {
  me = settings.node.id;
  set = settings.set;
  peers = map (λ (peer : Identity). peer.id) settings.peers.items;
  capacities = settings.capacities;
}

-- A node with these settings, which begins with this slot and with the state that these bytes say, and has received no event yet.
pub record IsNewFrom (settings : Settings) (first : ℕ) (base : List ℕ) (v : LiveView) : Type 0 where
  pub config : v.node.config ≡ config_in settings
  pub names : v.names ≡ map (λ (peer : Identity). peer.name) settings.peers.items
  pub nodes : v.nodes ≡ settings.names.items
  pub theorem : LedgerTheoremFrom kv_says first base [] v.node

-- The same of the node as it is made: from slot 1, and from the empty state.
abbrev pub IsNew : Settings → LiveView → Type 0
IsNew settings v = IsNewFrom settings 1 [] v
