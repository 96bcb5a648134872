-- A node that was made of settings, and the first line of its log.
use Rattle.std.proofs.Common.{◌≡◌, ℕ, List, [], ◌∷◌, ◌++◌, sym, ◌∙◌, ap, false, subst, append_assoc, refl, inl, inr, ⊎_elim}
use Rattle.std.specs.Prelude.{◌⊎◌, ◌↔◌, Result, Ok, Err, IfOk, IfErr, map, codes}
use Rattle.scp_again.specs.scp_types.specs.declared.fault.Fault.TheVariants.{BadConfig, NoMemory}
use Rattle.scp_again.specs.scp_xdr.specs.Words.{IsReadingFault}
use Rattle.scp_again.specs.scp_core.specs.Config.{IsConfigOfMany}
use Rattle.hex.specs.Hex.{encode_lower}
use Rattle.scp_again.specs.scp_types.specs.declared.fault.Fault.{Fault}
use Rattle.scp_again.specs.scp_core.specs.declared.config.Config.{Config}
use Rattle.scp_again.specs.scp_driver.specs.Kv.{kv_says}
use Rattle.scp_again.specs.scp_core.specs.Theorem.{LedgerTheoremFrom}
use Rattle.scp_live_config.specs.Names.{Identity}
use Rattle.scp_live_config.specs.declared.settings.Settings.{Settings}
use Rattle.scp_live_log.specs.Log.{IsLine}
use Rattle.scp_live.specs.Live.{LiveView}
use Rattle.scp_live.specs.Living.{IsLive}
use Rattle.scp_live.specs.Beginning.{IsNewFrom, config_in, header_of}
use Rattle.scp_live.proofs.Living.{live_new}

pub is_new : (r : Result LiveView Fault) (settings : Settings) (config : Config) (names : List (List ℕ)) (nodes : List Identity) (first : ℕ) (base : List ℕ) → config ≡ config_in settings → names ≡ map (λ (peer : Identity). peer.name) settings.peers.items → nodes ≡ settings.names.items
    → IfOk r (λ live. live.node.config ≡ config) → IfOk r (λ live. live.names ≡ names) → IfOk r (λ live. live.nodes ≡ nodes) → IfOk r (λ live. LedgerTheoremFrom kv_says first base [] live.node) → IfOk r (IsNewFrom settings first base)
is_new (Ok live) settings config names nodes first base c n m config_is names_is nodes_are theorem = record { config = config_is ∙ c; names = names_is ∙ n; nodes = nodes_are ∙ m; theorem = theorem }
is_new (Err f) settings config names nodes first base c n m config_is names_is nodes_are theorem = tt

-- why there is no new node
pub new_only : (r : Result LiveView Fault) (settings : Settings) (config : Config) → config ≡ config_in settings → (r ≡ Err BadConfig) ↔ (¬ (IsConfigOfMany config)) → IfErr r (λ f. (f ≡ BadConfig) ⊎ (f ≡ NoMemory)) → IfErr r (λ f. (f ≡ NoMemory) ⊎ ((f ≡ BadConfig) × ¬ (IsConfigOfMany (config_in settings))))
new_only (Ok live) settings config is refused only = tt
new_only (Err f) settings config is refused only =
    ⊎_elim
    (λ (bad : f ≡ BadConfig). inr (bad, λ fit. refused.0 (ap (λ (x : Fault). Err x) bad) (subst (λ (c : Config). IsConfigOfMany c) (sym is) fit)))
    (λ (memory : f ≡ NoMemory). inl memory)
    only

-- the same of one that begins with a state
pub begun_only : (B : Type 0) (r : Result LiveView Fault) (settings : Settings) (config : Config) → config ≡ config_in settings → (r ≡ Err BadConfig) ↔ (¬ (IsConfigOfMany config)) → IfErr r (λ f. IsReadingFault f → ¬ B) → IfErr r (λ f. (f ≡ BadConfig) ⊎ ((f ≡ NoMemory) ⊎ IsReadingFault f))
    → IfErr r (λ f. (f ≡ NoMemory) ⊎ (((f ≡ BadConfig) × ¬ (IsConfigOfMany (config_in settings))) ⊎ (IsReadingFault f × ¬ B)))
begun_only B (Ok live) settings config is refused unsaid only = tt
begun_only B (Err f) settings config is refused unsaid only =
    ⊎_elim
    (λ (bad : f ≡ BadConfig). inr (inl (bad, λ fit. refused.0 (ap (λ (x : Fault). Err x) bad) (subst (λ (c : Config). IsConfigOfMany c) (sym is) fit))))
    (λ (more : (f ≡ NoMemory) ⊎ IsReadingFault f).
    ⊎_elim
    (λ (memory : f ≡ NoMemory). inl memory)
    (λ (none : IsReadingFault f). inr (inr (none, unsaid none)))
    more)
    only

pub is_live : (r : Result LiveView Fault) (first : ℕ) (base : List ℕ) → IfOk r (λ live. LedgerTheoremFrom kv_says first base [] live.node) → IfOk r (λ live. live.node.failed ≡ false) → IfOk r (λ live. IsLive live.node)
is_live (Ok live) first base theorem runs = live_new first base live.node theorem runs
is_live (Err f) first base theorem runs = tt

-- ---- the first line

no_line : (front rest : List ℕ) → IsLine (front ++ 10 ∷ rest) → ⊥
no_line [] rest line = line.0 refl
no_line (k ∷ front) rest line = no_line front rest line.1

pub header_is_no_line : (digest : List ℕ) → ¬ (IsLine (header_of digest))
header_is_no_line digest = λ line. no_line (codes "scp_node 1 " ++ encode_lower digest) [] (subst IsLine (sym (append_assoc (codes "scp_node 1 ") (encode_lower digest) (10 ∷ []))) line)
