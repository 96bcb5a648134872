-- An event that was played, or refused, as a watch was shown it.
use Rattle.std.proofs.Common.{◌≡◌, true, List, ap}
use Rattle.std.specs.Prelude.{Err, IsErrOf, ◌↔◌}
use Rattle.scp_stand_node.specs.scp_types.specs.declared.fault.Fault.{Fault}
use Rattle.scp_stand_node.specs.scp_types.specs.declared.fault.Fault.TheVariants.{JournalFull}
use Rattle.scp_stand_node.specs.scp_types.specs.declared.names.Hash.{Hash}
use Rattle.scp_stand_node.specs.scp_core.specs.History.{Exchange}
use Rattle.scp_stand_node.specs.scp_core.specs.Kv.{NodeView}
use Rattle.scp_stand_node.specs.scp_turn.specs.Kv.{Goes, Noting, Watched}
use Rattle.scp_stand_node.specs.scp_turn.specs.Episode.{finds_full}
use Rattle.scp_live_process.proofs.Going.{Seen}

same_fault : (f g : Fault) → IsErrOf {T = Hash} (Err f) g → f ≡ g
same_fault f g e = cc

-- it was played
pub acted : {W : Type 0} {X : Type 0} (Note : Noting W) (w z : W) (a b : NodeView) (P : NodeView → List Exchange → NodeView → Type 0) → Goes a b (λ u heard v. P u heard v × Watched Note 1 w u heard v z × (X ↔ (finds_full heard ≡ true))) → Seen Note w z a b (λ heard. P a heard b × (X ↔ (finds_full heard ≡ true)))
acted Note w z a b P g = record { heard = g.heard; is = (g.is.1, (g.is.0, (λ full. g.is.2.0 full, λ found. g.is.2.1 found))); does = g.does; theorem = g.theorem }

-- it was refused, and this is what is reported of it
pub refused_as : {W : Type 0} (Note : Noting W) (f told : Fault) (w z : W) (a b : NodeView) (P : NodeView → List Exchange → NodeView → Type 0) → ((told ≡ JournalFull) ↔ (f ≡ JournalFull)) → Goes a b (λ u heard v. P u heard v × Watched Note 1 w u heard v z × (IsErrOf {T = Hash} (Err f) JournalFull ↔ (finds_full heard ≡ true)))
    → Seen Note w z a b (λ heard. Unit {0} × (IsErrOf {T = Hash} (Err told) JournalFull ↔ (finds_full heard ≡ true)))
refused_as Note f told w z a b P same g = record {
  heard = g.heard;
  is = (
    g.is.1,
    (
      tt,
      (
        λ full. g.is.2.0 (ap (λ (x : Fault). Err x) (same.0 (same_fault told JournalFull full))),
        λ found. ap (λ (x : Fault). Err x) (same.1 (same_fault f JournalFull (g.is.2.1 found))),
      ),
    ),
  );
  does = g.does;
  theorem = g.theorem;
}
