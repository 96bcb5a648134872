-- A node that heard more, and a watch that was told of it.
use Rattle.std.proofs.Common.{◌≡◌, true, false, List, [], ◌++◌, refl}
use Rattle.scp_stand_node.specs.scp_turn.specs.Episode.{finds_full}
use Rattle.scp_stand_node.specs.scp_core.specs.History.{Exchange}
use Rattle.scp_stand_node.specs.scp_core.specs.Kv.{NodeView}
use Rattle.scp_stand_node.specs.scp_turn.specs.Kv.{Goes, Noting, Watched}
use Rattle.scp_live.proofs.Going.{Heard, heard_nothing, heard_as, heard_then, watched_on, none_full}

-- a node that heard this much more, and a watch that was told of each step
abbrev pub Seen : {W : Type 0} → Noting W → W → W → NodeView → NodeView → (List Exchange → Type 0) → Type 0
Seen {W} Note w z a b Is = Goes a b (λ old heard new. Watched Note 1 w a heard b z × Is heard)

pub seen_nothing : {W : Type 0} (Note : Noting W) (w : W) (a : NodeView) (Is : List Exchange → Type 0) → Is [] → Seen Note w w a a Is
seen_nothing {W} Note w a Is is = heard_nothing a (λ heard. Watched Note 1 w a heard a w × Is heard) ((refl, refl), is)

-- a node that runs found no full journal
pub seen_running : {W : Type 0} (Note : Noting W) (w z : W) (a b : NodeView) (P : List Exchange → Type 0) → b.failed ≡ false → Seen Note w z a b P → Seen Note w z a b (λ heard. P heard × (finds_full heard ≡ true → ⊥))
seen_running {W} Note w z a b P runs g = record { heard = g.heard; is = (g.is.0, (g.is.1, λ found. none_full a b g.heard g.does runs found)); does = g.does; theorem = g.theorem }

pub seen_as : {W : Type 0} (Note : Noting W) (w z : W) (a b : NodeView) (P Q : List Exchange → Type 0) → ((heard : List Exchange) → P heard → Q heard) → Seen Note w z a b P → Seen Note w z a b Q
seen_as {W} Note w z a b P Q f g = heard_as a b (λ heard. Watched Note 1 w a heard b z × P heard) (λ heard. Watched Note 1 w a heard b z × Q heard) (λ heard p. (p.0, f heard p.1)) g

pub seen_then : {W : Type 0} (Note : Noting W) (w v z : W) (a b c : NodeView) (P Q R : List Exchange → Type 0) → ((x y : List Exchange) → P x → Q y → R (x ++ y)) → Seen Note w v a b P → Seen Note v z b c Q → Seen Note w z a c R
seen_then {W} Note w v z a b c P Q R both f s =
    heard_then a b c (λ heard. Watched Note 1 w a heard b v × P heard) (λ heard. Watched Note 1 v b heard c z × Q heard) (λ heard. Watched Note 1 w a heard c z × R heard)
    (λ x y p q. (watched_on Note 1 w v z a b c x y p.0 q.0, both x y p.1 q.1)) f s

pub then_unseen : {W : Type 0} (Note : Noting W) (w v z : W) (a b c : NodeView) (P Q : List Exchange → Type 0) → Seen Note w v a b P → Seen Note v z b c Q → Seen Note w z a c (λ heard. Unit {0})
then_unseen {W} Note w v z a b c P Q f g = seen_then Note w v z a b c P Q (λ heard. Unit {0}) (λ x y p q. tt) f g

-- what holds of what was heard, whatever a watch was told
pub unwatched_as : {W : Type 0} (Note : Noting W) (w z : W) (a b : NodeView) (P Q : List Exchange → Type 0) → ((heard : List Exchange) → P heard → Q heard) → Seen Note w z a b P → Heard a b Q
unwatched_as {W} Note w z a b P Q f g = heard_as a b (λ heard. Watched Note 1 w a heard b z × P heard) Q (λ heard p. f heard p.1) g

pub unwatched_then : {W : Type 0} (Note : Noting W) (w v z : W) (a b c : NodeView) (P Q R : List Exchange → Type 0) → ((x y : List Exchange) → P x → Q y → R (x ++ y)) → Seen Note w v a b P → Seen Note v z b c Q → Heard a c R
unwatched_then {W} Note w v z a b c P Q R both f s =
    heard_then a b c (λ heard. Watched Note 1 w a heard b v × P heard) (λ heard. Watched Note 1 v b heard c z × Q heard) R (λ x y p q. both x y p.1 q.1) f s

-- the same, told first
pub seen_from : {W : Type 0} (Note : Noting W) (w z : W) (a b : NodeView) (P Q : List Exchange → Type 0) → ((heard : List Exchange) → P heard → Q heard) → Heard a b (λ heard. P heard × Watched Note 1 w a heard b z) → Seen Note w z a b Q
seen_from {W} Note w z a b P Q f g = heard_as a b (λ heard. P heard × Watched Note 1 w a heard b z) (λ heard. Watched Note 1 w a heard b z × Q heard) (λ heard p. (p.1, f heard p.0)) g
