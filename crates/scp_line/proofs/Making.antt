-- The nodes of a script, as they were made.
use Rattle.std.proofs.Common.{◌≡◌, ◌≢◌, ◌<◌, ◌≤◌, ◌+◌, ◌-◌, ℕ, zero, suc, List, [], ◌∷◌, ◌++◌, Some, length, get_or, refl, sym, ◌∙◌, ap, subst, arith, ⊎_elim}
use Rattle.std.specs.Prelude.{Result, Ok, Err, IfOk, slice_get}
use Rattle.std.proofs.lemmas.Bool.{cases_eq}
use Rattle.std.proofs.lemmas.Option.{slice_get_within, get_or_from_slice_get}
use Rattle.std.proofs.lemmas.List.{length-append, get_or_push, get_or_append_left}
use Rattle.scp_turn.specs.scp_types.specs.declared.fault.Fault.{Fault}
use Rattle.scp_turn.specs.scp_core.specs.declared.config.Config.{Config}
use Rattle.scp_turn.specs.scp_core.specs.Node.{LinkView, new_link}
use Rattle.scp_turn.specs.scp_core.specs.Kv.{NodeView, LedgerTheorem, made}
use Rattle.scp_turn.specs.Heard.{Nodes}
use Rattle.scp_turn.specs.Rounds.{link_of}
use Rattle.scp_turn.specs.Network.{NetworkView}
use Rattle.scp_report.specs.scp_script.specs.declared.command.Command.{Command}
use Rattle.scp_report.specs.scp_script.specs.Script.{node_count}
use Rattle.scp_line.specs.Play.{IsNew, AreNew, ArePlayed, config_of}
use Rattle.scp_line.specs.Nodes.{AreMade}
use Rattle.scp_line.proofs.Places.{map_at, of_all}
use Rattle.scp_line.specs.Links.{tail_at, tails, tail_said}
use Rattle.scp_line.proofs.Standing.{link_within}
use Rattle.scp_line.proofs.Peers.{peer_count}
use Rattle.scp_line.proofs.Lines.{Moment}

-- one node more
pub one_node_more : (commands : List Command) (nodes : Nodes) (node : NodeView) → ((i : ℕ) (d : NodeView) → i < length nodes → IsNew commands (i + 1) (get_or nodes i d)) → IsNew commands (length nodes + 1) node → (i : ℕ) (d : NodeView) → i < length (nodes ++ node ∷ []) → IsNew commands (i + 1) (get_or (nodes ++ node ∷ []) i d)
one_node_more commands [] node each is zero d lt = is
one_node_more commands [] node each is (suc i) d lt = absurd (omega arith)
one_node_more commands (v ∷ nodes) node each is i d lt = ⊎_elim
    (λ e. subst (λ (j : ℕ). IsNew commands (j + 1) (get_or ((v ∷ nodes) ++ node ∷ []) j d)) (sym e) (subst (λ (w : NodeView). IsNew commands (length (v ∷ nodes) + 1) w) (sym (get_or_push (v ∷ nodes) node d (length (v ∷ nodes)) refl)) is))
    (λ apart. let within : i < length (v ∷ nodes) = omega (arith, length-append (v ∷ nodes) (node ∷ []), lt, apart) in
    subst (λ (w : NodeView). IsNew commands (i + 1) w) (sym (get_or_append_left (v ∷ nodes) (node ∷ []) d i within)) (each i d within))
    (cases_eq i (length (v ∷ nodes)))

-- a new node
pub new_is : (r : Result NodeView Fault) (commands : List Command) (number : ℕ) (config : Config) → IfOk r (λ node. LedgerTheorem [] node) → IfOk r (λ node. node.config ≡ config) → config ≡ config_of commands number → IfOk r (λ node. IsNew commands number node)
new_is (Ok node) commands number config theorem is same = record { config = is ∙ same; theorem = theorem }
new_is (Err fault) commands number config theorem is same = tt

-- ---- before the first line

-- a node that heard nothing is as it was made
made_now : (commands : List Command) (number : ℕ) (v : NodeView) → IsNew commands number v → v ≡ made v.config
made_now commands number v new = new.theorem.replies

pub new_at : (commands : List Command) (nodes : Nodes) (i : ℕ) (v : NodeView) → AreNew commands nodes → slice_get nodes i ≡ Some v → IsNew commands (i + 1) v
new_at commands nodes i v are at = subst (λ (u : NodeView). IsNew commands (i + 1) u) (get_or_from_slice_get nodes i v v at) (are.each i v (slice_get_within nodes i v at))

new_linked : (commands : List Command) (from to : ℕ) (v : NodeView) → 1 ≤ from → from ≤ node_count commands → 1 ≤ to → to ≤ node_count commands → from ≢ to → IsNew commands to v → slice_get (tails v) (link_of from to) ≡ Some (tail_said from to [])
new_linked commands from to v f fn t tn apart new =
    let peers : length v.config.peers + 1 ≡ node_count commands = ap (λ (c : Config). length c.peers + 1) new.config ∙ peer_count (node_count commands) to t tn in
    let within : link_of from to < length v.config.peers = link_within from to (node_count commands) (length v.config.peers) f fn t tn apart peers in
    map_at tail_at v.links (link_of from to) (new_link v.config.capacities.link)
    (ap (λ (links : List LinkView). slice_get links (link_of from to)) (ap (λ (u : NodeView). u.links) (made_now commands to v new)) ∙ of_all (length v.config.peers) (link_of from to) (new_link v.config.capacities.link) within)

pub first_moment : (commands : List Command) (network : NetworkView) → AreMade commands network → Moment commands [] network
first_moment commands network are = record {
  count = are.nodes.count;
  driven = are.driven;
  run = λ i v at. ap (λ (u : NodeView). u.failed) (made_now commands (i + 1) v (new_at commands network.nodes i v are.nodes at));
  who = λ i v at. (new_at commands network.nodes i v are.nodes at).config;
  linked = λ from to f fn t tn apart v at.
      let number : to - 1 + 1 ≡ to = omega (arith, t) in
      new_linked commands from to v f (omega (arith, fn, are.nodes.count)) t (omega (arith, tn, are.nodes.count)) apart
      (subst (λ (n : ℕ). IsNew commands n v) number (new_at commands network.nodes (to - 1) v are.nodes at));
}

abbrev pub nothing_played : (commands : List Command) (network : NetworkView) → AreMade commands network → ArePlayed commands [] [] network.nodes
nothing_played commands network are = record {
  first = network.nodes;
  new = are.nodes;
  played = (refl, refl);
  have = λ i d lt. (are.nodes.each i d lt).theorem;
  run = (first_moment commands network are).run;
}
