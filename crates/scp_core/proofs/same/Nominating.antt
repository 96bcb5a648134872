-- What nomination knows and gives is one.
use Rattle.std.proofs.Common.{◌≡◌, ◌≢◌, ℕ, List, sym, ◌∙◌, ap, subst, cond}
use Rattle.std.specs.Prelude.{Option, Some}
use Rattle.std.specs.BTreeMap.{is_at}
use Rattle.scp_theorem.specs.scp_types.specs.declared.names.NodeId.{NodeId}
use Rattle.scp_theorem.specs.scp_quorum.specs.NodeSet.{node_cmp}
use Rattle.scp_theorem.specs.scp_quorum.specs.QuorumTree.{QuorumTree}
use Rattle.scp_theorem.specs.scp_envelope.specs.declared.statement.Envelope.{Envelope}
use Rattle.scp_theorem.specs.scp_envelope.specs.declared.statement.Pledges.{Pledges}
use Rattle.scp_theorem.specs.scp_vote.specs.Board.{Seen, PutsCounted}
use Rattle.scp_theorem.specs.scp_nominate.specs.Given.{IsWorth, GivesComposite}
use Rattle.scp_theorem.specs.scp_nominate.specs.Nomination.{Nomination, own, IsOwnEnvelope, Advances, Begins}
use Rattle.scp_theorem.specs.scp_nominate.specs.Turns.{AreInTurn}
use Rattle.scp_theorem.specs.scp_nominate.specs.declared.nominated.Nominated.{Nominated}
use Rattle.scp_core.proofs.same.Ones.{option_one, nodes_one}

pub seen_one : (b c : Seen) → b.me ≡ c.me → b.local ≡ c.local → ((v : NodeId) → b.statement v ≡ c.statement v) → ((v : NodeId) → b.counted v ≡ c.counted v) → b ≡ c
seen_one b c me local statements sets = λ i. record { me = me i; local = local i; statement = λ v. statements v i; counted = λ v. sets v i }

-- another node's statement makes one board
pub puts_one : (old b c : Seen) (v : NodeId) (p : Pledges) (delivered other : QuorumTree) → delivered ≡ other → v ≢ old.me → PutsCounted old b v p delivered → PutsCounted old c v p other → b ≡ c
puts_one old b c v p delivered other same ne x y =
    let two : PutsCounted old c v p delivered = subst (λ (q : QuorumTree). PutsCounted old c v p q) (sym same) y in
    let sets : x.set ≡ two.set = x.counted.other ne ∙ sym (two.counted.other ne) in
    seen_one b c (x.puts.me ∙ sym two.puts.me) (x.puts.local ∙ sym two.puts.local)
    (λ w. x.puts.statements w ∙ sym (two.puts.statements w))
    (λ w. x.puts.sets w ∙ ap (λ (s : QuorumTree). cond (is_at (node_cmp v) w) (Some s) (old.counted w)) sets ∙ sym (two.puts.sets w))

pub envelope_one : (n : Nomination) (e f : Envelope) → IsOwnEnvelope n e → IsOwnEnvelope n f → e ≡ f
envelope_one n e f x y = λ i. record {
  statement = record { node = (x.node ∙ sym y.node) i; slot = record { 0 = (x.slot ∙ sym y.slot) i }; pledges = (x.pledges ∙ sym y.pledges) i };
  signature = (x.unsigned ∙ sym y.unsigned) i;
}

-- of one nomination one statement is emitted, and one composite given
pub statement_one : (combined : List (List ℕ) → List ℕ) (old new : Nomination) (g h : Nominated) → Advances combined (own old) old.lists new g → Advances combined (own old) old.lists new h → g.statement ≡ h.statement
statement_one combined old new g h x y =
    option_one (IsWorth (own old) (own new)) (IsWorth (own old) (own new)) (IsOwnEnvelope new) (IsOwnEnvelope new) g.statement h.statement x.emitted y.emitted (λ w. w) (λ w. w) x.statement y.statement (λ e f. envelope_one new e f)

pub composite_one : (combined : List (List ℕ) → List ℕ) (old new : List (List ℕ)) (a b : Option (List ℕ)) → GivesComposite combined old new a → GivesComposite combined old new b → a ≡ b
composite_one combined old new a b x y = option_one _ _ (λ v. v ≡ combined new) (λ v. v ≡ combined new) a b x.grew y.grew (λ w. w) (λ w. w) x.all y.all (λ v w e f. e ∙ sym f)

-- the nodes of a set take turns in one order
pub turns_one : (me : NodeId) (set : QuorumTree) (a b : List NodeId) → AreInTurn me set a → AreInTurn me set b → a ≡ b
turns_one me set a b x y = nodes_one a b x.ascending y.ascending (λ v. (λ h. (y.all v).1 ((x.all v).0 h), λ h. (x.all v).1 ((y.all v).0 h)))

-- a nomination that has heard nothing is one
pub nomination_begins : (node : NodeId) (number : ℕ) (set : QuorumTree) (m n : Nomination) → Begins node number set m → Begins node number set n → m ≡ n
nomination_begins node number set m n x y =
    let board : m.board ≡ n.board = seen_one m.board n.board (x.me ∙ sym y.me) (x.local ∙ sym y.local) (λ v. x.statements v ∙ sym (y.statements v)) (λ v. x.sets v ∙ sym (y.sets v)) in
    λ i. record {
      slot = (x.slot ∙ sym y.slot) i;
      hash = record { 0 = (x.hash ∙ sym y.hash) i };
      board = board i;
      lists = (x.lists ∙ sym y.lists) i;
      proposal = (x.proposal ∙ sym y.proposal) i;
      nodes = turns_one node set m.nodes n.nodes x.nodes y.nodes i;
      rounds = (x.rounds ∙ sym y.rounds) i;
      failed = (x.failed ∙ sym y.failed) i;
    }
