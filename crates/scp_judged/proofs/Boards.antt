-- The board of a node that heard what counts, with one thing more.
use Rattle.std.proofs.Common.{◌≡◌, ◌≢◌, ◌⊎◌, Bool, true, false, cond, List, [], ◌∷◌, ◌++◌, refl, sym, ap, subst, ◌∙◌, inl, inr}
use Rattle.std.specs.Prelude.{Option, Some, Result, Ok, Err, OnOk, ◌&&◌}
use Rattle.scp_ledger.specs.scp_types.specs.declared.fault.Fault.{Fault}
use Rattle.std.specs.Option.{option_map}
use Rattle.std.specs.BTreeMap.{is_at}
use Rattle.scp_ledger.specs.scp_types.specs.declared.names.NodeId.{NodeId}
use Rattle.scp_ledger.specs.scp_quorum.specs.NodeSet.{node_cmp}
use Rattle.scp_ledger.specs.scp_quorum.specs.QuorumTree.{QuorumTree}
use Rattle.scp_ledger.specs.scp_envelope.specs.declared.statement.Envelope.{Envelope}
use Rattle.scp_ledger.specs.scp_envelope.specs.declared.statement.Pledges.{Pledges}
use Rattle.scp_ledger.specs.scp_vote.specs.Board.{Seen, IsNewBoard, PutsCounted, kind_of_pledges, counted_of_other}
use Rattle.scp_ledger.specs.scp_vote.specs.declared.claim.StatementKind.{StatementKind}
use Rattle.scp_ledger.specs.scp_vote.specs.declared.claim.StatementKind.TheVariants.{Nomination, Balloting}
use Rattle.scp_ledger.specs.scp_vote.proofs.Chain.{same_at, at_itself}
use Rattle.scp_ledger.specs.Journal.{Heard, same_kind}
use Rattle.scp_ledger.specs.Certificate.{counted_of}
use Rattle.scp_judged.specs.Verdicts.{heard_by, heard_with}
use Rattle.scp_judged.specs.inside.Boards.{counted_here, IsBoardOf, PutsSaid}
use Rattle.scp_judged.proofs.Saying.{last_said_more, mapped_cond}

pub which : (b : Bool) → (b ≡ true) ⊎ (b ≡ false)
which true = inl refl
which false = inr refl

pub apart_from : (v w : NodeId) → is_at (node_cmp v) w ≡ false → w ≢ v
apart_from v w other same = (
    let here : is_at (node_cmp v) w ≡ true = subst (λ (x : NodeId). is_at (node_cmp x) w ≡ true) same (at_itself w) in
    let t : true ≡ false = sym here ∙ other in
    cc)

pub board_begins : (me : NodeId) (local : QuorumTree) (b : Seen) → IsNewBoard me local b → IsBoardOf me local [] b
board_begins me local b h = record { own = h.me; own_set = h.local; statements = h.statements; sets = h.sets }

-- the last ballot statement, with a ballot statement more, and with a nomination more
pub heard_ballot : (hs : List Heard) (h : Heard) (v : NodeId) → kind_of_pledges h.statement.pledges ≡ Balloting → heard_by (hs ++ h ∷ []) v ≡ cond (is_at (node_cmp h.statement.node) v) (Some h) (heard_by hs v)
heard_ballot hs h v e =
    last_said_more Balloting v hs h
    ∙ ap (λ (k : StatementKind). cond (same_kind k Balloting && is_at (node_cmp h.statement.node) v) (Some h) (heard_by hs v)) e

pub heard_nomination : (hs : List Heard) (h : Heard) (v : NodeId) → kind_of_pledges h.statement.pledges ≡ Nomination → heard_by (hs ++ h ∷ []) v ≡ heard_by hs v
heard_nomination hs h v e =
    last_said_more Balloting v hs h
    ∙ ap (λ (k : StatementKind). cond (same_kind k Balloting && is_at (node_cmp h.statement.node) v) (Some h) (heard_by hs v)) e

-- the set that counts for a statement that is put
set_put : (me v : NodeId) (local : QuorumTree) (old : Seen) (h : Heard) (set : QuorumTree) → old.me ≡ me → old.local ≡ local → (v ≡ old.me → set ≡ old.local) → (v ≢ old.me → set ≡ counted_of_other v h.statement.pledges h.set) → set ≡ counted_here me local v h
set_put me v local old h set is_me is_local own other = elim (which (is_at (node_cmp me) v)) as (λ _. set ≡ counted_here me local v h) [
  | inl here ↦ (
      let is : v ≡ old.me = sym (same_at me v here) ∙ sym is_me in
      own is ∙ is_local ∙ sym (ap (λ (t : Bool). cond t local (counted_of v h)) here))
  | inr there ↦ (
      let differ : v ≢ old.me = λ e. apart_from me v there (e ∙ is_me) in
      other differ ∙ sym (ap (λ (t : Bool). cond t local (counted_of v h)) there))
]

-- where a node is put, the set is that of the node
placed_set : (me v node : NodeId) (local : QuorumTree) (old : Seen) (h : Heard) (set : QuorumTree) → set ≡ counted_here me local node h → (rest : Option QuorumTree) → cond (is_at (node_cmp node) v) (Some set) rest ≡ cond (is_at (node_cmp node) v) (Some (counted_here me local v h)) rest
placed_set me v node local old h set e rest = elim (which (is_at (node_cmp node) v)) as (λ _. cond (is_at (node_cmp node) v) (Some set) rest ≡ cond (is_at (node_cmp node) v) (Some (counted_here me local v h)) rest) [
  | inl here ↦ (
      let is : node ≡ v = same_at node v here in
      ap (λ (q : QuorumTree). cond (is_at (node_cmp node) v) (Some q) rest) (e ∙ ap (λ (w : NodeId). counted_here me local w h) is))
  | inr there ↦ ap (λ (t : Bool). cond t (Some set) rest) there ∙ sym (ap (λ (t : Bool). cond t (Some (counted_here me local v h)) rest) there)
]

pub board_ballot : (me : NodeId) (local : QuorumTree) (hs : List Heard) (h : Heard) (old new : Seen) → kind_of_pledges h.statement.pledges ≡ Balloting → IsBoardOf me local hs old → PutsCounted old new h.statement.node h.statement.pledges h.set → IsBoardOf me local (hs ++ h ∷ []) new
board_ballot me local hs h old new e b p =
    let node = h.statement.node in
    let set : p.set ≡ counted_here me local node h = set_put me node local old h p.set b.own b.own_set p.counted.own p.counted.other in
    record {
      own = p.puts.me ∙ b.own;
      own_set = p.puts.local ∙ b.own_set;
      statements = λ v.
          p.puts.statements v
          ∙ ap (λ (o : Option Pledges). cond (is_at (node_cmp node) v) (Some h.statement.pledges) o) (b.statements v)
          ∙ sym (mapped_cond (λ (k : Heard). k.statement.pledges) (is_at (node_cmp node) v) h (heard_by hs v))
          ∙ ap (λ (o : Option Heard). option_map (λ (k : Heard). k.statement.pledges) o) (sym (heard_ballot hs h v e));
      sets = λ v.
          p.puts.sets v
          ∙ ap (λ (o : Option QuorumTree). cond (is_at (node_cmp node) v) (Some p.set) o) (b.sets v)
          ∙ placed_set me v node local old h p.set set (option_map (counted_here me local v) (heard_by hs v))
          ∙ sym (mapped_cond (counted_here me local v) (is_at (node_cmp node) v) h (heard_by hs v))
          ∙ ap (λ (o : Option Heard). option_map (counted_here me local v) o) (sym (heard_ballot hs h v e));
    }

pub board_nomination : (me : NodeId) (local : QuorumTree) (hs : List Heard) (h : Heard) (old new : Seen) → kind_of_pledges h.statement.pledges ≡ Nomination → IsBoardOf me local hs old → new ≡ old → IsBoardOf me local (hs ++ h ∷ []) new
board_nomination me local hs h old new e b same =
    let here : IsBoardOf me local (hs ++ h ∷ []) old = record {
      own = b.own;
      own_set = b.own_set;
      statements = λ v. b.statements v ∙ ap (λ (o : Option Heard). option_map (λ (k : Heard). k.statement.pledges) o) (sym (heard_nomination hs h v e));
      sets = λ v. b.sets v ∙ ap (λ (o : Option Heard). option_map (counted_here me local v) o) (sym (heard_nomination hs h v e));
    } in
    subst (λ (s : Seen). IsBoardOf me local (hs ++ h ∷ []) s) (sym same) here

pub board_more : (me : NodeId) (local : QuorumTree) (hs : List Heard) (h : Heard) (old new : StatementKind → Seen) → IsBoardOf me local hs (old Balloting) → PutsSaid old new h → IsBoardOf me local (hs ++ h ∷ []) (new Balloting)
board_more me local hs h old new b p = by_kind (kind_of_pledges h.statement.pledges) refl
  where
    by_kind : (k : StatementKind) → kind_of_pledges h.statement.pledges ≡ k → IsBoardOf me local (hs ++ h ∷ []) (new Balloting)
    by_kind Balloting e = board_ballot me local hs h (old Balloting) (new Balloting) e b (subst (λ (k : StatementKind). PutsCounted (old k) (new k) h.statement.node h.statement.pledges h.set) e p.puts)
    by_kind Nomination e = board_nomination me local hs h (old Balloting) (new Balloting) e b (p.other Balloting (λ q. (let bad : Balloting ≡ Nomination = q ∙ e in cc)))

-- what is put on a board is what is heard
pub heard_is : (e f : Envelope) (q r : QuorumTree) → e ≡ f → q ≡ r → heard_with e.statement q ≡ heard_with f.statement r
heard_is e f q r x y = ap (λ (k : Envelope). heard_with k.statement q) x ∙ ap (λ (k : QuorumTree). heard_with f.statement k) y

puts_moved : (old new : StatementKind → Seen) (h k : Heard) → k ≡ h → PutsSaid old new k → PutsSaid old new h
puts_moved old new h k e p = subst (λ (x : Heard). PutsSaid old new x) e p

pub puts_said : {X : Type 0} (r : Result X Fault) (old new : StatementKind → Seen) (e f : Envelope) (q s : QuorumTree) → e ≡ f → q ≡ s
    → ((kind : StatementKind) → kind ≢ kind_of_pledges e.statement.pledges → new kind ≡ old kind)
    → OnOk r (PutsCounted (old (kind_of_pledges e.statement.pledges)) (new (kind_of_pledges e.statement.pledges)) e.statement.node e.statement.pledges q) → OnOk r (PutsSaid old new (heard_with f.statement s))
puts_said (Ok v) old new e f q s x y other puts = puts_moved old new (heard_with f.statement s) (heard_with e.statement q) (heard_is e f q s x y) (record { puts = puts; other = other })
puts_said (Err v) old new e f q s x y other puts = tt
