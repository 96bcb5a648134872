-- The certificate on a machine's board, as one over the last fresh statements.
use Rattle.std.proofs.Common.{◌≡◌, ◌≢◌, ◌⊎◌, ℕ, Bool, true, false, cond, List, refl, sym, ◌∙◌, ap, subst, inl, inr, arith}
use Rattle.std.specs.Prelude.{Option, Some, None, IsSomeAnd}
use Rattle.std.specs.Option.{option_map}
use Rattle.std.specs.BTreeMap.{is_at}
use Rattle.std.specs.BTreeSet as tree_set
use Rattle.scp_slot.specs.scp_types.specs.declared.names.NodeId.{NodeId}
use Rattle.scp_slot.specs.scp_quorum.specs.NodeSet.{node_cmp, is_in}
use Rattle.scp_slot.specs.scp_quorum.specs.QuorumTree.{QuorumTree}
use Rattle.scp_slot.specs.scp_quorum.specs.QuorumKind.{set_hash}
use Rattle.scp_slot.specs.scp_quorum.specs.Satisfies.{Satisfies}
use Rattle.scp_slot.specs.scp_envelope.specs.Claims.{AcceptsCommit}
use Rattle.scp_slot.specs.scp_envelope.specs.declared.statement.Pledges.{Pledges}
use Rattle.scp_slot.specs.scp_envelope.specs.declared.statement.Pledges.TheVariants.{Prepare, Confirm, Externalize, Nominate}
use Rattle.scp_slot.specs.scp_vote.specs.Board.{Seen, KeepsOwn, counted_of_other}
use Rattle.scp_slot.specs.scp_vote.specs.Claims.{AcceptsCommits}
use Rattle.scp_slot.specs.scp_vote.specs.declared.claim.StatementKind.TheVariants.{Balloting}
use Rattle.scp_slot.specs.scp_vote.proofs.Chain.{same_at, at_itself}
use Rattle.scp_slot.specs.scp_ballot.specs.declared.balloted.Certified.{Certified}
use Rattle.scp_slot.specs.scp_ballot.specs.Balloting as ballot
use Rattle.scp_slot.specs.declared.newest.Heard.{Heard as Kept}
use Rattle.scp_slot.specs.Slot.{SlotView, Shows, IsRunning}
use Rattle.scp_ledger.specs.Ledger.{heard_of, heard_at}
use Rattle.scp_ledger.specs.Certificate.{counted, counted_of, Externalizes, IsOwnExternalize, IsCertificate}

which : (b : Bool) → (b ≡ true) ⊎ (b ≡ false)
which true = inl refl
which false = inr refl

apart : (v w : NodeId) → v ≢ w → is_at (node_cmp v) w ≡ false
apart v w differ = elim (which (is_at (node_cmp v) w)) [ inl here ↦ absurd (differ (same_at v w here)) | inr e ↦ e ]

counted_mapped : (v : NodeId) (o : Option Kept) → option_map (counted_of v) (option_map heard_of o) ≡ option_map (λ (h : Kept). counted_of_other v h.statement.pledges h.set.value) o
counted_mapped v None = refl
counted_mapped v (Some h) = refl

own_counted : (b : Seen) (p : Pledges) → KeepsOwn b → b.statement b.me ≡ Some p → b.counted b.me ≡ Some b.local
own_counted b p keeps stands = keeps ∙ ap (option_map (λ (q : Pledges). b.local)) stands

-- what counts for a node on the board counts for it by the last statements
counted_same : (m : SlotView) (p : Pledges) → Shows m.ballots.board (m.newest Balloting) → KeepsOwn m.ballots.board → m.ballots.board.statement m.ballots.board.me ≡ Some p
    → (v : NodeId) → counted m.ballots.board.me m.ballots.board.local (heard_at Balloting m) v ≡ m.ballots.board.counted v
counted_same m p shows keeps stands v = elim (which (is_at (node_cmp m.ballots.board.me) v)) [
  | inl here ↦ (
      let b = m.ballots.board in
      let is : b.me ≡ v = same_at b.me v here in
      ap (λ (t : Bool). cond t (Some b.local) (option_map (counted_of v) (heard_at Balloting m v))) here ∙ sym (own_counted b p keeps stands) ∙ ap b.counted is)
  | inr other ↦ (
      let b = m.ballots.board in
      let differs : v ≢ b.me = λ e. (let t : true ≡ false = sym (itself b.me v e) ∙ other in cc) in
      ap (λ (t : Bool). cond t (Some b.local) (option_map (counted_of v) (heard_at Balloting m v))) other ∙ counted_mapped v (m.newest Balloting v) ∙ sym (shows.sets v differs))
]
  where
    itself : (a v : NodeId) → v ≡ a → is_at (node_cmp a) v ≡ true
    itself a v e = subst (λ (x : NodeId). is_at (node_cmp x) v ≡ true) e (at_itself v)

accepts_mapped : (o : Option Kept) (n : ℕ) (x : List ℕ) → IsSomeAnd (option_map (λ (h : Kept). h.statement.pledges) o) (λ p. AcceptsCommits p n n x) → IsSomeAnd (option_map heard_of o) (λ h. AcceptsCommit h.statement.pledges n x)
accepts_mapped None n x h = h
accepts_mapped (Some k) n x h = h n (omega arith) (omega arith)

externalizes : (p : Pledges) (d : Certified) → ballot.Externalizes p d → Externalizes p d.value d.n
externalizes (Prepare p) d h = h
externalizes (Confirm p) d h = h
externalizes (Externalize p) d h = h
externalizes (Nominate p) d h = h

-- the certificate of a machine's decision, over the last statements that it keeps
pub certified_here : (m : SlotView) (d : Certified) → IsRunning m → KeepsOwn m.ballots.board → ballot.IsCertified m.ballots d → IsCertificate m.ballots.board.me m.ballots.board.local (heard_at Balloting m) d.value d.n (tree_set.keys d.quorum)
certified_here m d runs keeps h =
    let b = m.ballots.board in
    record {
      quorum = record {
        has = h.quorum.quorum.has;
        satisfied = λ v has. subst (λ (o : Option QuorumTree). IsSomeAnd o (Satisfies (is_in d.quorum))) (sym (counted_same m d.own.statement.pledges runs.statements keeps h.own.stands v)) (h.quorum.quorum.satisfied v has);
      };
      accepted = λ v has other. accepts_mapped (m.newest Balloting v) d.n d.value (subst (λ (o : Option Pledges). IsSomeAnd o (λ p. AcceptsCommits p d.n d.n d.value)) (runs.statements.statements v other) (h.quorum.all_have v has));
    }

pub own_here : (m : SlotView) (d : Certified) (local : QuorumTree) → m.ballots.hash.0 ≡ set_hash local → ballot.IsCertified m.ballots d → IsOwnExternalize m.ballots.board.me local m.ballots.slot d.value d.n d.own
own_here m d local hash h = record {
  node = h.own.node;
  slot = h.own.slot;
  set = ap (λ x. x.0) h.own.hash ∙ hash;
  externalizes = externalizes d.own.statement.pledges d h.externalizes;
  unsigned = h.own.unsigned;
}
