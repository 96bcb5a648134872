-- What is decided, and what is applied.
use Rattle.std.proofs.Common.{◌≡◌, ℕ, ◌+◌, List, ◌++◌, sym, ◌∙◌, ap, subst, append_assoc, length, All, arith, Option}
use Rattle.std.specs.Prelude.{Contains}
use Rattle.std.specs.List.Sorted.{IsPermutation}
use Rattle.std.proofs.lemmas.Grind.{flat_map-append}
use Rattle.std.proofs.lemmas.List.Elements.{All-take, All-contains_itself, All-weaker}
use Rattle.std.proofs.lemmas.List.Sorted.{IsPermutation-append, IsPermutation-refl, All-permutation}
use Rattle.scp_outbox.specs.scp_types.specs.declared.names.NodeId.{NodeId}
use Rattle.scp_outbox.specs.scp_quorum.specs.QuorumTree.{QuorumTree}
use Rattle.scp_apply.specs.scp_driver.specs.declared.driver.Level.{Level}
use Rattle.scp_apply.specs.scp_ledger.specs.declared.journal.Decision.{Decision}
use Rattle.scp_apply.specs.scp_ledger.specs.Decisions.{IsFounded}
use Rattle.scp_apply.specs.scp_ledger.specs.Onwards.{decisions_on, decision_on}
use Rattle.scp_apply.specs.scp_ledger.specs.Verdicts.{link_of}
use Rattle.scp_apply.specs.Applier.{IsLater, next_of}
use Rattle.scp_theorem.specs.Account.{Account, Ran}
use Rattle.scp_theorem.specs.Kept.{AreDecided, AreApplied}
use Rattle.scp_theorem.proofs.Basics.{take_front}

isnt_next : (n : ℕ) (d : Decision) → IsLater n d.slot.0 → d.slot.0 ≡ n → ⊥
isnt_next n d h e = let later = h.later in omega (arith, later, e)

module _ {D : Type 0} {level : D → ℕ → List ℕ → Level} {extracted : D → ℕ → List ℕ → Option (List ℕ)} {combined : D → ℕ → List (List ℕ) → List ℕ} {place : D → ℕ → ℕ → ℕ → ℕ} (a : Account D) (r : Ran level extracted combined place a) where
  -- the ledger is this node's
  founded_at : All (IsFounded a.me a.set (link_of a.peers) a.ledger.asked a.ledger.journal) a.ledger.decisions
  founded_at =
      let j = r.journals in
      subst (λ (ps : List NodeId). All (IsFounded a.me a.set (link_of ps) a.ledger.asked a.ledger.journal) a.ledger.decisions) j.peers_are
      (subst (λ (set : QuorumTree). All (IsFounded a.me set (link_of a.ledger.peers) a.ledger.asked a.ledger.journal) a.ledger.decisions) j.local_is
      (subst (λ (me : NodeId). All (IsFounded me a.ledger.local (link_of a.ledger.peers) a.ledger.asked a.ledger.journal) a.ledger.decisions) j.me_is j.known.founded))

  pub decided_at : AreDecided a
  decided_at =
      let known = r.journals.known in
      record {
        one = known.one;
        placed = known.placed;
        founded = founded_at;
        named = known.named;
        sets = known.sets;
        few = known.few;
        lowest = r.journals.running.lowest;
      }

  -- what isn't applied
  abbrev waiting : List Decision
  waiting = a.applier.buffer ++ decisions_on a.onward

  shared_at : IsPermutation a.ledger.decisions (a.applier.applied ++ waiting)
  shared_at =
      let all : a.ledger.decisions ≡ decisions_on r.applied ++ decisions_on a.onward = sym r.journals.decided ∙ ap decisions_on r.decided ∙ flat_map-append decision_on r.applied a.onward in
      let shared : IsPermutation (decisions_on r.applied ++ decisions_on a.onward) ((a.applier.applied ++ a.applier.buffer) ++ decisions_on a.onward) = IsPermutation-append (decisions_on r.applied) (a.applier.applied ++ a.applier.buffer) (decisions_on a.onward) (decisions_on a.onward) r.applies.shared_out (IsPermutation-refl (decisions_on a.onward)) in
      subst (λ (ds : List Decision). IsPermutation ds (a.applier.applied ++ waiting)) (sym all) (subst (λ (ds : List Decision). IsPermutation (decisions_on r.applied ++ decisions_on a.onward) ds) (append_assoc a.applier.applied a.applier.buffer (decisions_on a.onward)) shared)

  in_decisions : All (Contains a.ledger.decisions) a.applier.applied
  in_decisions =
      let all : All (Contains a.ledger.decisions) (a.applier.applied ++ waiting) = All-permutation (Contains a.ledger.decisions) a.ledger.decisions (a.applier.applied ++ waiting) shared_at (All-contains_itself a.ledger.decisions) in
      subst (λ (ds : List Decision). All (Contains a.ledger.decisions) ds) (take_front a.applier.applied waiting) (All-take (Contains a.ledger.decisions) (length a.applier.applied) (a.applier.applied ++ waiting) all)

  pub applied_at : AreApplied a
  applied_at = record {
    first = r.first;
    in_order = r.applies.known.in_order;
    decided = in_decisions;
    shared_out = shared_at;
    next_missing = All-weaker (λ (d : Decision). IsLater (next_of a.applier) d.slot.0) (λ (d : Decision). d.slot.0 ≡ next_of a.applier → ⊥) (λ d later. isnt_next (next_of a.applier) d later) a.applier.buffer r.applies.running.in_window;
  }
