-- The own statement is emitted where it is worth it.
use Rattle.std.proofs.Common.{◌≡◌, [], Option, Some, None, refl, sym, ◌∙◌, ap, subst}
use Rattle.scp_ballot_rules.specs.scp_types.specs.declared.names.NodeId.{NodeId}
use Rattle.scp_ballot_rules.specs.scp_types.specs.declared.names.Slot.{Slot}
use Rattle.scp_ballot_rules.specs.scp_envelope.specs.declared.statement.Pledges.{Pledges}
use Rattle.scp_ballot_rules.specs.scp_envelope.specs.declared.statement.Statement.{Statement}
use Rattle.scp_ballot_rules.specs.scp_envelope.specs.declared.statement.Envelope.{Envelope}
use Rattle.scp_ballot.specs.declared.machine.Machine.{Machine}
use Rattle.scp_ballot.specs.inside.Machine.{IsOwnStatement}
use Rattle.scp_ballot.specs.inside.Gives.{IsWorth, Emits}

abbrev statement : NodeId → Slot → Pledges → Statement
statement v s p = record { node = v; slot = s; pledges = p }

same_statement : (a b : Statement) → a.node ≡ b.node → a.slot ≡ b.slot → a.pledges ≡ b.pledges → a ≡ b
same_statement a b e f g = ap (λ v. statement v a.slot a.pledges) e ∙ ap (λ s. statement b.node s a.pledges) f ∙ ap (λ p. statement b.node b.slot p) g

module _ (old : Machine) (own : Statement) (is : IsOwnStatement old old.state own) where
  pub emits_none : (IsWorth old.emitted own → ⊥) → Emits old old None
  emits_none worthless = record {
    frame = refl;
    some = tt;
    none = (refl, λ other also worth. worthless (subst (λ s. IsWorth old.emitted s) (same_statement other own (also.node ∙ sym is.node) (also.slot ∙ sym is.slot) (also.pledges ∙ sym is.pledges)) worth));
  }

  pub emits_some : (new : Machine) (kept : Statement) (e : Envelope) → new ≡ record old { emitted = Some kept } → IsWorth old.emitted own → kept ≡ e.statement → e.statement ≡ own → e.signature ≡ [] → Emits old new (Some e)
  emits_some new kept e made worth shown whole unsigned =
      let there : new.emitted ≡ Some kept = ap (λ (m : Machine). m.emitted) made in
      record {
        frame = made ∙ ap (λ (o : Option Statement). let m : Machine = record old { emitted = o } in m) (sym there);
        some = (subst (λ s. IsOwnStatement old old.state s) (sym whole) is, unsigned, subst (λ s. IsWorth old.emitted s) (sym whole) worth, there ∙ ap Some shown);
        none = tt;
      }
