-- What became of commands: of a ledger that took nothing, with one thing more, and of a worker that ended well.
use Rattle.std.proofs.Common.{◌≡◌, List, [], ◌∷◌, ◌++◌, refl, sym, ap, ◌∙◌, subst, append-nil}
use Rattle.std.specs.Prelude.{ℕ, option_to_list}
use Rattle.std.proofs.lemmas.Grind.{flat_map-append}
use Rattle.std.proofs.lemmas.List.{map-append}
use Rattle.scp_theorem.specs.scp_driver.specs.Driver.{Says}
use Rattle.scp_theorem.specs.scp_types.specs.declared.names.NodeId.{NodeId}
use Rattle.scp_theorem.specs.scp_quorum.specs.QuorumTree.{QuorumTree}
use Rattle.scp_theorem.specs.scp_pending.specs.declared.ready.Ready.{Ready}
use Rattle.scp_theorem.specs.scp_ledger.specs.declared.took.CommandFate.{CommandFate}
use Rattle.scp_theorem.specs.scp_ledger.specs.declared.took.Onward.{Onward}
use Rattle.scp_theorem.specs.scp_ledger.specs.declared.took.Outgoing.{Outgoing}
use Rattle.scp_theorem.specs.scp_ledger.specs.declared.took.Took.{Took}
use Rattle.scp_theorem.specs.scp_ledger.specs.Seen.{LedgerView}
use Rattle.scp_theorem.specs.scp_ledger.specs.Runs.{Taking, thing_of, onward_of, nothing_taken}
use Rattle.scp_theorem.specs.Handed.{out_by, Serves, ServesEach}
use Rattle.scp_theorem.proofs.Driving.{driver_stays}
use Rattle.scp_theorem.proofs.Serving.{serves_one}
use Rattle.scp_workers.specs.Slot.{fate_of, HaveFates}

module _ {D : Type 0} (says : Says D) where
  pub fates_more : (me : NodeId) (local : QuorumTree) (peers : List NodeId) (took : List Ready) (sent : List Onward) (out : List Outgoing) (fates more : List CommandFate) (old new : LedgerView D) (x : Ready) (t : Took)
      → Serves says old (record { thing = x; gave = t }) new → new.first ≡ old.first → more ≡ fates ++ option_to_list t.command → HaveFates says me local peers took sent out fates old → HaveFates says me local peers (took ++ x ∷ []) (sent ++ option_to_list t.onward) (out ++ t.outgoing) more new
  fates_more me local peers took sent out fates more old new x t serves begun e h =
      let last : Taking = record { thing = x; gave = t } in record {
        takes = h.takes ++ last ∷ [];
        took_are = map-append thing_of h.takes (last ∷ []) ∙ ap (λ (xs : List Ready). xs ++ x ∷ []) h.took_are;
        onwards_are = flat_map-append onward_of h.takes (last ∷ []) ∙ ap (λ (ys : List Onward). ys ++ (option_to_list t.onward ++ [])) h.onwards_are ∙ ap (λ (ys : List Onward). sent ++ ys) (append-nil (option_to_list t.onward));
        outs_are = flat_map-append out_by h.takes (last ∷ []) ∙ ap (λ (os : List Outgoing). os ++ (t.outgoing ++ [])) h.outs_are ∙ ap (λ (os : List Outgoing). out ++ os) (append-nil t.outgoing);
        fates_are = flat_map-append fate_of h.takes (last ∷ []) ∙ ap (λ (ys : List CommandFate). ys ++ (option_to_list t.command ++ [])) h.fates_are ∙ ap (λ (ys : List CommandFate). fates ++ ys) (append-nil (option_to_list t.command)) ∙ sym e;
        told = subst (λ (n : ℕ). ServesEach says (nothing_taken me local new.driver peers n) (h.takes ++ last ∷ []) new) (sym begun)
            (subst (λ (driver : D). ServesEach says (nothing_taken me local driver peers old.first) (h.takes ++ last ∷ []) new) (sym (driver_stays says old t new x serves.takes)) (serves_one says (nothing_taken me local old.driver peers old.first) old new h.takes last h.told serves));
      }

  pub fates_begin : (me : NodeId) (local set : QuorumTree) (peers known : List NodeId) (got : List Ready) (sent : List Onward) (fates : List CommandFate) (v : LedgerView D)
      → got ≡ [] → sent ≡ [] → fates ≡ [] → set ≡ local → known ≡ peers → v ≡ nothing_taken me local v.driver peers v.first → HaveFates says me set known got sent [] fates v
  fates_begin me local set peers known got sent fates v e f g s k is = record {
    takes = [];
    took_are = sym e;
    onwards_are = sym f;
    outs_are = refl;
    fates_are = sym g;
    told = is ∙ ap (λ (q : QuorumTree). nothing_taken me q v.driver peers v.first) (sym s) ∙ ap (λ (ps : List NodeId). nothing_taken me set v.driver ps v.first) (sym k);
  }
