-- What the slot stage asks for, and what the applier answers, was asked for.
use Rattle.std.proofs.Common.{◌≡◌, ℕ, List, [], ◌∷◌, ◌++◌, sym, ◌∙◌, ap, subst}
use Rattle.std.specs.Prelude.{Option, Any, Contains, flat_map, option_to_list}
use Rattle.std.proofs.lemmas.Grind.{flat_map-append}
use Rattle.std.proofs.lemmas.List.Elements.{Contains-push, Contains-append_left, Contains-append_right}
use Rattle.scp_theorem.specs.scp_driver.specs.Driver.{Says}
use Rattle.scp_theorem.specs.scp_types.specs.declared.names.Slot.{Slot}
use Rattle.scp_theorem.specs.scp_wire.specs.declared.message.Message.{Message}
use Rattle.scp_theorem.specs.scp_wire.specs.declared.link.Command.{Command}
use Rattle.scp_theorem.specs.scp_wire.specs.declared.link.Command.TheVariants.{Ask}
use Rattle.scp_theorem.specs.scp_pending.specs.declared.ready.Ready.{Ready}
use Rattle.scp_theorem.specs.scp_pending.specs.declared.ready.Ready.TheVariants as ready
use Rattle.scp_theorem.specs.scp_pending.specs.Endings.{commands_of, passed}
use Rattle.scp_theorem.specs.scp_ledger.specs.declared.took.Onward.{Onward}
use Rattle.scp_theorem.specs.scp_ledger.specs.declared.took.Onward.TheVariants.{Decided, Asked}
use Rattle.scp_theorem.specs.scp_ledger.specs.Journals.{request_by}
use Rattle.scp_theorem.specs.scp_ledger.specs.Onwards.{request_on, requests_on}
use Rattle.scp_theorem.specs.scp_ledger.specs.Runs.{things}
use Rattle.scp_theorem.specs.scp_apply.specs.Applied.{value_of}
use Rattle.scp_theorem.specs.scp_apply.specs.Applier.{ApplierView, Takes}
use Rattle.scp_theorem.specs.Grounds.{TellsToAsk, AsksForRecord}
use Rattle.scp_theorem.proofs.Asked.{command_in, request_stands, value_there, answer_may}
use Rattle.scp_theorem.proofs.Replies.{MayReply}
use Rattle.scp_core.specs.Flow.{Flows}
use Rattle.scp_core.specs.History.{Past}
use Rattle.scp_core.specs.Node.{NodeView}
use Rattle.scp_core.specs.Sent.{grounds_of}
use Rattle.scp_core.proofs.Accounting.{kept_at}
use Rattle.scp_core.proofs.StageLaws.{Laws}

module _ {D : Type 0} (says : Says D) where
  -- a command that the slot stage takes was taken
  pub told_to_ask : Laws says → (p : Past) (v : NodeView D) (f : Flows says p v) (rest : List Ready) (link : ℕ) (slot : Slot) → v.ready ≡ ready.Local (Ask link slot) ∷ rest → Any (TellsToAsk link slot) f.arrived
  told_to_ask law p v f rest link slot e =
      let verdicts = (kept_at says law p v f).verdicts in
      let took : List Ready = things verdicts.takes in
      let leaving : List Ready = (v.ready ++ option_to_list v.pend_hand) ++ v.pending.leaving in
      let here : Contains (commands_of leaving) (Ask link slot) = subst (λ (rs : List Ready). Contains (commands_of ((rs ++ option_to_list v.pend_hand) ++ v.pending.leaving)) (Ask link slot)) (sym e) (Contains-append_left (Ask link slot ∷ []) (commands_of ((rest ++ option_to_list v.pend_hand) ++ v.pending.leaving)) (Ask link slot) (Contains-push [] (Ask link slot))) in
      let all : Contains (commands_of (took ++ leaving)) (Ask link slot) = subst (λ (cs : List Command). Contains cs (Ask link slot)) (sym (flat_map-append passed took leaving)) (Contains-append_right (commands_of took) (commands_of leaving) (Ask link slot) here) in
      command_in f.arrived link slot (subst (λ (cs : List Command). Contains cs (Ask link slot)) verdicts.commands all)

  -- a request that the applier takes is in the journal
  request_there : (p : Past) (v : NodeView D) (f : Flows says p v) (rest : List Onward) (link : ℕ) (slot : Slot) → v.decided ≡ Asked link slot ∷ rest → Contains (flat_map (request_by v.config.peers) v.ledger.journal) (Asked link slot)
  request_there p v f rest link slot e =
      let behind : List Onward = rest ++ option_to_list v.slot_hand in
      let whole : f.onwards ≡ f.applied ++ Asked link slot ∷ behind = f.decided ∙ ap (λ (xs : List Onward). f.applied ++ (xs ++ option_to_list v.slot_hand)) e in
      let requests : requests_on f.onwards ≡ requests_on f.applied ++ Asked link slot ∷ requests_on behind = ap requests_on whole ∙ flat_map-append request_on f.applied (Asked link slot ∷ behind) in
      subst (λ (xs : List Onward). Contains xs (Asked link slot)) (sym requests ∙ f.journal.requests)
      (Contains-append_right (requests_on f.applied) (Asked link slot ∷ requests_on behind) (Asked link slot) (Contains-append_left (Asked link slot ∷ []) (requests_on behind) (Asked link slot) (Contains-push [] (Asked link slot))))

  asks_there : Laws says → (p : Past) (v : NodeView D) (f : Flows says p v) (rest : List Onward) (link : ℕ) (slot : Slot) → v.decided ≡ Asked link slot ∷ rest → AsksForRecord (grounds_of v f.arrived) link slot
  asks_there law p v f rest link slot e = request_stands (grounds_of v f.arrived) link slot (kept_at says law p v f).of_links (request_there p v f rest link slot e)

  -- what the applier answers may be sent
  pub applied_may : Laws says → (p : Past) (v : NodeView D) (f : Flows says p v) (x : Onward) (rest : List Onward) (answer : Option (ℕ × Message)) (new : ApplierView) → v.decided ≡ x ∷ rest → Takes v.applier x answer new → MayReply (grounds_of v f.arrived) answer
  applied_may law p v f (Decided d) rest answer new e t = subst (MayReply (grounds_of v f.arrived)) (sym t.0) tt
  applied_may law p v f (Asked link slot) rest answer new e t =
      let g = grounds_of v f.arrived in
      subst (MayReply g) (sym t.0) (answer_may g link slot (value_of slot.0 v.applier.applied) (λ value k. value_there slot value v.applier.applied k) (asks_there law p v f rest link slot e))
