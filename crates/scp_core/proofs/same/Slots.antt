-- Of two machines of a slot that show the same, over one input.
use Rattle.std.proofs.Common.{◌≡◌, ◌≢◌, ℕ, List, sym, ◌∙◌, subst}
use Rattle.std.specs.Prelude.{Option, option_map}
use Rattle.std.specs.Option.{ForSome}
use Rattle.scp_theorem.specs.scp_types.specs.declared.names.NodeId.{NodeId}
use Rattle.scp_theorem.specs.scp_quorum.specs.Sane.{IsInRange}
use Rattle.scp_theorem.specs.scp_driver.specs.declared.driver.Level.{Level}
use Rattle.scp_theorem.specs.scp_vote.specs.declared.claim.StatementKind.TheVariants.{Nomination as Nominating}
use Rattle.scp_theorem.specs.scp_nominate.specs.Nomination.{Nomination}
use Rattle.scp_theorem.specs.scp_slot.specs.Slot.{SlotView, slot_view, driver_of}
use Rattle.scp_theorem.specs.scp_slot.specs.Takes.{Takes, Decides, NominatesBy}
use Rattle.scp_theorem.specs.scp_slot.specs.declared.machine.SlotMachine.{SlotMachine}
use Rattle.scp_theorem.specs.scp_slot.specs.declared.newest.Heard.{Heard as Kept}
use Rattle.scp_theorem.specs.scp_slot.specs.declared.output.SlotInput.{SlotInput}
use Rattle.scp_theorem.specs.scp_slot.specs.declared.output.SlotOutput.{SlotOutput}
use Rattle.scp_core.specs.Same.{ShowSameSlot}
use Rattle.scp_core.proofs.same.Balloting.{Ascends}
use Rattle.scp_core.proofs.same.Machines.{SlotLaws, Same, SameInput, with_newest, takes_one}

-- what is known of a machine before an input
pub record Knows (v : SlotView) : Type 0 where
  pub me : v.nomination.board.me ≡ v.me
  pub shows : (u : NodeId) → u ≢ v.nomination.board.me → v.nomination.board.statement u ≡ option_map (λ (h : Kept). h.statement.pledges) (v.newest Nominating u)
  pub range : IsInRange v.nomination.board.local

module _ {D : Type 0} (level : D → ℕ → List ℕ → Level) (extracted : D → ℕ → List ℕ → Option (List ℕ)) (combined : D → ℕ → List (List ℕ) → List ℕ) (place : D → ℕ → ℕ → ℕ → ℕ) where
  -- an input runs a machine
  pub record Runs (m : SlotMachine D) (given : SlotInput) (out : SlotOutput) (n : SlotMachine D) : Type 0 where
    pub takes : Takes (level (driver_of m) (slot_view m).slot) (combined (driver_of m) (slot_view m).nomination.slot) given (slot_view m) out (slot_view n)
    pub decides : Decides (slot_view m) out (slot_view n)
    pub driver : driver_of n ≡ driver_of m
    pub nominates : NominatesBy level extracted place (slot_view m).nomination given n.state.value.nominator
    pub ascends : ForSome out.decided Ascends

  pub machine_one : SlotLaws D → (m k n l : SlotMachine D) (g h : SlotInput) (o p : SlotOutput) → SameInput g h → driver_of m ≡ driver_of k → ShowSameSlot (slot_view m) (slot_view k) → Knows (slot_view m) → Runs m g o n → Runs k h p l → Same o p (slot_view n) (slot_view l)
  machine_one law m k n l g h o p same driver alike knows x y =
      let v = slot_view m in
      let other : SlotView = with_newest v (slot_view k).newest (slot_view k).failed in
      let is : slot_view k ≡ other = λ i. record {
        me = sym alike.me i;
        slot = sym alike.slot i;
        nomination = sym alike.nomination i;
        ballots = sym alike.ballots i;
        newest = (slot_view k).newest;
        decided = sym alike.decided i;
        more = sym alike.more i;
        failed = (slot_view k).failed;
      } in
      let theirs : Takes (level (driver_of m) v.slot) (combined (driver_of m) v.nomination.slot) h other p (slot_view l) =
      subst (λ (u : SlotView). Takes (level (driver_of m) u.slot) (combined (driver_of m) u.nomination.slot) h u p (slot_view l)) is
      (subst (λ (d : D). Takes (level d (slot_view k).slot) (combined d (slot_view k).nomination.slot) h (slot_view k) p (slot_view l)) (sym driver) y.takes) in
      let settles : Decides other p (slot_view l) = subst (λ (u : SlotView). Decides u p (slot_view l)) is y.decides in
      let nominates : NominatesBy level extracted place v.nomination h l.state.value.nominator = subst (λ (q : Nomination). NominatesBy level extracted place q h l.state.value.nominator) (sym alike.nomination) y.nominates in
      takes_one level extracted place law (combined (driver_of m) v.nomination.slot) v (slot_view k).newest (slot_view k).failed alike.heard knows.range o p n l (y.driver ∙ sym driver ∙ sym x.driver) x.decides settles x.ascends y.ascends
      (level (driver_of m) v.slot) knows.me knows.shows g h same x.takes x.nominates theirs nominates
