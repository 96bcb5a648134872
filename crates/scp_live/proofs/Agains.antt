-- Two ledgers that show the same send the same once more.
use Rattle.std.proofs.Common.{◌≡◌, ℕ, zero, suc, ◌+◌, ◌^◌, Bool, List, [], ◌∷◌, ◌++◌, refl, ◌∙◌, ap}
use Rattle.std.specs.Prelude.{Option, Some, None, nat_lt, if◌then◌else◌}
use Rattle.scp_again.specs.scp_types.specs.declared.names.NodeId.{NodeId}
use Rattle.scp_again.specs.scp_wire.specs.declared.message.Message.{Message}
use Rattle.scp_again.specs.scp_wire.specs.declared.message.Message.TheVariants.{GetRecord}
use Rattle.scp_again.specs.scp_nominate.specs.Nomination as nominate
use Rattle.scp_again.specs.scp_slot.specs.declared.machine.SlotMachine.{SlotMachine}
use Rattle.scp_again.specs.scp_slot.specs.Slot.{slot_view}
use Rattle.scp_again.specs.scp_ledger.specs.declared.journal.Asking.{Asking}
use Rattle.scp_again.specs.scp_ledger.specs.declared.journal.Decision.{Decision}
use Rattle.scp_again.specs.scp_ledger.specs.Kv.{KvLedger}
use Rattle.scp_again.specs.scp_ledger.specs.Seen.{machine_at, is_asked}
use Rattle.scp_again.specs.scp_driver.specs.declared.kv_driver.KvDriver.{KvDriver}
use Rattle.scp_again.specs.scp_core.specs.Same.{ShowSameMachine, ShowSameLedger}
use Rattle.scp_again.specs.Again.{own_messages, emitted_by, decided_again, asked_for, again_at, slots_again, again_of}

same_emitted : (me : NodeId) (slot : ℕ) (o p : Option (SlotMachine KvDriver)) → ShowSameMachine o p → emitted_by me slot o ≡ emitted_by me slot p
same_emitted me slot None None s = refl
same_emitted me slot None (Some n) s = absurd s
same_emitted me slot (Some m) None s = absurd s
same_emitted me slot (Some m) (Some n) s = λ i. own_messages me slot (nominate.own (s.1.nomination i)) ++ own_messages me slot (s.1.ballots i).emitted

same_asked : (v w : KvLedger) (link slot : ℕ) → ShowSameLedger v w → asked_for v.asked link slot ≡ asked_for w.asked link slot
same_asked v w link slot s = ap (λ (b : Bool). if b then GetRecord (record { 0 = slot }) ∷ [] else []) (s.asked (record { slot = record { 0 = slot }; link = link }))

same_slot : (v w : KvLedger) (link slot : ℕ) → ShowSameLedger v w → again_at v link slot ≡ again_at w link slot
same_slot v w link slot s =
    let asked = same_asked v w link slot s in
    let emitted : emitted_by v.me slot (machine_at v.machines slot) ≡ emitted_by w.me slot (machine_at w.machines slot) =
    ap (λ (me : NodeId). emitted_by me slot (machine_at v.machines slot)) s.me ∙ same_emitted w.me slot (machine_at v.machines slot) (machine_at w.machines slot) (s.machines slot) in
    λ i. if nat_lt slot (2 ^ 64) then asked i ++ emitted i else []

same_slots : (v w : KvLedger) (link k : ℕ) → ShowSameLedger v w → slots_again v link k ≡ slots_again w link k
same_slots v w link zero s = refl
same_slots v w link (suc k) s =
    let before = same_slots v w link k s in
    let here : again_at v link (v.lowest + k) ≡ again_at w link (w.lowest + k) = same_slot v w link (v.lowest + k) s ∙ ap (λ (n : ℕ). again_at w link (n + k)) s.lowest in
    λ i. before i ++ here i

pub same_again : (v w : KvLedger) → ShowSameLedger v w → (link : ℕ) → again_of v link ≡ again_of w link
same_again v w s link =
    let slots = same_slots v w link 16 s in
    let decided : decided_again v.decisions ≡ decided_again w.decisions = ap (λ (ds : List Decision). decided_again ds) s.decisions in
    λ i. decided i ++ slots i
