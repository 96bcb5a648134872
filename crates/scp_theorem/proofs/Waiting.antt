-- In each slot what waits is led by an envelope whose quorum set isn't stored.
use Rattle.std.proofs.Common.{◌≡◌, ℕ, Bool, true, false, cond, List, [], ◌∷◌, Option, Some, None, refl, sym, ◌∙◌, ap, subst, nat_eq}
use Rattle.std.specs.Prelude.{IsSomeAnd, is_some, map}
use Rattle.scp_outbox.specs.scp_types.specs.declared.names.ConnId.{ConnId}
use Rattle.scp_outbox.specs.scp_types.specs.declared.names.Hash.{Hash}
use Rattle.scp_outbox.specs.scp_wire.specs.declared.message.Message.{Message}
use Rattle.scp_apply.specs.scp_fetch.specs.Store.{StoreView, lookup}
use Rattle.scp_apply.specs.scp_pending.specs.declared.parked.Parked.{Parked}
use Rattle.scp_apply.specs.scp_pending.specs.declared.parked.Parked.TheVariants.{Waits, Free, Lost}
use Rattle.scp_apply.specs.scp_pending.specs.Independence.{IsLed, AreLed}
use Rattle.scp_apply.specs.scp_pending.specs.Independence.{LacksItsSet as IsNotStored}
use Rattle.scp_apply.specs.scp_pending.specs.Queues.{named, parked_of, lane_of, at_slot}
use Rattle.scp_apply.specs.scp_pending.specs.Rules.{Settled}
use Rattle.scp_theorem.specs.Books.{waiter_of}
use Rattle.scp_theorem.specs.Headline.{Waiter, LacksItsSet, of_slot}

-- ---- a lane, as what is parked and as what waits

kept_so : (b : Bool) (p : Parked) (ps : List Parked) (ws : List Waiter) → ws ≡ map waiter_of ps → cond b (waiter_of p ∷ ws) ws ≡ map waiter_of (cond b (p ∷ ps) ps)
kept_so true p ps ws e = ap (λ (xs : List Waiter). waiter_of p ∷ xs) e
kept_so false p ps ws e = e

lane_is : (s : ℕ) (ps : List Parked) → of_slot s (map waiter_of ps) ≡ map waiter_of (at_slot s ps)
lane_is s [] = refl
lane_is s (Waits x ∷ ps) = kept_so (nat_eq (lane_of (Waits x)) s) (Waits x) (at_slot s ps) (of_slot s (map waiter_of ps)) (lane_is s ps)
lane_is s (Free delivery ∷ ps) = kept_so (nat_eq (lane_of (Free delivery)) s) (Free delivery) (at_slot s ps) (of_slot s (map waiter_of ps)) (lane_is s ps)
lane_is s (Lost x cause ∷ ps) = kept_so (nat_eq (lane_of (Lost x cause)) s) (Lost x cause) (at_slot s ps) (of_slot s (map waiter_of ps)) (lane_is s ps)

-- ---- its head

abbrev has_in : StoreView → Hash → Bool
has_in store hash = is_some (lookup hash store)

not_stored : (store : StoreView) (hash : Option Hash) → IsNotStored store hash → IsSomeAnd hash (λ h. has_in store h ≡ false)
not_stored store None lacks = absurd lacks
not_stored store (Some hash) lacks = ap is_some lacks

first_is : (w first : Waiter) (ws rest : List Waiter) → w ∷ ws ≡ first ∷ rest → w ≡ first
first_is w first ws rest e = cc

head_lacks : (store : StoreView) (c : ConnId) (s : ℕ) (ps : List Parked) → IsLed store c s ps → (first : Waiter) (rest : List Waiter) → map waiter_of ps ≡ first ∷ rest → LacksItsSet (has_in store) first.message
head_lacks store c s [] led first rest e = let no : ⊥ = cc in absurd no
head_lacks store c s (Waits x ∷ ps) led first rest e = subst (λ (w : Waiter). LacksItsSet (has_in store) w.message) (first_is (waiter_of (Waits x)) first (map waiter_of ps) rest e) (not_stored store (named x.message) led.2)
head_lacks store c s (Free delivery ∷ ps) led first rest e = absurd led
head_lacks store c s (Lost x cause ∷ ps) led first rest e = absurd led

-- ---- the stage

abbrev pub DelaysNone : Settled → Type 0
DelaysNone s = (c : ConnId) (slot : ℕ) (first : Waiter) (rest : List Waiter) → of_slot slot (map waiter_of (parked_of c s.queues)) ≡ first ∷ rest → LacksItsSet (λ hash. is_some (lookup hash s.store)) first.message

pub delays_none : (s : Settled) → AreLed s → DelaysNone s
delays_none s led = λ c slot first rest e. head_lacks s.store c slot (at_slot slot (parked_of c s.queues)) (led c slot) first rest (sym (lane_is slot (parked_of c s.queues)) ∙ e)
