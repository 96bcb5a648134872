-- What waits in one lane delays no other.
use Rattle.std.proofs.Common.{◌≡◌, ℕ, Bool, true, false, cond, not, List, [], ◌∷◌, ◌++◌, refl, sym, ◌∙◌, ap, subst}
use Rattle.std.specs.Prelude.{◌&&◌, ◌||◌, Option, Some, None, IfSome, is_some}
use Rattle.std.specs.List.{list_any, AllByRecursion}
use Rattle.std.proofs.lemmas.Bool.{eqb-true}
use Rattle.scp_wire.specs.scp_types.specs.declared.names.ConnId.{ConnId}
use Rattle.scp_wire.specs.scp_types.specs.declared.names.Hash.{Hash}
use Rattle.scp_wire.specs.scp_quorum.specs.QuorumTree.{QuorumTree}
use Rattle.scp_wire.specs.declared.carried.Carried.{Carried}
use Rattle.scp_wire.specs.declared.link.Inbound.{Inbound}
use Rattle.scp_wire.specs.declared.link.Inbound.TheVariants as inbound
use Rattle.scp_wire.specs.Lanes.{slot_of}
use Rattle.scp_fetch.specs.Store.{StoreView, lookup}
use Rattle.scp_pending.specs.declared.parked.Parked.{Parked}
use Rattle.scp_pending.specs.declared.parked.Parked.TheVariants.{Waits, Free, Lost}
use Rattle.scp_pending.specs.declared.ready.Ready.{Ready}
use Rattle.scp_pending.specs.Causes.{HeadWaits}
use Rattle.scp_pending.specs.Independence.{set_beside, PassesAtOnce, WhatMayPassPasses, PassesInPlace, LacksItsSet, IsLed, LanesAreLed}
use Rattle.scp_pending.specs.Pends.{start_of}
use Rattle.scp_pending.specs.Queues.{QueueView, is_of, parked_of, is_at, at_slot, named, fate, with_set}
use Rattle.scp_pending.specs.Rules.{Settled, rules, entering_by, entering, found, is_full, overflows, goes_through, settled_by, released_by}
use Rattle.scp_pending.proofs.Basics.{same_conn-true, all_weaker}
use Rattle.scp_pending.proofs.Passing.{released-append, sound_of}
use Rattle.scp_pending.proofs.Standing.{Fits, head_waits}
use Rattle.scp_pending.proofs.Stored.{unknown_still}

-- ---- what passes at once

none_at : (slot : ℕ) (ps : List Parked) → at_slot slot ps ≡ [] → list_any (is_at slot) ps ≡ false
none_at slot [] e = refl
none_at slot (p ∷ ps) e = by_test (is_at slot p) e (none_at slot ps)
  where
    by_test : (b : Bool) → cond b (p ∷ at_slot slot ps) (at_slot slot ps) ≡ [] → (at_slot slot ps ≡ [] → list_any (is_at slot) ps ≡ false) → (b || list_any (is_at slot) ps) ≡ false
    by_test true e rest = absurd cc
    by_test false e rest = rest e

-- it has its set
enters_free : (s : Settled) (x : Carried) → IfSome (named x.message) (λ hash. is_some (lookup hash s.store) ≡ true) → entering s.store x ≡ with_set (set_beside s.store (named x.message)) x
enters_free s x known = by_name (named x.message) known
  where
    by_lookup : (o : Option QuorumTree) → is_some o ≡ true → found x o ≡ with_set o x
    by_lookup None e = absurd cc
    by_lookup (Some set) e = refl

    by_name : (o : Option Hash) → IfSome o (λ hash. is_some (lookup hash s.store) ≡ true) → entering_by o s.store x ≡ with_set (set_beside s.store o) x
    by_name None k = refl
    by_name (Some hash) k = by_lookup (lookup hash s.store) k

never_full : (b : Bool) → (b && not true) ≡ false
never_full true = refl
never_full false = refl

pub what_may_pass_passes : WhatMayPassPasses
what_may_pass_passes s x may =
    let free : entering s.store x ≡ with_set (set_beside s.store (named x.message)) x = enters_free s x may.known in
    let goes : goes_through x.conn (entering s.store x) s.queues ≡ true = ap (λ (p : Parked). goes_through x.conn p s.queues) free ∙ ap not (none_at (slot_of x.message) (parked_of x.conn s.queues) may.first) in
    let room : overflows x.conn (entering s.store x) s.queues ≡ false = ap (λ b. is_full x.conn s.queues && not b) goes ∙ never_full (is_full x.conn s.queues) in
    record {
      given = rw (may.live, room, goes) (ap (fate x.conn) free);
      stays = rw (may.live, room, goes) refl;
    }

pub passes_in_place : PassesInPlace
passes_in_place me peers taken given v p before x later at may =
    let start : Settled = start_of me peers v in
    let s : Settled = settled_by start before in
    let one : PassesAtOnce s x = what_may_pass_passes s x may in
    record {
      front = released_by start before;
      rest = released_by (rules s (inbound.Carried x)) later;
      at = p.left ∙ ap (released_by start) at ∙ released-append start before (inbound.Carried x ∷ later) ∙ ap (λ (xs : List Ready). released_by start before ++ (xs ++ released_by (rules s (inbound.Carried x)) later)) one.given;
      released = refl;
    }

-- ---- the heads of the lanes

all_at : (slot : ℕ) (ps : List Parked) → AllByRecursion (λ p. is_at slot p ≡ true) (at_slot slot ps)
all_at slot [] = tt
all_at slot (p ∷ ps) = by_test (is_at slot p) refl (all_at slot ps)
  where
    by_test : (b : Bool) → is_at slot p ≡ b → AllByRecursion (λ q. is_at slot q ≡ true) (at_slot slot ps) → AllByRecursion (λ q. is_at slot q ≡ true) (cond b (p ∷ at_slot slot ps) (at_slot slot ps))
    by_test true e rest = (e, rest)
    by_test false e rest = rest

head_led : (start : Settled) (taken : List Inbound) (c d : ConnId) (slot : ℕ) (ps : List Parked) → d ≡ c → AllByRecursion (λ p. is_at slot p ≡ true) ps → HeadWaits start taken d ps → IsLed (settled_by start taken).store c slot ps
head_led start taken c d slot [] mine at h = tt
head_led start taken c d slot (Waits x ∷ ps) mine at h = (
  h.0 ∙ mine,
  eqb-true (slot_of x.message) slot at.0,
  subst (LacksItsSet (settled_by start taken).store) (sym h.1.waiting.names) (unknown_still start taken x h.1.hash h.1.waiting),
)
head_led start taken c d slot (Free delivery ∷ ps) mine at h = absurd h
head_led start taken c d slot (Lost x cause ∷ ps) mine at h = absurd h

abbrev AllHeads : Settled → List Inbound → QueueView → Type 0
AllHeads start taken q = (n : ℕ) → HeadWaits start taken q.conn (at_slot n q.parked)

queues_led : (start : Settled) (taken : List Inbound) (c : ConnId) (slot : ℕ) (qs : List QueueView) → AllByRecursion (AllHeads start taken) qs → IsLed (settled_by start taken).store c slot (at_slot slot (parked_of c qs))
queues_led start taken c slot [] all = tt
queues_led start taken c slot (q ∷ qs) all = by_test (is_of c q) refl (queues_led start taken c slot qs all.1)
  where
    by_test : (b : Bool) → is_of c q ≡ b → IsLed (settled_by start taken).store c slot (at_slot slot (parked_of c qs)) → IsLed (settled_by start taken).store c slot (at_slot slot (cond b q.parked (parked_of c qs)))
    by_test true e rest = head_led start taken c q.conn slot (at_slot slot q.parked) (same_conn-true q.conn c e) (all_at slot q.parked) (all.0 slot)
    by_test false e rest = rest

pub lanes_are_led : LanesAreLed
lanes_are_led me peers taken given v p c slot =
    let start : Settled = start_of me peers v in
    let k = sound_of me peers taken given v p in
    subst (λ (store : StoreView). IsLed store c slot (at_slot slot (parked_of c v.settled.queues))) (ap (λ (s : Settled). s.store) (sym p.settled))
    (queues_led start taken c slot v.settled.queues (all_weaker (Fits start taken v.settled.wanted) (AllHeads start taken) v.settled.queues (λ q f. head_waits start taken v.settled.wanted k.wanted q f) k.fits))
