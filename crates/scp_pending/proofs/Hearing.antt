-- What a Set does, by whether it is wanted and whether it is sane.
use Rattle.std.proofs.Common.{◌≡◌, ℕ, Bool, true, false, List, ◌++◌, refl, ap, subst}
use Rattle.std.specs.List.{list_any}
use Rattle.scp_wire.specs.Lanes.{slot_of}
use Rattle.std.specs.Prelude.{◌&&◌, ◌||◌, Option, Some, None}
use Rattle.scp_wire.specs.scp_types.specs.declared.names.Hash.{Hash}
use Rattle.scp_wire.specs.scp_quorum.specs.QuorumTree.{QuorumTree}
use Rattle.scp_wire.specs.scp_quorum.specs.QuorumKind.{set_hash, set_kind, set_value}
use Rattle.scp_wire.specs.scp_quorum.specs.Sane.{IsSane}
use Rattle.scp_wire.specs.scp_xdr.specs.Kind.{Fits}
use Rattle.scp_wire.specs.declared.carried.Carried.{Carried}
use Rattle.scp_wire.specs.declared.link.Command.TheVariants.{Tick}
use Rattle.scp_wire.specs.declared.link.Inbound.{Inbound}
use Rattle.scp_wire.specs.declared.link.Inbound.TheVariants as inbound
use Rattle.scp_wire.specs.declared.side.SideMessage.TheVariants.{Set, NoSet}
use Rattle.scp_fetch.specs.Store.{StoreView, lookup, stored}
use Rattle.scp_fetch.specs.declared.want.Want.{Want}
use Rattle.scp_fetch.specs.declared.want.Miss.TheVariants.{One, All}
use Rattle.scp_fetch.specs.Wants.{is_wanted, last_missed, missed_by, gives_up, without}
use Rattle.scp_pending.specs.declared.parked.Parked.{Parked}
use Rattle.scp_pending.specs.declared.ready.DropCause.TheVariants.{BadSet, GaveUp}
use Rattle.scp_pending.specs.declared.ready.Ready.{Ready}
use Rattle.scp_pending.specs.Sanity.{is_sane, has_spelling}
use Rattle.scp_pending.proofs.Sanity.{test_of_sane, sane_of_test, test_of_fits, fits_of_test}
use Rattle.scp_pending.specs.Queues.{QueueView, lane_of, is_at, waits, is_held, named, in_order_of, is_hash, hash_of, served, leaving_of, resolved, with_set, lost_by}
use Rattle.scp_pending.specs.Rules.{PendingView, entering_by, entering, found, rules, releases, hears, heard_out, is_answer, is_given_up, taken_in}
use Rattle.scp_pending.proofs.Basics.{append_nil, clash}

pub hash_is : (h : Hash) (set : QuorumTree) → h.0 ≡ set_hash set → h ≡ hash_of set
hash_is h set e = (let at : List ℕ → Hash = λ bytes. record { 0 = bytes } in ap at e)

-- what a take of a Set makes of the stage
abbrev pub heard_in : PendingView → QuorumTree → PendingView
heard_in v set = record v { settled = hears (Set set) v.settled; leaving = v.leaving ++ heard_out (Set set) v.settled }

-- a set that is no answer changes nothing
ignored : (v : PendingView) (set : QuorumTree) → is_answer set v.settled ≡ false → v ≡ heard_in v set
ignored v set e = rw (e, append_nil v.leaving) refl

pub unwanted : (v : PendingView) (set : QuorumTree) (h : Hash) → h.0 ≡ set_hash set → is_wanted h v.settled.wanted ≡ false → v ≡ heard_in v set
unwanted v set h e none = ignored v set (rw (← hash_is h set e, none) (and_false (has_spelling set)))
  where
    and_false : (b : Bool) → (b && false) ≡ false
    and_false true = refl
    and_false false = refl

pub unspelt : (v : PendingView) (set : QuorumTree) → (Fits set_kind (set_value set) → ⊥) → v ≡ heard_in v set
unspelt v set none = ignored v set (by_test (has_spelling set) refl)
  where
    by_test : (b : Bool) → has_spelling set ≡ b → (b && is_wanted (hash_of set) v.settled.wanted) ≡ false
    by_test true e = absurd (none (fits_of_test set e))
    by_test false e = refl

pub answer_sane : (v : PendingView) (set kept shared : QuorumTree) (h : Hash) → h.0 ≡ set_hash set → IsSane set → is_wanted h v.settled.wanted ≡ true → kept ≡ set → shared ≡ set → record v { settled = record v.settled { store = stored kept v.settled.store; wanted = without h v.settled.wanted; queues = served (resolved (is_hash h) (with_set (Some shared)) v.settled.queues) }; leaving = v.leaving ++ leaving_of (resolved (is_hash h) (with_set (Some shared)) v.settled.queues) } ≡ heard_in v set
answer_sane v set kept shared h e sane wanted k l =
    let same : h ≡ hash_of set = hash_is h set e in
    let yes : is_sane set ≡ true = test_of_sane set sane in
    let spelt : has_spelling set ≡ true = test_of_fits set sane.fits in
    let there : is_wanted (hash_of set) v.settled.wanted ≡ true = subst (λ (k : Hash). is_wanted k v.settled.wanted ≡ true) same wanted in
    rw (k, l, spelt, there, yes, same) refl

pub answer_insane : (v : PendingView) (set : QuorumTree) (h : Hash) → h.0 ≡ set_hash set → is_sane set ≡ false → Fits set_kind (set_value set) → is_wanted h v.settled.wanted ≡ true → record v { settled = record v.settled { wanted = without h v.settled.wanted; queues = served (resolved (is_hash h) (lost_by BadSet) v.settled.queues) }; leaving = v.leaving ++ leaving_of (resolved (is_hash h) (lost_by BadSet) v.settled.queues) } ≡ heard_in v set
answer_insane v set h e bad fits wanted =
    let same : h ≡ hash_of set = hash_is h set e in
    let spelt : has_spelling set ≡ true = test_of_fits set fits in
    let there : is_wanted (hash_of set) v.settled.wanted ≡ true = subst (λ (k : Hash). is_wanted k v.settled.wanted ≡ true) same wanted in
    rw (spelt, there, bad, same) refl

pub not_sane : (set : QuorumTree) → (IsSane set → ⊥) → is_sane set ≡ false
not_sane set none = by_test (is_sane set) refl
  where
    by_test : (b : Bool) → is_sane set ≡ b → b ≡ false
    by_test true e = absurd (none (sane_of_test set e))
    by_test false e = refl

pub fits_unless : (set : QuorumTree) → ((Fits set_kind (set_value set) → ⊥) → ⊥) → Fits set_kind (set_value set)
fits_unless set some = by_test (has_spelling set) refl
  where
    by_test : (b : Bool) → has_spelling set ≡ b → Fits set_kind (set_value set)
    by_test true e = fits_of_test set e
    by_test false e = absurd (some (λ fits. clash (has_spelling set) (test_of_fits set fits) e))

-- ---- a Tick

pub ticked : (v : PendingView) (wanted : List Want) (queues : List QueueView) (leaving : List Ready) → wanted ≡ missed_by All v.settled.wanted → queues ≡ served (resolved (is_given_up v.settled.wanted) (lost_by GaveUp) (in_order_of (last_missed v.settled.wanted) v.settled.queues)) → leaving ≡ v.leaving ++ leaving_of (resolved (is_given_up v.settled.wanted) (lost_by GaveUp) (in_order_of (last_missed v.settled.wanted) v.settled.queues)) → record v { settled = record v.settled { wanted = wanted; queues = queues }; leaving = leaving } ≡ taken_in v (inbound.Local Tick)
ticked v wanted queues leaving w a b = rw (b, a, w) refl

-- ---- a take

pub taken_is : (v p : PendingView) (failed : Bool) (item : Inbound) → record p { failed = failed } ≡ v → taken_in v item ≡ record { failed = failed; settled = rules p.settled item; leaving = p.leaving ++ releases p.settled item }
taken_is v p failed item e = rw (← e) refl

-- ---- what waits has its outcome

pub answered_by : (v : PendingView) (hash : Hash) (f : Carried → Parked) (wanted : List Want) (queues : List QueueView) (leaving : List Ready) → wanted ≡ without hash v.settled.wanted → queues ≡ served (resolved (is_hash hash) f v.settled.queues) → leaving ≡ v.leaving ++ leaving_of (resolved (is_hash hash) f v.settled.queues) → record v { settled = record v.settled { wanted = wanted; queues = queues }; leaving = leaving } ≡ record v { settled = record v.settled { wanted = without hash v.settled.wanted; queues = served (resolved (is_hash hash) f v.settled.queues) }; leaving = v.leaving ++ leaving_of (resolved (is_hash hash) f v.settled.queues) }
answered_by v hash f wanted queues leaving w a b = rw (b, a, w) refl

-- ---- a NoSet

pub missed_last : (v : PendingView) (hash : Hash) (wanted : List Want) (queues : List QueueView) (leaving : List Ready) → gives_up (One hash) v.settled.wanted hash ≡ true → wanted ≡ missed_by (One hash) v.settled.wanted → queues ≡ served (resolved (is_hash hash) (lost_by GaveUp) v.settled.queues) → leaving ≡ v.leaving ++ leaving_of (resolved (is_hash hash) (lost_by GaveUp) v.settled.queues) → record v { settled = record v.settled { wanted = wanted; queues = queues }; leaving = leaving } ≡ record v { settled = hears (NoSet hash) v.settled; leaving = v.leaving ++ heard_out (NoSet hash) v.settled }
missed_last v hash wanted queues leaving g w a b = rw (b, a, w, g) refl

pub missed_once : (v : PendingView) (hash : Hash) (wanted : List Want) → gives_up (One hash) v.settled.wanted hash ≡ false → wanted ≡ missed_by (One hash) v.settled.wanted → record v { settled = record v.settled { wanted = wanted } } ≡ record v { settled = hears (NoSet hash) v.settled; leaving = v.leaving ++ heard_out (NoSet hash) v.settled }
missed_once v hash wanted g w = rw (w, g, append_nil v.leaving) refl

-- what the code tests before a message is parked
pub held_entering : (store : StoreView) (x : Carried) (ps : List Parked) → is_held ps (entering store x) ≡ (waits (entering store x) || list_any (is_at (slot_of x.message)) ps)
held_entering store x ps = ap (λ s. waits (entering store x) || list_any (is_at s) ps) (by_name (named x.message))
  where
    by_lookup : (o : Option QuorumTree) → lane_of (found x o) ≡ slot_of x.message
    by_lookup None = refl
    by_lookup (Some set) = refl

    by_name : (o : Option Hash) → lane_of (entering_by o store x) ≡ slot_of x.message
    by_name None = refl
    by_name (Some hash) = by_lookup (lookup hash store)
