-- What is answered at an outbox, and at a link that accepts.
use Rattle.std.proofs.Common.{◌≡◌, ◌≢◌, ◌<◌, ℕ, Bool, true, false, Some, refl, sym, ◌∙◌, subst, arith, length}
use Rattle.std.specs.Prelude.{slice_get, ◌&&◌, nat_lt, if◌then◌else◌}
use Rattle.std.proofs.lemmas.Bool.Decides.{nat_tests}
use Rattle.scp_core.specs.scp_wire.specs.declared.link.Bytes.{Bytes}
use Rattle.scp_core.specs.declared.event.Event.{Event}
use Rattle.scp_core.specs.declared.event.Event.TheVariants as event
use Rattle.scp_core.specs.declared.event.Reply.{Reply}
use Rattle.scp_core.specs.declared.event.Reply.TheVariants as reply
use Rattle.scp_core.specs.Node.{LinkView, accepts_at, accepts_of}
use Rattle.scp_core.specs.Kv.{NodeView, Step}
use Rattle.scp_turn.specs.Turn.{IsStillReply}
use Rattle.scp_turn.proofs.Going.{still_else}

-- a drain that doesn't send
pub drain_still : (v new : NodeView) (l : ℕ) (r : Reply) → Step v (event.Drain l) r new → ((bytes : Bytes) → r ≢ reply.Sent bytes) → IsStillReply r
drain_still v new l r step s = still_else r (λ is. (subst (λ (x : Reply). Step v (event.Drain l) x new) is step).1) s

runs : (v : NodeView) (l : ℕ) → accepts_at v l ≡ true → v.failed ≡ true → ⊥
runs v l a f = let e : false ≡ true = subst (λ (b : Bool). (if b then false else accepts_of (slice_get v.links l)) ≡ true) f a in cc

takes : (v : NodeView) (l : ℕ) → accepts_at v l ≡ true → v.failed ≡ false → accepts_of (slice_get v.links l) ≡ true
takes v l a f = subst (λ (b : Bool). (if b then false else accepts_of (slice_get v.links l)) ≡ true) f a

opened : (k : LinkView) → (k.is_open && nat_lt (length k.queue) k.room) ≡ true → (k.is_open ≡ true) × (length k.queue < k.room)
opened k e = grind (arith, nat_tests)

at_link : (v : NodeView) (l : ℕ) (k : LinkView) → accepts_of (slice_get v.links l) ≡ true → slice_get v.links l ≡ Some k → (k.is_open ≡ true) × (length k.queue < k.room)
at_link v l k a is = opened k (subst (λ o. accepts_of o ≡ true) is a)

-- what is sent on a link that accepts is accepted
pub send_accepted : (v new : NodeView) (l : ℕ) (bytes : Bytes) (r : Reply) → accepts_at v l ≡ true → Step v (event.Send l bytes) r new → r ≡ reply.Accepted
send_accepted v new l bytes reply.Accepted a s = refl
send_accepted v new l bytes reply.Moved a s = absurd s.1
send_accepted v new l bytes (reply.Sent other) a s = absurd s.1
send_accepted v new l bytes reply.Idle a s = absurd s.1
send_accepted v new l bytes reply.Blocked a s = absurd s.1
send_accepted v new l bytes reply.Full a s = let k = s.1.0 in let opens = at_link v l k (takes v l a s.0) s.1.1 in absurd (omega (arith, opens.1, s.1.2.1))
send_accepted v new l bytes reply.NotOpen a s = let k = s.1.0 in let opens = at_link v l k (takes v l a s.0) s.1.1 in let e : false ≡ true = sym s.1.2 ∙ opens.0 in absurd cc
send_accepted v new l bytes reply.AlreadyOpen a s = absurd s.1
send_accepted v new l bytes reply.LivesSpent a s = absurd s.1
send_accepted v new l bytes reply.NoLink a s = let e : false ≡ true = subst (λ o. accepts_of o ≡ true) s.1 (takes v l a s.0) in absurd cc
send_accepted v new l bytes reply.Failed a s = absurd (runs v l a s.0)
send_accepted v new l bytes reply.JournalFull a s = absurd s.1
send_accepted v new l bytes reply.NoMemory a s = absurd s.1
