-- What is given is gone, and messages are given while the link is live.
use Rattle.std.proofs.Common.{◌≡◌, ◌+◌, ◌⊎◌, Bool, true, false, List, [], ◌∷◌, length, refl, sym, subst, ap, arith, inl, inr}
use Rattle.scp_wire.specs.Boxed.{Boxed}
use Rattle.scp_wire.specs.declared.message.Message.{Message}
use Rattle.scp_outbox.specs.declared.mark.Mark.{Mark}
use Rattle.scp_outbox.specs.declared.mark.Out.{Out}
use Rattle.scp_outbox.specs.declared.mark.Out.TheVariants.{Nothing}
use Rattle.scp_outbox.specs.Outbox.{OutboxView, Gives, given_statements, given_messages, given_live, given_from, IfMessage}
use Rattle.scp_outbox.specs.Laws.{waiting}

abbrev TakesOne : OutboxView → Out × OutboxView → Type 0
TakesOne v p = (waiting v ≡ waiting p.1 + 1) ⊎ ((p.0 ≡ Nothing) × (p.1 ≡ v))

one_statement : (v : OutboxView) (xs : List Boxed) → v.statements ≡ xs → TakesOne v (given_statements v xs)
one_statement v [] is = inr (refl, refl)
one_statement v (x ∷ rest) is = inl (let long = ap length is in omega (arith, long))

one_message : (v : OutboxView) (xs : List Message) → v.ring ≡ xs → TakesOne v (given_messages v xs)
one_message v [] is = one_statement v v.statements refl
one_message v (x ∷ rest) is = inl (let long = ap length is in omega (arith, long))

one_live : (v : OutboxView) (live : Bool) → TakesOne v (given_live v live)
one_live v true = one_message v v.ring refl
one_live v false = inr (refl, refl)

one_mark : (v : OutboxView) (xs : List Mark) → v.marks ≡ xs → TakesOne v (given_from v xs)
one_mark v [] is = one_live v v.live
one_mark v (x ∷ rest) is = inl (let long = ap length is in omega (arith, long))

pub gives_take_one : (old : OutboxView) (given_out : Out) (new : OutboxView) → Gives old given_out new → (waiting old ≡ waiting new + 1) ⊎ ((given_out ≡ Nothing) × (new ≡ old))
gives_take_one old given_out new k = subst (TakesOne old) (sym k) (one_mark old old.marks refl)

abbrev MayGive : OutboxView → Type 0
MayGive v = (v.live ≡ true) × (v.marks ≡ [])

live_statement : (v : OutboxView) (xs : List Boxed) → MayGive v → IfMessage (given_statements v xs).0 (λ _. MayGive v)
live_statement v [] may = tt
live_statement v (x ∷ rest) may = may

live_message : (v : OutboxView) (xs : List Message) → MayGive v → IfMessage (given_messages v xs).0 (λ _. MayGive v)
live_message v [] may = live_statement v v.statements may
live_message v (x ∷ rest) may = may

live_only : (v : OutboxView) (live : Bool) → v.live ≡ live → v.marks ≡ [] → IfMessage (given_live v live).0 (λ _. MayGive v)
live_only v true is none = live_message v v.ring (is, none)
live_only v false is none = tt

behind_marks : (v : OutboxView) (xs : List Mark) → v.marks ≡ xs → IfMessage (given_from v xs).0 (λ _. MayGive v)
behind_marks v [] is = live_only v v.live refl is
behind_marks v (x ∷ rest) is = tt

pub messages_while_live : (old : OutboxView) (given_out : Out) (new : OutboxView) → Gives old given_out new → IfMessage given_out (λ _. (old.live ≡ true) × (old.marks ≡ []))
messages_while_live old given_out new k = subst (λ (p : Out × OutboxView). IfMessage p.0 (λ _. MayGive old)) (sym k) (behind_marks old old.marks refl)
