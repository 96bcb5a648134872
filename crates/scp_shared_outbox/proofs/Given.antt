-- What was given was put or left.
use Rattle.std.proofs.Common.{arith, ◌≡◌, inl, inr, ℕ, zero, suc, ◌==◌, cond, Bool, true, false, List, [], ◌∷◌, ◌++◌, sym, refl, ap, ◌∙◌, subst, append_assoc, eq-eqb}
use Rattle.std.specs.Prelude.{Contains}
use Rattle.std.proofs.lemmas.List.Elements.{Contains-append_left, Contains-append_right, Contains-append_cases}
use Rattle.scp_outbox.specs.scp_wire.specs.Boxed.{Boxed}
use Rattle.scp_outbox.specs.scp_wire.specs.declared.message.Message.{Message}
use Rattle.scp_outbox.specs.declared.mark.Mark.{Mark}
use Rattle.scp_outbox.specs.declared.mark.Out.{Out}
use Rattle.scp_outbox.specs.declared.mark.Out.TheVariants as out
use Rattle.scp_outbox.specs.Outbox.{OutboxView, IfMessage, given_statements, given_messages, given_live, given_from}
use Rattle.scp_outbox.specs.Laws.{Waits, PutsAddTheMessage, GivesAreOfWhatWaits, GivesAddNothing}
use Rattle.scp_shared_outbox.specs.declared.turn.Turn.{Turn}
use Rattle.scp_shared_outbox.specs.declared.turn.Turn.TheVariants.{Puts, Marks, Gives}
use Rattle.scp_shared_outbox.specs.Turns.{Stands, put_by, marked, given}
use Rattle.scp_shared_outbox.specs.Laws.{GivenWasPut, MarksComeInOrder, marks_of}
use Rattle.scp_shared_outbox.proofs.Marked.{same_after_put}

one : {A : Type 0} → (x y : A) → Contains (x ∷ []) y → x ≡ y
one x y (zero, within, is) = is
one x y (suc k, within, is) = absurd (omega arith)

none : {A : Type 0} → (x : A) → Contains [] x → ⊥
none x (k, within, is) = omega arith

abbrev WasPut : List Turn → Message → Type 0
WasPut turns message = (p : ℕ) × Contains (put_by p turns) message

still_put : (turns : List Turn) (n : ℕ) (put message : Message) → WasPut turns message → WasPut (Puts n put ∷ turns) message
still_put turns n put message was = (
  was.0,
  elim (n == was.0) as (λ b. Contains (cond b (put_by was.0 turns ++ put ∷ []) (put_by was.0 turns)) message) [
    | true ↦ Contains-append_left (put_by was.0 turns) (put ∷ []) message was.1
    | false ↦ was.1
  ],
)

now_put : (turns : List Turn) (n : ℕ) (message : Message) → WasPut (Puts n message ∷ turns) message
now_put turns n message = (
  n,
  subst (λ (l : List Message). Contains l message) (sym (ap (λ b. cond b (put_by n turns ++ message ∷ []) (put_by n turns)) (eq-eqb n n refl))) (Contains-append_right (put_by n turns) (message ∷ []) message (0, omega arith, refl)),
)

module _ (adds : PutsAddTheMessage) (gives : GivesAreOfWhatWaits) (keeps : GivesAddNothing) where
  abbrev AllPut : List Turn → OutboxView → Type 0
  AllPut turns o = ((message : Message) → Waits o message → WasPut turns message) × ((message : Message) → Contains (given turns) (out.Message message) → WasPut turns message)

  all_put : (turns : List Turn) (o : OutboxView) → Stands turns o → AllPut turns o
  all_put [] o stands = (
    (λ message waits. elim (subst (λ (v : OutboxView). Waits v message) stands waits) [ inl w ↦ absurd (none message w) | inr w ↦ absurd (none w.0 w.2) ]),
    λ message was. absurd (none (out.Message message) was),
  )
  all_put (Puts n put ∷ turns) o stands =
      let before = all_put turns stands.0 stands.1 in (
        (λ message waits. elim (adds stands.0 put o stands.2 message waits) [
          | inl w ↦ still_put turns n put message (before.0 message w)
          | inr same ↦ subst (WasPut (Puts n put ∷ turns)) (sym same) (now_put turns n put)
        ]),
        λ message was. still_put turns n put message (before.1 message was),
      )
  all_put (Marks mark ∷ turns) o stands =
      let before = all_put turns stands.0 stands.1 in (
        (λ message waits. before.0 message (subst (λ (v : OutboxView). Waits v message) stands.2 waits)),
        before.1,
      )
  all_put (Gives given_out ∷ turns) o stands =
      let before = all_put turns stands.0 stands.1 in (
        (λ message waits. before.0 message (keeps stands.0 given_out o stands.2 message waits)),
        λ message was. elim (Contains-append_cases (given turns) (given_out ∷ []) (out.Message message) was) [
          | inl w ↦ before.1 message w
          | inr w ↦ before.0 message (subst (λ (x : Out). IfMessage x (Waits stands.0)) (one given_out (out.Message message) w) (gives stands.0 given_out o stands.2))
        ],
      )

  pub given_was_put : GivenWasPut
  given_was_put puts marks gave left is message was =
      let put = (all_put is.turns left is.stands).1 message (subst (λ (l : List Out). Contains l (out.Message message)) (sym is.gave_is) was) in
      (put.0, subst (λ (l : List Message). Contains l message) (is.each put.0) put.1)

marks_append : (xs ys : List Out) → marks_of (xs ++ ys) ≡ marks_of xs ++ marks_of ys
marks_append [] ys = refl
marks_append (out.Mark mark ∷ xs) ys = ap (λ l. mark ∷ l) (marks_append xs ys)
marks_append (out.Message message ∷ xs) ys = marks_append xs ys
marks_append (out.Nothing ∷ xs) ys = marks_append xs ys

-- the marks of what is given, and then those that are left
abbrev shown : Out × OutboxView → List Mark
shown p = marks_of (p.0 ∷ []) ++ p.1.marks

shown_statements : (v : OutboxView) (xs : List Boxed) → shown (given_statements v xs) ≡ v.marks
shown_statements v [] = refl
shown_statements v (x ∷ xs) = refl

shown_messages : (v : OutboxView) (xs : List Message) → shown (given_messages v xs) ≡ v.marks
shown_messages v [] = shown_statements v v.statements
shown_messages v (x ∷ xs) = refl

shown_live : (v : OutboxView) (live : Bool) → shown (given_live v live) ≡ v.marks
shown_live v true = shown_messages v v.ring
shown_live v false = refl

shown_marks : (v : OutboxView) (xs : List Mark) → v.marks ≡ xs → shown (given_from v xs) ≡ v.marks
shown_marks v [] is = shown_live v v.live
shown_marks v (x ∷ xs) is = sym is

in_order : (turns : List Turn) (o : OutboxView) → Stands turns o → marks_of (given turns) ++ o.marks ≡ marked turns
in_order [] o stands = ap (λ (v : OutboxView). v.marks) stands
in_order (Puts n put ∷ turns) o stands = ap (λ l. marks_of (given turns) ++ l) (same_after_put stands.0 put o stands.2) ∙ in_order turns stands.0 stands.1
in_order (Marks mark ∷ turns) o stands =
    ap (λ (v : OutboxView). marks_of (given turns) ++ v.marks) stands.2 ∙ sym (append_assoc (marks_of (given turns)) stands.0.marks (mark ∷ [])) ∙ ap (λ l. l ++ mark ∷ []) (in_order turns stands.0 stands.1)
in_order (Gives given_out ∷ turns) o stands =
    ap (λ l. l ++ o.marks) (marks_append (given turns) (given_out ∷ []))
    ∙ append_assoc (marks_of (given turns)) (marks_of (given_out ∷ [])) o.marks
    ∙ ap (λ (p : Out × OutboxView). marks_of (given turns) ++ shown p) stands.2
    ∙ ap (λ l. marks_of (given turns) ++ l) (shown_marks stands.0 stands.0.marks refl)
    ∙ in_order turns stands.0 stands.1

pub marks_come_in_order : MarksComeInOrder
marks_come_in_order puts marks gave left is =
    (left.marks, sym is.marked_is ∙ sym (in_order is.turns left is.stands) ∙ ap (λ (l : List Out). marks_of l ++ left.marks) is.gave_is)
