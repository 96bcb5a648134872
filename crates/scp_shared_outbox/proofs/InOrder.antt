-- Statements that only one producer puts, in order, are given in order.
use Rattle.std.proofs.Common.{arith, ◌≡◌, ◌≢◌, ◌⊎◌, inl, inr, ℕ, ◌+◌, ◌==◌, cond, true, false, List, [], ◌∷◌, ◌++◌, length, length-append, get_or, append-nil, sym, refl, ap, ◌∙◌, subst}
use Rattle.std.specs.Prelude.{Option, Some, None, All, AllPairs, Contains}
use Rattle.std.proofs.lemmas.Bool.{cases_eq}
use Rattle.std.proofs.lemmas.List.{get_or_append_left, get_or-append-add}
use Rattle.std.proofs.lemmas.List.Elements.{All-push, All-weaker, All-contains, Contains-append_left, Contains-push}
use Rattle.scp_outbox.specs.scp_envelope.specs.declared.statement.Statement.{Statement}
use Rattle.scp_outbox.specs.scp_wire.specs.declared.message.Message.{Message}
use Rattle.scp_outbox.specs.declared.mark.Out.{Out}
use Rattle.scp_outbox.specs.declared.mark.Out.TheVariants as out
use Rattle.scp_outbox.specs.Outbox.{OutboxView}
use Rattle.scp_outbox.specs.Sent.{statement_of, IsStep, AreNewer}
use Rattle.scp_outbox.specs.Waiting.{Owes, and_given}
use Rattle.scp_outbox.specs.Sending.{EmptyOwes, PutsKeepOwes, GivesKeepOwes, MarksKeepOwes}
use Rattle.scp_shared_outbox.specs.declared.turn.Turn.{Turn}
use Rattle.scp_shared_outbox.specs.declared.turn.Turn.TheVariants.{Puts, Marks, Gives}
use Rattle.scp_shared_outbox.specs.Turns.{Stands, put_by, given}
use Rattle.scp_shared_outbox.specs.Laws.{messages_of, StatementsGoInOrder}
use Rattle.scp_shared_outbox.proofs.Moves.{put_here}

all_front : {X : Type 0} (P : X → Type 0) (xs ys : List X) → All P (xs ++ ys) → All P xs
all_front P xs ys h k d below = subst P (get_or_append_left xs ys d k below) (h k d (omega (arith, below, length-append xs ys)))

pairs_front : {X : Type 0} (R : X → X → Type 0) (xs ys : List X) → AllPairs R (xs ++ ys) → AllPairs R xs
pairs_front R xs ys h i j d lt below =
    let step : R (get_or (xs ++ ys) i d) (get_or (xs ++ ys) j d) = h i j d lt (omega (arith, below, length-append xs ys)) in
    subst (R (get_or xs i d)) (get_or_append_left xs ys d j below) (subst (λ x. R x (get_or (xs ++ ys) j d)) (get_or_append_left xs ys d i (omega (arith, lt, below))) step)

-- each, and the last
pairs_last : {X : Type 0} (R : X → X → Type 0) (xs : List X) (y : X) → AllPairs R (xs ++ y ∷ []) → All (λ x. R x y) xs
pairs_last R xs y h k d below =
    let step : R (get_or (xs ++ y ∷ []) k d) (get_or (xs ++ y ∷ []) (length xs + 0) d) = h k (length xs + 0) d (omega (arith, below)) (omega (arith, below, length-append xs (y ∷ []))) in
    subst (R (get_or xs k d)) (get_or-append-add xs (y ∷ []) 0 d) (subst (λ x. R x (get_or (xs ++ y ∷ []) (length xs + 0) d)) (get_or_append_left xs (y ∷ []) d k below) step)

-- all that was put, oldest first
abbrev put_all : List Turn → List Message
put_all [] = []
put_all (Puts p message ∷ turns) = put_all turns ++ message ∷ []
put_all (Marks mark ∷ turns) = put_all turns
put_all (Gives out ∷ turns) = put_all turns

abbrev Step : Message → Message → Type 0
Step m n = IsStep (statement_of m) (statement_of n)

-- it is no statement
abbrev IsOther : Message → Type 0
IsOther m = statement_of m ≡ None

step_none : (s : Option Statement) → IsStep s None
step_none None = tt
step_none (Some s) = tt

to_other : (m n : Message) → IsOther n → Step m n
to_other m n other = subst (IsStep (statement_of m)) (sym other) (step_none (statement_of m))

from_other : (m n : Message) → IsOther m → Step m n
from_other m n other = subst (λ s. IsStep s (statement_of n)) (sym other) tt

put_grows : (p q : ℕ) (message : Message) (turns : List Turn) → (more : List Message) × (put_by q (Puts p message ∷ turns) ≡ put_by q turns ++ more)
put_grows p q message turns = elim (p == q) as (λ b. (more : List Message) × (cond b (put_by q turns ++ message ∷ []) (put_by q turns) ≡ put_by q turns ++ more)) [
  | true ↦ (message ∷ [], refl)
  | false ↦ ([], sym (append-nil (put_by q turns)))
]

module _ (sayer : ℕ) where
  -- only the sayer put statements, each newer than those of its slot and kind before it
  abbrev OneSays : List Turn → Type 0
  OneSays turns = AreNewer (put_by sayer turns) × ((p : ℕ) → p ≢ sayer → All IsOther (put_by p turns))

  says_before : (p : ℕ) (message : Message) (turns : List Turn) → OneSays (Puts p message ∷ turns) → OneSays turns
  says_before p message turns h = (
    (let more = put_grows p sayer message turns in pairs_front Step (put_by sayer turns) more.0 (subst AreNewer more.1 h.0)),
    λ q other. (let more = put_grows p q message turns in all_front IsOther (put_by q turns) more.0 (subst (All IsOther) more.1 (h.1 q other))),
  )

  -- the last that was put is no statement, if another put it
  last_is_other : (p : ℕ) (message : Message) (turns : List Turn) → p ≢ sayer → OneSays (Puts p message ∷ turns) → IsOther message
  last_is_other p message turns other h = All-contains IsOther (put_by p (Puts p message ∷ turns)) message (h.1 p other) (subst (λ (l : List Message). Contains l message) (sym (put_here p message turns)) (Contains-push (put_by p turns) message))

  last_is_its : (p : ℕ) (message : Message) (turns : List Turn) → p ≡ sayer → put_by sayer (Puts p message ∷ turns) ≡ put_by sayer turns ++ message ∷ []
  last_is_its p message turns same = subst (λ n. put_by sayer (Puts n message ∷ turns) ≡ put_by sayer turns ++ message ∷ []) (sym same) (put_here sayer message turns)

  -- it is no statement, or the sayer put it
  abbrev IsIts : List Turn → Message → Type 0
  IsIts turns m = IsOther m ⊎ Contains (put_by sayer turns) m

  all_its : (turns : List Turn) → OneSays turns → All (IsIts turns) (put_all turns)
  all_its [] h = λ k d below. absurd (omega arith)
  all_its (Puts p message ∷ turns) h =
      let now : List Turn = Puts p message ∷ turns in
      let more = put_grows p sayer message turns in
      All-push (IsIts now) (put_all turns) message
      (All-weaker (IsIts turns) (IsIts now) (λ m its. elim its [
        | inl other ↦ inl other
        | inr there ↦ inr (subst (λ (l : List Message). Contains l m) (sym more.1) (Contains-append_left (put_by sayer turns) more.0 m there))
      ]) (put_all turns) (all_its turns (says_before p message turns h)))
      (elim (cases_eq p sayer) [
        | inl same ↦ inr (subst (λ (l : List Message). Contains l message) (sym (last_is_its p message turns same)) (Contains-push (put_by sayer turns) message))
        | inr other ↦ inl (last_is_other p message turns other h)
      ])
  all_its (Marks mark ∷ turns) h = all_its turns h
  all_its (Gives out ∷ turns) h = all_its turns h

  -- the last that was put is newer than all before it
  steps : (p : ℕ) (message : Message) (turns : List Turn) → OneSays (Puts p message ∷ turns) → All (λ m. Step m message) (put_all turns)
  steps p message turns h = elim (cases_eq p sayer) [
    | inl same ↦ All-weaker (IsIts turns) (λ m. Step m message) (λ m its. elim its [
      | inl other ↦ from_other m message other
      | inr there ↦ All-contains (λ n. Step n message) (put_by sayer turns) m (pairs_last Step (put_by sayer turns) message (subst AreNewer (last_is_its p message turns same) h.0)) there
    ]) (put_all turns) (all_its turns (says_before p message turns h))
    | inr other ↦ λ k d below. to_other (get_or (put_all turns) k d) message (last_is_other p message turns other h)
  ]

one_more_given : (m : Message) (ms : List Message) (x : Out) → m ∷ and_given ms x ≡ and_given (m ∷ ms) x
one_more_given m ms (out.Mark mark) = refl
one_more_given m ms (out.Message message) = refl
one_more_given m ms out.Nothing = refl

messages_grow : (gave : List Out) (x : Out) → messages_of (gave ++ x ∷ []) ≡ and_given (messages_of gave) x
messages_grow [] (out.Mark mark) = refl
messages_grow [] (out.Message message) = refl
messages_grow [] out.Nothing = refl
messages_grow (out.Mark mark ∷ gave) x = messages_grow gave x
messages_grow (out.Message message ∷ gave) x = ap (λ l. message ∷ l) (messages_grow gave x) ∙ one_more_given message (messages_of gave) x
messages_grow (out.Nothing ∷ gave) x = messages_grow gave x

module _ (empty : EmptyOwes) (puts : PutsKeepOwes) (gives : GivesKeepOwes) (marks : MarksKeepOwes) where
  owes : (sayer : ℕ) (turns : List Turn) (o : OutboxView) → Stands turns o → OneSays sayer turns → Owes (put_all turns) (messages_of (given turns)) o
  owes sayer [] o stands h = empty o (ap (λ (v : OutboxView). v.ring) stands) (ap (λ (v : OutboxView). v.statements) stands)
  owes sayer (Puts p message ∷ turns) o stands h =
      puts (put_all turns) (messages_of (given turns)) stands.0 message o (steps sayer p message turns h) stands.2 (owes sayer turns stands.0 stands.1 (says_before sayer p message turns h))
  owes sayer (Marks mark ∷ turns) o stands h =
      subst (Owes (put_all turns) (messages_of (given turns))) (sym stands.2) (marks (put_all turns) (messages_of (given turns)) stands.0 mark (owes sayer turns stands.0 stands.1 h))
  owes sayer (Gives result ∷ turns) o stands h =
      subst (λ (l : List Message). Owes (put_all turns) l o) (sym (messages_grow (given turns) result)) (gives (put_all turns) (messages_of (given turns)) stands.0 result o stands.2 (owes sayer turns stands.0 stands.1 h))

  pub statements_go_in_order : StatementsGoInOrder
  statements_go_in_order puts' marks' gave left is sayer newer silent =
      let all = owes sayer is.turns left is.stands (subst AreNewer (sym (is.each sayer)) newer, λ p other. subst (All IsOther) (sym (is.each p)) (silent p other)) in
      subst (λ (l : List Out). AreNewer (messages_of l)) is.gave_is all.newer
