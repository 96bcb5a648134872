-- What waits in an outbox was handed out, whatever is put there.
use Rattle.std.proofs.Common.{◌≡◌, ℕ, ◌+◌, ◌-◌, List, [], ◌∷◌, ◌++◌, length, refl, sym, subst, arith, All, get_or, inl, inr, append_assoc}
use Rattle.std.specs.Prelude.{Option, Some, None, position, MatchOption, Contains, AllPairs}
use Rattle.std.proofs.lemmas.List.{get_or_append_left, get_or-append-add, length-append, append-nil}
use Rattle.std.proofs.lemmas.List.Elements.{All-push, All-set, All-drop, Contains-append_left, Contains-push, All-contains}
use Rattle.scp_wire.specs.Boxed.{Boxed}
use Rattle.scp_wire.specs.declared.message.Message.{Message}
use Rattle.scp_wire.specs.declared.message.Message.TheVariants.{Envelope, GetSet, Set, NoSet, GetRecord, Record, Records}
use Rattle.scp_outbox.specs.Laws.{StatementsKeepOneEach}
use Rattle.scp_outbox.specs.Outbox.{OutboxView, keep_last, are_alike, AreOneEach, GoesLast, counted, Takes, Replaces, Puts}
use Rattle.scp_outbox.specs.Handing.{PutsAll, empty_outbox}
use Rattle.scp_outbox.specs.Sent.{statement_of, IsStep, AreNewer}
use Rattle.scp_outbox.specs.Waiting.{Owes}
use Rattle.scp_outbox.specs.Sending.{EmptyOwes, PutsKeepOwes, MarksKeepOwes, EmptySends, PutsKeepSends}

-- what was owed is owed of more
owes_grow : (handed more ms : List Message) (o : OutboxView) → Owes handed ms o → Owes (handed ++ more) ms o
owes_grow handed more ms o h = record {
  were_handed = λ k d below. Contains-append_left handed more (get_or ms k d) (h.were_handed k d below);
  newer = h.newer;
  ring = λ k d below. (let r = h.ring k d below in (r.0, Contains-append_left handed more (get_or o.ring k d) r.1));
  statements = λ k d below. Contains-append_left handed more (Envelope (get_or o.statements k d)) (h.statements k d below);
  one_each = h.one_each;
  ahead = h.ahead;
}

takes_by : (P : Boxed → Type 0) (old : List Boxed) (e : Boxed) (new : List Boxed) (lost : ℕ) (o : Option ℕ) → All P old → P e → MatchOption o (GoesLast old e new lost) (λ place. Replaces old place e new lost) → All P new
takes_by P old e new lost None all one h = subst (All P) (sym h.0) (All-drop P (length (old ++ e ∷ []) - 64) (old ++ e ∷ []) (All-push P old e all one))
takes_by P old e new lost (Some i) all one h =
    elim h.2 [
      | inl w ↦ subst (All P) (sym w.1) (All-set P old i e one all)
      | inr w ↦ subst (All P) (sym w.1) all
    ]

-- what holds of all statements that waited, and of the one that comes, holds of all that wait then
all_takes : (P : Boxed → Type 0) (old : List Boxed) (e : Boxed) (new : List Boxed) (lost : ℕ) → All P old → P e → Takes old e new lost → All P new
all_takes P old e new lost all one h = takes_by P old e new lost (position (λ (held : Boxed). are_alike held.value.statement e.value.statement) old) all one h

-- the message was handed out, and its statement is newer than those of these messages
abbrev IsNext : List Message → List Message → Message → Type 0
IsNext handed ms m = Contains handed m × All (λ n. IsStep (statement_of n) (statement_of m)) ms

put_ring : (handed ms : List Message) (o : OutboxView) (m : Message) (p : OutboxView) → statement_of m ≡ None → IsNext handed ms m → p ≡ record o { ring = keep_last 64 (o.ring ++ m ∷ []) } → Owes handed ms o → Owes handed ms p
put_ring handed ms o m p none next is h =
    let P : Message → Type 0 = λ n. (statement_of n ≡ None) × Contains handed n in
    let all : All P (keep_last 64 (o.ring ++ m ∷ [])) = All-drop P (length (o.ring ++ m ∷ []) - 64) (o.ring ++ m ∷ []) (All-push P o.ring m h.ring (none, next.0)) in
    subst (Owes handed ms) (sym is) (record {
      were_handed = h.were_handed;
      newer = h.newer;
      ring = all;
      statements = h.statements;
      one_each = h.one_each;
      ahead = h.ahead;
    })

put_envelope : StatementsKeepOneEach → (handed ms : List Message) (o : OutboxView) (e : Boxed) (sts : List Boxed) (lost count : ℕ) (p : OutboxView) → IsNext handed ms (Envelope e) → Takes o.statements e sts lost → p ≡ record o { statements = sts; overwritten = count } → Owes handed ms o → Owes handed ms p
put_envelope keep handed ms o e sts lost count p next takes is h =
    subst (Owes handed ms) (sym is) (record {
      were_handed = h.were_handed;
      newer = h.newer;
      ring = h.ring;
      statements = all_takes (λ (b : Boxed). Contains handed (Envelope b)) o.statements e sts lost h.statements next.0 takes;
      one_each = keep o.statements e sts lost h.one_each takes;
      ahead = λ k d below. all_takes (λ (b : Boxed). IsStep (statement_of (get_or ms k d)) (Some b.value.statement)) o.statements e sts lost (h.ahead k d below) (next.1 k d below) takes;
    })

-- one message is put
owes_put : StatementsKeepOneEach → (handed ms : List Message) (o : OutboxView) (m : Message) (p : OutboxView) → IsNext handed ms m → Puts o m p → Owes handed ms o → Owes handed ms p
owes_put keep handed ms o (Envelope e) p next puts h = put_envelope keep handed ms o e puts.0 puts.1 (counted o.overwritten puts.1) p next puts.2 puts.3 h
owes_put keep handed ms o (GetSet hash) p next puts h = put_ring handed ms o (GetSet hash) p refl next puts h
owes_put keep handed ms o (Set set) p next puts h = put_ring handed ms o (Set set) p refl next puts h
owes_put keep handed ms o (NoSet hash) p next puts h = put_ring handed ms o (NoSet hash) p refl next puts h
owes_put keep handed ms o (GetRecord slot) p next puts h = put_ring handed ms o (GetRecord slot) p refl next puts h
owes_put keep handed ms o (Record slot value) p next puts h = put_ring handed ms o (Record slot value) p refl next puts h
owes_put keep handed ms o (Records first values) p next puts h = put_ring handed ms o (Records first values) p refl next puts h

pub put : StatementsKeepOneEach → PutsKeepOwes
put keep handed ms o m p steps puts h =
    owes_put keep (handed ++ m ∷ []) ms o m p
    (Contains-push handed m, λ k d below. All-contains (λ n. IsStep (statement_of n) (statement_of m)) handed (get_or ms k d) steps (h.were_handed k d below))
    puts (owes_grow handed (m ∷ []) ms o h)

-- of two lists, one after the other: each of the first and the first of the second
pairs_next : {X : Type 0} (R : X → X → Type 0) (xs : List X) (y : X) (ys : List X) → AllPairs R (xs ++ y ∷ ys) → All (λ x. R x y) xs
pairs_next R xs y ys pairs k d below =
    let step : R (get_or (xs ++ y ∷ ys) k d) (get_or (xs ++ y ∷ ys) (length xs + 0) d) = pairs k (length xs + 0) d (omega (arith, below)) (omega (arith, below, length-append xs (y ∷ ys))) in
    let first : get_or (xs ++ y ∷ ys) k d ≡ get_or xs k d = get_or_append_left xs (y ∷ ys) d k below in
    let second : get_or (xs ++ y ∷ ys) (length xs + 0) d ≡ y = get_or-append-add xs (y ∷ ys) 0 d in
    subst (R (get_or xs k d)) second (subst (λ x. R x (get_or (xs ++ y ∷ ys) (length xs + 0) d)) first step)

-- all that is handed out is put
pub put_all : StatementsKeepOneEach → (handed ms : List Message) (o : OutboxView) (more : List Message) (p : OutboxView) → AreNewer (handed ++ more) → PutsAll o more p → Owes handed ms o → Owes (handed ++ more) ms p
put_all keep handed ms o [] p newer puts h = subst (λ l. Owes l ms p) (sym (append-nil handed)) (subst (Owes handed ms) (sym puts) h)
put_all keep handed ms o (m ∷ more) p newer puts h =
    let again : (handed ++ m ∷ []) ++ more ≡ handed ++ m ∷ more = append_assoc handed (m ∷ []) more in
    let one : Owes (handed ++ m ∷ []) ms puts.0 = put keep handed ms o m puts.0 (pairs_next (λ a b. IsStep (statement_of a) (statement_of b)) handed m more newer) puts.2 h in
    subst (λ l. Owes l ms p) again (put_all keep (handed ++ m ∷ []) ms puts.0 more p (subst AreNewer (sym again) newer) puts.3 one)

pub puts : StatementsKeepOneEach → PutsKeepSends
puts keep handed more sent o p newer put h =
    let waits = put_all keep handed h.sent.messages o more p newer put h.waits in
    record {
      sent = record { messages = h.sent.messages; spelt = h.sent.spelt; were_handed = waits.were_handed; newer = waits.newer };
      waits = waits;
    }

nothing_there : {X : Type 0} (P : X → Type 0) (xs : List X) → xs ≡ [] → All P xs
nothing_there P xs none = subst (All P) (sym none) (λ k d below. absurd (omega arith))

pub none_owed : EmptyOwes
none_owed o ring statements = record {
  were_handed = λ k d below. absurd (omega arith);
  newer = λ i j d lt below. absurd (omega arith);
  ring = nothing_there (λ m. (statement_of m ≡ None) × Contains [] m) o.ring ring;
  statements = nothing_there (λ (e : Boxed). Contains [] (Envelope e)) o.statements statements;
  one_each = subst AreOneEach (sym statements) (λ i j d lt below. absurd (omega arith));
  ahead = λ k d below. absurd (omega arith);
}

pub empty : EmptySends
empty = record {
  sent = record { messages = []; spelt = tt; were_handed = λ k d below. absurd (omega arith); newer = λ i j d lt below. absurd (omega arith) };
  waits = none_owed empty_outbox refl refl;
}

pub mark_left : MarksKeepOwes
mark_left handed ms o mark h = record { were_handed = h.were_handed; newer = h.newer; ring = h.ring; statements = h.statements; one_each = h.one_each; ahead = h.ahead }
