-- An outbox of which each statement that comes is newer: what waits in it then, and what it gives.
use Rattle.std.proofs.Common.{◌≡◌, ℕ, ◌+◌, ◌-◌, Bool, true, false, List, [], ◌∷◌, ◌++◌, length, refl, sym, ◌∙◌, ap, subst, arith, All, get_or, suc, inl, inr, ◌⊎◌, append_assoc, append-nil}
use Rattle.std.specs.Prelude.{Option, Some, None, AllPairs, Contains, position, MatchOption, drop, slice_get}
use Rattle.std.specs.Option.{ForSome}
use Rattle.std.proofs.lemmas.List.Elements.{All-nil, All-cons, All-head, All-tail, All-push, All-drop, All-set, All-contains, All-contains_itself, Contains-append_right}
use Rattle.std.proofs.lemmas.List.Quantifiers.{position-Some}
use Rattle.std.proofs.lemmas.List.{get_or-drop, length-drop, length_push, get_or_push, length-set, get_or-set_same, get_or_default}
use Rattle.std.proofs.lemmas.Bool.{cases_eq, cases_lt}
use Rattle.std.proofs.lemmas.Option.{get_or_from_slice_get, slice_get_within}
use Rattle.scp_core.specs.scp_envelope.specs.Newer.{IsNewer}
use Rattle.scp_core.specs.scp_envelope.specs.declared.statement.Statement.{Statement}
use Rattle.scp_core.specs.scp_wire.specs.Boxed.{Boxed}
use Rattle.scp_core.specs.scp_wire.specs.declared.message.Message.{Message}
use Rattle.scp_core.specs.scp_wire.specs.declared.message.Message.TheVariants.{Envelope, GetSet, Set, NoSet, GetRecord, Record, Records}
use Rattle.scp_core.specs.scp_outbox.specs.Outbox.{OutboxView, are_alike, AreOneEach, keep_last, GoesLast, Takes, Replaces, Puts, Gives, given_statements, given_messages, given_live, given_from, IfMessage}
use Rattle.scp_core.specs.scp_outbox.specs.declared.mark.Mark.{Mark}
use Rattle.scp_core.specs.scp_outbox.specs.declared.mark.Out.{Out}
use Rattle.scp_core.specs.scp_outbox.specs.declared.mark.Out.TheVariants as out
use Rattle.scp_core.specs.scp_outbox.specs.Handing.{PutsAll}
use Rattle.scp_core.specs.scp_outbox.specs.Sent.{statement_of, IsStep}
use Rattle.scp_core.specs.scp_outbox.specs.Waiting.{Owes}
use Rattle.scp_core.specs.scp_outbox.specs.Sending.{PutsKeepOwes}
use Rattle.scp_core.specs.scp_theorem.proofs.Basics.{which, none_some, some_same}
use Rattle.scp_again.proofs.Current.{true_false, slots_are, kinds_are, alike}
use Rattle.scp_again.proofs.Put.{IsApart}

-- ---- one statement comes

alike_back : (s t : Statement) → are_alike s t ≡ false → are_alike t s ≡ false
alike_back s t e = elim (which (are_alike t s)) [
  | inl like ↦ true_false (are_alike s t) (alike s t (sym (slots_are t s like)) (sym (kinds_are t s like))) e
  | inr not_like ↦ not_like
]

-- what waits then waited before, or is what came
abbrev WaitsOr : List Boxed → Boxed → Boxed → Type 0
WaitsOr old came held = (held ≡ came) ⊎ Contains old held

-- what came is there, and all else waited before
abbrev HasCome : List Boxed → Boxed → List Boxed → Type 0
HasCome old came new = Contains new came × All (WaitsOr old came) new

all_waited : (old : List Boxed) (came : Boxed) → All (WaitsOr old came) old
all_waited old came k d below = inr (All-contains_itself old k d below)

goes_last : (old : List Boxed) (came : Boxed) → HasCome old came (keep_last 64 (old ++ came ∷ []))
goes_last old came = (last_there, All-drop (WaitsOr old came) (length (old ++ came ∷ []) - 64) (old ++ came ∷ []) (All-push (WaitsOr old came) old came (all_waited old came) (inl refl)))
  where
    last_there : Contains (drop (length (old ++ came ∷ []) - 64) (old ++ came ∷ [])) came
    last_there =
        let long = length_push old came in
        let n : ℕ = length (old ++ came ∷ []) - 64 in
        let short = length-drop n (old ++ came ∷ []) in
        let at : n + (length old - n) ≡ length old = omega (arith, long) in
        (length old - n, omega (arith, long, short), get_or-drop n (old ++ came ∷ []) (length old - n) came ∙ ap (λ (k : ℕ). get_or (old ++ came ∷ []) k came) at ∙ get_or_push old came came (length old) refl)

replaces : (old : List Boxed) (place : ℕ) (came : Boxed) (new : List Boxed) (lost : ℕ) → ((held : Boxed) → slice_get old place ≡ Some held → IsNewer held.value.statement came.value.statement) → Replaces old place came new lost → HasCome old came new
replaces old place came new lost newer h = elim h.2 [
  | inl w ↦ subst (HasCome old came) (sym w.1) (
    (place, (let long = length-set old place came in let within = slice_get_within old place h.0 h.1 in omega (arith, long, within)), get_or-set_same old place came came (slice_get_within old place h.0 h.1)),
    All-set (WaitsOr old came) old place came (inl refl) (all_waited old came),
  )
  | inr w ↦ absurd (w.0 (newer h.0 h.1))
]

module _ (old : List Boxed) (came : Boxed) (new : List Boxed) (lost : ℕ) (newer : All (λ (held : Boxed). are_alike held.value.statement came.value.statement ≡ true → IsNewer held.value.statement came.value.statement) old) where
  abbrev is_like : Boxed → Bool
  is_like held = are_alike held.value.statement came.value.statement

  by_place : (o : Option ℕ) → position is_like old ≡ o → MatchOption o (GoesLast old came new lost) (λ place. Replaces old place came new lost) → HasCome old came new
  by_place None at h = subst (HasCome old came) (sym h.0) (goes_last old came)
  by_place (Some place) at h = replaces old place came new lost held_newer h
    where
      held_newer : (held : Boxed) → slice_get old place ≡ Some held → IsNewer held.value.statement came.value.statement
      held_newer held there =
          let first = position-Some is_like old place held at in
          let is : get_or old place held ≡ held = get_or_from_slice_get old place held held there in
          subst (λ (x : Boxed). IsNewer x.value.statement came.value.statement) is (newer place held first.0 first.1)

  come : Takes old came new lost → HasCome old came new
  come h = by_place (position is_like old) refl h

  -- each of the others that waits then waited before, and isn't of its slot and kind
  abbrev WaitsApart : Boxed → Type 0
  WaitsApart held = (held ≡ came) ⊎ (Contains old held × (are_alike held.value.statement came.value.statement ≡ false))

  takes_apart : AreOneEach new → Takes old came new lost → All WaitsApart new
  takes_apart one h k d below =
      let there : Contains new came = (come h).0 in
      let is : get_or new there.0 d ≡ came = get_or_default new there.0 d came there.1 ∙ there.2 in
      elim (cases_eq k there.0) [
        | inl same ↦ inl (ap (λ (n : ℕ). get_or new n d) same ∙ is)
        | inr other ↦ elim ((come h).1 k d below) [
          | inl held ↦ inl held
          | inr was ↦ inr (
            was,
            elim (cases_lt k there.0) [
              | inl less ↦ subst (λ (x : Boxed). are_alike (get_or new k d).value.statement x.value.statement ≡ false) is (one k there.0 d less there.1)
              | inr more ↦ alike_back came.value.statement (get_or new k d).value.statement (subst (λ (x : Boxed). are_alike x.value.statement (get_or new k d).value.statement ≡ false) is (one there.0 k d (omega (arith, more, other)) below))
            ],
          )
        ]
      ]

-- ---- all that is put

-- no other that waits is of the slot and kind of one of these
abbrev pub IsClear : List Message → Boxed → Type 0
IsClear messages held = All (λ m. IsApart (Some held.value.statement) (statement_of m)) messages

-- what waits then is one of these, or waited before and is of the slot and kind of none
abbrev pub WaitsThen : List Boxed → List Message → Boxed → Type 0
WaitsThen old messages held = Contains messages (Envelope held) ⊎ (Contains old held × IsClear messages held)

all_wait : (old : List Boxed) → All (WaitsThen old []) old
all_wait old k d below = inr (All-contains_itself old k d below, All-nil (λ m. IsApart (Some (get_or old k d).value.statement) (statement_of m)))

-- it is newer than each of its slot and kind among these
abbrev IsAheadOf : List Message → Message → Type 0
IsAheadOf handed m = All (λ n. IsStep (statement_of n) (statement_of m)) handed

-- one message is put
abbrev WaitsWith : List Boxed → Message → Boxed → Type 0
WaitsWith old m held = (m ≡ Envelope held) ⊎ (Contains old held × IsApart (Some held.value.statement) (statement_of m))

waits_still : (old new : OutboxView) (m : Message) → statement_of m ≡ None → new.statements ≡ old.statements → All (WaitsWith old.statements m) new.statements
waits_still old new m none same = subst (All (WaitsWith old.statements m)) (sym same) (λ k d below. inr (All-contains_itself old.statements k d below, subst (IsApart (Some (get_or old.statements k d).value.statement)) (sym none) tt))

module _ (handed sent : List Message) (old new : OutboxView) (before : Owes handed sent old) where
  envelope_put : (came : Boxed) (statements : List Boxed) (lost count : ℕ) → IsAheadOf handed (Envelope came) → AreOneEach new.statements → Takes old.statements came statements lost → new ≡ record old { statements = statements; overwritten = count } → All (WaitsWith old.statements (Envelope came)) new.statements
  envelope_put came statements lost count ahead one takes is =
      let same : new.statements ≡ statements = ap (λ (o : OutboxView). o.statements) is in
      let newer : All (λ (held : Boxed). are_alike held.value.statement came.value.statement ≡ true → IsNewer held.value.statement came.value.statement) old.statements
      = λ k d below. All-contains (λ n. IsStep (statement_of n) (Some came.value.statement)) handed (Envelope (get_or old.statements k d)) ahead (before.statements k d below) in
      let all = takes_apart old.statements came statements lost newer (subst AreOneEach same one) takes in
      subst (All (WaitsWith old.statements (Envelope came))) (sym same) (λ k d below. elim (all k d below) [
        | inl held ↦ inl (ap (λ (b : Boxed). Envelope b) (sym held))
        | inr w ↦ inr (w.0, w.1)
      ])

  one_put : (m : Message) → IsAheadOf handed m → AreOneEach new.statements → Puts old m new → All (WaitsWith old.statements m) new.statements
  one_put (Envelope came) ahead one p = envelope_put came p.0 p.1 _ ahead one p.2 p.3
  one_put (GetSet hash) ahead one p = waits_still old new (GetSet hash) refl (ap (λ (o : OutboxView). o.statements) p)
  one_put (Set set) ahead one p = waits_still old new (Set set) refl (ap (λ (o : OutboxView). o.statements) p)
  one_put (NoSet hash) ahead one p = waits_still old new (NoSet hash) refl (ap (λ (o : OutboxView). o.statements) p)
  one_put (GetRecord slot) ahead one p = waits_still old new (GetRecord slot) refl (ap (λ (o : OutboxView). o.statements) p)
  one_put (Record slot value) ahead one p = waits_still old new (Record slot value) refl (ap (λ (o : OutboxView). o.statements) p)
  one_put (Records first values) ahead one p = waits_still old new (Records first values) refl (ap (λ (o : OutboxView). o.statements) p)

-- of all that waits when one more is put before these
waits_on : (old between new : List Boxed) (m : Message) (more : List Message) → All (WaitsWith old m) between → All (WaitsThen between more) new → All (WaitsThen old (m ∷ more)) new
waits_on old between new m more first after' k d below = elim (after' k d below) [
  | inl put ↦ inl (Contains-append_right (m ∷ []) more (Envelope (get_or new k d)) put)
  | inr w ↦ elim (All-contains (WaitsWith old m) between (get_or new k d) first w.0) [
    | inl is ↦ inl (0, omega arith, is)
    | inr x ↦ inr (x.0, All-cons (λ n. IsApart (Some (get_or new k d).value.statement) (statement_of n)) m more x.1 w.1)
  ]
]

step_apart : (o p : Option Statement) → IsApart o p → IsStep o p
step_apart (Some s) (Some t) apart = λ like. true_false (are_alike s t) like apart
step_apart (Some s) None apart = tt
step_apart None (Some t) apart = tt
step_apart None None apart = tt

pub all_put : PutsKeepOwes → (handed sent more : List Message) (old new : OutboxView) → All (λ m. IsAheadOf handed m) more → AllPairs (λ m n. IsApart (statement_of m) (statement_of n)) more → PutsAll old more new → Owes handed sent old → Owes (handed ++ more) sent new × All (WaitsThen old.statements more) new.statements
all_put puts handed sent [] old new ahead apart p owes = (
  subst (λ (o : OutboxView). Owes (handed ++ []) sent o) (sym p) (subst (λ (ms : List Message). Owes ms sent old) (sym (append-nil handed)) owes),
  subst (λ (o : OutboxView). All (WaitsThen old.statements []) o.statements) (sym p) (all_wait old.statements),
)
all_put puts handed sent (m ∷ more) old new ahead apart p owes =
    let first : IsAheadOf handed m = All-head (λ n. IsAheadOf handed n) m more ahead in
    let one : Owes (handed ++ m ∷ []) sent p.0 = puts handed sent old m p.0 first p.2 owes in
    let others : All (λ n. IsApart (statement_of m) (statement_of n)) more = λ k d below. apart 0 (suc k) d (omega arith) (omega (arith, below)) in
    let next : All (λ n. IsAheadOf (handed ++ m ∷ []) n) more
    = λ k d below. All-push (λ n. IsStep (statement_of n) (statement_of (get_or more k d))) handed m (ahead (suc k) d (omega (arith, below))) (step_apart (statement_of m) (statement_of (get_or more k d)) (others k d below)) in
    let rest = all_put puts (handed ++ m ∷ []) sent more p.0 new next (λ i j d lt below. apart (suc i) (suc j) d (omega (arith, lt)) (omega (arith, below))) p.3 one in (
      subst (λ (ms : List Message). Owes ms sent new) (append_assoc handed (m ∷ []) more) rest.0,
      waits_on old.statements p.0.statements new.statements m more (one_put handed sent old p.0 owes m first one.one_each p.2) rest.1,
    )

-- ---- what it gives

module _ (P : Statement → Type 0) where
  abbrev pub AllHold : OutboxView → Type 0
  AllHold o = All (λ (held : Boxed). P held.value.statement) o.statements

  -- of what is given, and of what is left
  abbrev Given : Out × OutboxView → Type 0
  Given x = IfMessage x.0 (λ m. ForSome (statement_of m) P) × AllHold x.1

  from_statements : (o : OutboxView) (statements : List Boxed) → o.statements ≡ statements → AllHold o → Given (given_statements o statements)
  from_statements o [] first all = (tt, all)
  from_statements o (e ∷ rest) first all =
      let whole : All (λ (held : Boxed). P held.value.statement) (e ∷ rest) = subst (All (λ (held : Boxed). P held.value.statement)) first all in (
        λ s is. subst P (some_same (Some e.value.statement) e.value.statement s refl is) (All-head (λ (held : Boxed). P held.value.statement) e rest whole),
        All-tail (λ (held : Boxed). P held.value.statement) e rest whole,
      )

  from_messages : (o : OutboxView) (ring : List Message) → o.ring ≡ ring → All (λ m. statement_of m ≡ None) o.ring → AllHold o → Given (given_messages o ring)
  from_messages o [] first none all = from_statements o o.statements refl all
  from_messages o (m ∷ rest) first none all = (λ s is. none_some (statement_of m) s (All-head (λ n. statement_of n ≡ None) m rest (subst (All (λ n. statement_of n ≡ None)) first none)) is, all)

  from_live : (o : OutboxView) (live : Bool) → All (λ m. statement_of m ≡ None) o.ring → AllHold o → Given (given_live o live)
  from_live o true none all = from_messages o o.ring refl none all
  from_live o false none all = (tt, all)

  from_marks : (o : OutboxView) (marks : List Mark) → All (λ m. statement_of m ≡ None) o.ring → AllHold o → Given (given_from o marks)
  from_marks o [] none all = from_live o o.live none all
  from_marks o (mark ∷ rest) none all = (tt, all)

  pub all_given : (old : OutboxView) (m : Message) (new : OutboxView) → Gives old (out.Message m) new → All (λ n. statement_of n ≡ None) old.ring → AllHold old → ForSome (statement_of m) P × AllHold new
  all_given old m new gives none all = subst Given (sym gives) (from_marks old old.marks none all)
