-- The commands that are kept as taken are those that the slot stage took.
use Rattle.std.proofs.Common.{◌≡◌, ℕ, Bool, true, false, cond, List, [], ◌∷◌, ◌++◌, Option, Some, None, map, filter, length, nat_eq, nat_lt, refl, sym, ◌∙◌, ap, subst, arith, append_assoc, append-nil, inl, inr, eq-eqb, ltb-true}
use Rattle.std.specs.Prelude.{option_to_list, slice_get, if◌then◌else◌}
use Rattle.std.proofs.lemmas.Grind.{flat_map-append}
use Rattle.std.proofs.lemmas.List.{map-append}
use Rattle.std.proofs.lemmas.List.Elements.{filter-append}
use Rattle.std.proofs.lemmas.Option.{same_Some}
use Rattle.scp_turn.specs.scp_driver.specs.declared.kv_driver.KvDriver.{KvDriver}
use Rattle.scp_turn.specs.scp_driver.specs.Kv.{kv_says}
use Rattle.scp_turn.specs.scp_wire.specs.declared.link.Command.{Command as Local}
use Rattle.scp_turn.specs.scp_wire.specs.declared.link.Command.TheVariants as local
use Rattle.scp_turn.specs.scp_pending.specs.declared.ready.Ready.{Ready}
use Rattle.scp_turn.specs.scp_pending.specs.declared.ready.Ready.TheVariants as ready
use Rattle.scp_turn.specs.scp_ledger.specs.declared.journal.Fate.{Fate}
use Rattle.scp_turn.specs.scp_ledger.specs.declared.journal.Verdict.{Verdict}
use Rattle.scp_turn.specs.scp_ledger.specs.declared.took.CommandFate.{CommandFate}
use Rattle.scp_turn.specs.scp_ledger.specs.declared.took.Took.{Took}
use Rattle.scp_turn.specs.scp_ledger.specs.By.{TakesBy}
use Rattle.scp_turn.specs.scp_ledger.specs.Seen.{LedgerView}
use Rattle.scp_turn.specs.scp_ledger.specs.Takes.{Passes}
use Rattle.scp_turn.specs.scp_core.specs.declared.event.Event.{Event}
use Rattle.scp_turn.specs.scp_core.specs.declared.event.Event.TheVariants as event
use Rattle.scp_turn.specs.scp_core.specs.declared.event.Reply.{Reply}
use Rattle.scp_turn.specs.scp_core.specs.declared.event.Reply.TheVariants as reply
use Rattle.scp_turn.specs.Commands.{TakenCommand, with_fate, front_taken, taken_at, taken_by, given_in, AreInTurn}
use Rattle.scp_turn.specs.scp_core.specs.History.{Exchange}
use Rattle.scp_turn.specs.scp_core.specs.Kv.{NodeView, Moves, Step}
use Rattle.scp_turn.specs.Kv.{Does, Watched, taken_over, AllIsTakenInTurn}
use Rattle.scp_facts.specs.declared.happening.Happening.{Happening}
use Rattle.scp_facts.specs.declared.happening.Happening.TheVariants.{Opened, Came, Closed, Given, Entered}
use Rattle.scp_facts.specs.declared.happening.Kept.{Kept}
use Rattle.scp_facts.specs.Facts.{command_in}
use Rattle.scp_facts.specs.InTurn.{NodeIsKeptInTurn}
use Rattle.scp_facts.specs.Kept.{obeyed, taken_by as took_by, accepted, drained, happening_in, kept_of, Keeps}
use Rattle.scp_facts.specs.Taken.{happenings_at, obeyed_by, obeyed_in}

-- ---- a command leaves no entry

passes_none : (old : LedgerView KvDriver) (said : Option Verdict) (took : Took) (new : LedgerView KvDriver) → Passes old said [] took new → new.journal ≡ old.journal
passes_none old said took new p = ap (λ (v : LedgerView KvDriver). v.journal) p.same ∙ append-nil old.journal

command_none : (old : LedgerView KvDriver) (command : Local) (took : Took) (new : LedgerView KvDriver) → TakesBy kv_says old (ready.Local command) took new → new.journal ≡ old.journal
command_none old local.Tick took new t = passes_none old None took new t
command_none old (local.Propose at value) took new t = elim t [ inl p ↦ passes_none old (Some p.0) took new p.2 | inr r ↦ r.journal ∙ append-nil old.journal ]
command_none old (local.Round at) took new t = elim t [ inl p ↦ passes_none old (Some p.0) took new p.2 | inr r ↦ r.journal ∙ append-nil old.journal ]
command_none old (local.Timer at) took new t = elim t [ inl p ↦ passes_none old (Some p.0) took new p.2 | inr r ↦ r.journal ∙ append-nil old.journal ]
command_none old (local.Ask link at) took new t = elim t.3 [ inl p ↦ passes_none old (Some t.0) took new p.1 | inr a ↦ ap (λ (v : LedgerView KvDriver). v.journal) a.1.same ]

-- where the slot stage takes a command its journal stays as it is
no_entry : (before after' : NodeView) (command : Local) → Moves before event.SlotTake after' → slice_get before.ready 0 ≡ Some (ready.Local command) → after'.ledger.journal ≡ before.ledger.journal
no_entry before after' command moved front =
    let b = moved.1 in
    let is : b.x ≡ ready.Local command = same_Some b.x (ready.Local command) (sym (ap (λ (q : List Ready). slice_get q 0) b.ready) ∙ front) in
    ap (λ (v : NodeView). v.ledger.journal) b.is ∙ command_none before.ledger command b.took b.after' (subst (λ (x : Ready). TakesBy kv_says before.ledger x b.took b.after') is b.takes)

-- ---- what happens in one step

-- an entry is no command
entry_or_none : (b : Bool) → obeyed_in (option_to_list (if b then Some Entered else None)) ≡ []
entry_or_none true = refl
entry_or_none false = refl

-- a command with its fate, where there is one
command_or_none : (command : Local) (fate : Option CommandFate) → obeyed_in (option_to_list (obeyed (Some command) fate)) ≡ with_fate command fate
command_or_none command None = refl
command_or_none command (Some fate) = refl

not_less : (a b : ℕ) → b ≡ a → nat_lt a b ≡ false
not_less a b same = by_test (nat_lt a b) refl
  where
    by_test : (t : Bool) → nat_lt a b ≡ t → t ≡ false
    by_test true is = absurd (omega (arith, ltb-true a b is, same))
    by_test false is = refl

-- what the slot stage takes
front_kept : (front : Option Ready) (before after' : NodeView) → Moves before event.SlotTake after' → slice_get before.ready 0 ≡ front → obeyed_in (option_to_list (took_by (length before.ledger.journal) (command_in front) after')) ≡ front_taken front after'.last_command
front_kept None before after' moved is = entry_or_none (nat_lt (length before.ledger.journal) (length after'.ledger.journal))
front_kept (Some (ready.Deliver delivery)) before after' moved is = entry_or_none (nat_lt (length before.ledger.journal) (length after'.ledger.journal))
front_kept (Some (ready.Dropped conn seq cause)) before after' moved is = entry_or_none (nat_lt (length before.ledger.journal) (length after'.ledger.journal))
front_kept (Some (ready.Closed conn cause)) before after' moved is = entry_or_none (nat_lt (length before.ledger.journal) (length after'.ledger.journal))
front_kept (Some (ready.Local command)) before after' moved is =
    let same : length after'.ledger.journal ≡ length before.ledger.journal = ap (λ (j : List Fate). length j) (no_entry before after' command moved is) in
    ap (λ (b : Bool). obeyed_in (option_to_list (if b then Some Entered else obeyed (Some command) after'.last_command))) (not_less (length before.ledger.journal) (length after'.ledger.journal) same)
    ∙ command_or_none command after'.last_command

no_take : (e : Event) (r : Reply) (before after' : NodeView) → taken_at e before after' ≡ [] → taken_by e r before after' ≡ []
no_take e reply.Moved before after' none = none
no_take e r before after' none = refl

-- what comes is no command that is taken
not_obeyed : (happening : Happening) (r : Reply) → obeyed_by happening ≡ [] → obeyed_in (option_to_list (accepted happening r)) ≡ []
not_obeyed happening reply.Accepted none = ap (λ (l : List TakenCommand). l ++ []) none
not_obeyed happening r none = refl

not_sent : (link : ℕ) (r : Reply) → obeyed_in (option_to_list (drained link r)) ≡ []
not_sent link (reply.Sent bytes) = refl
not_sent link r = refl

happened : (e : Event) (r : Reply) (before after' : NodeView) → Step before e r after' → obeyed_in (option_to_list (happening_in e r before after')) ≡ taken_by e r before after'
happened event.SlotTake reply.Moved before after' step = front_kept (slice_get before.ready 0) before after' step.1 refl
happened event.SlotTake r before after' step = refl
happened (event.Open link) r before after' step = not_obeyed (Opened link) r refl ∙ sym (no_take (event.Open link) r before after' refl)
happened (event.Send link bytes) r before after' step = not_obeyed (Came link bytes) r refl ∙ sym (no_take (event.Send link bytes) r before after' refl)
happened (event.Close link) r before after' step = not_obeyed (Closed link) r refl ∙ sym (no_take (event.Close link) r before after' refl)
happened (event.Local command) r before after' step = not_obeyed (Given command) r refl ∙ sym (no_take (event.Local command) r before after' refl)
happened (event.Drain link) r before after' step = not_sent link r ∙ sym (no_take (event.Drain link) r before after' refl)
happened e r before after' step = sym (no_take e r before after' refl)

-- ---- what is kept of it, at a node

kept_here : (n number : ℕ) (o : Option Happening) → obeyed_in (happenings_at n (kept_of number o)) ≡ (if nat_eq number n then obeyed_in (option_to_list o) else [])
kept_here n number None = by_test (nat_eq number n)
  where
    by_test : (b : Bool) → ◌≡◌ {A = List TakenCommand} [] (if b then [] else [])
    by_test true = refl
    by_test false = refl
kept_here n number (Some happening) = by_test (nat_eq number n)
  where
    by_test : (b : Bool) → obeyed_in (map (λ (k : Kept). k.happening) (cond b (record { node = number; happening = happening } ∷ []) [])) ≡ (if b then obeyed_in (happening ∷ []) else [])
    by_test true = refl
    by_test false = refl

obeyed_on : (n : ℕ) (x y : List Kept) → obeyed_in (happenings_at n (x ++ y)) ≡ obeyed_in (happenings_at n x) ++ obeyed_in (happenings_at n y)
obeyed_on n x y =
    ap (λ (l : List Kept). obeyed_in (map (λ (k : Kept). k.happening) l)) (filter-append (λ (k : Kept). nat_eq k.node n) x y)
    ∙ ap (λ (l : List Happening). obeyed_in l) (map-append (λ (k : Kept). k.happening) (filter (λ (k : Kept). nat_eq k.node n) x) (filter (λ (k : Kept). nat_eq k.node n) y))
    ∙ flat_map-append obeyed_by (happenings_at n x) (happenings_at n y)

pub keeps_taken : (n number : ℕ) (w v : List Kept) (e : Event) (r : Reply) (before after' : NodeView) → Step before e r after' → Keeps w number e r before after' v → obeyed_in (happenings_at n v) ≡ obeyed_in (happenings_at n w) ++ (if nat_eq number n then taken_by e r before after' else [])
keeps_taken n number w v e r before after' step kept =
    ap (λ (l : List Kept). obeyed_in (happenings_at n l)) kept
    ∙ obeyed_on n w (kept_of number (happening_in e r before after'))
    ∙ ap (λ (l : List TakenCommand). obeyed_in (happenings_at n w) ++ l)
    (kept_here n number (happening_in e r before after') ∙ ap (λ (l : List TakenCommand). if nat_eq number n then l else []) (happened e r before after' step))

-- ---- a node

watched_taken : (n : ℕ) (w z : List Kept) (old new : NodeView) (heard : List Exchange) → Watched Keeps n w old heard new z → (does : Does old heard new) × (obeyed_in (happenings_at n z) ≡ obeyed_in (happenings_at n w) ++ taken_over old heard new does)
watched_taken n w z old new [] noted = (noted.0, ap (λ (l : List Kept). obeyed_in (happenings_at n l)) noted.1 ∙ sym (append-nil (obeyed_in (happenings_at n w))))
watched_taken n w z old new (x ∷ heard) noted =
    let rest = watched_taken n noted.1 z noted.0 new heard noted.4 in
    let now = taken_by x.0 x.1 old noted.0 in
    let later = taken_over noted.0 heard new rest.0 in
    let here : obeyed_in (happenings_at n noted.1) ≡ obeyed_in (happenings_at n w) ++ now =
    keeps_taken n n w noted.1 x.0 x.1 old noted.0 noted.2 noted.3
    ∙ ap (λ (b : Bool). obeyed_in (happenings_at n w) ++ (if b then now else [])) (eq-eqb n n refl) in (
      (noted.0, noted.2, rest.0),
      rest.1
          ∙ ap (λ (l : List TakenCommand). l ++ later) here
          ∙ append_assoc (obeyed_in (happenings_at n w)) now later,
    )

pub node_in_turn : AllIsTakenInTurn → NodeIsKeptInTurn
node_in_turn law number old new heard kept theorem noted =
    let all = watched_taken number [] kept old new heard noted in
    subst (λ (taken : List TakenCommand). AreInTurn (given_in heard) taken new) (sym all.1) (law heard old new theorem all.0)
