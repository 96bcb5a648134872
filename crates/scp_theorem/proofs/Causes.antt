-- What the pending stage gave has its cause, and each command is given once.
use Rattle.std.proofs.Common.{◌≡◌, true, inl, inr, ℕ, List, [], ◌∷◌, ◌++◌, refl, sym, ◌∙◌, ap, subst, append_assoc, Option}
use Rattle.std.specs.Prelude.{Contains, flat_map}
use Rattle.std.specs.List.{AllByRecursion}
use Rattle.std.proofs.lemmas.List.Elements.{All-nil, All-cons, All-contains, Contains-push, Contains-append_left, Contains-append_right, Contains-append_cases}
use Rattle.std.proofs.lemmas.Grind.{flat_map-append}
use Rattle.scp_outbox.specs.scp_types.specs.declared.names.ConnId.{ConnId}
use Rattle.scp_outbox.specs.scp_types.specs.declared.names.Slot.{Slot}
use Rattle.scp_outbox.specs.scp_quorum.specs.QuorumTree.{QuorumTree}
use Rattle.scp_apply.specs.scp_driver.specs.declared.driver.Level.{Level}
use Rattle.scp_outbox.specs.scp_wire.specs.declared.carried.Carried.{Carried}
use Rattle.scp_outbox.specs.scp_wire.specs.declared.link.Command.{Command}
use Rattle.scp_outbox.specs.scp_wire.specs.declared.link.Command.TheVariants.{Propose, Round, Timer, Tick, Ask}
use Rattle.scp_outbox.specs.scp_wire.specs.declared.link.Inbound.{Inbound}
use Rattle.scp_outbox.specs.scp_wire.specs.declared.link.Inbound.TheVariants as inbound
use Rattle.scp_apply.specs.scp_pending.specs.declared.ready.Ready.{Ready}
use Rattle.scp_apply.specs.scp_pending.specs.Rules.{Settled, fresh, settled_by, released_by}
use Rattle.scp_apply.specs.scp_pending.specs.Causes.{HasCause}
use Rattle.scp_apply.specs.scp_pending.specs.Independence.{MayPass, StandsDelivered}
use Rattle.scp_apply.specs.scp_pending.specs.Endings.{way, ways, commands_in, commands_of, passed, passing}
use Rattle.scp_apply.specs.scp_pending.specs.Linked.{IsOfLink, IsReadyOf}
use Rattle.scp_apply.specs.scp_pending.specs.Pends.{start_of as start_by}
use Rattle.scp_apply.specs.scp_pending.specs.Placing.{StandsAt}
use Rattle.scp_apply.specs.scp_ledger.specs.declared.journal.Asking.{Asking}
use Rattle.scp_apply.specs.scp_ledger.specs.Journals.{entry_of}
use Rattle.scp_apply.specs.scp_ledger.specs.Seen.{is_asked}
use Rattle.scp_theorem.specs.Account.{Account, Ran}
use Rattle.scp_theorem.specs.Fates.{conn_of, FateHasCause, ways_on}
use Rattle.scp_theorem.specs.Kept.{start_of, leaving, AreJudgedInTurn}
use Rattle.scp_theorem.proofs.Entries.{same_ways, journal_caused, journal_of}
use Rattle.scp_theorem.proofs.StageLaws.{Laws}

-- ---- a command that is given came

only : (c d : Command) → Contains (c ∷ []) d → d ≡ c
only c d h = All-contains (λ (e : Command). e ≡ c) (c ∷ []) d (All-cons (λ (e : Command). e ≡ c) c [] refl (All-nil (λ (e : Command). e ≡ c))) h

none : (d : Command) → Contains [] d → ⊥
none d h = All-contains (λ (e : Command). ⊥) [] d (All-nil (λ (e : Command). ⊥)) h

passes_itself : (x : Inbound) (link : ℕ) (slot : Slot) → Contains (passing x) (Ask link slot) → x ≡ inbound.Local (Ask link slot)
passes_itself (inbound.Opened conn) link slot h = absurd (none (Ask link slot) h)
passes_itself (inbound.Carried y) link slot h = absurd (none (Ask link slot) h)
passes_itself (inbound.Side conn message) link slot h = absurd (none (Ask link slot) h)
passes_itself (inbound.Closed conn cause) link slot h = absurd (none (Ask link slot) h)
passes_itself (inbound.Local Tick) link slot h = absurd (none (Ask link slot) h)
passes_itself (inbound.Local (Propose at value)) link slot h = ap (λ (c : Command). inbound.Local c) (sym (only (Propose at value) (Ask link slot) h))
passes_itself (inbound.Local (Round at)) link slot h = ap (λ (c : Command). inbound.Local c) (sym (only (Round at) (Ask link slot) h))
passes_itself (inbound.Local (Timer at)) link slot h = ap (λ (c : Command). inbound.Local c) (sym (only (Timer at) (Ask link slot) h))
passes_itself (inbound.Local (Ask of at)) link slot h = ap (λ (c : Command). inbound.Local c) (sym (only (Ask of at) (Ask link slot) h))

command_in : (xs : List Inbound) (link : ℕ) (slot : Slot) → Contains (commands_in xs) (Ask link slot) → Contains xs (inbound.Local (Ask link slot))
command_in [] link slot c = absurd (none (Ask link slot) c)
command_in (x ∷ xs) link slot c = elim (Contains-append_cases (passing x) (commands_in xs) (Ask link slot) c) [
  | inl here ↦ subst (λ (i : Inbound). Contains (x ∷ xs) i) (passes_itself x link slot here) (Contains-append_left (x ∷ []) xs x (Contains-push [] x))
  | inr later ↦ Contains-append_right (x ∷ []) xs (inbound.Local (Ask link slot)) (command_in xs link slot later)
]

-- ---- plain lists

pub all_front : {X : Type 0} (P : X → Type 0) (xs ys : List X) → AllByRecursion P (xs ++ ys) → AllByRecursion P xs
all_front P [] ys a = tt
all_front P (x ∷ xs) ys a = (a.0, all_front P xs ys a.1)

-- ---- an account

module _ {D : Type 0} {level : D → ℕ → List ℕ → Level} {extracted : D → ℕ → List ℕ → Option (List ℕ)} {combined : D → ℕ → List (List ℕ) → List ℕ} {place : D → ℕ → ℕ → ℕ → ℕ} (a : Account D) (r : Ran level extracted combined place a) where
  pub start_is : start_by a.me a.peers a.pending ≡ start_of a
  start_is = ap (λ (set : QuorumTree). fresh a.me a.peers set) r.local

  -- what left the pending stage's queues, by where it is
  left_is : r.given ++ a.pending.leaving ≡ r.took ++ leaving a
  left_is = ap (λ rs. rs ++ a.pending.leaving) r.ready ∙ append_assoc r.took a.on_way a.pending.leaving

  pub by_rules : a.pending.settled ≡ settled_by (start_of a) a.came
  by_rules = r.pends.settled ∙ ap (λ (s : Settled). settled_by s a.came) start_is

  released_is : r.took ++ leaving a ≡ released_by (start_of a) a.came
  released_is = sym left_is ∙ r.pends.left ∙ ap (λ (s : Settled). released_by s a.came) start_is

  -- how the messages of a connection left, by where they are
  pub ways_are : (c : ConnId) → ways c (r.given ++ a.pending.leaving) ≡ ways_on c a.ledger.journal ++ ways c (leaving a)
  ways_are c = ap (ways c) left_is ∙ flat_map-append (way c) r.took (leaving a) ∙ ap (λ ws. ws ++ ways c (leaving a)) (same_ways c r.took a.ledger.journal r.journals.entries)

module _ (laws : Laws) {D : Type 0} {level : D → ℕ → List ℕ → Level} {extracted : D → ℕ → List ℕ → Option (List ℕ)} {combined : D → ℕ → List (List ℕ) → List ℕ} {place : D → ℕ → ℕ → ℕ → ℕ} (a : Account D) (r : Ran level extracted combined place a) where
  -- ---- causes

  pub left_caused : AllByRecursion (HasCause (start_of a) a.came) (r.took ++ leaving a)
  left_caused =
      subst (λ (rs : List Ready). AllByRecursion (HasCause (start_of a) a.came) rs) (left_is a r)
      (subst (λ (s : Settled). AllByRecursion (HasCause s a.came) (r.given ++ a.pending.leaving)) (start_is a r)
      (laws.causes a.me a.peers a.came r.given a.pending r.pends))

  pub causes_at : AllByRecursion (FateHasCause (start_of a) a.came) a.ledger.journal
  causes_at = journal_caused (start_of a) a.came r.took a.ledger.journal r.journals.entries (all_front (HasCause (start_of a) a.came) r.took (leaving a) left_caused)

  pub of_links_at : AllByRecursion (λ fate. IsOfLink a.me a.peers (conn_of fate)) a.ledger.journal
  of_links_at =
      let all : AllByRecursion (IsReadyOf (IsOfLink a.me a.peers)) (r.took ++ leaving a) = subst (λ (rs : List Ready). AllByRecursion (IsReadyOf (IsOfLink a.me a.peers)) rs) (sym (released_is a r)) (laws.links a.me a.peers a.set a.came).given in
      journal_of (IsOfLink a.me a.peers) r.took a.ledger.journal r.journals.entries (all_front (IsReadyOf (IsOfLink a.me a.peers)) r.took (leaving a) all)

  -- ---- commands and verdicts

  commands_are : commands_of (r.took ++ leaving a) ≡ commands_in a.came
  commands_are = ap commands_of (sym (left_is a r)) ∙ laws.commands a.me a.peers a.came r.given a.pending r.pends

  places_at : (before : List Inbound) (command : Command) (after' : List Inbound) → a.came ≡ before ++ inbound.Local command ∷ after' → StandsAt (start_of a) before command (r.took ++ leaving a)
  places_at before command after' at =
      subst (λ (rs : List Ready). StandsAt (start_of a) before command rs) (left_is a r)
      (subst (λ (s : Settled). StandsAt s before command (r.given ++ a.pending.leaving)) (start_is a r)
      (laws.places a.me a.peers a.came r.given a.pending r.pends before command after' at))

  -- what waits for nothing, with nothing parked of its lane, is released where it came
  passed_at : (before : List Inbound) (x : Carried) (later : List Inbound) → a.came ≡ before ++ inbound.Carried x ∷ later → MayPass (settled_by (start_of a) before) x → StandsDelivered (start_of a) before x (r.took ++ leaving a)
  passed_at before x later at may =
      subst (λ (rs : List Ready). StandsDelivered (start_of a) before x rs) (left_is a r)
      (subst (λ (s : Settled). StandsDelivered s before x (r.given ++ a.pending.leaving)) (start_is a r)
      (laws.passing a.me a.peers a.came r.given a.pending r.pends before x later at (subst (λ (s : Settled). MayPass (settled_by s before) x) (sym (start_is a r)) may)))

  asked_at : (asking : Asking) → is_asked a.ledger.asked asking ≡ true → Contains a.came (inbound.Local (Ask asking.link asking.slot))
  asked_at asking is =
      let ask = Ask asking.link asking.slot in
      let all : commands_of r.took ++ commands_of (leaving a) ≡ commands_in a.came = sym (flat_map-append passed r.took (leaving a)) ∙ commands_are in
      command_in a.came asking.link asking.slot (subst (λ (cs : List Command). Contains cs ask) all (Contains-append_left (commands_of r.took) (commands_of (leaving a)) ask (r.journals.asked asking is)))

  pub judged_at : AreJudgedInTurn level extracted combined place a
  judged_at =
      let j = r.journals in
      record {
        takes = j.takes;
        leads = j.run.leads;
        released = ap (λ rs. rs ++ leaving a) j.took_are ∙ released_is a r;
        entries = j.entries ∙ ap (flat_map entry_of) (sym j.took_are);
        verdicts = j.run.verdicts;
        judged = j.run.judged;
        decided = j.run.decided;
        commands = ap (λ rs. commands_of (rs ++ leaving a)) j.took_are ∙ commands_are;
        places = λ before command after' at. subst (λ (rs : List Ready). StandsAt (start_of a) before command (rs ++ leaving a)) (sym j.took_are) (places_at before command after' at);
        at_once = λ before x later at may. subst (λ (rs : List Ready). StandsDelivered (start_of a) before x (rs ++ leaving a)) (sym j.took_are) (passed_at before x later at may);
        asked = asked_at;
      }
