-- What a node's stages hand out may be sent.
use Rattle.std.proofs.Common.{◌≡◌, ℕ, List, [], ◌∷◌, ◌++◌, refl, sym, ◌∙◌, ap, subst, append_assoc, append-nil}
use Rattle.std.specs.Prelude.{Option, Some, None, Any, Contains, flat_map}
use Rattle.std.proofs.lemmas.Grind.{flat_map-append}
use Rattle.std.proofs.lemmas.List.Elements.{Contains-push, Contains-append_left, Contains-append_right}
use Rattle.std.proofs.lemmas.List.Sums.{fold-append}
use Rattle.scp_apply.specs.scp_driver.specs.Driver.{Says}
use Rattle.scp_outbox.specs.scp_types.specs.declared.names.Slot.{Slot}
use Rattle.scp_outbox.specs.scp_wire.specs.declared.link.Command.{Command}
use Rattle.scp_outbox.specs.scp_wire.specs.declared.link.Command.TheVariants.{Ask}
use Rattle.scp_outbox.specs.scp_wire.specs.declared.link.Inbound.{Inbound}
use Rattle.scp_outbox.specs.scp_wire.specs.declared.message.Message.{Message}
use Rattle.scp_apply.specs.scp_pending.specs.declared.ready.Ready.{Ready}
use Rattle.scp_apply.specs.scp_pending.specs.declared.ready.Ready.TheVariants as ready
use Rattle.scp_apply.specs.scp_pending.specs.Endings.{commands_in, commands_of, passed}
use Rattle.scp_apply.specs.scp_pending.specs.Fetching.{RepliesAreAskedFor}
use Rattle.scp_apply.specs.scp_pending.specs.Laws.{CommandsPass}
use Rattle.scp_apply.specs.scp_pending.specs.Linked.{NothingIsOfAStranger, WhoItIsStays}
use Rattle.scp_apply.specs.scp_pending.specs.Queues.{hash_of}
use Rattle.scp_apply.specs.scp_pending.specs.Rules.{Settled, rules, settled_by, reply}
use Rattle.scp_apply.specs.scp_ledger.specs.declared.journal.Decision.{Decision}
use Rattle.scp_apply.specs.scp_ledger.specs.declared.took.Onward.{Onward}
use Rattle.scp_apply.specs.scp_ledger.specs.declared.took.Onward.TheVariants.{Decided, Asked}
use Rattle.scp_apply.specs.scp_ledger.specs.declared.took.Outgoing.{Outgoing}
use Rattle.scp_apply.specs.scp_ledger.specs.Journals.{request_by}
use Rattle.scp_apply.specs.scp_ledger.specs.Onwards.{request_on, requests_on}
use Rattle.scp_apply.specs.scp_ledger.specs.Runs.{Taking, things, nothing_taken}
use Rattle.scp_apply.specs.scp_ledger.specs.Seen.{LedgerView, machine_at}
use Rattle.scp_apply.specs.Applied.{value_of}
use Rattle.scp_apply.specs.Applier.{ApplierView, Takes}
use Rattle.scp_theorem.specs.Account.{Account, Ran}
use Rattle.scp_theorem.specs.Grounds.{Grounds, start_of, TellsToAsk, IsApplied, AsksForRecord}
use Rattle.scp_theorem.specs.Handed.{handed_by, out_of, replies_from, out_by, outs_of, ServesEach, nothing_applied, AnswersEach}
use Rattle.scp_theorem.specs.Kept.{RanKeepsLedger}
use Rattle.scp_theorem.specs.Laws.{grounds_in, AreHandedOut, MayAnswer, MayGo, HandedOutMayGo}
use Rattle.scp_theorem.proofs.Asked.{command_in, request_stands, value_there, answer_may, applied_more}
use Rattle.scp_theorem.proofs.Basics.{IsMore, no_more, more_of, any_more, none_some}
use Rattle.scp_theorem.proofs.Fit.{AllOut, all_more, all_none, all_for, AreFit, first_fit, fit_step}
use Rattle.scp_theorem.proofs.Growing.{Grows}
use Rattle.scp_theorem.proofs.Ledgers.{LedgerStep, ledger_step}
use Rattle.scp_theorem.proofs.Machines.{AreMine}
use Rattle.scp_theorem.proofs.Replies.{MayReply, reply_may, reply_more}

-- ---- answers of a stage

answer_out : (g : Grounds) (answer : Option (ℕ × Message)) → MayReply g answer → AllOut (MayAnswer g) (out_of answer)
answer_out g None may = all_none (MayAnswer g)
answer_out g (Some a) may = all_for (MayAnswer g) a.0 a.1 may

-- ---- the pending stage

module _ (asked : RepliesAreAskedFor) (stays : WhoItIsStays) (links : NothingIsOfAStranger) (g : Grounds) where
  -- the reply to one item, by what was taken with it
  one_reply : (before : List Inbound) (item : Inbound) (items : List Inbound) → g.taken ≡ before ++ item ∷ items → MayReply g (reply (settled_by (start_of g.who) before) item)
  one_reply before item items is =
      let h : Grounds = record g { taken = before ++ item ∷ [] } in
      let more : Grows h g = record {
        who = refl;
        taken = more_of h.taken g.taken items (is ∙ sym (append_assoc before (item ∷ []) items));
        journal = no_more g.journal g.journal refl;
        decisions = no_more g.decisions g.decisions refl;
        applied = no_more g.applied g.applied refl;
      } in
      reply_more h g (reply (settled_by (start_of g.who) before) item) more (reply_may asked stays links h before item refl)

  replies_out : (before items : List Inbound) → g.taken ≡ before ++ items → AllOut (MayAnswer g) (replies_from (settled_by (start_of g.who) before) items)
  replies_out before [] is = all_none (MayAnswer g)
  replies_out before (item ∷ items) is =
      let s : Settled = settled_by (start_of g.who) before in
      let next : settled_by (start_of g.who) (before ++ item ∷ []) ≡ rules s item = fold-append rules (start_of g.who) before (item ∷ []) in
      let rest : AllOut (MayAnswer g) (replies_from (rules s item) items) = subst (λ (t : Settled). AllOut (MayAnswer g) (replies_from t items)) next (replies_out (before ++ item ∷ []) items (is ∙ sym (append_assoc before (item ∷ []) items))) in
      all_more (MayAnswer g) (out_of (reply s item)) (replies_from (rules s item) items) (answer_out g (reply s item) (one_reply before item items is)) rest

-- ---- the slot stage

module _ {D : Type 0} where
  -- the grounds with the journal and the decisions of a ledger
  abbrev with_ledger : Grounds → LedgerView D → Grounds
  with_ledger g v = record g { journal = v.journal; decisions = v.decisions }

  -- what the ledger is, and what was handed out by then
  record Stands (g : Grounds) (v : LedgerView D) (out : List Outgoing) : Type 0 where
    me_is : v.me ≡ g.who.me
    set_is : v.local ≡ g.who.set
    machines : AreMine g.who.me (hash_of g.who.set) v
    fit : AreFit (with_ledger g v) v out

-- each command that is taken came
abbrev WereTold : Grounds → List Taking → Type 0
WereTold g takes = (command : Command) → Contains (commands_of (things takes)) command → Contains (commands_in g.taken) command

told_to_ask : (g : Grounds) (t : Taking) (takes : List Taking) → WereTold g (t ∷ takes) → (link : ℕ) (slot : Slot) → t.thing ≡ ready.Local (Ask link slot) → Any (TellsToAsk link slot) g.taken
told_to_ask g t takes told link slot is =
    let here : Contains (passed t.thing) (Ask link slot) = subst (λ (x : Ready). Contains (passed x) (Ask link slot)) (sym is) (Contains-push [] (Ask link slot)) in
    command_in g.taken link slot (told (Ask link slot) (Contains-append_left (passed t.thing) (commands_of (things takes)) (Ask link slot) here))

module _ {D : Type 0} where
  one_taken : (g : Grounds) (old : LedgerView D) (t : Taking) (new : LedgerView D) (out : List Outgoing) → LedgerStep g.who old t.thing t.gave new → ((link : ℕ) (slot : Slot) → t.thing ≡ ready.Local (Ask link slot) → Any (TellsToAsk link slot) g.taken) → Stands g old out → Stands g new (out ++ out_by t)
  one_taken g old t new out s told st =
      let more : Grows (with_ledger g old) (with_ledger g new) = record {
        who = refl;
        taken = no_more g.taken g.taken refl;
        journal = s.journal;
        decisions = s.decisions;
        applied = no_more g.applied g.applied refl;
      } in
      record {
        me_is = s.me ∙ st.me_is;
        set_is = s.local ∙ st.set_is;
        machines = s.machines;
        fit = fit_step (with_ledger g old) (with_ledger g new) old t.thing t.gave new out more refl s told st.fit;
      }

module _ {D : Type 0} (says : Says D) where
  all_taken : (g : Grounds) (old : LedgerView D) (takes : List Taking) (new : LedgerView D) (out : List Outgoing) → ServesEach says old takes new → WereTold g takes → Stands g old out → Stands g new (out ++ outs_of takes)
  all_taken g old [] new out is told st = subst (λ (v : LedgerView D). Stands g v (out ++ [])) (sym is) (subst (λ (o : List Outgoing). Stands g old o) (sym (append-nil out)) st)
  all_taken g old (t ∷ takes) new out served told st =
      let s : LedgerStep g.who old t.thing t.gave served.0 = ledger_step says g.who old t.thing t.gave served.0 st.me_is st.set_is st.machines served.1.takes in
      let next : Stands g served.0 (out ++ out_by t) = one_taken g old t served.0 out s (told_to_ask g t takes told) st in
      let rest : WereTold g takes = λ command there. told command (Contains-append_right (passed t.thing) (commands_of (things takes)) command there) in
      subst (λ (o : List Outgoing). Stands g new o) (append_assoc out (out_by t) (outs_of takes)) (all_taken g served.0 takes new (out ++ out_by t) served.2 rest next)

module _ {D : Type 0} where
  first_stands : (g : Grounds) (v : LedgerView D) → v ≡ nothing_taken g.who.me g.who.set v.driver g.who.peers v.first → Stands g v []
  first_stands g v is = record {
    me_is = ap (λ (w : LedgerView D). w.me) is;
    set_is = ap (λ (w : LedgerView D). w.local) is;
    machines = λ at m there. none_some None m refl (subst (λ (w : LedgerView D). machine_at w.machines at ≡ Some m) is there);
    fit = first_fit (with_ledger g v) v;
  }

-- ---- the applier

more_still : (a b c : List Decision) → IsMore a b → IsMore b c → IsMore a c
more_still a b c x y = more_of a c (x.more ++ y.more) (y.is ∙ ap (λ (ds : List Decision). ds ++ y.more) x.is ∙ append_assoc a x.more y.more)

all_more_applied : (old : ApplierView) (xs : List Onward) (out : List Outgoing) (new : ApplierView) → AnswersEach old xs out new → IsMore old.applied new.applied
all_more_applied old [] out new a = no_more old.applied new.applied (ap (λ (v : ApplierView). v.applied) a.1)
all_more_applied old (x ∷ xs) out new a = more_still old.applied a.1.applied new.applied (applied_more old x a.0 a.1 a.2.takes) (all_more_applied a.1 xs a.3 new a.5)

-- each request that is taken is in the journal
abbrev WereAsked : Grounds → List Onward → Type 0
WereAsked g xs = (request : Onward) → Contains (requests_on xs) request → Contains (flat_map (request_by g.who.peers) g.journal) request

module _ (g : Grounds) (stands : (link : ℕ) (slot : Slot) → Contains (flat_map (request_by g.who.peers) g.journal) (Asked link slot) → AsksForRecord g link slot) where
  one_answer : (old : ApplierView) (x : Onward) (answer : Option (ℕ × Message)) (new : ApplierView) → Takes old x answer new → IsMore old.applied g.applied → ((link : ℕ) (slot : Slot) → x ≡ Asked link slot → AsksForRecord g link slot) → MayReply g answer
  one_answer old (Decided d) answer new t more asked = subst (MayReply g) (sym t.0) tt
  one_answer old (Asked link slot) answer new t more asked =
      let has : (value : List ℕ) → value_of slot.0 old.applied ≡ Some value → IsApplied g slot value = λ value e. any_more (λ (d : Decision). (d.slot ≡ slot) × (d.value ≡ value)) old.applied g.applied more (value_there slot value old.applied e) in
      subst (MayReply g) (sym t.0) (answer_may g link slot (value_of slot.0 old.applied) has (asked link slot refl))

  asked_for : (x : Onward) (xs : List Onward) → WereAsked g (x ∷ xs) → (link : ℕ) (slot : Slot) → x ≡ Asked link slot → AsksForRecord g link slot
  asked_for x xs asked link slot is =
      let here : Contains (request_on x) (Asked link slot) = subst (λ (y : Onward). Contains (request_on y) (Asked link slot)) (sym is) (Contains-push [] (Asked link slot)) in
      stands link slot (asked (Asked link slot) (Contains-append_left (request_on x) (requests_on xs) (Asked link slot) here))

  answers_out : (old : ApplierView) (xs : List Onward) (out : List Outgoing) (new : ApplierView) → AnswersEach old xs out new → g.applied ≡ new.applied → WereAsked g xs → AllOut (MayAnswer g) out
  answers_out old [] out new a is asked = subst (AllOut (MayAnswer g)) (sym a.0) (all_none (MayAnswer g))
  answers_out old (x ∷ xs) out new a is asked =
      let later : IsMore a.1.applied new.applied = all_more_applied a.1 xs a.3 new a.5 in
      let more : IsMore old.applied g.applied = subst (λ (ds : List Decision). IsMore old.applied ds) (sym is) (more_still old.applied a.1.applied new.applied (applied_more old x a.0 a.1 a.2.takes) later) in
      let here : AllOut (MayAnswer g) (out_of a.0) = answer_out g a.0 (one_answer old x a.0 a.1 a.2.takes more (asked_for x xs asked)) in
      let rest : AllOut (MayAnswer g) a.3 = answers_out a.1 xs a.3 new a.5 is (λ request there. asked request (Contains-append_right (request_on x) (requests_on xs) request there)) in
      subst (AllOut (MayAnswer g)) (sym a.4) (all_more (MayAnswer g) (out_of a.0) a.3 here rest)

-- ---- all of it

module _ {D : Type 0} (says : Says D) where
  module _ (passes : CommandsPass) (a : Account D) (ran : Ran says.level says.extracted says.combined says.place a) where
    -- the commands that the slot stage took came
    commands_came : (takes : List Taking) → things takes ≡ ran.took → WereTold (grounds_in a) takes
    commands_came takes is command there =
        let waiting : List Ready = a.on_way ++ a.pending.leaving in
        let whole : things takes ++ waiting ≡ ran.given ++ a.pending.leaving =
        ap (λ (xs : List Ready). xs ++ waiting) is ∙ sym (append_assoc ran.took a.on_way a.pending.leaving) ∙ ap (λ (xs : List Ready). xs ++ a.pending.leaving) (sym ran.ready) in
        let all : commands_of (things takes) ++ commands_of waiting ≡ commands_in a.came =
        sym (flat_map-append passed (things takes) waiting) ∙ ap (λ (xs : List Ready). commands_of xs) whole ∙ passes a.me a.peers a.came ran.given a.pending ran.pends in
        subst (λ (cs : List Command). Contains cs command) all (Contains-append_left (commands_of (things takes)) (commands_of waiting) command there)

    -- the requests that the applier took are in the journal
    requests_came : WereAsked (grounds_in a) ran.applied
    requests_came request there =
        let all : requests_on ran.applied ++ requests_on a.onward ≡ flat_map (request_by a.peers) a.ledger.journal =
        sym (flat_map-append request_on ran.applied a.onward) ∙ ap (λ (xs : List Onward). requests_on xs) (sym ran.decided) ∙ ran.journals.requests in
        subst (λ (xs : List Onward). Contains xs request) all (Contains-append_left (requests_on ran.applied) (requests_on a.onward) request there)

  pub handed_may_go : RepliesAreAskedFor → WhoItIsStays → NothingIsOfAStranger → CommandsPass → RanKeepsLedger says.level says.extracted says.combined says.place → HandedOutMayGo says
  handed_may_go asked stays links passes keeps = λ a replies said answers h link. whole a replies said answers h link
    where
      whole : (a : Account D) (replies said answers : List Outgoing) → AreHandedOut says a replies said answers → (link : ℕ) → MayGo (grounds_in a) link (handed_by replies link) (handed_by said link) (handed_by answers link)
      whole a replies said answers h link =
          let g : Grounds = grounds_in a in
          let begun : LedgerView D = nothing_taken a.me a.set a.ledger.driver a.peers a.ledger.first in
          let st : Stands g a.ledger (outs_of h.takes) = all_taken says g begun h.takes a.ledger [] h.served (commands_came passes a h.ran h.takes h.took_are) (first_stands g begun refl) in
          let fit : AreFit g a.ledger said = subst (λ (o : List Outgoing). AreFit g a.ledger o) (sym h.said_are) st.fit in
          record {
            replies_may = subst (AllOut (MayAnswer g)) (sym h.replies_are) (replies_out asked stays links g [] a.came refl) link;
            said_may = fit.allowed link;
            newer = fit.newer link;
            answers_may = answers_out g (λ l slot there. request_stands g l slot (keeps a h.ran).of_links there) (nothing_applied a.ledger.first a.applier.base) h.ran.applied answers a.applier h.answered refl (requests_came passes a h.ran) link;
          }
