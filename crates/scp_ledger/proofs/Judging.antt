-- A run with one thing more: the verdict on it is the first that fits by what was there before it.
use Rattle.std.proofs.Common.{◌≡◌, ℕ, Bool, true, false, List, [], ◌∷◌, ◌++◌, ◌<◌, inl, inr, refl, sym, ◌∙◌, ap, subst, append_assoc, arith}
use Rattle.std.specs.Prelude.{Option, Some, None, IsSomeAnd, ◌||◌, flat_map, option_to_list}
use Rattle.std.specs.List.{list_any}
use Rattle.std.proofs.lemmas.Grind.{flat_map-append}
use Rattle.std.proofs.lemmas.List.{append-nil}
use Rattle.std.proofs.lemmas.List.Folds.{list_any-append}
use Rattle.scp_slot.specs.scp_types.specs.declared.names.ConnId.{ConnId}
use Rattle.scp_slot.specs.scp_types.specs.declared.names.NodeId.{NodeId}
use Rattle.scp_slot.specs.scp_types.specs.declared.names.Seq.{Seq}
use Rattle.scp_slot.specs.scp_types.specs.declared.names.Slot.{Slot}
use Rattle.scp_slot.specs.scp_driver.specs.declared.driver.Level.{Level}
use Rattle.scp_slot.specs.scp_quorum.specs.QuorumTree.{QuorumTree}
use Rattle.scp_pending.specs.scp_wire.specs.declared.link.Command.{Command}
use Rattle.scp_pending.specs.scp_wire.specs.declared.link.Command.TheVariants.{Propose, Round, Timer, Tick, Ask}
use Rattle.scp_pending.specs.scp_wire.specs.declared.message.Message.{Message}
use Rattle.scp_pending.specs.scp_wire.specs.declared.message.Message.TheVariants.{Envelope, GetSet, Set, NoSet, GetRecord, Record, Records}
use Rattle.scp_pending.specs.declared.ready.Ready.{Ready}
use Rattle.scp_pending.specs.declared.ready.Ready.TheVariants as ready
use Rattle.scp_slot.specs.declared.output.SlotInput.{SlotInput}
use Rattle.scp_slot.specs.declared.output.SlotInput.TheVariants as input
use Rattle.scp_ledger.specs.declared.journal.Asking.{Asking}
use Rattle.scp_ledger.specs.declared.journal.Decision.{Decision}
use Rattle.scp_ledger.specs.declared.journal.Fate.{Fate}
use Rattle.scp_ledger.specs.declared.journal.Verdict.{Verdict}
use Rattle.scp_ledger.specs.declared.journal.Verdict.TheVariants.{Unasked, Idle, Fresh, Forwarded, Decided}
use Rattle.scp_ledger.specs.declared.took.Took.{Took}
use Rattle.scp_ledger.specs.Decisions.{IsLowest, is_decided}
use Rattle.scp_ledger.specs.Journal.{Heard, fresh_heard, fresh_in}
use Rattle.scp_ledger.specs.Onwards.{decision_on, decisions_on}
use Rattle.scp_ledger.specs.Runs.{Taking, onward_of, onwards_of, Leads, freshly_heard, freshly_asks, Stood, stood_by, IsMessageVerdict, IsFound, IsCommandVerdict, IsVerdict, IsJudged, AreJudged}
use Rattle.scp_ledger.specs.Seen.{LedgerView, is_asked}
use Rattle.scp_ledger.specs.Takes.{Takes, TakesMessage, TakesCommand, Commands}
use Rattle.scp_ledger.specs.Verdicts.{FirstOf, BehindWindow, BehindAlready, IsOpen, link_of}

-- ---- lists

pub fresh_in-append : (xs ys : List Fate) → fresh_in (xs ++ ys) ≡ fresh_in xs ++ fresh_in ys
fresh_in-append [] ys = refl
fresh_in-append (x ∷ xs) ys =
    ap (λ (hs : List Heard). option_to_list (fresh_heard x) ++ hs) (fresh_in-append xs ys) ∙ sym (append_assoc (option_to_list (fresh_heard x)) (fresh_in xs) (fresh_in ys))

or_false : (b : Bool) → (b || false) ≡ b
or_false true = refl
or_false false = refl

pub decisions_pushed : (takes : List Taking) (t : Taking) → (stood_by (takes ++ t ∷ [])).decisions ≡ (stood_by takes).decisions ++ decisions_on (option_to_list t.gave.onward)
decisions_pushed takes t =
    ap decisions_on (flat_map-append onward_of takes (t ∷ []) ∙ ap (λ os. onwards_of takes ++ os) (append-nil (onward_of t)))
    ∙ flat_map-append decision_on (onwards_of takes) (onward_of t)

pub heard_pushed : (takes : List Taking) (t : Taking) → (stood_by (takes ++ t ∷ [])).heard ≡ (stood_by takes).heard ++ freshly_heard t
heard_pushed takes t = flat_map-append freshly_heard takes (t ∷ []) ∙ ap (λ hs. flat_map freshly_heard takes ++ hs) (append-nil (freshly_heard t))

pub asked_pushed : (takes : List Taking) (t : Taking) (a : Asking) → (stood_by (takes ++ t ∷ [])).asked a ≡ ((stood_by takes).asked a || freshly_asks a t)
asked_pushed takes t a = list_any-append (freshly_asks a) takes (t ∷ []) ∙ ap (λ b. list_any (freshly_asks a) takes || b) (or_false (freshly_asks a t))

-- ---- of what was there before, only what it says of each link and slot counts

module _ (level : ℕ → List ℕ → Level) (me : NodeId) (peers : List NodeId) (lowest : ℕ) (s : Stood) (asked : Asking → Bool) (same : (a : Asking) → s.asked a ≡ asked a) where
  same_message : (conn : ConnId) (message : Message) (verdict : Verdict) → IsMessageVerdict level me peers lowest s conn message verdict → IsMessageVerdict level me peers lowest (record s { asked = asked }) conn message verdict
  same_message conn (Envelope e) verdict h = h
  same_message conn (GetSet hash) verdict h = h
  same_message conn (Set inside) verdict h = h
  same_message conn (NoSet hash) verdict h = h
  same_message conn (Records first values) verdict h = h
  same_message conn (GetRecord at) verdict h = h
  same_message conn (Record at value) verdict h = subst (λ (b : Bool). BehindAlready lowest s.decisions at.0 (FirstOf (b ≡ false) Unasked (λ later. later ≡ Decided)) verdict) (same (record { link = link_of peers conn; slot = at })) h

  same_said : (conn : ConnId) (message : Message) (said : Option Verdict) → IsSomeAnd said (IsMessageVerdict level me peers lowest s conn message) → IsSomeAnd said (IsMessageVerdict level me peers lowest (record s { asked = asked }) conn message)
  same_said conn message None h = h
  same_said conn message (Some verdict) h = same_message conn message verdict h

  same_command : (c : Command) (said : Option Verdict) → IsCommandVerdict lowest s c said → IsCommandVerdict lowest (record s { asked = asked }) c said
  same_command (Propose at value) said h = h
  same_command (Round at) said h = h
  same_command (Timer at) said h = h
  same_command Tick said h = h
  same_command (Ask link at) said h = subst (λ (b : Bool). IsSomeAnd said (BehindAlready lowest s.decisions at.0 (FirstOf (b ≡ true) Idle (λ later. later ≡ Fresh)))) (same (record { link = link; slot = at })) h

  same_verdict : (x : Ready) (said : Option Verdict) → IsVerdict level me peers lowest s x said → IsVerdict level me peers lowest (record s { asked = asked }) x said
  same_verdict (ready.Deliver d) said h = same_said d.conn d.message said h
  same_verdict (ready.Dropped conn seq cause) said h = h
  same_verdict (ready.Closed conn cause) said h = h
  same_verdict (ready.Local c) said h = same_command c said h

-- ---- the verdict on one thing, over the ledger that took it

apart : (b : Bool) → b ≡ false → b ≡ true → ⊥
apart true e f = absurd cc
apart false e f = absurd cc

weaker : (lowest slot : ℕ) (decisions : List Decision) (verdict : Verdict) → BehindWindow lowest decisions slot (λ later. ⊥) verdict → BehindWindow lowest decisions slot IsFound verdict
weaker lowest slot decisions verdict h = elim h [
  | inl old ↦ inl old
  | inr a ↦ inr (
    a.0,
    elim a.1 [
      | inl far ↦ inl far
      | inr b ↦ inr (
        b.0,
        elim b.1 [
          | inl already ↦ inl already
          | inr c ↦ absurd c.1
        ],
      )
    ],
  )
]

behind : (lowest slot : ℕ) (decisions : List Decision) (verdict : Verdict) → IsOpen lowest decisions slot → IsFound verdict → BehindWindow lowest decisions slot IsFound verdict
behind lowest slot decisions verdict open' found =
    inr ((λ (low : slot < lowest). absurd (omega (arith, low, open'.not_old))), inr (open'.not_far, inr ((λ (is : is_decided slot decisions ≡ true). apart (is_decided slot decisions) open'.undecided is), found)))

module _ {D : Type 0} (level : D → ℕ → List ℕ → Level) (extracted : D → ℕ → List ℕ → Option (List ℕ)) (combined : D → ℕ → List (List ℕ) → List ℕ) (place : D → ℕ → ℕ → ℕ → ℕ) where
  abbrev stood_at : LedgerView D → Stood
  stood_at v = record { decisions = v.decisions; heard = fresh_in v.journal; asked = is_asked v.asked }

  message_judged : (old : LedgerView D) (conn : ConnId) (seq : Seq) (message : Message) (beside : Option QuorumTree) (t : Took) (new : LedgerView D) → TakesMessage level extracted combined place old conn seq message beside t new → IsSomeAnd t.verdict (IsMessageVerdict (level old.driver) old.me old.peers old.lowest (stood_at old) conn message)
  message_judged old conn seq (Envelope e) beside t new h = subst (λ (o : Option Verdict). IsSomeAnd o (IsMessageVerdict (level old.driver) old.me old.peers old.lowest (stood_at old) conn (Envelope e))) (sym h.4) h.3
  message_judged old conn seq (GetSet hash) beside t new h = absurd h
  message_judged old conn seq (Set inside) beside t new h = absurd h
  message_judged old conn seq (NoSet hash) beside t new h = absurd h
  message_judged old conn seq (Records first values) beside t new h = absurd h
  message_judged old conn seq (GetRecord at) beside t new h = subst (λ (o : Option Verdict). IsSomeAnd o (λ verdict. verdict ≡ Forwarded)) (sym h.2.verdict) refl
  message_judged old conn seq (Record at value) beside t new h = subst (λ (o : Option Verdict). IsSomeAnd o (IsMessageVerdict (level old.driver) old.me old.peers old.lowest (stood_at old) conn (Record at value))) (sym h.2.2) h.2.1

  commanded : (old : LedgerView D) (at : Slot) (given : SlotInput) (t : Took) (new : LedgerView D) → Commands level extracted combined place old at given t new → IsSomeAnd t.verdict (BehindWindow old.lowest old.decisions at.0 IsFound)
  commanded old at given t new h = elim h [
    | inl p ↦ subst (λ (o : Option Verdict). IsSomeAnd o (BehindWindow old.lowest old.decisions at.0 IsFound)) (sym p.2.verdict) (weaker old.lowest at.0 old.decisions p.0 p.1)
    | inr r ↦ subst (λ (o : Option Verdict). IsSomeAnd o (BehindWindow old.lowest old.decisions at.0 IsFound)) (sym r.verdict) (behind old.lowest at.0 old.decisions _ r.is_open (r.out.verdict, refl))
  ]

  command_judged : (old : LedgerView D) (c : Command) (t : Took) (new : LedgerView D) → TakesCommand level extracted combined place old c t new → IsCommandVerdict old.lowest (stood_at old) c t.verdict
  command_judged old (Propose at value) t new h = commanded old at (input.Propose value) t new h
  command_judged old (Round at) t new h = commanded old at input.Round t new h
  command_judged old (Timer at) t new h = commanded old at input.Timer t new h
  command_judged old Tick t new h = h.verdict
  command_judged old (Ask link at) t new h = subst (λ (o : Option Verdict). IsCommandVerdict old.lowest (stood_at old) (Ask link at) o) (sym h.2) h.1

  judged_at : (old : LedgerView D) (x : Ready) (t : Took) (new : LedgerView D) → Takes level extracted combined place old x t new → IsVerdict (level old.driver) old.me old.peers old.lowest (stood_at old) x t.verdict
  judged_at old (ready.Deliver d) t new h = message_judged old d.conn d.seq d.message d.set t new h
  judged_at old (ready.Dropped conn seq cause) t new h = h.verdict
  judged_at old (ready.Closed conn cause) t new h = h.verdict
  judged_at old (ready.Local c) t new h = command_judged old c t new h

  -- so over what was taken before, where that is what the ledger has
  pub judged_here : (takes : List Taking) (old : LedgerView D) (x : Ready) (t : Took) (new : LedgerView D) → Takes level extracted combined place old x t new → IsLowest old.first old.decisions old.lowest → old.decisions ≡ (stood_by takes).decisions → fresh_in old.journal ≡ (stood_by takes).heard → ((a : Asking) → is_asked old.asked a ≡ (stood_by takes).asked a) → IsJudged old.first (level old.driver) old.me old.peers (stood_by takes) (record { thing = x; gave = t })
  judged_here takes old x t new h lowest decisions heard asked =
      let here : IsVerdict (level old.driver) old.me old.peers old.lowest (record { decisions = old.decisions; heard = fresh_in old.journal; asked = (stood_by takes).asked }) x t.verdict =
      same_verdict (level old.driver) old.me old.peers old.lowest (stood_at old) (stood_by takes).asked asked x t.verdict (judged_at old x t new h) in (
        old.lowest,
        subst (λ (ds : List Decision). IsLowest old.first ds old.lowest) decisions lowest,
        subst (λ (hs : List Heard). IsVerdict (level old.driver) old.me old.peers old.lowest (record { decisions = (stood_by takes).decisions; heard = hs; asked = (stood_by takes).asked }) x t.verdict) heard
            (subst (λ (ds : List Decision). IsVerdict (level old.driver) old.me old.peers old.lowest (record { decisions = ds; heard = fresh_in old.journal; asked = (stood_by takes).asked }) x t.verdict) decisions here),
      )

  -- ---- one more

  pub leads_push : (old mid : LedgerView D) (takes : List Taking) (x : Ready) (t : Took) (new : LedgerView D) → Leads level extracted combined place old takes mid → Takes level extracted combined place mid x t new → Leads level extracted combined place old (takes ++ record { thing = x; gave = t } ∷ []) new
  leads_push old mid [] x t new is h = (new, subst (λ (v : LedgerView D). Takes level extracted combined place v x t new) is h, refl)
  leads_push old mid (y ∷ ys) x t new l h = (l.0, l.1, leads_push l.0 mid ys x t new l.2 h)

pub judged_push : (first : ℕ) (level : ℕ → List ℕ → Level) (me : NodeId) (peers : List NodeId) (earlier takes : List Taking) (t : Taking) → AreJudged first level me peers earlier takes → IsJudged first level me peers (stood_by (earlier ++ takes)) t → AreJudged first level me peers earlier (takes ++ t ∷ [])
judged_push first level me peers earlier [] t are is = (subst (λ (ts : List Taking). IsJudged first level me peers (stood_by ts) t) (append-nil earlier) is, tt)
judged_push first level me peers earlier (y ∷ ys) t are is = (are.0, judged_push first level me peers (earlier ++ y ∷ []) ys t are.1 (subst (λ (ts : List Taking). IsJudged first level me peers (stood_by ts) t) (sym (append_assoc earlier (y ∷ []) ys)) is))
