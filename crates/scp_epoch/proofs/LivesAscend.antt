-- Over each link of a life the statements of each slot and kind never go back.
use Rattle.std.proofs.Common.{◌≡◌, ◌+◌, ◌<◌, ◌≤◌, ℕ, Bool, true, false, List, [], ◌∷◌, ◌++◌, length, get_or, refl, sym, ◌∙◌, ap, subst, inl, inr, ◌⊎◌, arith, All, append_assoc, append-nil}
use Rattle.std.specs.Prelude.{Option, Some, None, slice_get, min}
use Rattle.std.specs.Option.{ForSome}
use Rattle.std.specs.List.{AllByRecursion}
use Rattle.std.proofs.lemmas.Bool.{cases_lt}
use Rattle.std.proofs.lemmas.List.Elements.{All-nil, All-append}
use Rattle.scp_again.specs.scp_types.specs.declared.limits.TheConstants.{LINK_LIMIT}
use Rattle.scp_again.specs.scp_driver.specs.Driver.{Says}
use Rattle.scp_again.specs.scp_envelope.specs.declared.statement.Statement.{Statement}
use Rattle.scp_again.specs.scp_wire.specs.declared.message.Message.{Message}
use Rattle.scp_again.specs.scp_outbox.specs.Outbox.{are_alike}
use Rattle.scp_again.specs.scp_outbox.specs.Sending.{EmptyOwes, PutsKeepOwes, GivesKeepOwes}
use Rattle.scp_again.specs.scp_outbox.specs.Sent.{statement_of}
use Rattle.scp_again.specs.scp_ledger.specs.Seen.{LedgerView}
use Rattle.scp_again.specs.scp_apply.specs.Applier.{next_of}
use Rattle.scp_again.specs.scp_theorem.specs.Grounds.{Who}
use Rattle.scp_again.specs.scp_core.specs.declared.config.Config.{Config}
use Rattle.scp_again.specs.scp_core.specs.History.{Exchange}
use Rattle.scp_again.specs.scp_core.specs.Node.{NodeView}
use Rattle.scp_again.specs.scp_core.specs.Sent.{sent_to, who_of}
use Rattle.scp_again.specs.scp_core.specs.Theorem.{begun, LedgerTheoremFrom}
use Rattle.scp_turn.specs.Turn.{Does, links_of}
use Rattle.scp_again.specs.Again.{again_of}
use Rattle.scp_again.specs.Ascending.{IsNoOlder, Ascend}
use Rattle.scp_again.specs.Laws.{AreEncoded}
use Rattle.scp_again.proofs.Lists.{pairs_none, pairs_append}
use Rattle.scp_again.proofs.Current.{slots_are, IsWell, IsSaid}
use Rattle.scp_again.proofs.Holding.{Holds, no_older_by}
use Rattle.scp_epoch.specs.Ascending.{AreSent, AllRun, LivesNeverGoBack}
use Rattle.scp_epoch.specs.Epoch.{TakesUp}
use Rattle.scp_epoch.specs.Life.{Epoch, IsFirst, IsLife, Follow}
use Rattle.scp_epoch.proofs.Ascending.{Ordered, IsQuietBox, Sends, along, begins, begins_quiet, quiet_box, epoch_sends}
use Rattle.scp_epoch.proofs.Lives.{Laws, HasTheorem, first_runs, first_theorem, follow_theorem, runs_first}
use Rattle.scp_epoch.proofs.Playing.{played_does}
use Rattle.scp_epoch.proofs.Seams.{said_within, over_seam}
use Rattle.scp_epoch.proofs.Steps.{does_config}
use Rattle.scp_epoch.proofs.Windows.{IsWithin, begins_within, does_within, does_ran}

module _ {D : Type 0} where
  -- a statement that the ledger knows of, or of a slot below its first one
  abbrev IsKnown : Who → LedgerView D → Statement → Type 0
  IsKnown who v s = IsSaid who v s ⊎ (s.slot.0 < v.first)

  -- how a node stands behind all that was sent so far
  record IsBehind (who : Who) (v : NodeView D) (sent : List Message) : Type 0 where
    who_is : who_of v.config ≡ who
    well : IsWell who v.ledger
    within : IsWithin v.ledger
    known : All (λ m. ForSome (statement_of m) (IsKnown who v.ledger)) sent
    ascend : Ascend sent

  -- ---- one epoch more

  module _ (who : Who) (start end : LedgerView D) (first : end.first ≡ start.first) (within : IsWithin end) (messages : List Message) (s' : Sends who start end messages) where
    -- what is of a slot below the first is alike to nothing
    below_none : (s : Statement) → s.slot.0 < start.first → (o : Option Statement) → ForSome o (IsSaid who end) → IsNoOlder (Some s) o
    below_none s below (Some t) f = λ like. (
        let from = (said_within who end within t (f t refl)).0 in
        let same = slots_are s t like in
        absurd (omega arith)
        )
    below_none s below None f = tt

    known_before : (s : Statement) → IsSaid who start s ⊎ (s.slot.0 < start.first) → All (λ m. IsNoOlder (Some s) (statement_of m)) messages
    known_before s k = elim k [
      | inl c ↦ s'.since s c
      | inr below ↦ λ i d within'. below_none s below (statement_of (get_or messages i d)) (s'.said i d within')
    ]

    known_then : (s : Statement) → IsSaid who start s ⊎ (s.slot.0 < start.first) → IsKnown who end s
    known_then s k = elim k [
      | inl c ↦ inl (s'.knows s c)
      | inr below ↦ inr (subst (λ (n : ℕ). s.slot.0 < n) (sym first) below)
    ]

    one_by : (o p : Option Statement) → ForSome o (λ s. IsNoOlder (Some s) p) → IsNoOlder o p
    one_by (Some s) p f = f s refl
    one_by None (Some t) f = tt
    one_by None None f = tt

    all_ordered : (sent : List Message) → All (λ m. ForSome (statement_of m) (λ s. IsSaid who start s ⊎ (s.slot.0 < start.first))) sent → All (λ m. All (Ordered m) messages) sent
    all_ordered sent known k d below i e within' = one_by (statement_of (get_or sent k d)) (statement_of (get_or messages i e)) (λ s is. known_before s (known k d below s is) i e within')

    more_known : (sent : List Message) → All (λ m. ForSome (statement_of m) (λ s. IsSaid who start s ⊎ (s.slot.0 < start.first))) sent → All (λ m. ForSome (statement_of m) (IsKnown who end)) (sent ++ messages)
    more_known sent known = All-append (λ m. ForSome (statement_of m) (IsKnown who end)) sent messages (λ k d below s is. known_then s (known k d below s is)) (λ k d below s is. inl (s'.said k d below s is))

    more_ascend : (sent : List Message) → Ascend sent → All (λ m. ForSome (statement_of m) (λ s. IsSaid who start s ⊎ (s.slot.0 < start.first))) sent → Ascend (sent ++ messages)
    more_ascend sent ascend known = pairs_append Ordered sent messages ascend s'.ascend (all_ordered sent known)

  -- ---- over a seam

  over : (who : Who) (first : ℕ) (old new : LedgerView D) → first ≡ new.first → old.first ≤ first → ((s : Statement) → IsSaid who old s → first ≤ s.slot.0 → IsSaid who new s) → (s : Statement) → IsKnown who old s → IsSaid who new s ⊎ (s.slot.0 < new.first)
  over who first old new at up carries s k = elim (cases_lt s.slot.0 new.first) [
    | inl below ↦ inr below
    | inr from ↦ elim k [
      | inl c ↦ inl (carries s c (omega arith))
      | inr below ↦ absurd (omega arith)
    ]
  ]

module _ {D S : Type 0} (says : Says D) (said : List ℕ → S) (after' : S → List ℕ → S) (law : Laws says said after') (empty : EmptyOwes) (puts : PutsKeepOwes) (gives : GivesKeepOwes) (link : ℕ) where
  -- both of a node that runs began with the same slot
  ledger_first : (first : ℕ) (base : List ℕ) (past : List Exchange) (v : NodeView D) → LedgerTheoremFrom says first base past v → v.failed ≡ false → v.ledger.first ≡ first
  ledger_first first base past v t runs = ap (λ (w : NodeView D). w.ledger.first) (t.now runs) ∙ sym t.flows.first ∙ t.began.0

  same_links : (v w : NodeView D) → v.config ≡ w.config → links_of v ≡ links_of w
  same_links v w e = ap (λ (c : Config). min (length c.peers) LINK_LIMIT) e

  -- an epoch from a start behind all that was sent so far
  record Starts (who : Who) (v : NodeView D) (sent : List Message) : Type 0 where
    who_is : who_of v.config ≡ who
    within : IsWithin v.ledger
    known : All (λ m. ForSome (statement_of m) (λ s. IsSaid who v.ledger s ⊎ (s.slot.0 < v.ledger.first))) sent
    ascend : Ascend sent
    quiet : IsQuietBox (slice_get v.outboxes link)
    before : List Message
    holds : Holds who (λ s. ⊥) [] v.ledger (slice_get v.outboxes link) before

  record Ends (who : Who) (e : Epoch D) (sent : List Message) : Type 0 where
    more : List Message
    encoded : AreEncoded (sent_to link e.later) more
    behind : IsBehind who e.end (sent ++ (more ++ again_of e.end.ledger link))

  goes : (who : Who) (e : Epoch D) (sent : List Message) → HasTheorem says said after' e → Does says e.start e.later e.end → e.end.failed ≡ false → e.start.ledger.first ≡ e.start.applier.first → Starts who e.start sent → Ends who e sent
  goes who e sent t does runs first s =
      let x = epoch_sends says puts gives who link e.later e.start e.end s.before does runs s.quiet s.holds in
      let within : IsWithin e.end.ledger = does_within says e.later e.start e.end does runs s.within in
      let same : e.end.ledger.first ≡ e.start.ledger.first = ledger_first e.start.applier.first e.start.applier.base (e.carried ++ e.later) e.end t runs ∙ sym first in
      record {
        more = x.0;
        encoded = x.1;
        behind = record {
          who_is = ap who_of (does_config says e.later e.start e.end does) ∙ s.who_is;
          well = x.2.well;
          within = within;
          known = more_known who e.start.ledger e.end.ledger same within (x.0 ++ again_of e.end.ledger link) x.2 sent s.known;
          ascend = more_ascend who e.start.ledger e.end.ledger same within (x.0 ++ again_of e.end.ledger link) x.2 sent s.ascend s.known;
        };
      }

  -- the first epoch's start
  starts_first : (first : ℕ) (base : List ℕ) (e : Epoch D) → IsFirst says first base e → Starts (who_of e.start.config) e.start []
  starts_first first base e f =
      let driver = f.begins.driver in
      let c = e.start.config in
      let is : begun driver c first base ≡ e.start = sym f.begins.replies in
      record {
        who_is = refl;
        within = subst (λ (v : NodeView D). IsWithin v.ledger) is (begins_within says driver c first base);
        known = All-nil (λ m. ForSome (statement_of m) (λ s. IsSaid (who_of c) e.start.ledger s ⊎ (s.slot.0 < e.start.ledger.first)));
        ascend = pairs_none Ordered;
        quiet = subst (λ (v : NodeView D). IsQuietBox (slice_get v.outboxes link)) is (begins_quiet driver c first base link);
        before = [];
        holds = subst (λ (v : NodeView D). Holds (who_of c) (λ s. ⊥) [] v.ledger (slice_get v.outboxes link) []) is (begins empty driver c first base link);
      }

  -- the start of one that takes up a node
  starts : (who : Who) (old : NodeView D) (e : Epoch D) (sent : List Message) → TakesUp says said after' old.ledger.driver old.config old e.events e.carried e.start → link < links_of e.start → IsBehind who old sent → Starts who e.start sent
  starts who old e sent t there b =
      let first = e.start.applier.first in
      let base = e.start.applier.base in
      let c = old.config in
      let node = begun old.ledger.driver c first base in
      let does : Does says node e.carried e.start = played_does says e.events node e.start e.carried t.begins.played in
      let all = along says puts gives (who_of c) (λ s. ⊥) [] link e.carried node e.start [] does t.begins.runs_too (begins empty old.ledger.driver c first base link) in
      let at : e.start.ledger.first ≡ first = ledger_first first base e.carried e.start t.begins.theorem t.begins.runs_too in
      let lowest : old.ledger.lowest ≡ next_of old.applier = t.like.same.lowest in
      let up = b.within.lowest.from_first in
      let next : first ≡ next_of old.applier = t.begins.first in
      record {
        who_is = ap who_of t.begins.config ∙ b.who_is;
        within = does_within says e.carried node e.start does t.begins.runs_too (begins_within says old.ledger.driver c first base);
        known = λ k d below s is. over who (next_of old.applier) old.ledger e.start.ledger (sym next ∙ sym at) (omega arith) (λ x c' from. over_seam who (next_of old.applier) old.ledger e.start.ledger b.well b.within t.like.same x c' from) s (b.known k d below s is);
        ascend = b.ascend;
        quiet = quiet_box (slice_get e.start.outboxes link) (t.like.quiet link there);
        before = all.0;
        holds = subst (λ (w : Who). Holds w (λ s. ⊥) [] e.start.ledger (slice_get e.start.outboxes link) all.0) b.who_is all.2;
      }

  -- epochs that follow
  follow_sends : (who : Who) (old : NodeView D) (epochs : List (Epoch D)) (sent : List Message) → Follow says said after' old epochs → AllRun link epochs → IsBehind who old sent → (messages : List Message) × AreSent link epochs messages × Ascend (sent ++ messages)
  follow_sends who old [] sent f r b = ([], refl, subst Ascend (sym (append-nil sent)) b.ascend)
  follow_sends who old (e ∷ epochs) sent f r b =
      let links : link < links_of e.start = subst (λ (n : ℕ). link < n) (same_links e.end e.start (does_config says e.later e.start e.end f.1)) r.0.1 in
      let start = starts who old e sent f.0 links b in
      let t = follow_theorem says said after' law old e epochs f in
      let first = ledger_first e.start.applier.first e.start.applier.base e.carried e.start f.0.begins.theorem f.0.begins.runs_too in
      let end = goes who e sent t f.1 r.0.0 first start in
      let again = again_of e.end.ledger link in
      let rest = follow_sends who e.end epochs (sent ++ (end.more ++ again)) f.2 r.1 end.behind in
      (end.more ++ (again ++ rest.0), (end.more, rest.0, end.encoded, rest.1, refl), subst Ascend (append_assoc sent (end.more ++ again) rest.0 ∙ ap (λ (ms : List Message). sent ++ ms) (append_assoc end.more again rest.0)) rest.2)

  life_sends : (first : ℕ) (base : List ℕ) (epochs : List (Epoch D)) → IsLife says said after' first base epochs → AllRun link epochs → (messages : List Message) × AreSent link epochs messages × Ascend messages
  life_sends first base [] l r = absurd l
  life_sends first base (e ∷ epochs) l r =
      let who = who_of e.start.config in
      let runs = first_runs says said after' first base e l.0 in
      let t = first_theorem says said after' law first base e l.0 in
      let at = ledger_first first base [] e.start l.0.begins runs ∙ sym (runs_first says said after' first base [] e.start l.0.begins runs) in
      let end = goes who e [] t l.0.goes_on r.0.0 at (starts_first first base e l.0) in
      let again = again_of e.end.ledger link in
      let rest = follow_sends who e.end epochs (end.more ++ again) l.1 r.1 end.behind in
      (end.more ++ (again ++ rest.0), (end.more, rest.0, end.encoded, rest.1, refl), subst Ascend (append_assoc end.more again rest.0) rest.2)

module _ {D S : Type 0} (says : Says D) (said : List ℕ → S) (after' : S → List ℕ → S) where
  pub lives_ascend : Laws says said after' → EmptyOwes → PutsKeepOwes → GivesKeepOwes → LivesNeverGoBack says said after'
  lives_ascend law empty puts gives = λ first base epochs l link r. life_sends says said after' law empty puts gives link first base epochs l r
