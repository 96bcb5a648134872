-- A node that begins behind another one, and what it is given.
use Rattle.std.proofs.Common.{◌≡◌, ◌+◌, ℕ, Bool, true, false, List, [], ◌∷◌, length, refl, sym, ◌∙◌, ap, subst, inl, inr, ◌⊎◌, arith, All}
use Rattle.std.specs.Prelude.{Option, Some, None, Result, Ok, Err, IfOk, IfErr, IsErrOf, Contains, if◌then◌else◌, min}
use Rattle.std.proofs.lemmas.List.Elements.{All-head}
use Rattle.scp_again.specs.scp_types.specs.declared.fault.Fault.{Fault}
use Rattle.scp_again.specs.scp_types.specs.declared.fault.Fault.TheVariants.{JournalFull, BadConfig, NoMemory, TooLong}
use Rattle.scp_again.specs.scp_types.specs.declared.limits.TheConstants.{LINK_LIMIT}
use Rattle.scp_again.specs.scp_xdr.specs.Words.{IsReadingFault}
use Rattle.scp_again.specs.scp_driver.specs.Driver.{Says, IsBase}
use Rattle.scp_again.specs.scp_ledger.specs.declared.journal.Decision.{Decision}
use Rattle.scp_again.specs.scp_ledger.specs.Decisions.{is_decided}
use Rattle.scp_again.specs.scp_apply.specs.Applied.{AreInOrder, made_of}
use Rattle.scp_again.specs.scp_apply.specs.Applier.{next_of}
use Rattle.scp_again.specs.scp_core.specs.declared.config.Config.{Config}
use Rattle.scp_again.specs.scp_core.specs.declared.event.Event.{Event}
use Rattle.scp_again.specs.scp_core.specs.History.{Exchange}
use Rattle.scp_again.specs.scp_core.specs.Headline.{state_shown}
use Rattle.scp_again.specs.scp_core.specs.Ledger.{TheoremGivesLedgerFrom}
use Rattle.scp_again.specs.scp_core.specs.Node.{NodeView}
use Rattle.scp_again.specs.scp_core.specs.Theorem.{begun, LedgerTheoremFrom, StepsKeepFrom}
use Rattle.scp_turn.specs.Turn.{Does, links_of}
use Rattle.scp_again.proofs.Current.{true_false}
use Rattle.scp_again.proofs.Lists.{there_decided}
use Rattle.scp_epoch.specs.declared.input.Input.{Input}
use Rattle.scp_epoch.specs.Epoch.{BeginsBehind, StandsLike, TakesUp, FindsFull}
use Rattle.scp_epoch.specs.Played.{ArePlayed, carrying, carrying_in}
use Rattle.scp_epoch.specs.inside.Playing.{Plays, IsBegun}
use Rattle.scp_epoch.proofs.Playing.{done, played_does}
use Rattle.scp_epoch.proofs.Steps.{does_config, keeps_on}

-- ---- the state that a node shows

module _ {D S : Type 0} (said : List ℕ → S) (after' : S → List ℕ → S) where
  -- a node that shows a state runs, and this is what its applied values make
  pub shown_is : (v : NodeView D) (s : S) → state_shown (said v.applier.base) after' v ≡ Some s → (v.failed ≡ false) × (s ≡ made_of (said v.applier.base) after' v.applier.applied)
  shown_is v s e = by_test v.failed refl e
    where
      by_test : (b : Bool) → v.failed ≡ b → (if b then None else Some (made_of (said v.applier.base) after' v.applier.applied)) ≡ Some s → (v.failed ≡ false) × (s ≡ made_of (said v.applier.base) after' v.applier.applied)
      by_test true is k = absurd cc
      by_test false is k = (is, cc)

-- ---- a node as it begins

module _ {D S : Type 0} (says : Says D) (said : List ℕ → S) (written : S → List ℕ) where
  is_begun : (v : NodeView D) (driver : D) (c : Config) (first : ℕ) (base : List ℕ) (made : S) → base ≡ written made → said base ≡ made → LedgerTheoremFrom says first base [] v → v.config ≡ c → v.ledger.driver ≡ driver → IsBegun says said written driver c first made v
  is_begun v driver c first base made bytes state t config application =
      let is : v ≡ begun t.driver v.config first base = t.replies in
      let its : v.applier.base ≡ base = ap (λ (w : NodeView D). w.applier.base) is in
      let drives : t.driver ≡ driver = sym (ap (λ (w : NodeView D). w.ledger.driver) is) ∙ application in
      let same : begun t.driver v.config first base ≡ begun driver c first v.applier.base = λ i. begun (drives i) (config i) first (sym its i) in
      record {
        is = is ∙ same;
        base = its ∙ bytes;
        state = ap said its ∙ state;
        theorem = subst (λ (b : List ℕ). LedgerTheoremFrom says first b [] v) (sym its) t;
      }

  pub begun_by : (r : Result (NodeView D) Fault) (driver : D) (c : Config) (first : ℕ) (base : List ℕ) (made : S) → base ≡ written made → said base ≡ made → IfOk r (λ v. LedgerTheoremFrom says first base [] v) → IfOk r (λ v. v.config ≡ c) → IfOk r (λ v. v.ledger.driver ≡ driver) → IfOk r (IsBegun says said written driver c first made)
  begun_by (Ok v) driver c first base made bytes state t config application = is_begun v driver c first base made bytes state t config application
  begun_by (Err f) driver c first base made bytes state t config application = tt

-- ---- what it is given

same_links : {D : Type 0} (v w : NodeView D) → v.config ≡ w.config → links_of v ≡ links_of w
same_links v w e = ap (λ (c : Config). min (length c.peers) LINK_LIMIT) e

module _ {D S : Type 0} (says : Says D) (said : List ℕ → S) (after' : S → List ℕ → S) where
  -- it began behind the old one, and so it has gone on
  pub goes_behind : (keep : (first : ℕ) (base : List ℕ) → StepsKeepFrom says first base) (driver : D) (c : Config) (first : ℕ) (base : List ℕ) (old node new : NodeView D) (events : List Event) (heard : List Exchange) → old.failed ≡ false → first ≡ next_of old.applier
      → node ≡ begun driver c first base → LedgerTheoremFrom says first base [] node → said base ≡ made_of (said old.applier.base) after' old.applier.applied → ArePlayed says events node heard new → new.failed ≡ false
      → BeginsBehind says said after' driver c old events heard new
  goes_behind keep driver c first base old node new events heard runs next is begins state plays runs_too =
      let does : Does says node heard new = played_does says events node new heard plays in
      let t : LedgerTheoremFrom says first base heard new = keeps_on says first base (keep first base) heard [] node new begins does in
      let slot : new.applier.first ≡ first = ap (λ (w : NodeView D). w.applier.first) (t.now runs_too) ∙ t.began.0 in
      let bytes : new.applier.base ≡ base = ap (λ (w : NodeView D). w.applier.base) (t.now runs_too) ∙ t.began.1 in
      let config : new.config ≡ c = does_config says heard node new does ∙ ap (λ (w : NodeView D). w.config) is in
      let from : node ≡ begun driver c new.applier.first new.applier.base = is ∙ (λ i. begun driver c (sym slot i) (sym bytes i)) in
      record {
        runs = runs;
        runs_too = runs_too;
        config = config;
        first = slot ∙ next;
        state = ap said bytes ∙ state;
        played = subst (λ (v : NodeView D). ArePlayed says events v heard new) from plays;
        theorem = subst (λ (n : ℕ). LedgerTheoremFrom says n new.applier.base heard new) (sym slot) (subst (λ (bs : List ℕ). LedgerTheoremFrom says first bs heard new) (sym bytes) t);
      }

module _ {D S : Type 0} (says : Says D) (said : List ℕ → S) (after' : S → List ℕ → S) (written : S → List ℕ) where
  abbrev pub made_by : NodeView D → S
  made_by old = made_of (said old.applier.base) after' old.applier.applied

  -- the same of a node that begins with the bytes that are written of the state, once it was given what is carried
  pub begins_behind : (keep : (first : ℕ) (base : List ℕ) → StepsKeepFrom says first base) (driver : D) (c : Config) (before : ℕ) (old node new : NodeView D) (inputs : List Input) → old.failed ≡ false → before + 1 ≡ next_of old.applier
      → IsBegun says said written driver c (before + 1) (made_by old) node → Plays says (carrying (links_of node) inputs) done node new → new.failed ≡ false
      → ((heard : List Exchange) × BeginsBehind says said after' driver c old (carrying_in c inputs) heard new) × (new.applier.base ≡ written (made_by old))
  begins_behind keep driver c before old node new inputs runs next b p runs_too =
      let base = node.applier.base in
      let links : links_of node ≡ min (length c.peers) LINK_LIMIT = same_links node (begun driver c (before + 1) base) (ap (λ (w : NodeView D). w.config) b.is) in
      let begins = goes_behind says said after' keep driver c (before + 1) base old node new (carrying (links_of node) inputs) p.heard runs next b.is b.theorem b.state p.played runs_too in
      let t : LedgerTheoremFrom says (before + 1) base p.heard new = keeps_on says (before + 1) base (keep (before + 1) base) p.heard [] node new b.theorem p.does in (
        (p.heard, subst (λ (n : ℕ). BeginsBehind says said after' driver c old (carrying n inputs) p.heard new) links begins),
        (ap (λ (w : NodeView D). w.applier.base) (t.now runs_too) ∙ t.began.1) ∙ b.base,
      )

  -- it found its journal full meanwhile
  pub finds_full_behind : (f : Fault) → f ≡ JournalFull → (driver : D) (c : Config) (before : ℕ) (old node new : NodeView D) (inputs : List Input) → before + 1 ≡ next_of old.applier → IsBegun says said written driver c (before + 1) (made_by old) node → Plays says {T = Unit {0}} (carrying (links_of node) inputs) (Err f) node new → FindsFull says said after' driver c old
  finds_full_behind f same driver c before old node new inputs next b p = record {
    base = node.applier.base;
    new = new;
    heard = p.heard;
    state = b.state;
    does = subst (λ (v : NodeView D). Does says v p.heard new) (b.is ∙ (λ i. begun driver c (next i) node.applier.base)) p.does;
    full = p.full (ap (λ (x : Fault). Err x) same);
  }

-- ---- nothing is applied yet

applied_none : (first : ℕ) (ds applied : List Decision) → AreInOrder first applied → All (Contains ds) applied → is_decided first ds ≡ false → applied ≡ []
applied_none first ds [] p all open' = refl
applied_none first ds (d ∷ applied) p all open' = true_false (is_decided first ds) (there_decided ds d first (All-head (Contains ds) d applied all) p.0) open'

module _ {D : Type 0} (says : Says D) where
  -- a node whose lowest undecided slot is the one that it began with applied nothing
  pub nothing_applied_yet : (first : ℕ) (base : List ℕ) → TheoremGivesLedgerFrom says first base → (heard : List Exchange) (v : NodeView D) → LedgerTheoremFrom says first base heard v → v.failed ≡ false → v.ledger.lowest ≡ first → v.applier.applied ≡ []
  nothing_applied_yet first base law heard v t runs low =
      let h = law heard v t in
      let same : h.moment ≡ v = elim h.is [ inl now ↦ now.2 | inr gone ↦ true_false v.failed gone.failed runs ] in
      let order : AreInOrder first h.moment.applier.applied = subst (λ (n : ℕ). AreInOrder n h.moment.applier.applied) (h.keeps.applied.first ∙ h.first) h.keeps.applied.in_order in
      let lowest : h.moment.ledger.lowest ≡ first = ap (λ (w : NodeView D). w.ledger.lowest) same ∙ low in
      let open' : is_decided first h.moment.ledger.decisions ≡ false = subst (λ (n : ℕ). is_decided n h.moment.ledger.decisions ≡ false) lowest h.keeps.decisions.lowest.undecided in
      ap (λ (w : NodeView D). w.applier.applied) (sym same) ∙ applied_none first h.moment.ledger.decisions h.moment.applier.applied order h.keeps.applied.decided open'

-- ---- refusals

-- bytes that were written of a state say one
pub is_base : {S : Type 0} (begins : List ℕ → S) (written : S → List ℕ) (bytes : List ℕ) (state : S) → bytes ≡ written state → begins bytes ≡ state → IsBase begins written bytes
is_base begins written bytes state is back = inr (is ∙ ap written (sym back))

-- a node that begins with a state is refused by its configuration, or is out of memory
pub begin_only : {X : Type 0} (B : Type 0) (r : Result X Fault) → B → IfErr r (λ f. IsReadingFault f → B → ⊥) → IfErr r (λ f. (f ≡ BadConfig) ⊎ ((f ≡ NoMemory) ⊎ IsReadingFault f)) → IfErr r (λ f. (f ≡ NoMemory) ⊎ ((f ≡ BadConfig) ⊎ (f ≡ TooLong)))
begin_only B (Ok x) b none only = tt
begin_only B (Err f) b none only = elim only [
  | inl bad ↦ inr (inl bad)
  | inr o ↦ elim o [
    | inl memory ↦ inl memory
    | inr reading ↦ absurd (none reading b)
  ]
]

pub begin_not_too_long : {X : Type 0} (B U : Type 0) (r : Result X Fault) → B → IfErr r (λ f. IsReadingFault f → B → ⊥) → IsErrOf r TooLong → U
begin_not_too_long B U (Ok x) b none e = absurd cc
begin_not_too_long B U (Err f) b none e = (let same : TooLong ≡ f = cc in absurd (none (subst IsReadingFault same tt) b))

-- what is given is refused by no configuration, and by no length
pub not_bad : {X U : Type 0} (f : Fault) → (f ≡ NoMemory) ⊎ (f ≡ JournalFull) → IsErrOf {T = X} (Err f) BadConfig → U
not_bad f o e = elim o [ inl memory ↦ absurd cc | inr full ↦ absurd cc ]

pub not_long : {X U : Type 0} (f : Fault) → (f ≡ NoMemory) ⊎ (f ≡ JournalFull) → IsErrOf {T = X} (Err f) TooLong → U
not_long f o e = elim o [ inl memory ↦ absurd cc | inr full ↦ absurd cc ]

pub also_those : (f : Fault) → (f ≡ NoMemory) ⊎ (f ≡ JournalFull) → (f ≡ NoMemory) ⊎ ((f ≡ JournalFull) ⊎ ((f ≡ BadConfig) ⊎ (f ≡ TooLong)))
also_those f o = elim o [ inl memory ↦ inl memory | inr full ↦ inr (inl full) ]

-- ---- what takes up

module _ {D S : Type 0} (says : Says D) (said : List ℕ → S) (after' : S → List ℕ → S) where
  -- one that began so, and stands like the old one, takes it up
  pub takes_up_behind : ((first : ℕ) (base : List ℕ) → TheoremGivesLedgerFrom says first base) → (driver : D) (c : Config) (old : NodeView D) (events : List Event) (heard : List Exchange) (new : NodeView D) → BeginsBehind says said after' driver c old events heard new → StandsLike old new
      → TakesUp says said after' driver c old events heard new
  takes_up_behind law driver c old events heard new b like = record {
    begins = b;
    like = like;
    nothing_yet = nothing_applied_yet says new.applier.first new.applier.base (law new.applier.first new.applier.base) heard new b.theorem b.runs_too (like.same.lowest_too ∙ sym b.first);
  }

  -- one that begins with that slot and that state begins behind
  pub begins_so : (keep : (first : ℕ) (base : List ℕ) → StepsKeepFrom says first base) (driver : D) (c : Config) (base : List ℕ) (old node new : NodeView D) (events : List Event) (heard : List Exchange) → old.failed ≡ false → node.config ≡ c → node.ledger.driver ≡ driver
      → LedgerTheoremFrom says (next_of old.applier) base [] node → said base ≡ made_of (said old.applier.base) after' old.applier.applied → ArePlayed says events node heard new → new.failed ≡ false → BeginsBehind says said after' driver c old events heard new
  begins_so keep driver c base old node new events heard runs config application t state plays runs_too =
      let first = next_of old.applier in
      let is : node ≡ begun t.driver node.config first base = t.replies in
      let drives : t.driver ≡ driver = sym (ap (λ (w : NodeView D). w.ledger.driver) is) ∙ application in
      let same : begun t.driver node.config first base ≡ begun driver c first base = λ i. begun (drives i) (config i) first base in
      goes_behind says said after' keep driver c first base old node new events heard runs refl (is ∙ same) t state plays runs_too
