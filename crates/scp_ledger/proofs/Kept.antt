-- Decisions and machines as the journal grows.
use Rattle.std.proofs.Common.{◌≡◌, ◌≢◌, ℕ, ◌+◌, ◌≤◌, Bool, true, false, cond, List, [], ◌∷◌, ◌++◌, refl, sym, ◌∙◌, ap, subst, All, length, get_or, nat_eq, inl, inr, append_assoc}
use Rattle.std.specs.Prelude.{Option, Some, None, ◌&&◌, ◌||◌, IfSome, IsSome, IsSomeAnd, Contains, option_to_list}
use Rattle.std.specs.Option.{option_map}
use Rattle.std.specs.BTreeMap.{is_at as is_key}
use Rattle.std.specs.BTreeSet as tree_set
use Rattle.std.proofs.lemmas.Bool.{cases_lt, eq-eqb}
use Rattle.std.proofs.lemmas.List.{append-nil}
use Rattle.std.proofs.lemmas.List.Elements.{All-nil, All-cons, All-push, All-append, All-weaker, All-contains, All-contains_itself, All-get_or, Contains-append_left}
use Rattle.std.proofs.lemmas.List.Folds.{list_any-append}
use Rattle.std.proofs.lemmas.List.Quantifiers.{all_pairs_push}
use Rattle.scp_slot.specs.scp_types.specs.declared.limits.TheConstants.{WINDOW}
use Rattle.scp_slot.specs.scp_types.specs.declared.names.ConnId.{ConnId}
use Rattle.scp_slot.specs.scp_types.specs.declared.names.NodeId.{NodeId}
use Rattle.scp_slot.specs.scp_types.specs.declared.names.Slot.{Slot}
use Rattle.scp_slot.specs.scp_driver.specs.declared.driver.Level.{Level}
use Rattle.scp_slot.specs.scp_quorum.specs.NodeSet.{node_cmp}
use Rattle.scp_slot.specs.scp_quorum.specs.QuorumTree.{QuorumTree}
use Rattle.scp_slot.specs.scp_quorum.specs.QuorumKind.{set_hash}
use Rattle.scp_slot.specs.scp_quorum.specs.Satisfies.{Satisfies}
use Rattle.scp_slot.specs.scp_envelope.specs.Claims.{AcceptsCommit}
use Rattle.scp_slot.specs.scp_vote.specs.declared.claim.StatementKind.{StatementKind}
use Rattle.scp_slot.specs.scp_vote.specs.declared.claim.StatementKind.TheVariants.{Balloting}
use Rattle.scp_slot.specs.scp_ballot.specs.declared.balloted.Certified.{Certified}
use Rattle.scp_slot.specs.scp_ballot.specs.Balloting as ballot
use Rattle.scp_slot.specs.declared.machine.SlotMachine.{SlotMachine}
use Rattle.scp_slot.specs.declared.output.SlotInput.{SlotInput}
use Rattle.scp_slot.specs.declared.output.SlotOutput.{SlotOutput}
use Rattle.scp_slot.specs.Slot.{SlotView, slot_view, driver_of, Begins, IsSound as IsSlotSound, IsRunning as IsSlotRunning}
use Rattle.scp_slot.specs.Takes as slot
use Rattle.scp_ledger.specs.declared.journal.Asking.{Asking}
use Rattle.scp_ledger.specs.declared.journal.Decision.{Decision}
use Rattle.scp_ledger.specs.declared.journal.Fate.{Fate}
use Rattle.scp_ledger.specs.declared.journal.Origin.{Origin}
use Rattle.scp_ledger.specs.declared.journal.Origin.TheVariants.{Machine, Named}
use Rattle.scp_ledger.specs.Journal.{Heard, newest, is_of, is_its}
use Rattle.scp_ledger.specs.Certificate.{IsCertificate, IsOwnExternalize, counted_of, has_node}
use Rattle.scp_ledger.specs.Decisions.{is_at, is_decided, OnePerSlot, IsFounded, RestsOn, HasItsDecision, decision_by, IsLowest, IsNext, AreInWindow}
use Rattle.scp_ledger.specs.Seen.{LedgerView, is_asked}
use Rattle.scp_ledger.specs.Verdicts.{IsOpen, HasItsSet, link_of}
use Rattle.scp_ledger.specs.Ledger.{IsLedger, IsMachineOf, FitsMachine, heard_of, heard_at}
use Rattle.scp_ledger.specs.Takes.{verdict_from}
use Rattle.scp_ledger.proofs.Boards.{Boards, Stepped, brings}
use Rattle.scp_ledger.proofs.Certified.{certified_here, own_here}

-- a certificate speaks of the last ballot statements alone
pub IsCertificate-same : (me : NodeId) (local : QuorumTree) (old new : NodeId → Option Heard) (x : List ℕ) (n : ℕ) (nodes : List NodeId) → ((v : NodeId) → new v ≡ old v) → IsCertificate me local old x n nodes → IsCertificate me local new x n nodes
IsCertificate-same me local old new x n nodes same h = record {
  quorum = record {
    has = h.quorum.has;
    satisfied = λ v has. subst (λ (o : Option QuorumTree). IsSomeAnd o (Satisfies (has_node nodes))) (ap (λ (o : Option Heard). cond (is_key (node_cmp me) v) (Some local) (option_map (counted_of v) o)) (sym (same v))) (h.quorum.satisfied v has);
  };
  accepted = λ v has other. subst (λ (o : Option Heard). IsSomeAnd o (λ s. AcceptsCommit s.statement.pledges n x)) (sym (same v)) (h.accepted v has other);
}

-- ---- what is heard of a slot

-- the journal grew by what was heard of this slot, or by nothing fresh
abbrev pub Hears : List Fate → List Fate → ℕ → Option Heard → Type 0
Hears old new at None = (slot : ℕ) (kind : StatementKind) (v : NodeId) → newest slot kind v new ≡ newest slot kind v old
Hears old new at (Some h) = (h.statement.slot.0 ≡ at) × ((slot : ℕ) (kind : StatementKind) (v : NodeId) → newest slot kind v new ≡ cond (is_of slot kind v h) (Some h) (newest slot kind v old))

pub hears_elsewhere : (old new : List Fate) (at : ℕ) (h : Option Heard) → Hears old new at h → (slot : ℕ) (kind : StatementKind) (v : NodeId) → nat_eq at slot ≡ false → newest slot kind v new ≡ newest slot kind v old
hears_elsewhere old new at None hs slot kind v ne = hs slot kind v
hears_elsewhere old new at (Some h) hs slot kind v ne =
    hs.1 slot kind v ∙ ap (λ (b : Bool). cond (b && is_its kind v h) (Some h) (newest slot kind v old)) (ap (λ (n : ℕ). nat_eq n slot) hs.0 ∙ ne)

pub hears_here : (old new : List Fate) (at : ℕ) (h : Option Heard) (m n : SlotView) → Hears old new at h → Boards m h n → ((kind : StatementKind) (v : NodeId) → heard_at kind m v ≡ newest at kind v old) → (kind : StatementKind) (v : NodeId) → heard_at kind n v ≡ newest at kind v new
hears_here old new at None m n hs boards is kind v = boards kind v ∙ is kind v ∙ sym (hs at kind v)
hears_here old new at (Some h) m n hs boards is kind v =
    let here : nat_eq h.statement.slot.0 at ≡ true = eq-eqb h.statement.slot.0 at hs.0 in
    boards kind v ∙ ap (cond (is_its kind v h) (Some h)) (is kind v)
    ∙ sym (hs.1 at kind v ∙ ap (λ (b : Bool). cond (b && is_its kind v h) (Some h) (newest at kind v old)) here)

-- ---- decided slots

false_left : (a b : Bool) → (a || b) ≡ false → a ≡ false
false_left true b e = e
false_left false b e = refl

false_right : (a b : Bool) → (a || b) ≡ false → b ≡ false
false_right true b e = absurd cc
false_right false b e = e

none_at : (slot : ℕ) (ds : List Decision) → is_decided slot ds ≡ false → All (λ d. is_at slot d ≡ false) ds
none_at slot [] e = All-nil (λ d. is_at slot d ≡ false)
none_at slot (d ∷ ds) e = All-cons (λ x. is_at slot x ≡ false) d ds (false_left (is_at slot d) (is_decided slot ds) e) (none_at slot ds (false_right (is_at slot d) (is_decided slot ds) e))

not_true : (b : Bool) → (b ≡ false → ⊥) → b ≡ true
not_true true h = refl
not_true false h = absurd (h refl)

pub has_slot : (ds : List Decision) (d : Decision) → Contains ds d → is_decided d.slot.0 ds ≡ true
has_slot ds d has = not_true (is_decided d.slot.0 ds) (λ e. let t : is_at d.slot.0 d ≡ false = All-contains (λ x. is_at d.slot.0 x ≡ false) ds d (none_at d.slot.0 ds e) has in let s : is_at d.slot.0 d ≡ true = eq-eqb d.slot.0 d.slot.0 refl in cc)

pub decided_more : (slot : ℕ) (ds : List Decision) (more : Option Decision) → is_decided slot (ds ++ option_to_list more) ≡ false → is_decided slot ds ≡ false
decided_more slot ds more e = false_left (is_decided slot ds) (is_decided slot (option_to_list more)) (sym (list_any-append (is_at slot) ds (option_to_list more)) ∙ e)

or_false : (b : Bool) → (b || false) ≡ b
or_false true = refl
or_false false = refl

undecided_more : (slot at : ℕ) (ds : List Decision) (more : Option Decision) → IfSome more (λ d. d.slot.0 ≡ at) → nat_eq at slot ≡ false → is_decided slot (ds ++ option_to_list more) ≡ is_decided slot ds
undecided_more slot at ds None is ne = ap (λ (xs : List Decision). is_decided slot xs) (append-nil ds)
undecided_more slot at ds (Some d) is ne =
    list_any-append (is_at slot) ds (d ∷ []) ∙ ap (λ (n : ℕ). is_decided slot ds || (nat_eq n slot || false)) is ∙ ap (λ (b : Bool). is_decided slot ds || (b || false)) ne ∙ or_false (is_decided slot ds)

or_true : (b : Bool) → (b || true) ≡ true
or_true true = refl
or_true false = refl

decided_now : (at : ℕ) (ds : List Decision) (d : Decision) → d.slot.0 ≡ at → is_decided at (ds ++ d ∷ []) ≡ true
decided_now at ds d is =
    list_any-append (is_at at) ds (d ∷ []) ∙ ap (λ (b : Bool). is_decided at ds || (b || false)) (eq-eqb d.slot.0 at is) ∙ or_true (is_decided at ds)

-- ---- decisions stay founded

rests_kept : (me : NodeId) (local : QuorumTree) (links : ConnId → ℕ) (asked asked' : List Asking) (old new : List Fate) (d : Decision) (o : Origin) → ((v : NodeId) → newest d.slot.0 Balloting v new ≡ newest d.slot.0 Balloting v old) → ((fate : Fate) → Contains old fate → Contains new fate) → ((a : Asking) → is_asked asked a ≡ true → is_asked asked' a ≡ true) → RestsOn me local links asked old d o → RestsOn me local links asked' new d o
rests_kept me local links asked asked' old new d (Machine n quorum own) same more known h = (IsCertificate-same me local (λ v. newest d.slot.0 Balloting v old) (λ v. newest d.slot.0 Balloting v new) d.value n quorum same h.0, h.1)
rests_kept me local links asked asked' old new d (Named conn seq) same more known h = ((h.0.0, more _ h.0.1), known _ h.1)

if_weaker : {X : Type 0} (P Q : X → Type 0) (o : Option X) → ((x : X) → P x → Q x) → IfSome o P → IfSome o Q
if_weaker P Q None f h = tt
if_weaker P Q (Some x) f h = f x h

-- what is added to a ledger's lists
pub record Adds {D : Type 0} (old new : LedgerView D) (fates : List Fate) (more : Option Decision) : Type 0 where
  pub me : new.me ≡ old.me
  pub local : new.local ≡ old.local
  pub peers : new.peers ≡ old.peers
  pub first : new.first ≡ old.first
  pub journal : new.journal ≡ old.journal ++ fates
  pub decisions : new.decisions ≡ old.decisions ++ option_to_list more
  pub asked : (a : Asking) → is_asked old.asked a ≡ true → is_asked new.asked a ≡ true
  pub short : length (old.journal ++ fates) ≤ 1000000
  pub sets : All HasItsSet fates

one_more : (ds : List Decision) (more : Option Decision) → OnePerSlot ds → IfSome more (λ d. is_decided d.slot.0 ds ≡ false) → OnePerSlot (ds ++ option_to_list more)
one_more ds None h new = subst OnePerSlot (sym (append-nil ds)) h
one_more ds (Some d) h new =
    all_pairs_push (λ (x y : Decision). x.slot.0 ≢ y.slot.0) ds d h (λ k x lt same. let t : is_at d.slot.0 (get_or ds k x) ≡ false = All-get_or (λ y. is_at d.slot.0 y ≡ false) ds k x lt (none_at d.slot.0 ds new) in let s : is_at d.slot.0 (get_or ds k x) ≡ true = eq-eqb (get_or ds k x).slot.0 d.slot.0 same in cc)

AreInWindow-push : (first : ℕ) (earlier ds : List Decision) (d : Decision) → AreInWindow first earlier ds → IsNext first (earlier ++ ds) d → AreInWindow first earlier (ds ++ d ∷ [])
AreInWindow-push first earlier [] d h n = (subst (λ (xs : List Decision). IsNext first xs d) (append-nil earlier) n, tt)
AreInWindow-push first earlier (e ∷ es) d h n =
    (h.0, AreInWindow-push first (earlier ++ e ∷ []) es d h.1 (subst (λ (xs : List Decision). IsNext first xs d) (sym (append_assoc earlier (e ∷ []) es)) n))

placed_more : (first : ℕ) (ds : List Decision) (more : Option Decision) → AreInWindow first [] ds → IfSome more (IsNext first ds) → AreInWindow first [] (ds ++ option_to_list more)
placed_more first ds None h n = subst (AreInWindow first []) (sym (append-nil ds)) h
placed_more first ds (Some d) h n = AreInWindow-push first [] ds d h n

-- a decision of an open slot is the next
pub next_open : (first : ℕ) (ds : List Decision) (lowest : ℕ) (d : Decision) → IsLowest first ds lowest → IsOpen lowest ds d.slot.0 → IsNext first ds d
next_open first ds lowest d low is = record {
  undecided = is.undecided;
  lowest = lowest;
  is_lowest = low;
  from = is.not_old;
  near = elim (cases_lt d.slot.0 (lowest + WINDOW)) [ inl lt ↦ lt | inr le ↦ absurd (is.not_far (inr le)) ];
}

all_some : {X : Type 0} (P : X → Type 0) (xs : List X) (o : Option X) → All P xs → IfSome o P → All P (xs ++ option_to_list o)
all_some P xs None h p = subst (All P) (sym (append-nil xs)) h
all_some P xs (Some x) h p = All-push P xs x h p

undecided_of : (first : ℕ) (ds : List Decision) (more : Option Decision) → IfSome more (IsNext first ds) → IfSome more (λ d. is_decided d.slot.0 ds ≡ false)
undecided_of first ds None n = tt
undecided_of first ds (Some d) n = n.undecided

-- a ledger keeps what holds of it: the last fresh statements of decided slots stay, and one more decision has what it rests on
pub IsLedger-grown : {D : Type 0} (old new : LedgerView D) (fates : List Fate) (more : Option Decision) → IsLedger old → Adds old new fates more
    → ((slot : ℕ) → is_decided slot old.decisions ≡ true → (kind : StatementKind) (v : NodeId) → newest slot kind v new.journal ≡ newest slot kind v old.journal)
    → IfSome more (IsNext old.first old.decisions) → IfSome more (λ d. IsFounded old.me old.local (link_of old.peers) new.asked new.journal d)
    → All (HasItsDecision new.decisions) fates → IsLedger new
IsLedger-grown old new fates more h adds kept next ground named =
    let links = link_of old.peers in
    let grows : (fate : Fate) → Contains old.journal fate → Contains new.journal fate = λ fate has. subst (λ (fs : List Fate). Contains fs fate) (sym adds.journal) (Contains-append_left old.journal fates fate has) in
    let founded : All (λ d. IsFounded old.me old.local links new.asked new.journal d) old.decisions =
    All-weaker (Contains old.decisions) (λ d. IsFounded old.me old.local links new.asked new.journal d)
    (λ d has. rests_kept old.me old.local links old.asked new.asked old.journal new.journal d d.origin (λ v. kept d.slot.0 (has_slot old.decisions d has) Balloting v) grows adds.asked (All-contains (λ x. IsFounded old.me old.local links old.asked old.journal x) old.decisions d h.founded has))
    old.decisions (All-contains_itself old.decisions)
    in
    let stays : All (HasItsDecision new.decisions) old.journal =
    All-weaker (HasItsDecision old.decisions) (HasItsDecision new.decisions)
    (λ fate its. if_weaker (Contains old.decisions) (Contains new.decisions) (decision_by fate) (λ d has. subst (λ (ds : List Decision). Contains ds d) (sym adds.decisions) (Contains-append_left old.decisions (option_to_list more) d has)) its)
    old.journal h.named
    in
    record {
      one = rw adds.decisions (one_more old.decisions more h.one (undecided_of old.first old.decisions more next));
      placed = rw (adds.first, adds.decisions) (placed_more old.first old.decisions more h.placed next);
      founded = rw (adds.decisions, adds.me, adds.local, adds.peers) (all_some (λ d. IsFounded old.me old.local links new.asked new.journal d) old.decisions more founded ground);
      named = subst (All (HasItsDecision new.decisions)) (sym adds.journal) (All-append (HasItsDecision new.decisions) old.journal fates stays named);
      sets = subst (All HasItsSet) (sym adds.journal) (All-append HasItsSet old.journal fates h.sets adds.sets);
      few = rw adds.journal adds.short;
    }

-- ---- machines, over a driver's levels and places
module _ {D : Type 0} (level : D → ℕ → List ℕ → Level) (place : D → ℕ → ℕ → ℕ → ℕ) (me : NodeId) (local : QuorumTree) (driver : D) where
  pub fits_elsewhere : (old new : List Fate) (at : ℕ) (h : Option Heard) (ds : List Decision) (more : Option Decision) (s : ℕ) (o : Option (SlotMachine D)) → Hears old new at h → IfSome more (λ d. d.slot.0 ≡ at) → nat_eq at s ≡ false → FitsMachine level place me local driver old ds s o → FitsMachine level place me local driver new (ds ++ option_to_list more) s o
  fits_elsewhere old new at h ds more s None hs is ne fits = λ undecided kind v. hears_elsewhere old new at h hs s kind v ne ∙ fits (decided_more s ds more undecided) kind v
  fits_elsewhere old new at h ds more s (Some m) hs is ne fits = record {
    node = fits.node;
    slot = fits.slot;
    set = fits.set;
    hash = fits.hash;
    its_driver = fits.its_driver;
    running = fits.running;
    sound = fits.sound;
    undecided = undecided_more s at ds more is ne ∙ fits.undecided;
    board = λ kind v. fits.board kind v ∙ sym (hears_elsewhere old new at h hs s kind v ne);
    silent = fits.silent;
  }

  pub fits_passed : (old new : List Fate) (ds : List Decision) (s : ℕ) (o : Option (SlotMachine D)) → Hears old new 0 None → FitsMachine level place me local driver old ds s o → FitsMachine level place me local driver new ds s o
  fits_passed old new ds s None hs fits = λ undecided kind v. hs s kind v ∙ fits undecided kind v
  fits_passed old new ds s (Some m) hs fits = record {
    node = fits.node;
    slot = fits.slot;
    set = fits.set;
    hash = fits.hash;
    its_driver = fits.its_driver;
    running = fits.running;
    sound = fits.sound;
    undecided = fits.undecided;
    board = λ kind v. fits.board kind v ∙ sym (hs s kind v);
    silent = fits.silent;
  }

  pub fits_decided : (new : List Fate) (at : ℕ) (ds : List Decision) (d : Decision) → d.slot.0 ≡ at → FitsMachine level place me local driver new (ds ++ d ∷ []) at None
  fits_decided new at ds d is = λ undecided. absurd (let t = sym (decided_now at ds d is) ∙ undecided in cc)

-- ---- a machine after an input

silent_after : (old new : SlotView) (out : SlotOutput) → IsSlotRunning old → IsSlotRunning new → slot.Decides old out new → old.decided ≡ false → out.decided ≡ None → new.decided ≡ false
silent_after old new out runs ran decides silent none = by_test new.decided refl
  where
    by_test : (b : Bool) → new.decided ≡ b → b ≡ false
    by_test false e = refl
    by_test true e =
        absurd (none_some out.decided none (decides.exactly.1 ((λ was. let t : true ≡ false = sym (runs.decided.1 was) ∙ silent in cc), ran.decided.0 e)))
      where
        none_some : {X : Type 0} (o : Option X) → o ≡ None → IsSome o → ⊥
        none_some None e h = (let t : false ≡ true = h in cc)
        none_some (Some x) e h = absurd cc

module _ {D : Type 0} (level : D → ℕ → List ℕ → Level) (place : D → ℕ → ℕ → ℕ → ℕ) (me : NodeId) (local : QuorumTree) (driver : D) where
  -- a machine that was made where there was none, of a slot of which nothing was heard
  pub begins : (journal : List Fate) (ds : List Decision) (at : ℕ) (m : SlotMachine D) → is_decided at ds ≡ false → ((kind : StatementKind) (v : NodeId) → newest at kind v journal ≡ None) → Begins me at local (slot_view m) → driver_of m ≡ driver → IsSlotRunning (slot_view m) → IsSlotSound level place m → IsMachineOf level place me local driver journal ds at m
  begins journal ds at m undecided nothing b d runs sound = record {
    node = b.me;
    slot = b.slot;
    set = b.ballots.local;
    hash = b.ballots.hash;
    its_driver = d;
    running = runs;
    sound = sound;
    undecided = undecided;
    board = λ kind v. ap (option_map heard_of) (b.newest kind v) ∙ sym (nothing kind v);
    silent = b.decided;
  }

  -- an input that decided nothing
  pub fits_here : (old new : List Fate) (ds : List Decision) (at : ℕ) (given : SlotInput) (out : SlotOutput) (m n : SlotMachine D) → IsMachineOf level place me local driver old ds at m → Stepped given (slot_view m) out (slot_view n) → slot.Decides (slot_view m) out (slot_view n) → IsSlotRunning (slot_view n) → IsSlotSound level place n → driver_of n ≡ driver_of m
      → Hears old new at (brings given (verdict_from out.verdict)) → out.decided ≡ None → IsMachineOf level place me local driver new ds at n
  fits_here old new ds at given out m n is step decides runs sound same hs none = record {
    node = step.machine.me ∙ is.node;
    slot = step.machine.slot ∙ is.slot;
    set = step.making.local ∙ is.set;
    hash = ap (λ h. h.0) step.making.hash ∙ is.hash;
    its_driver = same ∙ is.its_driver;
    running = runs;
    sound = sound;
    undecided = is.undecided;
    board = hears_here old new at (brings given (verdict_from out.verdict)) (slot_view m) (slot_view n) hs step.board is.board;
    silent = silent_after (slot_view m) (slot_view n) out is.running runs decides is.silent none;
  }

  -- the certificate over the journal
  pub rests_on_machine : (links : ConnId → ℕ) (asked : List Asking) (old new : List Fate) (ds : List Decision) (at : Slot) (given : SlotInput) (out : SlotOutput) (m n : SlotMachine D) (c : Certified) → IsMachineOf level place me local driver old ds at.0 m → Stepped given (slot_view m) out (slot_view n) → IsSlotRunning (slot_view n)
      → Hears old new at.0 (brings given (verdict_from out.verdict)) → IsSome out.decided → ballot.IsCertified (slot_view n).ballots c
      → RestsOn me local links asked new (record { slot = at; value = c.value; origin = Machine c.n (tree_set.keys c.quorum) c.own }) (Machine c.n (tree_set.keys c.quorum) c.own)
  rests_on_machine links asked old new ds at given out m n c is step runs hs some certified =
      let v = slot_view n in
      let node : v.ballots.board.me ≡ me = runs.ballots_me ∙ step.machine.me ∙ is.node in
      let set : v.ballots.board.local ≡ local = step.making.local ∙ is.set in
      let here : v.ballots.slot ≡ at.0 = runs.ballots_slot ∙ step.machine.slot ∙ is.slot in
      let hash : v.ballots.hash.0 ≡ set_hash local = ap (λ h. h.0) step.making.hash ∙ is.hash in
      let board : (x : NodeId) → newest at.0 Balloting x new ≡ heard_at Balloting v x = λ x. sym (hears_here old new at.0 (brings given (verdict_from out.verdict)) (slot_view m) v hs step.board is.board Balloting x) in
      let nodes = tree_set.keys c.quorum in
      let on_board : IsCertificate v.ballots.board.me v.ballots.board.local (heard_at Balloting v) c.value c.n nodes = certified_here v c runs (step.counts some) certified in
      let mine : IsCertificate me local (heard_at Balloting v) c.value c.n nodes = subst (λ (x : NodeId). IsCertificate x local (heard_at Balloting v) c.value c.n nodes) node (subst (λ (q : QuorumTree). IsCertificate v.ballots.board.me q (heard_at Balloting v) c.value c.n nodes) set on_board) in
      let said : IsOwnExternalize v.ballots.board.me local v.ballots.slot c.value c.n c.own = own_here v c local hash certified in (
        IsCertificate-same me local (heard_at Balloting v) (λ x. newest at.0 Balloting x new) c.value c.n nodes board mine,
        subst (λ (s : ℕ). IsOwnExternalize me local s c.value c.n c.own) here (subst (λ (x : NodeId). IsOwnExternalize x local v.ballots.slot c.value c.n c.own) node said),
      )
