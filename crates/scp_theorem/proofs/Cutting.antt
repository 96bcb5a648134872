-- Of a connection that was cut off nothing is missing that came before.
use Rattle.std.proofs.Common.{◌≡◌, ◌≢◌, ℕ, ◌+◌, Bool, true, false, List, [], ◌∷◌, ◌++◌, refl, sym, ◌∙◌, ap, subst, arith, length, map, flat_map, Contains, inl, inr, ◌⊎◌}
use Rattle.std.specs.List.{AllByRecursion, range_with_len}
use Rattle.std.specs.List.Sorted.{IsPermutation}
use Rattle.std.proofs.lemmas.Grind.{flat_map-append}
use Rattle.std.proofs.lemmas.List.Elements.{Contains-append_left, Contains-append_right, Contains-append_cases, Contains-push, Contains-push_cases}
use Rattle.scp_outbox.specs.scp_types.specs.declared.names.ConnId.{ConnId}
use Rattle.scp_outbox.specs.scp_types.specs.declared.names.Seq.{Seq}
use Rattle.scp_outbox.specs.scp_wire.specs.declared.link.Cause.{Cause}
use Rattle.scp_outbox.specs.scp_wire.specs.declared.link.Cause.TheVariants.{ParkedFull}
use Rattle.scp_outbox.specs.scp_wire.specs.declared.link.Inbound.{Inbound}
use Rattle.scp_outbox.specs.scp_wire.specs.Connections.{same_conn}
use Rattle.scp_outbox.specs.scp_wire.specs.Marks.{Mark, number, ended, one_if}
use Rattle.scp_apply.specs.scp_pending.specs.declared.ready.DropCause.{DropCause}
use Rattle.scp_apply.specs.scp_pending.specs.declared.ready.DropCause.TheVariants.{BadSet, GaveUp, Closed as ByClose, ParkedFull as ByFull}
use Rattle.scp_apply.specs.scp_pending.specs.declared.ready.Ready.{Ready}
use Rattle.scp_apply.specs.scp_pending.specs.declared.ready.Ready.TheVariants as ready
use Rattle.scp_apply.specs.scp_pending.specs.Endings.{Way, went, by_close, by_full, over, way_by, way, ways, number_of, numbers_of, HasWent, AllWent, IsClosedOff, IsCutOff, Exits}
use Rattle.scp_apply.specs.scp_pending.specs.Line.{ready_mark, marks_of as marks_ready}
use Rattle.scp_apply.specs.scp_pending.specs.Rules.{Settled}
use Rattle.scp_apply.specs.scp_ledger.specs.declared.journal.Fate.{Fate}
use Rattle.scp_apply.specs.scp_ledger.specs.declared.journal.Fate.TheVariants.{Taken, Dropped, Closed}
use Rattle.scp_apply.specs.scp_ledger.specs.Marks.{entry_mark, marks_of as marks_on}
use Rattle.scp_theorem.specs.Fates.{way_on, ways_on}
use Rattle.scp_theorem.specs.Headline.{number_in, numbers_in, AreAllUpTo}

-- ---- elements

not_of_none : {X : Type 0} (x : X) → Contains [] x → ⊥
not_of_none x (k, within, at) = omega (arith, within)

of_one : {X : Type 0} (y x : X) → Contains (y ∷ []) x → y ≡ x
of_one y x has = elim (Contains-push_cases [] y x has) [
  | inl none ↦ absurd (not_of_none x none)
  | inr same ↦ same
]

one_has : {X : Type 0} (y x : X) → y ≡ x → Contains (y ∷ []) x
one_has y x same = subst (λ z. Contains (y ∷ []) z) same (Contains-push [] y)

-- where one has y the other has z
one_if_has : {X Y : Type 0} (b : Bool) (x y : X) (z w : Y) → (x ≡ y → z ≡ w) → Contains (one_if b x) y → Contains (one_if b z) w
one_if_has true x y z w then' has = one_has z w (then' (of_one x y has))
one_if_has false x y z w then' has = absurd (not_of_none y has)

flat_has : {X Y Z : Type 0} (f : X → List Y) (g : X → List Z) (y : Y) (z : Z) → ((x : X) → Contains (f x) y → Contains (g x) z) → (xs : List X) → Contains (flat_map f xs) y → Contains (flat_map g xs) z
flat_has f g y z one [] has = absurd (not_of_none y has)
flat_has f g y z one (x ∷ xs) has = elim (Contains-append_cases (f x) (flat_map f xs) y has) [
  | inl here ↦ Contains-append_left (g x) (flat_map g xs) z (one x here)
  | inr behind ↦ Contains-append_right (g x) (flat_map g xs) z (flat_has f g y z one xs behind)
]

-- ---- what ended so

abbrev pub full : Mark
full = ended ParkedFull

not_by_cause : (seq : Seq) (n : ℕ) (w : Way) → number n ≡ full → w ≡ over ParkedFull
not_by_cause seq n w e = absurd cc

ended_so : (cause : Cause) → ended cause ≡ full → over cause ≡ over ParkedFull
ended_so cause e = ap over cc

entry_over : (c : ConnId) (fate : Fate) → Contains (entry_mark c fate) full → Contains (way_on c fate) (over ParkedFull)
entry_over c (Taken conn seq message set verdict) has = one_if_has (same_conn conn c) (number seq.0) full (went seq) (over ParkedFull) (not_by_cause seq seq.0 (went seq)) has
entry_over c (Dropped conn seq cause) has = one_if_has (same_conn conn c) (number seq.0) full (way_by cause seq) (over ParkedFull) (not_by_cause seq seq.0 (way_by cause seq)) has
entry_over c (Closed conn cause) has = one_if_has (same_conn conn c) (ended cause) full (over cause) (over ParkedFull) (ended_so cause) has

ready_over : (c : ConnId) (thing : Ready) → Contains (ready_mark c thing) full → Contains (way c thing) (over ParkedFull)
ready_over c (ready.Deliver delivery) has = one_if_has (same_conn delivery.conn c) (number delivery.seq.0) full (went delivery.seq) (over ParkedFull) (not_by_cause delivery.seq delivery.seq.0 (went delivery.seq)) has
ready_over c (ready.Dropped conn seq cause) has = one_if_has (same_conn conn c) (number seq.0) full (way_by cause seq) (over ParkedFull) (not_by_cause seq seq.0 (way_by cause seq)) has
ready_over c (ready.Closed conn cause) has = one_if_has (same_conn conn c) (ended cause) full (over cause) (over ParkedFull) (ended_so cause) has
ready_over c (ready.Local command) has = absurd (not_of_none full has)

over_in : (c : ConnId) (journal : List Fate) (things : List Ready) → Contains (marks_on c journal ++ marks_ready c things) full → Contains (ways_on c journal ++ ways c things) (over ParkedFull)
over_in c journal things has = elim (Contains-append_cases (marks_on c journal) (marks_ready c things) full has) [
  | inl here ↦ Contains-append_left (ways_on c journal) (ways c things) (over ParkedFull) (flat_has (entry_mark c) (way_on c) full (over ParkedFull) (entry_over c) journal here)
  | inr there ↦ Contains-append_right (ways_on c journal) (ways c things) (over ParkedFull) (flat_has (ready_mark c) (way c) full (over ParkedFull) (ready_over c) things there)
]

-- ---- which others end so

went_so : (w : Way) → HasWent w → w ≡ over ParkedFull → ⊥
went_so w has e = subst HasWent e has

all_went : (ws : List Way) → AllWent ws → Contains ws (over ParkedFull) → ⊥
all_went [] all has = not_of_none (over ParkedFull) has
all_went (w ∷ ws) all has = elim (Contains-append_cases (w ∷ []) ws (over ParkedFull) has) [
  | inl here ↦ went_so w all.0 (of_one w (over ParkedFull) here)
  | inr behind ↦ all_went ws all.1 behind
]

by_close_so : (seq : Seq) → by_close seq ≡ over ParkedFull → ⊥
by_close_so seq e = cc

all_closed : (seqs : List Seq) → Contains (map by_close seqs) (over ParkedFull) → ⊥
all_closed [] has = not_of_none (over ParkedFull) has
all_closed (seq ∷ seqs) has = elim (Contains-append_cases (by_close seq ∷ []) (map by_close seqs) (over ParkedFull) has) [
  | inl here ↦ by_close_so seq (of_one (by_close seq) (over ParkedFull) here)
  | inr behind ↦ all_closed seqs behind
]

same_cause : (cause : Cause) → over cause ≡ over ParkedFull → cause ≡ ParkedFull
same_cause cause e = cc

closed_off : (start : Settled) (slots : ℕ → ℕ) (taken : List Inbound) (c : ConnId) (ws : List Way) → IsClosedOff start slots taken c ws → Contains ws (over ParkedFull) → ⊥
closed_off start slots taken c ws is has =
    elim (Contains-append_cases is.front (map by_close is.seqs ++ over is.cause ∷ []) (over ParkedFull) (subst (λ (xs : List Way). Contains xs (over ParkedFull)) is.ways_are has)) [
      | inl front ↦ all_went is.front is.fates front
      | inr rest ↦ elim (Contains-append_cases (map by_close is.seqs) (over is.cause ∷ []) (over ParkedFull) rest) [
        | inl closed ↦ all_closed is.seqs closed
        | inr last ↦ is.outside (same_cause is.cause (of_one (over is.cause) (over ParkedFull) last))
      ]
    ]

-- ---- numbers

number_if : (b : Bool) (m : Mark) (w : Way) → number_in m ≡ number_of w → numbers_in (one_if b m) ≡ numbers_of (one_if b w)
number_if true m w e = ap (λ (ns : List ℕ). ns ++ []) e
number_if false m w e = refl

numbers_flat : {X : Type 0} (f : X → List Mark) (g : X → List Way) → ((x : X) → numbers_in (f x) ≡ numbers_of (g x)) → (xs : List X) → numbers_in (flat_map f xs) ≡ numbers_of (flat_map g xs)
numbers_flat f g one [] = refl
numbers_flat f g one (x ∷ xs) =
    flat_map-append number_in (f x) (flat_map f xs)
    ∙ ap (λ (ns : List ℕ). ns ++ numbers_in (flat_map f xs)) (one x)
    ∙ ap (λ (ns : List ℕ). numbers_of (g x) ++ ns) (numbers_flat f g one xs)
    ∙ sym (flat_map-append number_of (g x) (flat_map g xs))

number_by : (cause : DropCause) (seq : Seq) → seq.0 ∷ [] ≡ number_of (way_by cause seq)
number_by BadSet seq = refl
number_by GaveUp seq = refl
number_by ByClose seq = refl
number_by ByFull seq = refl

entry_number : (c : ConnId) (fate : Fate) → numbers_in (entry_mark c fate) ≡ numbers_of (way_on c fate)
entry_number c (Taken conn seq message set verdict) = number_if (same_conn conn c) (number seq.0) (went seq) refl
entry_number c (Dropped conn seq cause) = number_if (same_conn conn c) (number seq.0) (way_by cause seq) (number_by cause seq)
entry_number c (Closed conn cause) = number_if (same_conn conn c) (ended cause) (over cause) refl

ready_number : (c : ConnId) (thing : Ready) → numbers_in (ready_mark c thing) ≡ numbers_of (way c thing)
ready_number c (ready.Deliver delivery) = number_if (same_conn delivery.conn c) (number delivery.seq.0) (went delivery.seq) refl
ready_number c (ready.Dropped conn seq cause) = number_if (same_conn conn c) (number seq.0) (way_by cause seq) (number_by cause seq)
ready_number c (ready.Closed conn cause) = number_if (same_conn conn c) (ended cause) (over cause) refl
ready_number c (ready.Local command) = refl

numbers_are : (c : ConnId) (journal : List Fate) (things : List Ready) → numbers_in (marks_on c journal ++ marks_ready c things) ≡ numbers_of (ways_on c journal ++ ways c things)
numbers_are c journal things =
    flat_map-append number_in (marks_on c journal) (marks_ready c things)
    ∙ ap (λ (ns : List ℕ). ns ++ numbers_in (marks_ready c things)) (numbers_flat (entry_mark c) (way_on c) (entry_number c) journal)
    ∙ ap (λ (ns : List ℕ). numbers_of (ways_on c journal) ++ ns) (numbers_flat (ready_mark c) (way c) (ready_number c) things)
    ∙ sym (flat_map-append number_of (ways_on c journal) (ways c things))

-- ---- a cut

pub none_missing : (start : Settled) (slots : ℕ → ℕ) (taken : List Inbound) (c : ConnId) (open' : Bool) (journal : List Fate) (things : List Ready) → Exits start slots taken c open' (ways_on c journal ++ ways c things) → Contains (marks_on c journal ++ marks_ready c things) full → AreAllUpTo (numbers_in (marks_on c journal ++ marks_ready c things))
none_missing start slots taken c open' journal things exits has =
    let ws : List Way = ways_on c journal ++ ways c things in
    let ends : Contains ws (over ParkedFull) = over_in c journal things has in
    elim exits.ended [
      | inl went' ↦ absurd (all_went ws went' ends)
      | inr cut ↦ elim cut [
        | inl closed ↦ absurd (closed_off start slots taken c ws closed ends)
        | inr cut_off ↦ (cut_off.last.seq.0, subst (λ (ns : List ℕ). IsPermutation (range_with_len 0 (cut_off.last.seq.0 + 1)) ns) (sym (numbers_are c journal things)) cut_off.all)
      ]
    ]
