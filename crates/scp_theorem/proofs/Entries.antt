-- What the entries of a journal say, by the ready things that they are of.
use Rattle.std.proofs.Common.{◌≡◌, ℕ, zero, suc, true, List, [], ◌∷◌, ◌++◌, refl, sym, ◌∙◌, ap, subst}
use Rattle.std.specs.Prelude.{Some, slice_get, flat_map, map}
use Rattle.std.specs.List.{AllByRecursion}
use Rattle.scp_outbox.specs.scp_types.specs.declared.names.ConnId.{ConnId}
use Rattle.scp_outbox.specs.scp_wire.specs.declared.message.Message.{Message}
use Rattle.scp_outbox.specs.scp_wire.specs.declared.link.Inbound.{Inbound}
use Rattle.scp_outbox.specs.scp_wire.specs.Connections.{same_conn}
use Rattle.scp_outbox.specs.scp_wire.specs.Marks.{Mark, number, ended, one_if}
use Rattle.scp_apply.specs.scp_pending.specs.declared.ready.Ready.{Ready}
use Rattle.scp_apply.specs.scp_pending.specs.declared.ready.Ready.TheVariants as ready
use Rattle.scp_apply.specs.scp_pending.specs.Line.{marks_of, HaveMessages}
use Rattle.scp_apply.specs.scp_pending.specs.Rules.{Settled}
use Rattle.scp_apply.specs.scp_pending.specs.Causes.{IsTaken, HasCause}
use Rattle.scp_apply.specs.scp_pending.specs.Endings.{Way, went, over, way_by, ways}
use Rattle.scp_apply.specs.scp_pending.specs.Linked.{IsReadyOf}
use Rattle.scp_apply.specs.scp_ledger.specs.declared.journal.Fate.{Fate}
use Rattle.scp_apply.specs.scp_ledger.specs.declared.journal.Fate.TheVariants.{Taken, Dropped, Closed}
use Rattle.scp_apply.specs.scp_ledger.specs.Journals.{Entry, taken, dropped, closed, entry_in, entry_of}
use Rattle.scp_apply.specs.scp_ledger.specs.Marks.{marks_of as marks_on}
use Rattle.scp_theorem.specs.Fates.{HasItsNumber, FateHasCause, conn_of, ways_on}

-- the journal has one entry for each thing that was taken but the commands
abbrev pub AreOf : List Fate → List Ready → Type 0
AreOf fates took = map entry_in fates ≡ flat_map entry_of took

-- ---- marks

abbrev entry_mark : ConnId → Entry → List Mark
entry_mark c (taken conn seq message set) = one_if (same_conn conn c) (number seq.0)
entry_mark c (dropped conn seq cause) = one_if (same_conn conn c) (number seq.0)
entry_mark c (closed conn cause) = one_if (same_conn conn c) (ended cause)

journal_marks : (c : ConnId) (fates : List Fate) → marks_on c fates ≡ flat_map (entry_mark c) (map entry_in fates)
journal_marks c [] = refl
journal_marks c (Taken conn seq message set verdict ∷ fates) = ap (λ ms. one_if (same_conn conn c) (number seq.0) ++ ms) (journal_marks c fates)
journal_marks c (Dropped conn seq cause ∷ fates) = ap (λ ms. one_if (same_conn conn c) (number seq.0) ++ ms) (journal_marks c fates)
journal_marks c (Closed conn cause ∷ fates) = ap (λ ms. one_if (same_conn conn c) (ended cause) ++ ms) (journal_marks c fates)

ready_marks : (c : ConnId) (things : List Ready) → marks_of c things ≡ flat_map (entry_mark c) (flat_map entry_of things)
ready_marks c [] = refl
ready_marks c (ready.Deliver d ∷ rs) = ap (λ ms. one_if (same_conn d.conn c) (number d.seq.0) ++ ms) (ready_marks c rs)
ready_marks c (ready.Dropped conn seq cause ∷ rs) = ap (λ ms. one_if (same_conn conn c) (number seq.0) ++ ms) (ready_marks c rs)
ready_marks c (ready.Closed conn cause ∷ rs) = ap (λ ms. one_if (same_conn conn c) (ended cause) ++ ms) (ready_marks c rs)
ready_marks c (ready.Local command ∷ rs) = ready_marks c rs

pub same_marks : (c : ConnId) (took : List Ready) (fates : List Fate) → AreOf fates took → marks_on c fates ≡ marks_of c took
same_marks c took fates e = journal_marks c fates ∙ ap (flat_map (entry_mark c)) e ∙ sym (ready_marks c took)

-- ---- ways

abbrev entry_way : ConnId → Entry → List Way
entry_way c (taken conn seq message set) = one_if (same_conn conn c) (went seq)
entry_way c (dropped conn seq cause) = one_if (same_conn conn c) (way_by cause seq)
entry_way c (closed conn cause) = one_if (same_conn conn c) (over cause)

fate_ways : (c : ConnId) (fates : List Fate) → ways_on c fates ≡ flat_map (entry_way c) (map entry_in fates)
fate_ways c [] = refl
fate_ways c (Taken conn seq message set verdict ∷ fates) = ap (λ ws. one_if (same_conn conn c) (went seq) ++ ws) (fate_ways c fates)
fate_ways c (Dropped conn seq cause ∷ fates) = ap (λ ws. one_if (same_conn conn c) (way_by cause seq) ++ ws) (fate_ways c fates)
fate_ways c (Closed conn cause ∷ fates) = ap (λ ws. one_if (same_conn conn c) (over cause) ++ ws) (fate_ways c fates)

thing_ways : (c : ConnId) (things : List Ready) → ways c things ≡ flat_map (entry_way c) (flat_map entry_of things)
thing_ways c [] = refl
thing_ways c (ready.Deliver d ∷ rs) = ap (λ ws. one_if (same_conn d.conn c) (went d.seq) ++ ws) (thing_ways c rs)
thing_ways c (ready.Dropped conn seq cause ∷ rs) = ap (λ ws. one_if (same_conn conn c) (way_by cause seq) ++ ws) (thing_ways c rs)
thing_ways c (ready.Closed conn cause ∷ rs) = ap (λ ws. one_if (same_conn conn c) (over cause) ++ ws) (thing_ways c rs)
thing_ways c (ready.Local command ∷ rs) = thing_ways c rs

pub same_ways : (c : ConnId) (took : List Ready) (fates : List Fate) → AreOf fates took → ways c took ≡ ways_on c fates
same_ways c took fates e = thing_ways c took ∙ ap (flat_map (entry_way c)) (sym e) ∙ sym (fate_ways c fates)

-- ---- messages under their numbers

abbrev IsRight : ConnId → List Message → Entry → Type 0
IsRight c messages (taken conn seq message set) = same_conn conn c ≡ true → slice_get messages seq.0 ≡ Some message
IsRight c messages (dropped conn seq cause) = Unit {0}
IsRight c messages (closed conn cause) = Unit {0}

entries_right : (c : ConnId) (messages : List Message) (things : List Ready) → HaveMessages c messages things → AllByRecursion (IsRight c messages) (flat_map entry_of things)
entries_right c messages [] a = tt
entries_right c messages (ready.Deliver d ∷ rs) a = (a.0, entries_right c messages rs a.1)
entries_right c messages (ready.Dropped conn seq cause ∷ rs) a = (tt, entries_right c messages rs a.1)
entries_right c messages (ready.Closed conn cause ∷ rs) a = (tt, entries_right c messages rs a.1)
entries_right c messages (ready.Local command ∷ rs) a = entries_right c messages rs a.1

-- with more messages sent
still_there : {X : Type 0} (xs ys : List X) (n : ℕ) (x : X) → slice_get xs n ≡ Some x → slice_get (xs ++ ys) n ≡ Some x
still_there [] ys n x e = cc
still_there (z ∷ zs) ys zero x e = e
still_there (z ∷ zs) ys (suc n) x e = still_there zs ys n x e

fates_right : (c : ConnId) (messages later : List Message) (fates : List Fate) → AllByRecursion (IsRight c messages) (map entry_in fates) → AllByRecursion (HasItsNumber c (messages ++ later)) fates
fates_right c messages later [] a = tt
fates_right c messages later (Taken conn seq message set verdict ∷ fates) a = (λ s. still_there messages later seq.0 message (a.0 s), fates_right c messages later fates a.1)
fates_right c messages later (Dropped conn seq cause ∷ fates) a = (tt, fates_right c messages later fates a.1)
fates_right c messages later (Closed conn cause ∷ fates) a = (tt, fates_right c messages later fates a.1)

pub journal_right : (c : ConnId) (messages later : List Message) (took : List Ready) (fates : List Fate) → AreOf fates took → HaveMessages c messages took → AllByRecursion (HasItsNumber c (messages ++ later)) fates
journal_right c messages later took fates e a = fates_right c messages later fates (subst (λ (es : List Entry). AllByRecursion (IsRight c messages) es) (sym e) (entries_right c messages took a))

-- ---- causes

abbrev EntryHasCause : Settled → List Inbound → Entry → Type 0
EntryHasCause start came (taken conn seq message set) = IsTaken start came (record { conn = conn; seq = seq; message = message; set = set })
EntryHasCause start came (dropped conn seq cause) = HasCause start came (ready.Dropped conn seq cause)
EntryHasCause start came (closed conn cause) = HasCause start came (ready.Closed conn cause)

things_caused : (start : Settled) (came : List Inbound) (things : List Ready) → AllByRecursion (HasCause start came) things → AllByRecursion (EntryHasCause start came) (flat_map entry_of things)
things_caused start came [] a = tt
things_caused start came (ready.Deliver d ∷ rs) a = (a.0, things_caused start came rs a.1)
things_caused start came (ready.Dropped conn seq cause ∷ rs) a = (a.0, things_caused start came rs a.1)
things_caused start came (ready.Closed conn cause ∷ rs) a = (a.0, things_caused start came rs a.1)
things_caused start came (ready.Local command ∷ rs) a = things_caused start came rs a.1

fates_caused : (start : Settled) (came : List Inbound) (fates : List Fate) → AllByRecursion (EntryHasCause start came) (map entry_in fates) → AllByRecursion (FateHasCause start came) fates
fates_caused start came [] a = tt
fates_caused start came (Taken conn seq message set verdict ∷ fates) a = (a.0, fates_caused start came fates a.1)
fates_caused start came (Dropped conn seq cause ∷ fates) a = (a.0, fates_caused start came fates a.1)
fates_caused start came (Closed conn cause ∷ fates) a = (a.0, fates_caused start came fates a.1)

pub journal_caused : (start : Settled) (came : List Inbound) (took : List Ready) (fates : List Fate) → AreOf fates took → AllByRecursion (HasCause start came) took → AllByRecursion (FateHasCause start came) fates
journal_caused start came took fates e a = fates_caused start came fates (subst (λ (es : List Entry). AllByRecursion (EntryHasCause start came) es) (sym e) (things_caused start came took a))

-- ---- whose they are

abbrev EntryIsOf : (ConnId → Type 0) → Entry → Type 0
EntryIsOf P (taken conn seq message set) = P conn
EntryIsOf P (dropped conn seq cause) = P conn
EntryIsOf P (closed conn cause) = P conn

things_of : (P : ConnId → Type 0) (things : List Ready) → AllByRecursion (IsReadyOf P) things → AllByRecursion (EntryIsOf P) (flat_map entry_of things)
things_of P [] a = tt
things_of P (ready.Deliver d ∷ rs) a = (a.0, things_of P rs a.1)
things_of P (ready.Dropped conn seq cause ∷ rs) a = (a.0, things_of P rs a.1)
things_of P (ready.Closed conn cause ∷ rs) a = (a.0, things_of P rs a.1)
things_of P (ready.Local command ∷ rs) a = things_of P rs a.1

fates_of : (P : ConnId → Type 0) (fates : List Fate) → AllByRecursion (EntryIsOf P) (map entry_in fates) → AllByRecursion (λ fate. P (conn_of fate)) fates
fates_of P [] a = tt
fates_of P (Taken conn seq message set verdict ∷ fates) a = (a.0, fates_of P fates a.1)
fates_of P (Dropped conn seq cause ∷ fates) a = (a.0, fates_of P fates a.1)
fates_of P (Closed conn cause ∷ fates) a = (a.0, fates_of P fates a.1)

pub journal_of : (P : ConnId → Type 0) (took : List Ready) (fates : List Fate) → AreOf fates took → AllByRecursion (IsReadyOf P) took → AllByRecursion (λ fate. P (conn_of fate)) fates
journal_of P took fates e a = fates_of P fates (subst (λ (es : List Entry). AllByRecursion (EntryIsOf P) es) (sym e) (things_of P took a))
