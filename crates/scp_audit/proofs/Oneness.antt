-- Bytes have one audit.
use Rattle.std.proofs.Common.{◌≡◌, ◌≢◌, ℕ, Bool, true, false, List, [], ◌∷◌, refl, sym, ap, subst, ◌∙◌, map}
use Rattle.std.proofs.Math.Path.{fun_ext}
use Rattle.std.specs.Prelude.{Option, Result, Ok, Err, IsTrue, ◌↔◌}
use Rattle.scp_archive.specs.scp_types.specs.declared.names.Hash.{Hash}
use Rattle.scp_archive.specs.scp_quorum.specs.QuorumTree.{QuorumTree}
use Rattle.scp_archive.specs.scp_envelope.specs.declared.statement.Envelope.{Envelope}
use Rattle.scp_archive.specs.scp_envelope.specs.declared.statement.Statement.{Statement}
use Rattle.scp_archive.specs.scp_xdr.specs.Kind.{Values}
use Rattle.scp_archive.specs.Entry.{entry_kind, entry_value}
use Rattle.scp_archive.specs.Stream.{Framed, read_of}
use Rattle.scp_archive.specs.Laws.{EntryIsItsValue, StreamIsOneList, AreSameEntry}
use Rattle.scp_archive.specs.declared.entry.Entry.{Entry}
use Rattle.scp_archive.specs.declared.entries.Unread.{Unread as Reason}
use Rattle.scp_judged.specs.Named.{named, first_there}
use Rattle.scp_judged.specs.Verdicts.{AreVerdicts, VerdictsAreOne, heard_of}
use Rattle.scp_judged.specs.declared.messages.Message.{Message}
use Rattle.scp_judged.specs.declared.verdict.Verdict.{Verdict}
use Rattle.scp_audit.specs.Judging.{NamesAll, IsJudged}
use Rattle.scp_audit.specs.Audit.{nothing_named, Comes, AreAudited, IsArchive}
use Rattle.scp_audit.specs.Laws.{SameRecord, SameRecords}
use Rattle.scp_audit.specs.declared.ledger.Ledger.{Ledger as Judged}
use Rattle.scp_audit.specs.declared.archive.Archive.{Archive}
use Rattle.scp_audit.specs.declared.archive.Record.{Record}
use Rattle.scp_audit.specs.declared.archive.Record.TheVariants.{Ledger, Unread}

abbrev Named : Type 0
Named = Hash → Option QuorumTree

abbrev read_as : Values entry_kind → Result (Values entry_kind) Reason
read_as v = Ok v

abbrev unread_for : Reason → Result (Values entry_kind) Reason
unread_for why = Err why

same_ok : (a b : Values entry_kind) → read_as a ≡ read_as b → a ≡ b
same_ok a b e = cc

same_err : (a b : Reason) → unread_for a ≡ unread_for b → a ≡ b
same_err a b e = cc

ok_or_err : (a : Values entry_kind) (b : Reason) → read_as a ≡ unread_for b → ⊥
ok_or_err a b e = cc

names_one : (a b c : Named) (qs rs : List QuorumTree) → qs ≡ rs → NamesAll a qs b → NamesAll a rs c → b ≡ c
names_one a b c qs rs e h k = fun_ext (λ x. h x ∙ ap (λ (l : List QuorumTree). first_there (a x) (named l x)) e ∙ sym (k x))

abbrev said_in : Entry → List Statement
said_in e = map (λ (m : Envelope). m.statement) e.messages.items

abbrev verdicts_in : Judged → List Verdict
verdicts_in l = map (λ (m : Message). m.verdict) l.judged.messages.items

same_verdicts : VerdictsAreOne → (a b : Named) (e f : Entry) (l m : Judged) → a ≡ b → AreSameEntry e f → IsJudged a e l → IsJudged b f m → (verdicts_in l ≡ verdicts_in m) × (map heard_of l.judged.counting.items ≡ map heard_of m.judged.counting.items)
same_verdicts one a b e f l m sets same h k =
    let here : AreVerdicts a f.ledger [] (said_in f) (verdicts_in m) (map heard_of m.judged.counting.items) = subst (λ (s : Named). AreVerdicts s f.ledger [] (said_in f) (verdicts_in m) (map heard_of m.judged.counting.items)) (sym sets) k.verdicts in
    let there : AreVerdicts a e.ledger [] (said_in f) (verdicts_in m) (map heard_of m.judged.counting.items) = subst (λ (n : ℕ). AreVerdicts a n [] (said_in f) (verdicts_in m) (map heard_of m.judged.counting.items)) (sym same.ledger) here in
    let moved : AreVerdicts a e.ledger [] (said_in e) (verdicts_in m) (map heard_of m.judged.counting.items) = subst (λ (es : List Envelope). AreVerdicts a e.ledger [] (map (λ (x : Envelope). x.statement) es) (verdicts_in m) (map heard_of m.judged.counting.items)) (sym same.messages) there in
    one a e.ledger [] (said_in e) (verdicts_in l) (verdicts_in m) (map heard_of l.judged.counting.items) (map heard_of m.judged.counting.items) h.verdicts moved

same_comes : EntryIsItsValue → VerdictsAreOne → (a b c : Named) (read : Result (Values entry_kind) Reason) (x y : Record) → Comes a read x b → Comes a read y c → SameRecord x y × (b ≡ c)
same_comes value one a b c read (Ledger l) (Ledger m) h k =
    let same : AreSameEntry h.0 k.0 = value h.0 k.0 (same_ok (entry_value h.0) (entry_value k.0) (sym h.1 ∙ k.1)) in
    let sets : b ≡ c = names_one a b c h.0.sets.items k.0.sets.items same.sets h.2 k.2 in
    let judged = same_verdicts one b c h.0 k.0 l m sets same h.3 k.3 in
    ((h.3.number ∙ same.ledger ∙ sym k.3.number, h.3.messages ∙ same.messages ∙ sym k.3.messages, judged.0, judged.1), sets)
same_comes value one a b c read (Ledger l) (Unread why) h k = absurd (ok_or_err (entry_value h.0) why (sym h.1 ∙ k.0))
same_comes value one a b c read (Unread why) (Ledger m) h k = absurd (ok_or_err (entry_value k.0) why (sym k.1 ∙ h.0))
same_comes value one a b c read (Unread why) (Unread other) h k = (same_err why other (sym h.0 ∙ k.0), fun_ext (λ x. h.1 x ∙ sym (k.1 x)))

same_records : EntryIsItsValue → VerdictsAreOne → (a b c : Named) (rs : List Framed) (xs ys : List Record) → AreAudited a rs xs b → AreAudited a rs ys c → SameRecords xs ys
same_records value one a b c [] [] [] h k = tt
same_records value one a b c [] [] (y ∷ ys) h k = absurd k
same_records value one a b c [] (x ∷ xs) ys h k = absurd h
same_records value one a b c (r ∷ rs) [] ys h k = absurd h
same_records value one a b c (r ∷ rs) (x ∷ xs) [] h k = absurd k
same_records value one a b c (r ∷ rs) (x ∷ xs) (y ∷ ys) h k =
    let same = same_comes value one a h.0 k.0 (read_of r) x y h.1 k.1 in
    (same.0, same_records value one h.0 b c rs xs ys h.2 (subst (λ (s : Named). AreAudited s rs ys c) (sym same.1) k.2))

same_bool : (b c : Bool) (P : Type 0) → IsTrue b ↔ P → IsTrue c ↔ P → b ≡ c
same_bool true true P h k = refl
same_bool true false P h k = (let t : false ≡ true = k.1 (h.0 refl) in absurd cc)
same_bool false true P h k = (let t : false ≡ true = h.1 (k.0 refl) in absurd cc)
same_bool false false P h k = refl

pub one_audit : StreamIsOneList → EntryIsItsValue → VerdictsAreOne → (bytes : List ℕ) (a b : Archive) → IsArchive bytes a → IsArchive bytes b → (a.is_cut ≡ b.is_cut) × SameRecords a.records.items b.records.items
one_audit stream value one bytes a b h k =
    let same = stream bytes h.records k.records h.rest k.rest h.stream k.stream h.ends k.ends in
    let cut : IsTrue b.is_cut ↔ (h.rest ≢ []) = subst (λ (l : List ℕ). IsTrue b.is_cut ↔ (l ≢ [])) (sym same.1) k.cut in
    let audited : AreAudited nothing_named h.records b.records.items k.last = subst (λ (rs : List Framed). AreAudited nothing_named rs b.records.items k.last) (sym same.0) k.audited in
    (same_bool a.is_cut b.is_cut (h.rest ≢ []) h.cut cut, same_records value one nothing_named h.last k.last h.records a.records.items b.records.items h.audited audited)
