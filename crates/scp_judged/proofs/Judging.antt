-- Verdicts, one after another.
use Rattle.std.proofs.Common.{◌≡◌, ℕ, Bool, true, false, List, [], ◌∷◌, ◌++◌, refl, sym, ap, subst, ◌∙◌, append-nil, ◌≢◌}
use Rattle.std.specs.Prelude.{Option, Some, None, IsSomeAnd, IsTrue, ◌↔◌, option_to_list, map}
use Rattle.std.specs.List.{AllByRecursion}
use Rattle.std.specs.Option.{option_map, ForSome}
use Rattle.scp_ledger.specs.scp_types.specs.declared.names.Hash.{Hash}
use Rattle.scp_ledger.specs.scp_types.specs.declared.names.NodeId.{NodeId}
use Rattle.scp_ledger.specs.scp_quorum.specs.QuorumTree.{QuorumTree}
use Rattle.scp_ledger.specs.scp_quorum.specs.Sane.{IsSane as IsSaneSet}
use Rattle.scp_ledger.specs.scp_envelope.specs.declared.statement.Statement.{Statement}
use Rattle.scp_ledger.specs.scp_envelope.specs.declared.statement.Envelope.{Envelope}
use Rattle.scp_ledger.specs.scp_envelope.specs.Kinds.{set_hash_of}
use Rattle.scp_ledger.specs.scp_envelope.specs.Newer.{IsNewer}
use Rattle.scp_ledger.specs.scp_vote.specs.Board.{kind_of_pledges}
use Rattle.scp_ledger.specs.scp_vote.specs.declared.claim.StatementKind.{StatementKind}
use Rattle.scp_ledger.specs.Journal.{Heard}
use Rattle.scp_judged.specs.declared.verdict.Verdict.{Verdict}
use Rattle.scp_judged.specs.declared.verdict.Verdict.TheVariants.{Counts, OtherSlot, Insane, MissingSet, BadSet, NotNewer}
use Rattle.scp_judged.specs.Verdicts.{IsFit, IsNext, IsVerdict, last_statement, heard_with, added, AreVerdicts, heard_of}
use Rattle.scp_judged.specs.declared.newest.Newest.{Newest}
use Rattle.scp_judged.specs.declared.messages.Message.{Message}
use Rattle.scp_judged.specs.declared.messages.Judged.{Judged}
use Rattle.scp_judged.specs.inside.Newest.{newest_in, KeepsLast, Enters}
use Rattle.scp_judged.specs.inside.Lacking.{LacksSet}
use Rattle.scp_judged.specs.inside.Judging.{envelopes_of, verdicts_of, TakesMessage}
use Rattle.scp_judged.specs.declared.verdict.Said.{Said}
use Rattle.scp_judged.specs.Certified.{IsSaneHeard}
use Rattle.scp_judged.proofs.Saying.{keeps_more}

abbrev pub Last : Type 0
Last = StatementKind → NodeId → Option Statement

next_same : (a b : Last) (s : Statement) → ((kind : StatementKind) (v : NodeId) → a kind v ≡ b kind v) → IsNext a s → IsNext b s
next_same a b s e h = subst (λ (o : Option Statement). ForSome o (λ t. IsNewer t s)) (e (kind_of_pledges s.pledges) s.node) h

-- a verdict by the same last statements
pub verdict_same : (sets : Hash → Option QuorumTree) (at : ℕ) (a b : Last) (s : Statement) (v : Verdict) → ((kind : StatementKind) (w : NodeId) → a kind w ≡ b kind w) → IsVerdict sets at a s v → IsVerdict sets at b s v
verdict_same sets at a b s Counts e h = (h.0, h.1, next_same a b s e h.2)
verdict_same sets at a b s OtherSlot e h = h
verdict_same sets at a b s Insane e h = h
verdict_same sets at a b s MissingSet e h = h
verdict_same sets at a b s BadSet e h = h
verdict_same sets at a b s NotNewer e h = (h.0, h.1, λ n. h.2 (next_same b a s (λ kind w. sym (e kind w)) n))

pub verdicts_more : (sets : Hash → Option QuorumTree) (at : ℕ) (first : List Heard) (ss : List Statement) (vs : List Verdict) (mid : List Heard) (s : Statement) (v : Verdict) → AreVerdicts sets at first ss vs mid → IsVerdict sets at (last_statement mid) s v → AreVerdicts sets at first (ss ++ s ∷ []) (vs ++ v ∷ []) (mid ++ added sets s v)
verdicts_more sets at first [] [] mid s v h i =
    (subst (λ (hs : List Heard). IsVerdict sets at (last_statement hs) s v) h i, ap (λ (hs : List Heard). hs ++ added sets s v) h)
verdicts_more sets at first [] (w ∷ ws) mid s v h i = absurd h
verdicts_more sets at first (t ∷ ts) [] mid s v h i = absurd h
verdicts_more sets at first (t ∷ ts) (w ∷ ws) mid s v h i = (h.0, verdicts_more sets at (first ++ added sets t w) ts ws mid s v h.1 i)

-- ---- what counts is sane

all_both : (xs ys : List Heard) → AllByRecursion IsSaneHeard xs → AllByRecursion IsSaneHeard ys → AllByRecursion IsSaneHeard (xs ++ ys)
all_both [] ys p q = q
all_both (x ∷ xs) ys p q = (p.0, all_both xs ys p.1 q)

one_sane : (s : Statement) (o : Option QuorumTree) (at : ℕ) → IsFit at s → AllByRecursion IsSaneHeard (option_to_list (option_map (heard_with s) o))
one_sane s None at fit = tt
one_sane s (Some q) at fit = (fit.sane, tt)

added_sane : (sets : Hash → Option QuorumTree) (at : ℕ) (last : Last) (s : Statement) (v : Verdict) → IsVerdict sets at last s v → AllByRecursion IsSaneHeard (added sets s v)
added_sane sets at last s Counts h = one_sane s (sets (set_hash_of s.pledges)) at h.0
added_sane sets at last s OtherSlot h = tt
added_sane sets at last s Insane h = tt
added_sane sets at last s MissingSet h = tt
added_sane sets at last s BadSet h = tt
added_sane sets at last s NotNewer h = tt

pub verdicts_sane : (sets : Hash → Option QuorumTree) (at : ℕ) (first : List Heard) (ss : List Statement) (vs : List Verdict) (last : List Heard) → AllByRecursion IsSaneHeard first → AreVerdicts sets at first ss vs last → AllByRecursion IsSaneHeard last
verdicts_sane sets at first [] [] last p h = subst (λ (hs : List Heard). AllByRecursion IsSaneHeard hs) (sym h) p
verdicts_sane sets at first [] (v ∷ vs) last p h = absurd h
verdicts_sane sets at first (s ∷ ss) [] last p h = absurd h
verdicts_sane sets at first (s ∷ ss) (v ∷ vs) last p h =
    verdicts_sane sets at (first ++ added sets s v) ss vs last (all_both first (added sets s v) p (added_sane sets at (last_statement first) s v h.0)) h.1

-- ---- one verdict

both : {X : Type 0} (o : Option X) (P : X → Type 0) → IsSomeAnd o (λ x. ¬ P x) → IsSomeAnd o P → ⊥
both None P h k = h
both (Some x) P h k = h k

none_and : {X : Type 0} (o : Option X) (P : X → Type 0) → o ≡ None → IsSomeAnd o P → ⊥
none_and None P e h = h
none_and (Some x) P e h = cc

pub same_verdict : (sets : Hash → Option QuorumTree) (at : ℕ) (last : Last) (s : Statement) (v w : Verdict) → IsVerdict sets at last s v → IsVerdict sets at last s w → v ≡ w
same_verdict sets at last s Counts Counts h k = refl
same_verdict sets at last s Counts OtherSlot h k = absurd (k h.0.slot)
same_verdict sets at last s Counts Insane h k = absurd (k.1 h.0.sane)
same_verdict sets at last s Counts MissingSet h k = absurd (none_and (sets (set_hash_of s.pledges)) IsSaneSet k.1 h.1)
same_verdict sets at last s Counts BadSet h k = absurd (both (sets (set_hash_of s.pledges)) IsSaneSet k.1 h.1)
same_verdict sets at last s Counts NotNewer h k = absurd (k.2 h.2)
same_verdict sets at last s OtherSlot Counts h k = absurd (h k.0.slot)
same_verdict sets at last s OtherSlot OtherSlot h k = refl
same_verdict sets at last s OtherSlot Insane h k = absurd (h k.0)
same_verdict sets at last s OtherSlot MissingSet h k = absurd (h k.0.slot)
same_verdict sets at last s OtherSlot BadSet h k = absurd (h k.0.slot)
same_verdict sets at last s OtherSlot NotNewer h k = absurd (h k.0.slot)
same_verdict sets at last s Insane Counts h k = absurd (h.1 k.0.sane)
same_verdict sets at last s Insane OtherSlot h k = absurd (k h.0)
same_verdict sets at last s Insane Insane h k = refl
same_verdict sets at last s Insane MissingSet h k = absurd (h.1 k.0.sane)
same_verdict sets at last s Insane BadSet h k = absurd (h.1 k.0.sane)
same_verdict sets at last s Insane NotNewer h k = absurd (h.1 k.0.sane)
same_verdict sets at last s MissingSet Counts h k = absurd (none_and (sets (set_hash_of s.pledges)) IsSaneSet h.1 k.1)
same_verdict sets at last s MissingSet OtherSlot h k = absurd (k h.0.slot)
same_verdict sets at last s MissingSet Insane h k = absurd (k.1 h.0.sane)
same_verdict sets at last s MissingSet MissingSet h k = refl
same_verdict sets at last s MissingSet BadSet h k = absurd (none_and (sets (set_hash_of s.pledges)) (λ q. ¬ IsSaneSet q) h.1 k.1)
same_verdict sets at last s MissingSet NotNewer h k = absurd (none_and (sets (set_hash_of s.pledges)) IsSaneSet h.1 k.1)
same_verdict sets at last s BadSet Counts h k = absurd (both (sets (set_hash_of s.pledges)) IsSaneSet h.1 k.1)
same_verdict sets at last s BadSet OtherSlot h k = absurd (k h.0.slot)
same_verdict sets at last s BadSet Insane h k = absurd (k.1 h.0.sane)
same_verdict sets at last s BadSet MissingSet h k = absurd (none_and (sets (set_hash_of s.pledges)) (λ q. ¬ IsSaneSet q) k.1 h.1)
same_verdict sets at last s BadSet BadSet h k = refl
same_verdict sets at last s BadSet NotNewer h k = absurd (both (sets (set_hash_of s.pledges)) IsSaneSet h.1 k.1)
same_verdict sets at last s NotNewer Counts h k = absurd (h.2 k.2)
same_verdict sets at last s NotNewer OtherSlot h k = absurd (k h.0.slot)
same_verdict sets at last s NotNewer Insane h k = absurd (k.1 h.0.sane)
same_verdict sets at last s NotNewer MissingSet h k = absurd (none_and (sets (set_hash_of s.pledges)) IsSaneSet k.1 h.1)
same_verdict sets at last s NotNewer BadSet h k = absurd (both (sets (set_hash_of s.pledges)) IsSaneSet k.1 h.1)
same_verdict sets at last s NotNewer NotNewer h k = refl

pub verdicts_one : (sets : Hash → Option QuorumTree) (at : ℕ) (first : List Heard) (ss : List Statement) (vs ws : List Verdict) (x y : List Heard) → AreVerdicts sets at first ss vs x → AreVerdicts sets at first ss ws y → (vs ≡ ws) × (x ≡ y)
verdicts_one sets at first [] [] [] x y h k = (refl, h ∙ sym k)
verdicts_one sets at first [] [] (w ∷ ws) x y h k = absurd k
verdicts_one sets at first [] (v ∷ vs) ws x y h k = absurd h
verdicts_one sets at first (s ∷ ss) [] ws x y h k = absurd h
verdicts_one sets at first (s ∷ ss) (v ∷ vs) [] x y h k = absurd k
verdicts_one sets at first (s ∷ ss) (v ∷ vs) (w ∷ ws) x y h k =
    let same : v ≡ w = same_verdict sets at (last_statement first) s v w h.0 k.0 in
    let moved : AreVerdicts sets at (first ++ added sets s v) ss ws y = subst (λ (u : Verdict). AreVerdicts sets at (first ++ added sets s u) ss ws y) (sym same) k.1 in
    let rest = verdicts_one sets at (first ++ added sets s v) ss vs ws x y h.1 moved in
    (ap (λ (u : Verdict). u ∷ vs) same ∙ ap (λ (us : List Verdict). w ∷ us) rest.0, rest.1)

-- ---- which verdict, by what was found

pub lacks_why : (sets : Hash → Option QuorumTree) (at : ℕ) (last : Last) (s : Statement) (hash : Hash) (v : Verdict) → hash ≡ set_hash_of s.pledges → IsFit at s → LacksSet (sets hash) v → IsVerdict sets at last s v
lacks_why sets at last s hash Counts e fit h = absurd h
lacks_why sets at last s hash OtherSlot e fit h = absurd h
lacks_why sets at last s hash Insane e fit h = absurd h
lacks_why sets at last s hash MissingSet e fit h = (fit, ap sets (sym e) ∙ h)
lacks_why sets at last s hash BadSet e fit h = (fit, subst (λ (k : Hash). IsSomeAnd (sets k) (λ q. ¬ IsSaneSet q)) e h)
lacks_why sets at last s hash NotNewer e fit h = absurd h

pub lacks_not : (o : Option QuorumTree) (v : Verdict) → LacksSet o v → v ≢ Counts
lacks_not o Counts h = absurd h
lacks_not o OtherSlot h = absurd h
lacks_not o Insane h = absurd h
lacks_not o MissingSet h = λ e. cc
lacks_not o BadSet h = λ e. cc
lacks_not o NotNewer h = absurd h

has_sane : (sets : Hash → Option QuorumTree) (s : Statement) (hash : Hash) (q : QuorumTree) → hash ≡ set_hash_of s.pledges → sets hash ≡ Some q → IsSaneSet q → IsSomeAnd (sets (set_hash_of s.pledges)) IsSaneSet
has_sane sets s hash q e found sane = subst (λ (o : Option QuorumTree). IsSomeAnd o IsSaneSet) (sym (ap sets (sym e) ∙ found)) sane

pub counts_why : (sets : Hash → Option QuorumTree) (at : ℕ) (last : Last) (s : Statement) (hash : Hash) (q : QuorumTree) (b : Bool) → hash ≡ set_hash_of s.pledges → IsFit at s → sets hash ≡ Some q → IsSaneSet q → IsTrue b ↔ IsNext last s → b ≡ true → IsVerdict sets at last s Counts
counts_why sets at last s hash q b e fit found sane tells is = (fit, has_sane sets s hash q e found sane, tells.0 is)

pub not_newer_why : (sets : Hash → Option QuorumTree) (at : ℕ) (last : Last) (s : Statement) (hash : Hash) (q : QuorumTree) (b : Bool) → hash ≡ set_hash_of s.pledges → IsFit at s → sets hash ≡ Some q → IsSaneSet q → IsTrue b ↔ IsNext last s → b ≡ false → IsVerdict sets at last s NotNewer
not_newer_why sets at last s hash q b e fit found sane tells isnt = (fit, has_sane sets s hash q e found sane, λ n. (let t : false ≡ true = sym isnt ∙ tells.1 n in cc))

-- ---- one message more

map_push : {X Y : Type 0} (f : X → Y) (xs : List X) (x : X) → map f (xs ++ x ∷ []) ≡ map f xs ++ f x ∷ []
map_push f [] x = refl
map_push f (y ∷ ys) x = ap (λ l. f y ∷ l) (map_push f ys x)

pub added_counts : (sets : Hash → Option QuorumTree) (s : Statement) (q : QuorumTree) → sets (set_hash_of s.pledges) ≡ Some q → added sets s Counts ≡ heard_with s q ∷ []
added_counts sets s q e = ap (λ (o : Option QuorumTree). option_to_list (option_map (heard_with s) o)) e

added_none : (sets : Hash → Option QuorumTree) (s : Statement) (v : Verdict) → v ≢ Counts → added sets s v ≡ []
added_none sets s Counts n = absurd (n refl)
added_none sets s OtherSlot n = refl
added_none sets s Insane n = refl
added_none sets s MissingSet n = refl
added_none sets s BadSet n = refl
added_none sets s NotNewer n = refl

took : (sets : Hash → Option QuorumTree) (at : ℕ) (newest : Newest) (old new : Judged) (e : Envelope) (v : Verdict) (m : Message) → KeepsLast newest (map heard_of old.counting.items) → IsVerdict sets at (newest_in newest) e.statement v → new.messages.items ≡ old.messages.items ++ m ∷ [] → m.envelope ≡ e → m.verdict ≡ v → map heard_of new.counting.items ≡ map heard_of old.counting.items ++ added sets e.statement v → TakesMessage sets at old new e
took sets at newest old new e v m keeps fits more same said counting = record {
  verdict = v;
  fits = verdict_same sets at (newest_in newest) (last_statement (map heard_of old.counting.items)) e.statement v keeps fits;
  messages = ap (map (λ (k : Message). k.envelope)) more ∙ map_push (λ (k : Message). k.envelope) old.messages.items m ∙ ap (λ (k : Envelope). envelopes_of old ++ k ∷ []) same;
  verdicts = ap (map (λ (k : Message). k.verdict)) more ∙ map_push (λ (k : Message). k.verdict) old.messages.items m ∙ ap (λ (k : Verdict). verdicts_of old ++ k ∷ []) said;
  counting = counting;
}

pub took_counting : (sets : Hash → Option QuorumTree) (at : ℕ) (newest : Newest) (old new : Judged) (e : Envelope) (q : QuorumTree) (m : Message) → KeepsLast newest (map heard_of old.counting.items) → IsVerdict sets at (newest_in newest) e.statement Counts → sets (set_hash_of e.statement.pledges) ≡ Some q → new.messages.items ≡ old.messages.items ++ m ∷ [] → m.envelope ≡ e → m.verdict ≡ Counts → map heard_of new.counting.items ≡ map heard_of old.counting.items ++ heard_with e.statement q ∷ [] → TakesMessage sets at old new e
took_counting sets at newest old new e q m keeps fits set more same said counting =
    took sets at newest old new e Counts m keeps fits more same said (counting ∙ ap (λ (l : List Heard). map heard_of old.counting.items ++ l) (sym (added_counts sets e.statement q set)))

pub took_other : (sets : Hash → Option QuorumTree) (at : ℕ) (newest : Newest) (old new : Judged) (e : Envelope) (v : Verdict) (m : Message) → KeepsLast newest (map heard_of old.counting.items) → IsVerdict sets at (newest_in newest) e.statement v → v ≢ Counts → new.messages.items ≡ old.messages.items ++ m ∷ [] → m.envelope ≡ e → m.verdict ≡ v → map heard_of new.counting.items ≡ map heard_of old.counting.items → TakesMessage sets at old new e
took_other sets at newest old new e v m keeps fits not more same said counting =
    took sets at newest old new e v m keeps fits more same said (counting ∙ sym (ap (λ (l : List Heard). map heard_of old.counting.items ++ l) (added_none sets e.statement v not) ∙ append-nil (map heard_of old.counting.items)))

-- ---- all messages

pub judged_more : (sets : Hash → Option QuorumTree) (at : ℕ) (old new : Judged) (es : List Envelope) (e : Envelope) → TakesMessage sets at old new e → envelopes_of old ≡ es → AreVerdicts sets at [] (map (λ (k : Envelope). k.statement) es) (verdicts_of old) (map heard_of old.counting.items)
    → (envelopes_of new ≡ es ++ e ∷ []) × AreVerdicts sets at [] (map (λ (k : Envelope). k.statement) (es ++ e ∷ [])) (verdicts_of new) (map heard_of new.counting.items)
judged_more sets at old new es e t same h =
    let base = verdicts_more sets at [] (map (λ (k : Envelope). k.statement) es) (verdicts_of old) (map heard_of old.counting.items) e.statement t.verdict h t.fits in (
      t.messages ∙ ap (λ (l : List Envelope). l ++ e ∷ []) same,
      subst (λ (ss : List Statement). AreVerdicts sets at [] ss (verdicts_of new) (map heard_of new.counting.items)) (sym (map_push (λ (k : Envelope). k.statement) es e))
          (subst (λ (vs : List Verdict). AreVerdicts sets at [] (map (λ (k : Envelope). k.statement) es ++ e.statement ∷ []) vs (map heard_of new.counting.items)) (sym t.verdicts)
          (subst (λ (hs : List Heard). AreVerdicts sets at [] (map (λ (k : Envelope). k.statement) es ++ e.statement ∷ []) (verdicts_of old ++ t.verdict ∷ []) hs) (sym t.counting) base)),
    )

pub counted_push : (xs ys : List Said) (x : Said) (s : Statement) (q : QuorumTree) → ys ≡ xs ++ x ∷ [] → heard_of x ≡ heard_with s q → map heard_of ys ≡ map heard_of xs ++ heard_with s q ∷ []
counted_push xs ys x s q more same = ap (map heard_of) more ∙ map_push heard_of xs x ∙ ap (λ (h : Heard). map heard_of xs ++ h ∷ []) same

pub kept_push : (old new : Newest) (xs ys : List Said) (x : Said) (s t : Statement) (q : QuorumTree) → KeepsLast old (map heard_of xs) → Enters old new t → t ≡ s → ys ≡ xs ++ x ∷ [] → heard_of x ≡ heard_with s q → KeepsLast new (map heard_of ys)
kept_push old new xs ys x s t q keeps put e more same =
    subst (λ (hs : List Heard). KeepsLast new hs) (sym (counted_push xs ys x s q more same))
    (keeps_more old new (map heard_of xs) s q keeps (subst (λ (k : Statement). Enters old new k) e put))
