-- What is heard, with one statement more.
use Rattle.std.proofs.Common.{◌≡◌, ◌+◌, ◌<◌, ℕ, Bool, true, false, List, [], ◌∷◌, ◌++◌, length, take, get_or, map, flat_map, refl, sym, ap, subst, ◌∙◌, inl, inr}
use Rattle.std.specs.Prelude.{◌↔◌, Option, Some, IsTrue}
use Rattle.std.specs.Option.{ForSome}
use Rattle.std.specs.List.{AllByRecursion}
use Rattle.scp_history.specs.scp_quorum.specs.QuorumTree.{QuorumTree}
use Rattle.scp_history.specs.scp_envelope.specs.Newer.{IsNewer}
use Rattle.scp_history.specs.scp_envelope.specs.Sane.{IsSane}
use Rattle.scp_history.specs.scp_envelope.specs.declared.statement.Envelope.{Envelope}
use Rattle.scp_history.specs.scp_envelope.specs.declared.statement.Statement.{Statement}
use Rattle.scp_history.specs.scp_vote.specs.Board.{kind_of_pledges}
use Rattle.scp_history.specs.scp_vote.specs.declared.claim.StatementKind.TheVariants.{Nomination, Balloting}
use Rattle.scp_history.specs.scp_ledger.specs.Journal.{Heard}
use Rattle.scp_history.specs.scp_judged.specs.Verdicts.{heard_by, heard_with}
use Rattle.scp_history.specs.scp_judged.specs.Certified.{IsSaneHeard}
use Rattle.scp_shown.specs.Parts.{Entry, entry_of, counting_of, all_counting}
use Rattle.scp_shown.specs.declared.part.Part.{Part}
use Rattle.scp_shown.specs.Joined.{IsNextBallot, JoinsOne, Joins}
use Rattle.scp_shown.proofs.Listing.{map_push, flat_push, taken}

same_heard : {h k : Heard} → Some h ≡ Some k → h ≡ k
same_heard e = cc

pub newer_some : (e f : Envelope) (q : QuorumTree) (t : Statement) (b : Bool) → e ≡ f → IsTrue b ↔ IsNewer e.statement t → IsTrue b ↔ ForSome (Some (heard_with f.statement q)) (λ h. IsNewer h.statement t)
newer_some e f q t b same tells = (
  λ p x is. subst (λ (h : Heard). IsNewer h.statement t) (same_heard is) (subst (λ (k : Envelope). IsNewer k.statement t) same (tells.0 p)),
  λ all. tells.1 (subst (λ (k : Envelope). IsNewer k.statement t) (sym same) (all (heard_with f.statement q) refl)),
)

-- a ballot statement that is sane, by whether it is newer than the last one
pub next_ballot : (hs : List Heard) (e f : Envelope) (q : QuorumTree) (o : Option Heard) (s b : Bool) → e ≡ f → IsTrue s ↔ IsSane e.statement.pledges → s ≡ true → kind_of_pledges e.statement.pledges ≡ Balloting → o ≡ heard_by hs e.statement.node → IsTrue b ↔ ForSome o (λ h. IsNewer h.statement e.statement) → IsTrue b ↔ IsNextBallot hs (heard_with f.statement q)
next_ballot hs e f q o s b same sane is kind last tells =
    let here : IsTrue b ↔ IsNextBallot hs (heard_with e.statement q) = (
      λ p. (sane.0 is, kind, subst (λ (k : Option Heard). ForSome k (λ h. IsNewer h.statement e.statement)) last (tells.0 p)),
      λ n. tells.1 (subst (λ (k : Option Heard). ForSome k (λ h. IsNewer h.statement e.statement)) (sym last) n.2),
    ) in
    subst (λ (k : Envelope). IsTrue b ↔ IsNextBallot hs (heard_with k.statement q)) same here

pub no_ballot : (hs : List Heard) (e f : Envelope) (q : QuorumTree) → e ≡ f → kind_of_pledges e.statement.pledges ≡ Nomination → IsTrue false ↔ IsNextBallot hs (heard_with f.statement q)
no_ballot hs e f q same kind = (
  λ t. absurd cc,
  λ n. (
      let ballot : kind_of_pledges e.statement.pledges ≡ Balloting = ap (λ (k : Envelope). kind_of_pledges k.statement.pledges) same ∙ n.1 in
      let bad : Nomination ≡ Balloting = sym kind ∙ ballot in
      absurd cc),
)

pub not_sane : (hs : List Heard) (e f : Envelope) (q : QuorumTree) (s : Bool) → e ≡ f → IsTrue s ↔ IsSane e.statement.pledges → s ≡ false → IsTrue false ↔ IsNextBallot hs (heard_with f.statement q)
not_sane hs e f q s same sane isnt = (
  λ t. absurd cc,
  λ n. (let t : false ≡ true = sym isnt ∙ sane.1 (subst (λ (k : Envelope). IsSane k.statement.pledges) (sym same) n.0) in absurd cc),
)

pub joins_none : (hs : List Heard) (h : Heard) (b : Bool) → IsTrue b ↔ IsNextBallot hs h → b ≡ false → JoinsOne hs h hs
joins_none hs h b tells isnt = inr ((λ n. (let t : false ≡ true = sym isnt ∙ tells.1 n in absurd cc)), refl)

pub joins_next : (hs new : List Heard) (h : Heard) (b : Bool) → IsTrue b ↔ IsNextBallot hs h → b ≡ true → new ≡ hs ++ h ∷ [] → JoinsOne hs h new
joins_next hs new h b tells is added = inl (tells.0 is, added)

pub joins_more : (first : List Heard) (hs : List Heard) (mid : List Heard) (h : Heard) (last : List Heard) → Joins first hs mid → JoinsOne mid h last → Joins first (hs ++ h ∷ []) last
joins_more first [] mid h last so one = (last, subst (λ (l : List Heard). JoinsOne l h last) so one, refl)
joins_more first (k ∷ hs) mid h last so one = (so.0, so.1, joins_more so.0 hs mid h last so.2 one)

joins_both : (first : List Heard) (hs : List Heard) (mid : List Heard) (ks : List Heard) (last : List Heard) → Joins first hs mid → Joins mid ks last → Joins first (hs ++ ks) last
joins_both first [] mid ks last p q = subst (λ (l : List Heard). Joins l ks last) p q
joins_both first (h ∷ hs) mid ks last p q = (p.0, p.1, joins_both p.0 hs mid ks last p.2 q)

counting_taken : (ps : List Part) (i : ℕ) (p : Part) → i < length ps → p ≡ get_or ps i p → all_counting (map entry_of (take (i + 1) ps)) ≡ all_counting (map entry_of (take i ps)) ++ counting_of (entry_of p)
counting_taken ps i p lt e =
    ap (λ (l : List Part). all_counting (map entry_of l)) (taken ps i p lt e)
    ∙ ap (λ (l : List Entry). all_counting l) (map_push entry_of (take i ps) p)
    ∙ flat_push counting_of (map entry_of (take i ps)) (entry_of p)

-- what is heard by the entries so far, with one entry more
pub entries_more : (ps : List Part) (i : ℕ) (p : Part) (mid last : List Heard) → i < length ps → p ≡ get_or ps i p → Joins [] (all_counting (map entry_of (take i ps))) mid → Joins mid (counting_of (entry_of p)) last → Joins [] (all_counting (map entry_of (take (i + 1) ps))) last
entries_more ps i p mid last lt e so more = subst (λ (l : List Heard). Joins [] l last) (sym (counting_taken ps i p lt e)) (joins_both [] (all_counting (map entry_of (take i ps))) mid (counting_of (entry_of p)) last so more)

-- ---- what is heard is sane

all_both : (xs ys : List Heard) → AllByRecursion IsSaneHeard xs → AllByRecursion IsSaneHeard ys → AllByRecursion IsSaneHeard (xs ++ ys)
all_both [] ys a b = b
all_both (x ∷ xs) ys a b = (a.0, all_both xs ys a.1 b)

sane_one : (old new : List Heard) (h : Heard) → JoinsOne old h new → AllByRecursion IsSaneHeard old → AllByRecursion IsSaneHeard new
sane_one old new h (inl d) all = subst (λ (l : List Heard). AllByRecursion IsSaneHeard l) (sym d.1) (all_both old (h ∷ []) all (d.0.0, tt))
sane_one old new h (inr d) all = subst (λ (l : List Heard). AllByRecursion IsSaneHeard l) (sym d.1) all

sane_joined : (first hs last : List Heard) → Joins first hs last → AllByRecursion IsSaneHeard first → AllByRecursion IsSaneHeard last
sane_joined first [] last so all = subst (λ (l : List Heard). AllByRecursion IsSaneHeard l) (sym so) all
sane_joined first (h ∷ hs) last so all = sane_joined so.0 hs last so.2 (sane_one first so.0 h so.1 all)

pub heard_is_sane : (es : List Entry) (last : List Heard) → Joins [] (all_counting es) last → AllByRecursion IsSaneHeard last
heard_is_sane es last so = sane_joined [] (all_counting es) last so tt
