-- The certificate on a board, and the certificate over the last ballot statements.
use Rattle.std.proofs.Common.{◌≡◌, ◌≢◌, ℕ, Bool, true, false, cond, List, refl, sym, ap, subst, ◌∙◌, inl, inr, arith}
use Rattle.std.specs.Prelude.{Option, Some, None, IsSomeAnd, IfSome, IfNone}
use Rattle.std.specs.List.{AllByRecursion}
use Rattle.std.specs.Option.{option_map}
use Rattle.std.specs.BTreeMap.{is_at}
use Rattle.std.specs.BTreeSet.{BTreeSet, keys}
use Rattle.scp_ledger.specs.scp_types.specs.declared.names.NodeId.{NodeId}
use Rattle.scp_ledger.specs.scp_quorum.specs.NodeSet.{node_cmp, is_in}
use Rattle.scp_ledger.specs.scp_quorum.specs.QuorumTree.{QuorumTree}
use Rattle.scp_ledger.specs.scp_quorum.specs.Satisfies.{Satisfies}
use Rattle.scp_ledger.specs.scp_envelope.specs.Claims.{AcceptsCommit}
use Rattle.scp_ledger.specs.scp_envelope.specs.declared.statement.Externalize.{Externalize}
use Rattle.scp_ledger.specs.scp_envelope.specs.declared.statement.Pledges.{Pledges}
use Rattle.scp_ledger.specs.scp_envelope.specs.declared.statement.Pledges.TheVariants.{Prepare as Preparing, Confirm as Confirming, Externalize as Externalizing, Nominate as Nominating}
use Rattle.scp_ledger.specs.scp_envelope.specs.Sane.{IsSane}
use Rattle.scp_ledger.specs.scp_vote.specs.Board.{Seen, Certificate, Confirmed, kind_of}
use Rattle.scp_ledger.specs.scp_vote.specs.declared.claim.StatementKind.{StatementKind}
use Rattle.scp_ledger.specs.scp_vote.specs.declared.claim.StatementKind.TheVariants.{Balloting}
use Rattle.scp_ledger.specs.scp_vote.specs.Claims.{AcceptsCommits}
use Rattle.scp_ledger.specs.scp_vote.specs.declared.claim.Claim.{Claim}
use Rattle.scp_ledger.specs.scp_vote.specs.declared.claim.Claim.TheVariants.{Committed}
use Rattle.scp_ledger.specs.scp_vote.proofs.Chain.{same_at, at_itself}
use Rattle.scp_ledger.specs.Journal.{Heard}
use Rattle.scp_ledger.specs.Certificate.{counted_of, has_node, Externalizes, IsCertificate}
use Rattle.scp_judged.specs.declared.certificates.Certificate.{Certificate as Certified}
use Rattle.scp_judged.specs.Verdicts.{heard_by}
use Rattle.scp_judged.specs.Certified.{IsCertifiedFor, IsUncertified, IsSaneHeard}
use Rattle.scp_judged.specs.inside.Boards.{IsBoardOf}
use Rattle.scp_judged.specs.inside.Externalized.{IsNoExternalize}
use Rattle.scp_judged.proofs.Boards.{which}
use Rattle.scp_judged.proofs.Saying.{said_has}

-- a set that counts on the board counts over the last statements, and back
pick : (P : QuorumTree → Type 0) (t : Bool) (local : QuorumTree) (f : Heard → QuorumTree) (o : Option Heard) → IsSomeAnd (option_map (λ h. cond t local (f h)) o) P → IsSomeAnd (cond t (Some local) (option_map f o)) P
pick P true local f None h = absurd h
pick P true local f (Some k) h = h
pick P false local f None h = absurd h
pick P false local f (Some k) h = h

pick_back : (P : QuorumTree → Type 0) (t : Bool) (local : QuorumTree) (f : Heard → QuorumTree) (o : Option Heard) → (t ≡ true → (k : Heard) × (o ≡ Some k)) → IsSomeAnd (cond t (Some local) (option_map f o)) P → IsSomeAnd (option_map (λ h. cond t local (f h)) o) P
pick_back P true local f None there h = (let e : None ≡ Some (there refl).0 = (there refl).1 in absurd cc)
pick_back P true local f (Some k) there h = h
pick_back P false local f None there h = h
pick_back P false local f (Some k) there h = h

accepts_one : (o : Option Heard) (n : ℕ) (x : List ℕ) → IsSomeAnd (option_map (λ (h : Heard). h.statement.pledges) o) (λ p. AcceptsCommits p n n x) → IsSomeAnd o (λ h. AcceptsCommit h.statement.pledges n x)
accepts_one None n x h = h
accepts_one (Some k) n x h = h n (omega arith) (omega arith)

-- only the counter itself is within its range
accepts_range : (p : Pledges) (n : ℕ) (x : List ℕ) → AcceptsCommit p n x → AcceptsCommits p n n x
accepts_range p n x h = λ m low high. (let e : n ≡ m = omega arith in subst (λ (k : ℕ). AcceptsCommit p k x) e h)

accepts_all : (o : Option Heard) (n : ℕ) (x : List ℕ) → IsSomeAnd o (λ h. AcceptsCommit h.statement.pledges n x) → IsSomeAnd (option_map (λ (h : Heard). h.statement.pledges) o) (λ p. AcceptsCommits p n n x)
accepts_all None n x h = h
accepts_all (Some k) n x h = accepts_range k.statement.pledges n x h

pub certificate_here : (me : NodeId) (local : QuorumTree) (hs : List Heard) (b : Seen) (n : ℕ) (x : List ℕ) (nodes : List NodeId) → IsBoardOf me local hs b → Certificate b (Committed n n x) (has_node nodes) → IsCertificate me local (heard_by hs) x n nodes
certificate_here me local hs b n x nodes is h = record {
  quorum = record {
    has = subst (λ (v : NodeId). has_node nodes v ≡ true) is.own h.quorum.has;
    satisfied = λ v has.
        pick (Satisfies (has_node nodes)) (is_at (node_cmp me) v) local (counted_of v) (heard_by hs v)
        (subst (λ (o : Option QuorumTree). IsSomeAnd o (Satisfies (has_node nodes))) (is.sets v) (h.quorum.satisfied v has));
  };
  accepted = λ v has other.
      accepts_one (heard_by hs v) n x
      (subst (λ (o : Option Pledges). IsSomeAnd o (λ p. AcceptsCommits p n n x)) (is.statements v) (h.all_have v has));
}

-- the node's own EXTERNALIZE accepts its commit up to nH
own_accepts : (said : Heard) (e : Externalize) → said.statement.pledges ≡ Externalizing e → IsSaneHeard said → AcceptsCommit said.statement.pledges e.n_high e.commit.value
own_accepts said e is sane =
    let here : IsSane (Externalizing e) = subst (λ (p : Pledges). IsSane p) is sane in
    let made : AcceptsCommit (Externalizing e) e.n_high e.commit.value = (refl, here.high) in
    subst (λ (p : Pledges). AcceptsCommit p e.n_high e.commit.value) (sym is) made

some_of : (o : Option Heard) (h : Heard) (P : Heard → Type 0) → o ≡ Some h → P h → IsSomeAnd o P
some_of o h P e p = subst (λ (k : Option Heard). IsSomeAnd k P) (sym e) p

-- a certificate over the last statements is one on the board
confirmed_here : (me : NodeId) (hs : List Heard) (b : Seen) (said : Heard) (e : Externalize) (nodes : List NodeId) → heard_by hs me ≡ Some said → said.statement.pledges ≡ Externalizing e → IsSaneHeard said → IsBoardOf me said.set hs b → IsCertificate me said.set (heard_by hs) e.commit.value e.n_high nodes → Confirmed b (Committed e.n_high e.n_high e.commit.value)
confirmed_here me hs b said e nodes last ext sane is h =
    let n = e.n_high in
    let x = e.commit.value in (
      has_node nodes,
      record {
        has = subst (λ (v : NodeId). has_node nodes v ≡ true) (sym is.own) h.quorum.has;
        satisfied = λ v has.
            subst (λ (o : Option QuorumTree). IsSomeAnd o (Satisfies (has_node nodes))) (sym (is.sets v))
            (pick_back (Satisfies (has_node nodes)) (is_at (node_cmp me) v) said.set (counted_of v) (heard_by hs v)
            (λ here. (said, ap (heard_by hs) (sym (same_at me v here)) ∙ last))
            (h.quorum.satisfied v has));
      },
      λ v has.
          subst (λ (o : Option Pledges). IsSomeAnd o (λ p. AcceptsCommits p n n x)) (sym (is.statements v))
          (accepts_all (heard_by hs v) n x (accepts v has)),
    )
  where
    own : AcceptsCommit said.statement.pledges e.n_high e.commit.value
    own = own_accepts said e ext sane

    apart : (v : NodeId) → is_at (node_cmp me) v ≡ false → v ≢ me
    apart v there same = (
        let here : is_at (node_cmp me) v ≡ true = subst (λ (w : NodeId). is_at (node_cmp w) v ≡ true) same (at_itself v) in
        let t : true ≡ false = sym here ∙ there in
        cc)

    accepts : (v : NodeId) → has_node nodes v ≡ true → IsSomeAnd (heard_by hs v) (λ k. AcceptsCommit k.statement.pledges e.n_high e.commit.value)
    accepts v has = elim (which (is_at (node_cmp me) v)) as (λ _. IsSomeAnd (heard_by hs v) (λ k. AcceptsCommit k.statement.pledges e.n_high e.commit.value)) [
      | inl here ↦ some_of (heard_by hs v) said (λ k. AcceptsCommit k.statement.pledges e.n_high e.commit.value) (ap (heard_by hs) (sym (same_at me v here)) ∙ last) own
      | inr there ↦ h.accepted v has (apart v there)
    ]

-- what an EXTERNALIZE externalizes is its value and its nH
externalized_is : (p : Pledges) (e : Externalize) (x : List ℕ) (n : ℕ) → p ≡ Externalizing e → Externalizes p x n → (e.commit.value ≡ x) × (e.n_high ≡ n)
externalized_is p e x n is h =
    let here : Externalizes (Externalizing e) x n = subst (λ (q : Pledges). Externalizes q x n) is h in
    (here.0, here.1)

pub certified_here : (me : NodeId) (hs : List Heard) (b : Seen) (said : Heard) (e : Externalize) (nodes : List NodeId) → heard_by hs me ≡ Some said → said.statement.pledges ≡ Externalizing e → IsBoardOf me said.set hs b → Certificate b (Committed e.n_high e.n_high e.commit.value) (has_node nodes) → IsCertifiedFor (heard_by hs) me e.commit.value e.n_high nodes
certified_here me hs b said e nodes last ext is h = record {
  said = said;
  last = last;
  externalizes = subst (λ (p : Pledges). Externalizes p e.commit.value e.n_high) (sym ext) (refl, refl);
  certificate = certificate_here me said.set hs b e.n_high e.commit.value nodes is h;
}

pub uncertified_here : (me : NodeId) (hs : List Heard) (b : Seen) (said : Heard) (e : Externalize) → AllByRecursion IsSaneHeard hs → heard_by hs me ≡ Some said → said.statement.pledges ≡ Externalizing e → IsBoardOf me said.set hs b → (Confirmed b (Committed e.n_high e.n_high e.commit.value) → ⊥) → IsUncertified (heard_by hs) me
uncertified_here me hs b said e sane last ext is none = λ x n nodes c.
    let same : c.said ≡ said = some_is (sym c.last ∙ last) in
    let ext_c : c.said.statement.pledges ≡ Externalizing e = ap (λ (k : Heard). k.statement.pledges) same ∙ ext in
    let at = externalized_is c.said.statement.pledges e x n ext_c c.externalizes in
    let moved : IsCertificate me said.set (heard_by hs) e.commit.value e.n_high nodes =
    subst (λ (k : ℕ). IsCertificate me said.set (heard_by hs) e.commit.value k nodes) (sym at.1)
    (subst (λ (y : List ℕ). IsCertificate me said.set (heard_by hs) y n nodes) (sym at.0)
    (subst (λ (k : Heard). IsCertificate me k.set (heard_by hs) x n nodes) same c.certificate)) in
    none (confirmed_here me hs b said e nodes last ext (said_has IsSaneHeard _ me hs said sane last) is moved)
  where
    some_is : {a b : Heard} → Some a ≡ Some b → a ≡ b
    some_is e = cc

-- a node whose last ballot statement is none, or no EXTERNALIZE
pub unsaid_here : (hs : List Heard) (me : NodeId) → heard_by hs me ≡ None → IsUncertified (heard_by hs) me
unsaid_here hs me none = λ x n nodes c. (let e : None ≡ Some c.said = sym none ∙ c.last in absurd cc)

-- the certificate that is given
pub certified_by : (me : NodeId) (hs : List Heard) (sees : StatementKind → Seen) (said : Heard) (local : QuorumTree) (e : Externalize) (claim : Claim) (nodes : BTreeSet NodeId) (cert : Certified) → local ≡ said.set → heard_by hs me ≡ Some said → said.statement.pledges ≡ Externalizing e → IsBoardOf me local hs (sees Balloting) → claim ≡ Committed e.n_high e.n_high e.commit.value → Certificate (sees (kind_of claim)) claim (is_in nodes) → cert.value ≡ e.commit.value → cert.n ≡ e.n_high → cert.nodes ≡ nodes → IsCertifiedFor (heard_by hs) me cert.value cert.n (keys cert.nodes)
certified_by me hs sees said local e claim nodes cert set last ext is what h value n same =
    let moved : Certificate (sees Balloting) (Committed e.n_high e.n_high e.commit.value) (is_in nodes) = subst (λ (k : Claim). Certificate (sees (kind_of k)) k (is_in nodes)) what h in
    let here : IsCertifiedFor (heard_by hs) me e.commit.value e.n_high (keys nodes) = certified_here me hs (sees Balloting) said e (keys nodes) last ext (subst (λ (q : QuorumTree). IsBoardOf me q hs (sees Balloting)) set is) moved in
    subst (λ (x : List ℕ). IsCertifiedFor (heard_by hs) me x cert.n (keys cert.nodes)) (sym value)
    (subst (λ (k : ℕ). IsCertifiedFor (heard_by hs) me e.commit.value k (keys cert.nodes)) (sym n)
    (subst (λ (ns : BTreeSet NodeId). IsCertifiedFor (heard_by hs) me e.commit.value e.n_high (keys ns)) (sym same) here))

-- the certificate that is found
pub some_from : {X : Type 0} (o : Option X) (x : X) (P : X → Type 0) → o ≡ Some x → IfSome o P → P x
some_from {X = X} o x P e h = subst (λ (p : Option X). IfSome p P) e h

-- a node whose last ballot statement is no EXTERNALIZE
pub other_here : (hs : List Heard) (me : NodeId) (said : Heard) → heard_by hs me ≡ Some said → IsNoExternalize said.statement.pledges → IsUncertified (heard_by hs) me
other_here hs me said last isnt = λ x n nodes c.
    let same : c.said ≡ said = some_said (sym c.last ∙ last) in
    not_both said.statement.pledges x n isnt (subst (λ (k : Heard). Externalizes k.statement.pledges x n) same c.externalizes)
  where
    some_said : {a b : Heard} → Some a ≡ Some b → a ≡ b
    some_said e = cc

    not_both : (p : Pledges) (x : List ℕ) (n : ℕ) → IsNoExternalize p → Externalizes p x n → ⊥
    not_both (Preparing p) x n h k = k
    not_both (Confirming p) x n h k = k
    not_both (Externalizing p) x n h k = h
    not_both (Nominating p) x n h k = k

none_from : {X : Type 0} (o : Option X) (P : Type 0) → ((x : X) → o ≡ Some x → ⊥) → IfNone o P → P
none_from None P n h = h
none_from (Some x) P n h = absurd (n x refl)

-- no certificate is on the board
pub uncertified_by : (me : NodeId) (hs : List Heard) (sees : StatementKind → Seen) (said : Heard) (local : QuorumTree) (e : Externalize) (claim : Claim) (found : Option (BTreeSet NodeId)) → local ≡ said.set → AllByRecursion IsSaneHeard hs → heard_by hs me ≡ Some said → said.statement.pledges ≡ Externalizing e → IsBoardOf me local hs (sees Balloting) → claim ≡ Committed e.n_high e.n_high e.commit.value → ((nodes : BTreeSet NodeId) → found ≡ Some nodes → ⊥) → IfNone found (Confirmed (sees (kind_of claim)) claim → ⊥) → IsUncertified (heard_by hs) me
uncertified_by me hs sees said local e claim found set sane last ext is what absent none =
    uncertified_here me hs (sees Balloting) said e sane last ext
    (subst (λ (q : QuorumTree). IsBoardOf me q hs (sees Balloting)) set is)
    (subst (λ (k : Claim). Confirmed (sees (kind_of k)) k → ⊥) what (none_from found (Confirmed (sees (kind_of claim)) claim → ⊥) absent none))
