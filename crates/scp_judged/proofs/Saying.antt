-- The last of what was said, with one thing more.
use Rattle.std.proofs.Common.{◌≡◌, ◌≢◌, ◌+◌, ◌<◌, ◌≤◌, ℕ, zero, suc, length, take, get_or, map, arith, Bool, true, false, cond, List, [], ◌∷◌, ◌++◌, refl, sym, ap, subst, ◌∙◌, append-nil}
use Rattle.std.specs.Prelude.{Option, Some, None, filter, fold, ◌&&◌}
use Rattle.std.specs.List.{AllByRecursion}
use Rattle.std.proofs.lemmas.List.{take_all}
use Rattle.std.specs.Option.{option_map}
use Rattle.std.specs.BTreeMap.{is_at}
use Rattle.scp_ledger.specs.scp_types.specs.declared.names.NodeId.{NodeId}
use Rattle.scp_ledger.specs.scp_quorum.specs.NodeSet.{node_cmp}
use Rattle.scp_ledger.specs.scp_quorum.specs.QuorumTree.{QuorumTree}
use Rattle.scp_ledger.specs.scp_envelope.specs.declared.statement.Statement.{Statement}
use Rattle.scp_ledger.specs.scp_vote.specs.Board.{kind_of_pledges}
use Rattle.scp_ledger.specs.scp_vote.specs.declared.claim.StatementKind.{StatementKind}
use Rattle.scp_ledger.specs.scp_vote.specs.declared.claim.StatementKind.TheVariants.{Nomination, Balloting}
use Rattle.scp_ledger.specs.Journal.{Heard, last_of, is_its, same_kind}
use Rattle.scp_judged.specs.Verdicts.{last_said, last_statement, heard_with, heard_by, heard_of}
use Rattle.scp_judged.specs.declared.verdict.Said.{Said}
use Rattle.scp_judged.specs.declared.newest.Newest.{Newest}
use Rattle.scp_judged.specs.inside.Newest.{newest_in, KeepsLast, Enters}

fold_more : (a : Option Heard) (xs : List Heard) (h : Heard) → fold (λ earlier k. Some k) a (xs ++ h ∷ []) ≡ Some h
fold_more a [] h = refl
fold_more a (x ∷ xs) h = fold_more (Some x) xs h

filter_more : (p : Heard → Bool) (xs : List Heard) (h : Heard) → filter p (xs ++ h ∷ []) ≡ filter p xs ++ cond (p h) (h ∷ []) []
filter_more p [] h = refl
filter_more p (x ∷ xs) h = by_test (p x) (filter_more p xs h)
  where
    by_test : (b : Bool) → filter p (xs ++ h ∷ []) ≡ filter p xs ++ cond (p h) (h ∷ []) [] → cond b (x ∷ filter p (xs ++ h ∷ [])) (filter p (xs ++ h ∷ [])) ≡ cond b (x ∷ filter p xs) (filter p xs) ++ cond (p h) (h ∷ []) []
    by_test true e = ap (λ (l : List Heard). x ∷ l) e
    by_test false e = e

pub last_said_more : (kind : StatementKind) (v : NodeId) (hs : List Heard) (h : Heard) → last_said kind v (hs ++ h ∷ []) ≡ cond (is_its kind v h) (Some h) (last_said kind v hs)
last_said_more kind v hs h = ap (λ (l : List Heard). last_of l) (filter_more (is_its kind v) hs h) ∙ by_test (is_its kind v h)
  where
    by_test : (b : Bool) → last_of (filter (is_its kind v) hs ++ cond b (h ∷ []) []) ≡ cond b (Some h) (last_said kind v hs)
    by_test true = fold_more None (filter (is_its kind v) hs) h
    by_test false = ap (λ (l : List Heard). last_of l) (append-nil (filter (is_its kind v) hs))

pub mapped_cond : {X Y : Type 0} (f : X → Y) (b : Bool) (x : X) (o : Option X) → option_map f (cond b (Some x) o) ≡ cond b (Some (f x)) (option_map f o)
mapped_cond f true x o = refl
mapped_cond f false x o = refl

pub last_statement_more : (hs : List Heard) (h : Heard) (kind : StatementKind) (v : NodeId) → last_statement (hs ++ h ∷ []) kind v ≡ cond (is_its kind v h) (Some h.statement) (last_statement hs kind v)
last_statement_more hs h kind v = ap (λ (o : Option Heard). option_map (λ (k : Heard). k.statement) o) (last_said_more kind v hs h) ∙ mapped_cond (λ (k : Heard). k.statement) (is_its kind v h) h (last_said kind v hs)

-- one thing more for one kind, and nothing for the other
put_cond : (k kind : StatementKind) (old new : StatementKind → NodeId → Option Statement) (s : Statement) (t : NodeId → Bool) (v : NodeId) → ((w : NodeId) → new k w ≡ cond (t w) (Some s) (old k w)) → ((other : StatementKind) → other ≢ k → (w : NodeId) → new other w ≡ old other w) → new kind v ≡ cond (same_kind k kind && t v) (Some s) (old kind v)
put_cond Nomination Nomination old new s t v its other = its v
put_cond Nomination Balloting old new s t v its other = other Balloting (λ e. cc) v
put_cond Balloting Nomination old new s t v its other = other Nomination (λ e. cc) v
put_cond Balloting Balloting old new s t v its other = its v

-- the newest that are kept, with one more
pub keeps_more : (old new : Newest) (hs : List Heard) (s : Statement) (q : QuorumTree) → KeepsLast old hs → Enters old new s → KeepsLast new (hs ++ heard_with s q ∷ [])
keeps_more old new hs s q keeps put = λ kind v.
    put_cond (kind_of_pledges s.pledges) kind (newest_in old) (newest_in new) s (λ w. is_at (node_cmp s.node) w) v put.its_kind put.other_kind
    ∙ ap (λ (o : Option Statement). cond (is_its kind v (heard_with s q)) (Some s) o) (keeps kind v)
    ∙ sym (last_statement_more hs (heard_with s q) kind v)

-- what holds of all holds of the last
last_has : (P : Heard → Type 0) (p : Heard → Bool) (a : Option Heard) (hs : List Heard) (h : Heard) → (a ≡ Some h → P h) → AllByRecursion P hs → fold (λ earlier k. Some k) a (filter p hs) ≡ Some h → P h
last_has P p a [] h base all e = base e
last_has P p a (x ∷ xs) h base all e = by_test (p x) (λ q f. last_has P p (Some x) xs h q all.1 f) (λ f. last_has P p a xs h base all.1 f) e
  where
    by_test : (b : Bool) → ((Some x ≡ Some h → P h) → fold (λ earlier k. Some k) (Some x) (filter p xs) ≡ Some h → P h) → (fold (λ earlier k. Some k) a (filter p xs) ≡ Some h → P h) → fold (λ earlier k. Some k) a (cond b (x ∷ filter p xs) (filter p xs)) ≡ Some h → P h
    by_test true holds isnt f = holds (λ q. (let same : x ≡ h = cc in subst P same all.0)) f
    by_test false holds isnt f = isnt f

pub said_has : (P : Heard → Type 0) (kind : StatementKind) (v : NodeId) (hs : List Heard) (h : Heard) → AllByRecursion P hs → last_said kind v hs ≡ Some h → P h
said_has P kind v hs h all e = last_has P (is_its kind v) None hs h (λ q. absurd cc) all e

-- ---- the first so many, with one more

pub taken_more : (xs : List Said) (i : ℕ) (x : Said) → i < length xs → x ≡ get_or xs i x → map heard_of (take (i + 1) xs) ≡ map heard_of (take i xs) ++ heard_of x ∷ []
taken_more xs i x lt e =
    let next : i + 1 ≡ suc i = omega arith in
    ap (λ (n : ℕ). map heard_of (take n xs)) next ∙ by_list xs i lt e
  where
    by_list : (ys : List Said) (k : ℕ) → k < length ys → x ≡ get_or ys k x → map heard_of (take (suc k) ys) ≡ map heard_of (take k ys) ++ heard_of x ∷ []
    by_list [] k lt e = absurd (omega (arith, lt))
    by_list (y ∷ ys) zero lt e = ap (λ (z : Said). heard_of z ∷ []) (sym e)
    by_list (y ∷ ys) (suc k) lt e = ap (λ (l : List Heard). heard_of y ∷ l) (by_list ys k (omega (arith, lt)) e)

pub taken_all : (xs : List Said) (i : ℕ) → length xs ≤ i → map heard_of (take i xs) ≡ map heard_of xs
taken_all xs i long = ap (λ (l : List Said). map heard_of l) (take_all i xs long)

-- the last ballot statement, with one thing more
pub last_more : (xs : List Said) (v : NodeId) (i : ℕ) (x : Said) (last after : Option Heard) → i < length xs → x ≡ get_or xs i x → last ≡ heard_by (map heard_of (take i xs)) v → after ≡ cond (is_its Balloting v (heard_of x)) (Some (heard_of x)) last → after ≡ heard_by (map heard_of (take (i + 1) xs)) v
last_more xs v i x last after lt e before now =
    now
    ∙ ap (λ (o : Option Heard). cond (is_its Balloting v (heard_of x)) (Some (heard_of x)) o) before
    ∙ sym (last_said_more Balloting v (map heard_of (take i xs)) (heard_of x))
    ∙ ap (λ (l : List Heard). heard_by l v) (sym (taken_more xs i x lt e))
