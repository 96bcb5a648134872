-- Putting a statement on the board.
use Rattle.std.proofs.Common.{◌≡◌, ℕ, List, Bool, true, false, cond, Option, Some, None, Result, Ok, Err, OnOk, OnErr, refl, sym, ◌∙◌, ap, subst}
use Rattle.std.specs.Map.{lookup}
use Rattle.std.specs.Option.{ForSome, option_map}
use Rattle.std.specs.BTreeMap as node_map
use Rattle.std.specs.BTreeMap.{BTreeMap, is_at}
use Rattle.scp_quorum.specs.scp_types.specs.declared.names.NodeId.{NodeId}
use Rattle.scp_quorum.specs.NodeSet.{node_cmp}
use Rattle.scp_quorum.specs.QuorumTree.{QuorumTree}
use Rattle.scp_vote.specs.declared.statements.Entry.{Entry}
use Rattle.scp_vote.specs.Board.{Seen, IsCounted, Puts, PutsCounted, KeepsOwn}
use Rattle.scp_vote.specs.Statements.{seen_in}
use Rattle.scp_vote.specs.inside.Statements.{Enters}
use Rattle.scp_envelope.specs.declared.statement.Pledges.{Pledges}
use Rattle.scp_envelope.specs.declared.statement.Envelope.{Envelope}
use Rattle.scp_vote.specs.inside.Seats.{Shared}
use Rattle.scp_vote.proofs.Chain.{same_at}

put_keeps : (t : Bool) (x : Entry) (o n : Option Entry) (l : QuorumTree) → n ≡ cond t (Some x) o → (t ≡ true → x.counted.value ≡ l) → ForSome o (λ e. e.counted.value ≡ l) → ForSome n (λ e. e.counted.value ≡ l)
put_keeps true x o n l is now was e k = let same : x ≡ e = cc in subst (λ (y : Entry). y.counted.value ≡ l) same (now refl)
put_keeps false x o n l is now was e k = was e (sym is ∙ k)

cond_map : {A B : Type 0} (f : A → B) (t : Bool) (x : A) (o : Option A) → option_map f (cond t (Some x) o) ≡ cond t (Some (f x)) (option_map f o)
cond_map f true x o = refl
cond_map f false x o = refl

-- of this node's own statement the local set is counted
abbrev pub OwnSet : NodeId → QuorumTree → BTreeMap NodeId Entry → Type 0
OwnSet me local entries = ForSome (node_map.get node_cmp entries me) (λ e. e.counted.value ≡ local)

module _ (me : NodeId) (local : QuorumTree) (old : BTreeMap NodeId Entry) where
  module _ (new : BTreeMap NodeId Entry) (e : Entry) (delivered : QuorumTree) (counted : IsCounted (seen_in me local old) e.envelope.statement.node e.envelope.statement.pledges delivered e.counted.value) where
    -- the set counted for this node stays the local one
    pub own_set_stays : Enters old new e → OwnSet me local old → OwnSet me local new
    own_set_stays changes own =
        put_keeps (is_at (node_cmp e.envelope.statement.node) me) e (node_map.get node_cmp old me) (node_map.get node_cmp new me) local (changes me) (λ t. counted.own (same_at e.envelope.statement.node me t)) own

    pub puts_counted : Enters old new e → PutsCounted (seen_in me local old) (seen_in me local new) e.envelope.statement.node e.envelope.statement.pledges delivered
    puts_counted changes = record {
      set = e.counted.value;
      counted = counted;
      puts = record {
        me = refl;
        local = refl;
        statements = λ v. ap (option_map (λ (x : Entry). x.envelope.statement.pledges)) (changes v) ∙ cond_map (λ (x : Entry). x.envelope.statement.pledges) (is_at (node_cmp e.envelope.statement.node) v) e (node_map.get node_cmp old v);
        sets = λ v. ap (option_map (λ (x : Entry). x.counted.value)) (changes v) ∙ cond_map (λ (x : Entry). x.counted.value) (is_at (node_cmp e.envelope.statement.node) v) e (node_map.get node_cmp old v);
      };
    }

  -- the same where the node's seat isn't known
  module _ (new : BTreeMap NodeId Entry) (x : Envelope) (shared : Shared) (delivered : QuorumTree) (counted : IsCounted (seen_in me local old) x.statement.node x.statement.pledges delivered shared.value) where
    pub own_set_put : {T E : Type 0} (r : Result T E) → OnOk r ((place : ℕ) × Enters old new (record { envelope = x; counted = shared; place = place })) → OnErr r (new.entries ≡ old.entries) → OwnSet me local old → OwnSet me local new
    own_set_put (Ok y) entered refused own e f = own_set_stays new (record { envelope = x; counted = shared; place = entered.0 }) delivered counted entered.1 own e f
    own_set_put (Err y) entered refused own e f = own e (ap (λ es. lookup (is_at (node_cmp me)) es) (sym refused) ∙ f)

    pub put_counted : (place : ℕ) × Enters old new (record { envelope = x; counted = shared; place = place }) → PutsCounted (seen_in me local old) (seen_in me local new) x.statement.node x.statement.pledges delivered
    put_counted entered = puts_counted new (record { envelope = x; counted = shared; place = entered.0 }) delivered counted entered.1

  -- the same entries are seen the same
  pub same_seen : (new : BTreeMap NodeId Entry) → new.entries ≡ old.entries → seen_in me local new ≡ seen_in me local old
  same_seen new same = ap (λ (es : List (NodeId × Entry)). let s : Seen = record {
    me = me;
    local = local;
    statement = λ v. option_map (λ (e : Entry). e.envelope.statement.pledges) (lookup (is_at (node_cmp v)) es);
    counted = λ v. option_map (λ (e : Entry). e.counted.value) (lookup (is_at (node_cmp v)) es);
  } in s) same

  pub keeps_own : OwnSet me local old → KeepsOwn (seen_in me local old)
  keeps_own h = by_entry (node_map.get node_cmp old me) h
    where
      by_entry : (o : Option Entry) → ForSome o (λ e. e.counted.value ≡ local) → option_map (λ (e : Entry). e.counted.value) o ≡ option_map (λ _. local) (option_map (λ (e : Entry). e.envelope.statement.pledges) o)
      by_entry None h = refl
      by_entry (Some e) h = ap Some (h e refl)

-- what holds whatever the result holds after an error
pub on_err : {T E : Type 0} {X : Type 0} (r : Result T E) → X → OnErr r X
on_err (Ok x) h = tt
on_err (Err e) h = h

-- of this node the local set is counted
pub puts_own : (old new : Seen) (v : NodeId) (p : Pledges) (delivered : QuorumTree) → v ≡ old.me → PutsCounted old new v p delivered → Puts old new old.me p old.local
puts_own old new v p delivered mine put =
    let P : NodeId → Type 0 = λ w. Puts old new w p put.set in
    let Q : QuorumTree → Type 0 = λ q. Puts old new old.me p q in
    subst Q (put.counted.own mine) (subst P mine put.puts)
