-- One item more, and what was said of places before.
use Rattle.std.proofs.Common.{◌≡◌, ℕ, Bool, true, false, List, [], ◌∷◌, ◌++◌, refl, sym, ◌∙◌, ap, append_assoc, inl, inr}
use Rattle.std.specs.Prelude.{◌||◌, Option, Some, None}
use Rattle.scp_wire.specs.scp_types.specs.declared.names.ConnId.{ConnId}
use Rattle.scp_wire.specs.scp_types.specs.declared.names.Hash.{Hash}
use Rattle.scp_wire.specs.scp_types.specs.declared.names.Seq.{Seq}
use Rattle.scp_wire.specs.scp_quorum.specs.QuorumTree.{QuorumTree}
use Rattle.scp_wire.specs.declared.carried.Carried.{Carried}
use Rattle.scp_wire.specs.declared.side.SideMessage.TheVariants.{Set}
use Rattle.scp_wire.specs.declared.link.Inbound.{Inbound}
use Rattle.scp_wire.specs.declared.link.Inbound.TheVariants as inbound
use Rattle.scp_pending.specs.declared.ready.DropCause.TheVariants.{BadSet, GaveUp, Closed as ByClose, ParkedFull as ByFull}
use Rattle.scp_pending.specs.declared.ready.Ready.{Ready}
use Rattle.scp_pending.specs.declared.ready.Ready.TheVariants.{Deliver, Dropped, Closed, Local}
use Rattle.scp_pending.specs.Delivery.{DeliveryView}
use Rattle.scp_pending.specs.Queues.{named}
use Rattle.scp_pending.specs.Rules.{Settled, rules, settled_by}
use Rattle.scp_pending.specs.Causes.{is_set, is_bad, is_miss, has, plus, times, Place, behind, Waiting, StoodThen, IsTaken, IsBadSet, IsMissed, IsGivenUp, HasCause}
use Rattle.scp_pending.proofs.Basics.{or_assoc, fold-append}

pub settled-push : (start : Settled) (taken : List Inbound) (item : Inbound) → settled_by start (taken ++ item ∷ []) ≡ rules (settled_by start taken) item
settled-push start taken item = fold-append rules start taken (item ∷ [])

pub has-push : (test : Settled → Inbound → Bool) (s : Settled) (items : List Inbound) (item : Inbound) → has test s (items ++ item ∷ []) ≡ (has test s items || test (settled_by s items) item)
has-push test s [] item = or_false (test s item)
  where
    or_false : (b : Bool) → (b || false) ≡ b
    or_false true = refl
    or_false false = refl
has-push test s (x ∷ xs) item = ap (λ b. test s x || b) (has-push test (rules s x) xs item) ∙ or_assoc (test s x) (has test (rules s x) xs) (test (settled_by (rules s x) xs) item)

plus_swap : (n : ℕ) (a b : Bool) → plus (plus n a) b ≡ plus (plus n b) a
plus_swap n true true = refl
plus_swap n true false = refl
plus_swap n false true = refl
plus_swap n false false = refl

pub times-push : (test : Settled → Inbound → Bool) (s : Settled) (items : List Inbound) (item : Inbound) → times test s (items ++ item ∷ []) ≡ plus (times test s items) (test (settled_by s items) item)
times-push test s [] item = refl
times-push test s (x ∷ xs) item = ap (λ n. plus n (test s x)) (times-push test (rules s x) xs item) ∙ plus_swap (times test (rules s x) xs) (test (settled_by (rules s x) xs) item) (test s x)

-- what is settled now, from a message's place on
pub now_from : (start : Settled) (taken : List Inbound) (x : Carried) (p : Place start taken x) → settled_by start taken ≡ settled_by (behind p) p.after
now_from start taken x p = ap (settled_by start) p.at ∙ fold-append rules start p.before (inbound.Carried x ∷ p.after)

abbrev pub later : (start : Settled) (taken : List Inbound) (x : Carried) (item : Inbound) → Place start taken x → Place start (taken ++ item ∷ []) x
later start taken x item p = record { before = p.before; after = p.after ++ item ∷ []; at = ap (λ xs. xs ++ item ∷ []) p.at ∙ append_assoc p.before (inbound.Carried x ∷ p.after) (item ∷ []); live = p.live }

pub has-later : (test : Settled → Inbound → Bool) (start : Settled) (taken : List Inbound) (s : Settled) (x : Carried) (item : Inbound) (p : Place start taken x) → s ≡ settled_by start taken → has test (behind p) (p.after ++ item ∷ []) ≡ (has test (behind p) p.after || test s item)
has-later test start taken s x item p e = has-push test (behind p) p.after item ∙ ap (λ t. has test (behind p) p.after || test t item) (sym (e ∙ now_from start taken x p))

pub times-later : (test : Settled → Inbound → Bool) (start : Settled) (taken : List Inbound) (s : Settled) (x : Carried) (item : Inbound) (p : Place start taken x) → s ≡ settled_by start taken → times test (behind p) (p.after ++ item ∷ []) ≡ plus (times test (behind p) p.after) (test s item)
times-later test start taken s x item p e = times-push test (behind p) p.after item ∙ ap (λ t. plus (times test (behind p) p.after) (test t item)) (sym (e ∙ now_from start taken x p))

abbrev pub Waiting-later : (start : Settled) (taken : List Inbound) (s : Settled) (x : Carried) (hash : Hash) (item : Inbound) → s ≡ settled_by start taken → is_set hash s item ≡ false → Waiting start taken x hash → Waiting start (taken ++ item ∷ []) x hash
Waiting-later start taken s x hash item e none w = record {
  place = later start taken x item w.place;
  names = w.names;
  unknown = w.unknown;
  no_set = has-later (is_set hash) start taken s x item w.place e ∙ ap (λ b. b || is_set hash s item) w.no_set ∙ none;
}

stood-later : (start : Settled) (taken : List Inbound) (item : Inbound) (x : Carried) (p : Place start taken x) (named' : Option Hash) (set : Option QuorumTree) → StoodThen start taken x p named' set → StoodThen start (taken ++ item ∷ []) x (later start taken x item p) named' set
stood-later start taken item x p None set h = tt
stood-later start taken item x p (Some hash) None h = h
stood-later start taken item x p (Some hash) (Some set) (inl before) = inl before
stood-later start taken item x p (Some hash) (Some set) (inr came) = inr (record {
  unknown = came.unknown;
  between = came.between;
  conn = came.conn;
  rest = came.rest ++ item ∷ [];
  at = ap (λ xs. xs ++ item ∷ []) came.at ∙ append_assoc came.between (inbound.Side came.conn (Set set) ∷ came.rest) (item ∷ []);
  no_set = came.no_set;
  patient = came.patient;
  first = came.first;
  stood = came.stood;
})

pub IsTaken-later : (start : Settled) (taken : List Inbound) (item : Inbound) (d : DeliveryView) → IsTaken start taken d → IsTaken start (taken ++ item ∷ []) d
IsTaken-later start taken item d t = record {
  x = t.x;
  place = later start taken t.x item t.place;
  conn = t.conn;
  seq = t.seq;
  message = t.message;
  set = t.set;
  stood = stood-later start taken item t.x t.place (named t.x.message) d.set t.stood;
}

pub IsBadSet-later : (start : Settled) (taken : List Inbound) (s : Settled) (item : Inbound) (c : ConnId) (seq : Seq) → s ≡ settled_by start taken → IsBadSet start taken c seq → IsBadSet start (taken ++ item ∷ []) c seq
IsBadSet-later start taken s item c seq e b = record {
  x = b.x;
  conn = b.conn;
  seq_is = b.seq_is;
  hash = b.hash;
  names = b.names;
  place = later start taken b.x item b.place;
  bad = has-later (is_bad b.hash) start taken s b.x item b.place e ∙ ap (λ k. k || is_bad b.hash s item) b.bad;
}

pub IsGivenUp-later : (start : Settled) (taken : List Inbound) (item : Inbound) (c : ConnId) (seq : Seq) → IsGivenUp start taken c seq → IsGivenUp start (taken ++ item ∷ []) c seq
IsGivenUp-later start taken item c seq g = record {
  x = g.x;
  conn = g.conn;
  seq_is = g.seq_is;
  hash = g.hash;
  names = g.names;
  until = g.until;
  last = g.last;
  rest = g.rest ++ item ∷ [];
  at = ap (λ xs. xs ++ item ∷ []) g.at ∙ append_assoc (g.until ++ g.last ∷ []) g.rest (item ∷ []);
  place = g.place;
  last_miss = g.last_miss;
  twelve = g.twelve;
}

pub IsMissed-later : (start : Settled) (taken : List Inbound) (s : Settled) (hash : Hash) (misses : ℕ) (item : Inbound) → s ≡ settled_by start taken → is_set hash s item ≡ false → IsMissed start taken hash misses → IsMissed start (taken ++ item ∷ []) hash (plus misses (is_miss hash s item))
IsMissed-later start taken s hash misses item e none m = record {
  first = m.first;
  place = later start taken m.first item m.place;
  names = m.names;
  no_set = has-later (is_set hash) start taken s m.first item m.place e ∙ ap (λ b. b || is_set hash s item) m.no_set ∙ none;
  count = times-later (is_miss hash) start taken s m.first item m.place e ∙ ap (λ n. plus n (is_miss hash s item)) m.count;
}

-- causes stay causes
pub HasCause-later : (start : Settled) (taken : List Inbound) (s : Settled) (item : Inbound) → s ≡ settled_by start taken → (r : Ready) → HasCause start taken r → HasCause start (taken ++ item ∷ []) r
HasCause-later start taken s item e (Deliver d) h = IsTaken-later start taken item d h
HasCause-later start taken s item e (Dropped c seq BadSet) h = IsBadSet-later start taken s item c seq e h
HasCause-later start taken s item e (Dropped c seq GaveUp) h = IsGivenUp-later start taken item c seq h
HasCause-later start taken s item e (Dropped c seq ByClose) h = tt
HasCause-later start taken s item e (Dropped c seq ByFull) h = tt
HasCause-later start taken s item e (Closed c cause) h = tt
HasCause-later start taken s item e (Local command) h = tt
