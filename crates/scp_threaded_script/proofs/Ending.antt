-- Nodes that have ended, one more at a time: the first of which a stage's fault is told.
use Rattle.std.proofs.Common.{◌≡◌, ◌∙◌, ℕ, ◌+◌, ◌≤◌, ◌<◌, ap, sym, refl, subst, List, [], ◌∷◌, ◌++◌, length, Option, Some, None, ◌⊎◌, inl, inr, ⊎_elim, Result, Ok, Err, IfErr, arith}
use Rattle.std.specs.Prelude.{IfSome, MatchResult, slice_get}
use Rattle.std.specs.Option.{option_or}
use Rattle.std.specs.Result.{result_err}
use Rattle.std.specs.Global.{Vec}
use Rattle.std.proofs.lemmas.List.{length-append}
use Rattle.std.proofs.lemmas.Option.{slice_get_within}
use Rattle.scp_threaded_node.specs.scp_types.specs.declared.limits.TheConstants.{NODE_LIMIT}
use Rattle.scp_threaded_node.specs.scp_types.specs.declared.fault.Fault.{Fault}
use Rattle.scp_threaded_node.specs.scp_types.specs.declared.fault.Fault.TheVariants.{NoMemory, Malformed, TooLong, Insane, Full, NotOpen, AlreadyOpen, LivesSpent, BadConfig, Failed, JournalFull, BadScript, Refused, Device}
use Rattle.scp_threaded_node.specs.scp_types.specs.declared.fault.Stage.{Stage}
use Rattle.scp_script.specs.declared.command.Command.{Command}
use Rattle.scp_script.specs.Script.{node_count}
use Rattle.scp_threaded_node.specs.declared.ending.Stood.{Stood}
use Rattle.scp_threaded_node.specs.Kv.{Node, NodeEnd}
use Rattle.scp_threaded_node.specs.Faults.{IsNodeEnd, IsTold, fault_of}
use Rattle.scp_threaded_node.specs.scp_shared_outbox.proofs.ListsOfAll.{push_cases}
use Rattle.scp_threaded_script.specs.declared.running.NodeFault.{NodeFault}
use Rattle.scp_threaded_script.specs.Reported.{AreStood, AllRunSoFar, AreNodeEnds, IsGivenUp, IsLineFault, IsOneOf, IsToldOf, refused_at, first_refused}
use Rattle.scp_threaded_script.specs.inside.Reported.{AllStand}
use Rattle.scp_threaded_script.specs.inside.Ending.{HaveAllEnded, IsEndFault, IsNumbered}

or_none : (o : Option NodeFault) → option_or o None ≡ o
or_none None = refl
or_none (Some x) = refl

or_assoc : (a b c : Option NodeFault) → option_or (option_or a b) c ≡ option_or a (option_or b c)
or_assoc None b c = refl
or_assoc (Some x) b c = refl

-- one node more
first_more : (n : ℕ) (ends : List NodeEnd) (e : NodeEnd) → first_refused n (ends ++ e ∷ []) ≡ option_or (first_refused n ends) (refused_at (n + length ends) (fault_of e))
first_more n [] e = or_none (refused_at n (fault_of e)) ∙ ap (λ (m : ℕ). refused_at m (fault_of e)) (omega arith)
first_more n (x ∷ ends) e =
    ap (λ (o : Option NodeFault). option_or (refused_at n (fault_of x)) o) (first_more (n + 1) ends e ∙ ap (λ (m : ℕ). option_or (first_refused (n + 1) ends) (refused_at m (fault_of e))) (omega arith))
    ∙ sym (or_assoc (refused_at n (fault_of x)) (first_refused (n + 1) ends) (refused_at (n + length (x ∷ ends)) (fault_of e)))

-- it is a stage's fault, and names one of the nodes
abbrev pub IsStageFrom : ℕ → ℕ → NodeFault → Type 0
IsStageFrom n m r = (s : Stage) × (r.fault ≡ Refused s) × (n ≤ r.node) × (r.node < m)

some_or : (P : NodeFault → Type 0) (a b : Option NodeFault) → IfSome a P → IfSome b P → IfSome (option_or a b) P
some_or P None b one two = two
some_or P (Some x) b one two = one

if_some : {P Q : NodeFault → Type 0} (o : Option NodeFault) → ((x : NodeFault) → P x → Q x) → IfSome o P → IfSome o Q
if_some None f h = tt
if_some (Some x) f h = f x h

refused_is : (n m : ℕ) (o : Option Fault) → n < m → IfSome (refused_at n o) (IsStageFrom n m)
refused_is n m None lt = tt
refused_is n m (Some (Refused stage)) lt = (stage, refl, omega arith, lt)
refused_is n m (Some NoMemory) lt = tt
refused_is n m (Some (Malformed place)) lt = tt
refused_is n m (Some TooLong) lt = tt
refused_is n m (Some Insane) lt = tt
refused_is n m (Some Full) lt = tt
refused_is n m (Some NotOpen) lt = tt
refused_is n m (Some AlreadyOpen) lt = tt
refused_is n m (Some LivesSpent) lt = tt
refused_is n m (Some BadConfig) lt = tt
refused_is n m (Some Failed) lt = tt
refused_is n m (Some JournalFull) lt = tt
refused_is n m (Some (BadScript line)) lt = tt
refused_is n m (Some Device) lt = tt

pub first_is : (n : ℕ) (ends : List NodeEnd) → IfSome (first_refused n ends) (IsStageFrom n (n + length ends))
first_is n [] = tt
first_is n (e ∷ ends) = some_or (IsStageFrom n (n + length (e ∷ ends))) (refused_at n (fault_of e)) (first_refused (n + 1) ends)
    (refused_is n (n + length (e ∷ ends)) (fault_of e) (omega arith))
    (if_some (first_refused (n + 1) ends) (λ r h. (h.0, h.1, omega (arith, h.2), omega (arith, h.3))) (first_is (n + 1) ends))

numbered : (n m : ℕ) (o : Option NodeFault) → 1 ≤ n → IfSome o (IsStageFrom n m) → IsNumbered o
numbered n m None one h = tt
numbered n m (Some r) one h = omega (arith, one, h.2)

pub all_numbered : (nodes : List Node) (all : List (Vec Stood)) (refused : Option NodeFault) → HaveAllEnded nodes all refused → IsNumbered refused
all_numbered nodes all refused have = subst (λ (o : Option NodeFault). IsNumbered o) (sym have.is) (numbered 1 (1 + length have.ends) (first_refused 1 have.ends) (omega arith) (first_is 1 have.ends))

-- what is told of a node's end names its stage, where its fault does
told_err : (n : ℕ) (o : Option Fault) (f : Fault) → IsTold o f → refused_at n (Some f) ≡ refused_at n o
told_err n None f told = ap (λ (x : Fault). refused_at n (Some x)) told
told_err n (Some g) f told = ap (λ (x : Fault). refused_at n (Some x)) told

-- the stage that is told of a node, where it wasn't reported, is that of its fault; where it was, its fault is none
pub told_refused : {T : Type 0} (n : ℕ) (o : Option Fault) (r : Result T Fault) → MatchResult r (λ _. o ≡ None) (IsTold o) → refused_at n (result_err r) ≡ refused_at n o
told_refused n o (Ok x) told = ap (λ (w : Option Fault). refused_at n w) (sym told)
told_refused n o (Err f) told = told_err n o f told

-- nodes that ended, and one more
pub ended_more : (nodes rest : List Node) (last : Node) (all : List (Vec Stood)) (stood : Vec Stood) (before refused : Option NodeFault) (e : NodeEnd)
    → nodes ≡ rest ++ last ∷ [] → slice_get all (length rest) ≡ Some stood → IsNodeEnd last stood.items e
    → refused ≡ option_or before (refused_at (length rest + 1) (fault_of e)) → HaveAllEnded rest all before → HaveAllEnded nodes all refused
ended_more nodes rest last all stood before refused e is at ended told have =
    record {
      ends = have.ends ++ e ∷ [];
      count = omega (arith, length-append have.ends (e ∷ []), have.count, whole);
      ended = λ commands stand few. let earlier = have.ended commands stand (omega (arith, few, whole)) in record {
        count = omega (arith, length-append have.ends (e ∷ []), have.count, whole);
        each = λ i node hn x hx. by commands stand earlier i node (push_cases rest last node i (ap (λ (l : List Node). slice_get l i) (sym is) ∙ hn)) x (push_cases have.ends e x i hx);
      };
      is = told
          ∙ ap (λ (o : Option NodeFault). option_or o (refused_at (length rest + 1) (fault_of e))) have.is
          ∙ ap (λ (m : ℕ). option_or (first_refused 1 have.ends) (refused_at m (fault_of e))) (omega (arith, have.count))
          ∙ sym (first_more 1 have.ends e);
    }
  where
    whole : length nodes ≡ length rest + 1
    whole = omega (arith, ap (λ (l : List Node). length l) is, length-append rest (last ∷ []))

    by : (commands : List Command) → AllStand commands all → AreNodeEnds commands rest have.ends → (i : ℕ) (node : Node) → (slice_get rest i ≡ Some node) ⊎ ((i ≡ length rest) × (node ≡ last)) → (x : NodeEnd) → (slice_get have.ends i ≡ Some x) ⊎ ((i ≡ length have.ends) × (x ≡ e)) → (st : List Stood) × AreStood commands (i + 1) st × IsNodeEnd node st x
    by commands stand earlier i node (inl a) x (inl b) = earlier.each i node a x b
    by commands stand earlier i node (inl a) x (inr b) = absurd (omega (arith, slice_get_within rest i node a, b.0, have.count))
    by commands stand earlier i node (inr a) x (inl b) = absurd (omega (arith, slice_get_within have.ends i x b, a.0, have.count))
    by commands stand earlier i node (inr a) x (inr b) = rw (a.1, b.1) (stood.items, rw a.0 (stand.1 (length rest) stood at), ended)

pub nil_of : (nodes : List Node) → length nodes ≡ 0 → nodes ≡ []
nil_of [] e = refl
nil_of (node ∷ nodes) e = absurd (omega (arith, e))

-- none ended
pub none_ended : (all : List (Vec Stood)) → HaveAllEnded [] all None
none_ended all = record {
  ends = [];
  count = refl;
  ended = λ commands stand few. record { count = refl; each = λ i node hn x hx. let k : None ≡ Some node = hn in cc };
  is = refl;
}

-- nodes of a script that ended, of which this is told
pub given_up : (commands : List Command) (nodes : List Node) (all : List (Vec Stood)) (refused : Option NodeFault) (e : NodeFault)
    → AllRunSoFar commands nodes → length nodes ≤ node_count commands → node_count commands ≤ NODE_LIMIT → AllStand commands all → HaveAllEnded nodes all refused → IsToldOf (node_count commands) refused e → IsGivenUp commands e
given_up commands nodes all refused e run few most stand have told = record {
  nodes = nodes;
  run = run;
  few = few;
  most = most;
  ends = have.ends;
  ended = have.ended commands stand few;
  told = subst (λ (o : Option NodeFault). IsToldOf (node_count commands) o e) have.is told;
}

-- nothing was started, for want of memory
pub not_started : (commands : List Command) → node_count commands ≤ NODE_LIMIT → IsGivenUp commands (record { fault = NoMemory; node = 0 })
not_started commands most = record {
  nodes = [];
  run = λ i node at. let k : None ≡ Some node = at in cc;
  few = omega arith;
  most = most;
  ends = [];
  ended = record { count = refl; each = λ i node hn x hx. let k : None ≡ Some node = hn in cc };
  told = refl;
}

-- ---- what is told then

-- it is a stage's fault of a node that is there, or why a line wasn't done
abbrev pub IsOfNodes : ℕ → NodeFault → Type 0
IsOfNodes count e = ((s : Stage) × (e.fault ≡ Refused s) × IsOneOf count e.node) ⊎ IsLineFault count e.node e.fault

told_of_nodes : (count ended : ℕ) (o : Option NodeFault) (e : NodeFault) → ended ≤ count → IfSome o (IsStageFrom 1 (1 + ended)) → IsToldOf count o e → IsOfNodes count e
told_of_nodes count ended None e few h told = inr told
told_of_nodes count ended (Some r) e few h told = inl (h.0, ap (λ (x : NodeFault). x.fault) told ∙ h.1, rw told (h.2, omega (arith, h.3, few)))

pub given_up_by_nodes : (commands : List Command) (e : NodeFault) → IsGivenUp commands e → IsOfNodes (node_count commands) e
given_up_by_nodes commands e g = told_of_nodes (node_count commands) (length g.ends) (first_refused 1 g.ends) e (omega (arith, g.ended.count, g.few)) (first_is 1 g.ends) g.told

if_err : {T E : Type 0} {P Q : E → Type 0} (r : Result T E) → ((e : E) → P e → Q e) → IfErr r P → IfErr r Q
if_err (Ok x) f h = tt
if_err (Err e) f h = f e h

-- what is told where all have ended is why nothing is told
pub all_given_up : {T : Type 0} (commands : List Command) (nodes : List Node) (all : List (Vec Stood)) (refused : Option NodeFault) (r : Result T NodeFault)
    → AllRunSoFar commands nodes → length nodes ≤ node_count commands → node_count commands ≤ NODE_LIMIT → AllStand commands all → HaveAllEnded nodes all refused → IfErr r (IsToldOf (node_count commands) refused) → IfErr r (IsGivenUp commands)
all_given_up commands nodes all refused r run few most stand have told = if_err r (λ e t. given_up commands nodes all refused e run few most stand have t) told

-- the stage that failed is told before the line that wasn't done
pub told_at_line : (count : ℕ) (refused : Option NodeFault) (at_line at_end : NodeFault) → IsNumbered refused → IsLineFault count at_line.node at_line.fault → IsEndFault refused at_end → at_end.node ≡ 0 → IsToldOf count refused at_line
told_at_line count None at_line at_end numbered line end none = line
told_at_line count (Some r) at_line at_end numbered line end none = absurd (omega (arith, numbered, ap (λ (e : NodeFault). e.node) end, none))

pub told_at_end : (count : ℕ) (refused : Option NodeFault) (at_end : NodeFault) → IsEndFault refused at_end → IsToldOf count refused at_end
told_at_end count None at_end end = ⊎_elim (λ e. rw e refl) (λ e. rw e refl) end
told_at_end count (Some r) at_end end = end

pub told_by_end : {T : Type 0} (count : ℕ) (refused : Option NodeFault) (r : Result T NodeFault) → MatchResult r (λ _. refused ≡ None) (IsEndFault refused) → IfErr r (IsToldOf count refused)
told_by_end count refused (Ok x) told = tt
told_by_end count refused (Err e) told = told_at_end count refused e told
