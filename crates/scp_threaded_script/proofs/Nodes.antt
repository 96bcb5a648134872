-- The nodes of a script one by one: started, and told of when they have ended.
use Rattle.std.proofs.Common.{◌≡◌, ◌∙◌, ◌⊎◌, inl, inr, ℕ, ◌+◌, ◌≤◌, ◌<◌, ap, sym, get_or, subst, List, [], ◌∷◌, ◌++◌, length, Option, Some, None, Result, Ok, refl, arith}
use Rattle.std.specs.Prelude.{IfOk, slice_get}
use Rattle.std.specs.Global.{Vec}
use Rattle.std.proofs.lemmas.List.{length-append, map-append}
use Rattle.std.proofs.lemmas.Option.{slice_get_read, slice_get_within}
use Rattle.scp_threaded_node.specs.scp_types.specs.declared.fault.Fault.{Fault}
use Rattle.scp_threaded_node.specs.scp_shared_outbox.specs.Ends.{TakerView}
use Rattle.scp_threaded_node.specs.scp_shared_outbox.specs.declared.outlets.Outlets.{Outlets}
use Rattle.scp_threaded_node.specs.scp_gather.specs.Kv.{NodeReport, Left}
use Rattle.scp_script.specs.declared.command.Command.{Command}
use Rattle.scp_script.specs.Nodes.{id_of, peers_of, set_at, capacities_in}
use Rattle.scp_script.specs.Script.{node_count}
use Rattle.scp_threaded_node.specs.Kv.{Node, Over, IsEnded, AreHandedBack}
use Rattle.scp_threaded_node.specs.declared.ending.Stood.{Stood}
use Rattle.scp_threaded_node.specs.Outlets.{GivenEnds, given_to}
use Rattle.scp_threaded_node.specs.Seats.{Runs, AreDriven}
use Rattle.scp_threaded_node.specs.scp_shared_outbox.proofs.ListsOfAll.{push_cases}
use Rattle.scp_threaded_script.specs.Lines.{driven_to, items_to, commands_for}
use Rattle.scp_threaded_script.specs.inside.Played.{HaveDoneSoFar}
use Rattle.scp_threaded_script.specs.Reported.{AllRunSoFar}
use Rattle.scp_threaded_script.specs.Reported.{AreStood}
use Rattle.scp_threaded_script.specs.inside.Outlets.{all_given}
use Rattle.scp_threaded_script.specs.inside.Over.{IsOver, AreOver}
use Rattle.scp_threaded_script.specs.inside.Reported.{AllStand}
use Rattle.scp_threaded_node.specs.scp_shared_outbox.proofs.Each.{each_nil, each_push, each_front, each_last}
use Rattle.scp_threaded_script.proofs.Peers.{peer_count}

abbrev RunsAt : List Command → ℕ → Node → Type 0
RunsAt commands i node = Runs (id_of (i + 1)) (set_at (i + 1) commands) (peers_of (node_count commands) (i + 1)) (capacities_in commands) node

abbrev IsToldAt : List Command → ℕ → Node → Type 0
IsToldAt done i node = node.local.sent ≡ commands_for (i + 1) done

abbrev IsSentAt : List Command → List Command → ℕ → Node → Type 0
IsSentAt commands done i node = AreDriven (driven_to commands (i + 1)) (items_to (i + 1) done) node.lanes.items

-- ---- started

pub done_none : (commands : List Command) → HaveDoneSoFar commands [] []
done_none commands = record { run = each_nil (RunsAt commands); told = each_nil (IsToldAt []); sent = each_nil (IsSentAt commands []) }

pub done_more : (commands : List Command) (number : ℕ) (nodes new : List Node) (node : Node) → number ≡ length nodes + 1 → new ≡ nodes ++ node ∷ [] → HaveDoneSoFar commands [] nodes → Runs (id_of number) (set_at number commands) (peers_of (node_count commands) number) (capacities_in commands) node → node.local.sent ≡ [] → AreDriven (driven_to commands number) (λ l. []) node.lanes.items → HaveDoneSoFar commands [] new
done_more commands number nodes new node at is done runs local driven = record {
  run = each_push (RunsAt commands) nodes new node is done.run (subst (λ n. Runs (id_of n) (set_at n commands) (peers_of (node_count commands) n) (capacities_in commands) node) at runs);
  told = each_push (IsToldAt []) nodes new node is done.told local;
  sent = each_push (IsSentAt commands []) nodes new node is done.sent (subst (λ n. AreDriven (driven_to commands n) (λ l. []) node.lanes.items) at driven);
}

-- ---- without the last

pub runs_front : (commands : List Command) (rest nodes : List Node) (last : Node) → nodes ≡ rest ++ last ∷ [] → AllRunSoFar commands nodes → AllRunSoFar commands rest
runs_front commands rest nodes last is run = each_front (RunsAt commands) rest nodes last is run

pub runs_last : (commands : List Command) (rest nodes : List Node) (last : Node) → nodes ≡ rest ++ last ∷ [] → AllRunSoFar commands nodes → Runs (id_of (length rest + 1)) (set_at (length rest + 1) commands) (peers_of (node_count commands) (length rest + 1)) (capacities_in commands) last
runs_last commands rest nodes last is run = each_last (RunsAt commands) rest nodes last is run

pub done_front : (commands done : List Command) (rest nodes : List Node) (last : Node) → nodes ≡ rest ++ last ∷ [] → HaveDoneSoFar commands done nodes → HaveDoneSoFar commands done rest
done_front commands done rest nodes last is all = record {
  run = each_front (RunsAt commands) rest nodes last is all.run;
  told = each_front (IsToldAt done) rest nodes last is all.told;
  sent = each_front (IsSentAt commands done) rest nodes last is all.sent;
}

-- ---- told of

of_ok : {T E : Type 0} (P : T → Type 0) (r : Result T E) (x : T) → r ≡ Ok x → IfOk r P → P x
of_ok P r x is all = subst (λ q. IfOk q P) is all

-- what is told of the last node, and what it hands back
abbrev LastOver : List Command → List Node → Node → List Stood → Over → Type 0
LastOver commands rest last stood r =
    let n = length rest + 1 in
    (left : Left) × IsEnded (id_of n) (set_at n commands) (peers_of (node_count commands) n) (capacities_in commands) last.local.sent (driven_to commands n) (items_to n commands) stood left r.report
    × AreHandedBack (id_of n) (set_at n commands) (peers_of (node_count commands) n) (given_to last) left r.outlets r.takers.items

pub last_over : (commands : List Command) (rest nodes : List Node) (last : Node) (stood : List Stood) (told : Result Over Fault) (r : Over)
    → nodes ≡ rest ++ last ∷ [] → HaveDoneSoFar commands commands nodes → AreStood commands (length rest + 1) stood → told ≡ Ok r
    → IfOk told (LastOver commands rest last stood) → (left : Left) × IsOver commands (length rest + 1) (given_to last) left r.report r.outlets r.takers
last_over commands rest nodes last stood told r is done stands went over =
    let n = length rest + 1 in
    let e = of_ok (LastOver commands rest last stood) told r went over in (
      e.0,
      record {
        reported = record {
          stood = stood;
          stood_are = stands;
          ended = subst (λ cs. IsEnded (id_of n) (set_at n commands) (peers_of (node_count commands) n) (capacities_in commands) cs (driven_to commands n) (items_to n commands) stood e.0 r.report) (each_last (IsToldAt commands) rest nodes last is done.told) e.1;
        };
        back = e.2;
      },
    )

pub last_sent : (commands done : List Command) (rest nodes : List Node) (last : Node) → nodes ≡ rest ++ last ∷ [] → HaveDoneSoFar commands done nodes → AreDriven (driven_to commands (length rest + 1)) (items_to (length rest + 1) done) last.lanes.items
last_sent commands done rest nodes last is all = each_last (IsSentAt commands done) rest nodes last is all.sent

-- none ended
none_over : (commands : List Command) → AreOver commands [] [] [] []
none_over commands = record {
  lefts = [];
  lefts_count = refl;
  reports_count = refl;
  outlets_count = refl;
  takers_count = refl;
  each = λ i g hg left hl r hr o ho t ht. let k : None ≡ Some g = hg in cc;
}

pub over_none : (commands : List Command) (given : List GivenEnds) (reports : List NodeReport) (outlets : List Outlets) (takers : List (Vec (Option TakerView))) → given ≡ [] → reports ≡ [] → outlets ≡ [] → takers ≡ [] → AreOver commands given reports outlets takers
over_none commands given reports outlets takers a b c d = rw (a, b, c, d) (none_over commands)

-- one node more
pub over_more : (commands : List Command) (given more : List GivenEnds) (g : GivenEnds) (reports reports2 : List NodeReport) (outlets outlets2 : List Outlets) (takers takers2 : List (Vec (Option TakerView))) (left : Left) (r : NodeReport) (o : Outlets) (t : Vec (Option TakerView))
    → more ≡ given ++ g ∷ [] → reports2 ≡ reports ++ r ∷ [] → outlets2 ≡ outlets ++ o ∷ [] → takers2 ≡ takers ++ t ∷ []
    → AreOver commands given reports outlets takers → IsOver commands (length given + 1) g left r o t → AreOver commands more reports2 outlets2 takers2
over_more commands given more g reports reports2 outlets outlets2 takers takers2 left r o t is_more is_reports is_outlets is_takers all one = rw (is_more, is_reports, is_outlets, is_takers) whole
  where
    by : (i : ℕ) (g2 : GivenEnds) → (slice_get given i ≡ Some g2) ⊎ ((i ≡ length given) × (g2 ≡ g)) → (l2 : Left) → (slice_get all.lefts i ≡ Some l2) ⊎ ((i ≡ length all.lefts) × (l2 ≡ left))
        → (r2 : NodeReport) → (slice_get reports i ≡ Some r2) ⊎ ((i ≡ length reports) × (r2 ≡ r)) → (o2 : Outlets) → (slice_get outlets i ≡ Some o2) ⊎ ((i ≡ length outlets) × (o2 ≡ o))
        → (t2 : Vec (Option TakerView)) → (slice_get takers i ≡ Some t2) ⊎ ((i ≡ length takers) × (t2 ≡ t)) → IsOver commands (i + 1) g2 l2 r2 o2 t2
    by i g2 (inl a) l2 (inl b) r2 (inl c) o2 (inl d) t2 (inl e) = all.each i g2 a l2 b r2 c o2 d t2 e
    by i g2 (inl a) l2 (inr b) r2 c o2 d t2 e = absurd (omega (arith, slice_get_within given i g2 a, b.0, all.lefts_count))
    by i g2 (inl a) l2 (inl b) r2 (inr c) o2 d t2 e = absurd (omega (arith, slice_get_within given i g2 a, c.0, all.reports_count))
    by i g2 (inl a) l2 (inl b) r2 (inl c) o2 (inr d) t2 e = absurd (omega (arith, slice_get_within given i g2 a, d.0, all.outlets_count))
    by i g2 (inl a) l2 (inl b) r2 (inl c) o2 (inl d) t2 (inr e) = absurd (omega (arith, slice_get_within given i g2 a, e.0, all.takers_count))
    by i g2 (inr a) l2 (inl b) r2 c o2 d t2 e = absurd (omega (arith, slice_get_within all.lefts i l2 b, a.0, all.lefts_count))
    by i g2 (inr a) l2 (inr b) r2 (inl c) o2 d t2 e = absurd (omega (arith, slice_get_within reports i r2 c, a.0, all.reports_count))
    by i g2 (inr a) l2 (inr b) r2 (inr c) o2 (inl d) t2 e = absurd (omega (arith, slice_get_within outlets i o2 d, a.0, all.outlets_count))
    by i g2 (inr a) l2 (inr b) r2 (inr c) o2 (inr d) t2 (inl e) = absurd (omega (arith, slice_get_within takers i t2 e, a.0, all.takers_count))
    by i g2 (inr a) l2 (inr b) r2 (inr c) o2 (inr d) t2 (inr e) = rw (a.0, a.1, b.1, c.1, d.1, e.1) one

    whole : AreOver commands (given ++ g ∷ []) (reports ++ r ∷ []) (outlets ++ o ∷ []) (takers ++ t ∷ [])
    whole = record {
      lefts = all.lefts ++ left ∷ [];
      lefts_count = omega (arith, length-append all.lefts (left ∷ []), length-append given (g ∷ []), all.lefts_count);
      reports_count = omega (arith, length-append reports (r ∷ []), length-append given (g ∷ []), all.reports_count);
      outlets_count = omega (arith, length-append outlets (o ∷ []), length-append given (g ∷ []), all.outlets_count);
      takers_count = omega (arith, length-append takers (t ∷ []), length-append given (g ∷ []), all.takers_count);
      each = λ i g2 hg l2 hl r2 hr o2 ho t2 ht. by i g2 (push_cases given g g2 i hg) l2 (push_cases all.lefts left l2 i hl) r2 (push_cases reports r r2 i hr) o2 (push_cases outlets o o2 i ho) t2 (push_cases takers t t2 i ht);
    }

-- what nodes were given, and one more
pub given_more : (rest nodes : List Node) (last : Node) → nodes ≡ rest ++ last ∷ [] → all_given nodes ≡ all_given rest ++ given_to last ∷ []
given_more rest nodes last is = ap (λ (xs : List Node). all_given xs) is ∙ map-append given_to rest (last ∷ [])

-- how the links to a node stand, read at its place
pub stands_at : (commands : List Command) (all : List (Vec Stood)) (place : ℕ) (stood : Vec Stood) (read : List Stood) → AllStand commands all → place < length all → stood ≡ get_or all place stood → read ≡ stood.items → AreStood commands (place + 1) read
stands_at commands all place stood read stand lt is same = subst (AreStood commands (place + 1)) (sym same) (stand.1 place stood (slice_get_read all (length all) place stood refl lt is))

-- there is one for each link of the node
pub lanes_fit : (commands : List Command) (number : ℕ) (node : Node) (stood : List Stood) → 1 ≤ number → number ≤ node_count commands → Runs (id_of number) (set_at number commands) (peers_of (node_count commands) number) (capacities_in commands) node → AreStood commands number stood → length node.lanes.items ≤ length stood
lanes_fit commands number node stood one most runs stand = omega (arith, runs.count, peer_count (node_count commands) number one most, stand.0)
