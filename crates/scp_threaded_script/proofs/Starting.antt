-- Nodes that are started one after another, each with its own ends of outboxes.
use Rattle.std.proofs.Common.{◌≡◌, ◌∙◌, ℕ, ◌+◌, ◌≤◌, ◌<◌, Bool, ap, sym, refl, subst, List, [], ◌∷◌, ◌++◌, length, Some, append_assoc, arith}
use Rattle.std.specs.Prelude.{map, slice_get}
use Rattle.std.specs.Global.{Vec}
use Rattle.std.proofs.lemmas.List.{length-append, length-map}
use Rattle.scp_threaded_node.specs.scp_shared_outbox.specs.Ends.{MarkerView, TakerView}
use Rattle.scp_threaded_node.specs.scp_shared_outbox.specs.declared.outlets.Outlets.{Outlets}
use Rattle.scp_threaded_node.specs.scp_shared_outbox.specs.Places.{Each}
use Rattle.scp_threaded_node.specs.scp_shared_outbox.specs.Table.{AreMade, AreOutletsOf, HavePutNothing, IsTakerOf}
use Rattle.scp_script.specs.declared.command.Command.{Command}
use Rattle.scp_script.specs.Nodes.{id_of, peers_of, set_at, capacities_in}
use Rattle.scp_script.specs.Script.{node_count}
use Rattle.scp_threaded_node.specs.Kv.{Node}
use Rattle.scp_threaded_node.specs.Outlets.{GivenEnds, given_to}
use Rattle.scp_threaded_node.specs.Seats.{Runs, AreDriven}
use Rattle.scp_threaded_script.specs.Lines.{driven_to}
use Rattle.scp_threaded_script.specs.inside.Outlets.{IsKeeping, AreKeeping, IsSeated, AreSeated, all_given}
use Rattle.scp_threaded_script.specs.inside.Played.{HaveDoneSoFar}
use Rattle.scp_threaded_node.specs.scp_shared_outbox.proofs.Each.{each_nil, each_push}
use Rattle.scp_threaded_script.proofs.Nodes.{done_none, done_more, given_more}

-- of the nodes so far each runs, and has its own ends
pub record AreStarted (keeps : Bool) (commands : List Command) (outlets yielded rest : List Outlets) (takers rows : List (Vec TakerView)) (nodes : List Node) : Type 0 where
  pub is : outlets ≡ yielded ++ rest
  pub front : List (Vec TakerView)
  pub rows_are : takers ≡ front ++ rows
  pub front_count : length front ≡ length yielded
  pub count : length nodes ≡ length yielded
  pub done : HaveDoneSoFar commands [] nodes
  pub seated : (markers : List (Vec MarkerView)) → AreMade (node_count commands) outlets markers takers → AreSeated (node_count commands) markers (all_given nodes)
  pub keeping : AreKeeping keeps (all_given nodes)

pub started_none : (keeps : Bool) (commands : List Command) (outlets rest : List Outlets) (takers rows : List (Vec TakerView)) (nodes : List Node) → rest ≡ outlets → rows ≡ takers → nodes ≡ [] → AreStarted keeps commands outlets [] rest takers rows nodes
started_none keeps commands outlets rest takers rows nodes all all_rows none = record {
  is = sym all;
  front = [];
  rows_are = sym all_rows;
  front_count = refl;
  count = ap (λ (xs : List Node). length xs) none;
  done = subst (HaveDoneSoFar commands []) (sym none) (done_none commands);
  seated = λ markers made. subst (λ (xs : List Node). AreSeated (node_count commands) markers (all_given xs)) (sym none) (each_nil (λ i g. IsSeated (node_count commands) markers (i + 1) g));
  keeping = subst (λ (xs : List Node). AreKeeping keeps (all_given xs)) (sym none) (each_nil (λ i g. IsKeeping keeps g));
}

module _ {T : Type 0} where
  -- what stands behind a front
  pub behind : (front rest whole : List T) (x : T) → whole ≡ front ++ x ∷ rest → slice_get whole (length front) ≡ Some x
  behind front rest whole x is = ap (λ (xs : List T). slice_get xs (length front)) is ∙ at front
    where
      at : (xs : List T) → slice_get (xs ++ x ∷ rest) (length xs) ≡ Some x
      at [] = refl
      at (y ∷ xs) = at xs

  pub on : (front rest whole : List T) (x : T) → whole ≡ front ++ x ∷ rest → whole ≡ (front ++ x ∷ []) ++ rest
  on front rest whole x is = is ∙ sym (append_assoc front (x ∷ []) rest)

module _ (keeps : Bool) (commands : List Command) (outlets yielded rest : List Outlets) (takers rows : List (Vec TakerView)) (nodes : List Node) (s : AreStarted keeps commands outlets yielded rest takers rows nodes)
    (own : Outlets) (rest2 : List Outlets) (row : Vec TakerView) (rows2 : List (Vec TakerView)) (is_rest : rest ≡ own ∷ rest2) (is_rows : rows ≡ row ∷ rows2) where
  outlets_are : outlets ≡ yielded ++ own ∷ rest2
  outlets_are = s.is ∙ ap (λ (os : List Outlets). yielded ++ os) is_rest

  rows_are : takers ≡ s.front ++ row ∷ rows2
  rows_are = s.rows_are ∙ ap (λ (ts : List (Vec TakerView)). s.front ++ ts) is_rows

  own_at : slice_get outlets (length yielded) ≡ Some own
  own_at = behind yielded rest2 outlets own outlets_are

  row_at : slice_get takers (length yielded) ≡ Some row
  row_at = ap (slice_get takers) (sym s.front_count) ∙ behind s.front rows2 takers row rows_are

  -- the next node's ends are unused
  pub next_unused : (markers : List (Vec MarkerView)) → AreMade (node_count commands) outlets markers takers → HavePutNothing own.pend.items × HavePutNothing own.slot.items × HavePutNothing own.apply.items
  next_unused markers made = (let h = made.outlets_are (length yielded) own own_at in (h.1, h.2, h.3))

  pub next_takers : (markers : List (Vec MarkerView)) → AreMade (node_count commands) outlets markers takers → (length row.items + 1 ≡ node_count commands) × Each (λ i t. t.gave ≡ []) row.items
  next_takers markers made = (made.takers_many.each (length yielded) row row_at, λ place t at. (made.takers_are (length yielded) row row_at place t at).1)

  -- and it has a number
  pub next_number : (markers : List (Vec MarkerView)) → AreMade (node_count commands) outlets markers takers → length nodes + 1 ≤ node_count commands
  next_number markers made = omega (arith, s.count, made.outlets_many, ap (λ (os : List Outlets). length os) outlets_are, length-append yielded (own ∷ rest2))

  pub started_more : (node : Node) (new : List Node) (number : ℕ) → new ≡ nodes ++ node ∷ [] → number ≡ length nodes + 1
      → Runs (id_of number) (set_at number commands) (peers_of (node_count commands) number) (capacities_in commands) node → node.local.sent ≡ [] → AreDriven (driven_to commands number) (λ l. []) node.lanes.items
      → ((markers : List (Vec MarkerView)) → AreOutletsOf (node_count commands) markers number own → Each (IsTakerOf markers number) row.items → IsSeated (node_count commands) markers number (given_to node))
      → IsKeeping keeps (given_to node) → AreStarted keeps commands outlets (yielded ++ own ∷ []) rest2 takers rows2 new
  started_more node new number is at runs local driven given keeping = record {
    is = on yielded rest2 outlets own outlets_are;
    front = s.front ++ row ∷ [];
    rows_are = on s.front rows2 takers row rows_are;
    front_count = omega (arith, length-append s.front (row ∷ []), length-append yielded (own ∷ []), s.front_count);
    count = omega (arith, ap (λ (xs : List Node). length xs) is, length-append nodes (node ∷ []), length-append yielded (own ∷ []), s.count);
    done = done_more commands number nodes new node at is s.done runs local driven;
    seated = λ markers made.
        let n : number ≡ length yielded + 1 = omega (arith, at, s.count) in
        let here : IsSeated (node_count commands) markers number (given_to node) = given markers
        (subst (λ (k : ℕ). AreOutletsOf (node_count commands) markers k own) (sym n) (made.outlets_are (length yielded) own own_at).0)
        (subst (λ (k : ℕ). Each (IsTakerOf markers k) row.items) (sym n) (λ place t at. (made.takers_are (length yielded) row row_at place t at).0)) in
        let long : length (all_given nodes) + 1 ≡ number = omega (arith, length-map nodes given_to, at) in
        each_push (λ i g. IsSeated (node_count commands) markers (i + 1) g) (all_given nodes) (all_given new) (given_to node) (given_more nodes new node is) (s.seated markers made) (subst (λ (k : ℕ). IsSeated (node_count commands) markers k (given_to node)) (sym long) here);
    keeping = each_push (λ i g. IsKeeping keeps g) (all_given nodes) (all_given new) (given_to node) (given_more nodes new node is) s.keeping keeping;
  }
