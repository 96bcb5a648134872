-- What nodes say, with one node more.
use Rattle.std.proofs.Common.{◌≡◌, ◌+◌, ◌<◌, ℕ, List, [], ◌∷◌, ◌++◌, length, take, get_or, map, flat_map, fold, refl, sym, ap, ◌∙◌, append-nil}
use Rattle.std.specs.Prelude.{Option, Some, None}
use Rattle.std.specs.List.{filter_map, cons_option}
use Rattle.std.specs.Option.{option_map_or}
use Rattle.std.proofs.lemmas.List.Elements.{filter_map-append}
use Rattle.std.specs.BTreeSet.{insert_key}
use Rattle.scp_history.specs.scp_types.specs.declared.names.NodeId.{NodeId}
use Rattle.scp_history.specs.scp_quorum.specs.NodeSet.{node_cmp}
use Rattle.scp_history.specs.scp_envelope.specs.Ballots.{value_cmp}
use Rattle.scp_history.specs.scp_ledger.specs.Journal.{Heard}
use Rattle.scp_shown.specs.Listed.{ascending, ascending_values}
use Rattle.scp_shown.specs.Spoken.{nodes_heard}
use Rattle.scp_shown.specs.Silent.{named_by, nodes_named}
use Rattle.scp_shown.proofs.Listing.{fold_push, fold_both, map_push, flat_push, taken}

pub nodes_more : (hs : List Heard) (h : Heard) → nodes_heard (hs ++ h ∷ []) ≡ insert_key node_cmp (nodes_heard hs) h.statement.node
nodes_more hs h = ap ascending (map_push (λ (k : Heard). k.statement.node) hs h) ∙ fold_push (insert_key node_cmp) [] (map (λ (k : Heard). k.statement.node) hs) h.statement.node

values_push : (g : NodeId → Option (List ℕ)) (xs : List NodeId) (x : NodeId) → ascending_values (filter_map g (xs ++ x ∷ [])) ≡ option_map_or (insert_key value_cmp (ascending_values (filter_map g xs))) (g x) (ascending_values (filter_map g xs))
values_push g xs x = ap ascending_values (filter_map-append g xs (x ∷ [])) ∙ by_value (g x)
  where
    by_value : (o : Option (List ℕ)) → ascending_values (filter_map g xs ++ cons_option o []) ≡ option_map_or (insert_key value_cmp (ascending_values (filter_map g xs))) o (ascending_values (filter_map g xs))
    by_value None = ap ascending_values (append-nil (filter_map g xs))
    by_value (Some v) = fold_push (insert_key value_cmp) [] (filter_map g xs) v

-- the values that the nodes so far say last, with one node more
pub values_more : (g : NodeId → Option (List ℕ)) (xs : List NodeId) (i : ℕ) (x : NodeId) (old new : List (List ℕ)) → i < length xs → x ≡ get_or xs i x → old ≡ ascending_values (filter_map g (take i xs)) → new ≡ option_map_or (insert_key value_cmp old) (g x) old → new ≡ ascending_values (filter_map g (take (i + 1) xs))
values_more g xs i x old new lt e so_far added =
    added
    ∙ ap (λ (l : List (List ℕ)). option_map_or (insert_key value_cmp l) (g x) l) so_far
    ∙ sym (values_push g (take i xs) x)
    ∙ ap (λ (l : List NodeId). ascending_values (filter_map g l)) (sym (taken xs i x lt e))

-- the nodes that are named by the nodes so far, with one node more
pub named_more : (hs : List Heard) (xs : List NodeId) (i : ℕ) (x : NodeId) (old new : List NodeId) → i < length xs → x ≡ get_or xs i x → old ≡ nodes_named hs (take i xs) → new ≡ fold (insert_key node_cmp) old (named_by hs x) → new ≡ nodes_named hs (take (i + 1) xs)
named_more hs xs i x old new lt e so_far added =
    added
    ∙ ap (λ (l : List NodeId). fold (insert_key node_cmp) l (named_by hs x)) so_far
    ∙ sym (fold_both (insert_key node_cmp) [] (flat_map (named_by hs) (take i xs)) (named_by hs x))
    ∙ ap ascending (sym (flat_push (named_by hs) (take i xs) x))
    ∙ ap (λ (l : List NodeId). nodes_named hs l) (sym (taken xs i x lt e))
