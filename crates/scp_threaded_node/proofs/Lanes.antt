-- The links of a node, one more at a time.
use Rattle.std.proofs.Common.{◌≡◌, ◌∙◌, ℕ, Bool, ap, sym, subst, List, [], ◌∷◌, ◌++◌, length, Option, Some, is_none}
use Rattle.std.specs.Prelude.{slice_get, map}
use Rattle.scp_gather.specs.scp_types.specs.declared.names.NodeId.{NodeId}
use Rattle.scp_gather.specs.scp_wire.specs.declared.link.Inbound.{Inbound}
use Rattle.scp_gather.specs.scp_ends.specs.Ends.{Line}
use Rattle.scp_threaded_node.specs.declared.make.Lane.{Lane}
use Rattle.scp_threaded_node.specs.declared.node.Running.{Running}
use Rattle.scp_threaded_node.specs.declared.node.Source.{Source}
use Rattle.scp_threaded_node.specs.Seats.{IsLane, AreLanes, AreUnused, AreRunning, AreDriven, IsDriven, tail_of}
use Rattle.std.proofs.lemmas.List.{map-append}
use Rattle.scp_gather.specs.scp_shared_outbox.specs.Ends.{TakerView}
use Rattle.scp_threaded_node.specs.Outlets.{AllKeep, taker_in, keeps_from, keeps_in}
use Rattle.scp_threaded_node.specs.Sources.{AreSources, AreFresh, IsFresh, taker_from}
use Rattle.scp_gather.specs.scp_shared_outbox.proofs.Each.{each_front, each_last, each_push}
use Rattle.scp_gather.specs.scp_shared_outbox.proofs.ListsOfAll.{some_is}

pub lanes_more : (me : NodeId) (peers : List NodeId) (inbox : Line Inbound) (room : ℕ) (xs new : List Lane) (x : Lane) (peer : NodeId) → new ≡ xs ++ x ∷ [] → slice_get peers (length xs) ≡ Some peer → IsLane me peer inbox room (length xs) x.tail x.reader → AreLanes me peers inbox room xs → AreLanes me peers inbox room new
lanes_more me peers inbox room xs new x peer is at lane all = each_push _ xs new x is all (λ p h. subst (λ q. IsLane me q inbox room (length xs) x.tail x.reader) (some_is peer p (sym at ∙ h)) lane)

pub unused_more : (xs new : List Lane) (x : Lane) → new ≡ xs ++ x ∷ [] → x.tail.tail.sent ≡ [] → AreUnused xs → AreUnused new
unused_more xs new x is unused all = each_push _ xs new x is all unused

pub unused_front : (front whole : List Lane) (last : Lane) → whole ≡ front ++ last ∷ [] → AreUnused whole → AreUnused front
unused_front front whole last is all = each_front _ front whole last is all

pub unused_last : (front whole : List Lane) (last : Lane) → whole ≡ front ++ last ∷ [] → AreUnused whole → last.tail.tail.sent ≡ []
unused_last front whole last is all = each_last _ front whole last is all

pub lanes_front : (me : NodeId) (peers : List NodeId) (inbox : Line Inbound) (room : ℕ) (front whole : List Lane) (last : Lane) → whole ≡ front ++ last ∷ [] → AreLanes me peers inbox room whole → AreLanes me peers inbox room front
lanes_front me peers inbox room front whole last is all = each_front _ front whole last is all

pub running_more : (me : NodeId) (peers : List NodeId) (inbox : Line Inbound) (room : ℕ) (front whole : List Lane) (last : Lane) (xs new : List Running) (x : Running)
    → whole ≡ front ++ last ∷ [] → new ≡ xs ++ x ∷ [] → length xs ≡ length front → tail_of x.tail ≡ last.tail → x.reader.promise.0.value ≡ last.reader
    → AreLanes me peers inbox room whole → AreRunning me peers inbox room xs → AreRunning me peers inbox room new
running_more me peers inbox room front whole last xs new x is_lanes is_new len tail reader lanes running =
    each_push _ xs new x is_new running (λ peer at. rw (len, tail, reader) (each_last _ front whole last is_lanes lanes peer (ap (slice_get peers) (sym len) ∙ at)))

pub sources_front : (driven : ℕ → Bool) (front whole : List (Option Source)) (last : Option Source) → whole ≡ front ++ last ∷ [] → AreSources driven whole → AreSources driven front
sources_front driven front whole last is all = each_front _ front whole last is all

pub driven_more : (driven : ℕ → Bool) (front whole : List (Option Source)) (last : Option Source) (xs new : List Running) (x : Running)
    → whole ≡ front ++ last ∷ [] → new ≡ xs ++ x ∷ [] → length xs ≡ length front → IsDriven (is_none last) [] x.tail
    → AreSources driven whole → AreDriven driven (λ i. []) xs → AreDriven driven (λ i. []) new
driven_more driven front whole last xs new x is_sources is_new len last_driven sources all =
    each_push _ xs new x is_new all (subst (λ b. IsDriven b [] x.tail) (each_last _ front whole last is_sources sources ∙ ap driven (sym len)) last_driven)

pub fresh_front : (front whole : List (Option Source)) (last : Option Source) → whole ≡ front ++ last ∷ [] → AreFresh whole → AreFresh front
fresh_front front whole last is all = each_front _ front whole last is all

pub fresh_last : (front whole : List (Option Source)) (last : Option Source) → whole ≡ front ++ last ∷ [] → AreFresh whole → IsFresh last
fresh_last front whole last is all = each_last _ front whole last is all

pub couriers_more : (front whole : List (Option Source)) (last : Option Source) (xs new : List Running) (x : Running)
    → whole ≡ front ++ last ∷ [] → new ≡ xs ++ x ∷ [] → map taker_in xs ≡ map taker_from front → taker_in x ≡ taker_from last → map taker_in new ≡ map taker_from whole
couriers_more front whole last xs new x is_sources is_new before here =
    ap (λ (ys : List Running). map taker_in ys) is_new
    ∙ map-append taker_in xs (x ∷ [])
    ∙ ap (λ (ts : List (Option TakerView)). ts ++ taker_in x ∷ []) before
    ∙ ap (λ (t : Option TakerView). map taker_from front ++ t ∷ []) here
    ∙ sym (map-append taker_from front (last ∷ []))
    ∙ sym (ap (λ (ss : List (Option Source)). map taker_from ss) is_sources)

-- what the readers of links keep, with one link more
pub keep_more : (keeps : Bool) (xs new : List Lane) (x : Lane) → new ≡ xs ++ x ∷ [] → keeps_from x ≡ keeps → AllKeep keeps xs → AllKeep keeps new
keep_more keeps xs new x is here all = each_push _ xs new x is all here

pub keeping_more : (front whole : List Lane) (last : Lane) (xs new : List Running) (x : Running)
    → whole ≡ front ++ last ∷ [] → new ≡ xs ++ x ∷ [] → map keeps_in xs ≡ map keeps_from front → keeps_in x ≡ keeps_from last → map keeps_in new ≡ map keeps_from whole
keeping_more front whole last xs new x is_lanes is_new before here =
    ap (λ (ys : List Running). map keeps_in ys) is_new
    ∙ map-append keeps_in xs (x ∷ [])
    ∙ ap (λ (bs : List Bool). bs ++ keeps_in x ∷ []) before
    ∙ ap (λ (b : Bool). map keeps_from front ++ b ∷ []) here
    ∙ sym (map-append keeps_from front (last ∷ []))
    ∙ sym (ap (λ (ls : List Lane). map keeps_from ls) is_lanes)
