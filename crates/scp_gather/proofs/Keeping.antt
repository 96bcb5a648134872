-- What the readers of a node kept is what was sent over its links.
use Rattle.std.proofs.Common.{◌≡◌, ℕ, zero, suc, ◌<◌, Bool, List, [], ◌∷◌, ◌++◌, refl, sym, ◌∙◌, ap, subst, arith, length}
use Rattle.std.specs.Prelude.{Option, Some, IfSome, is_some, map, slice_get}
use Rattle.std.specs.Global.{Vec}
use Rattle.std.specs.List.{AllZip}
use Rattle.std.proofs.lemmas.List.{append-nil, length-append, length-map, nil_from_length}
use Rattle.scp_workers.specs.scp_driver.specs.Driver.{Says}
use Rattle.scp_workers.specs.scp_types.specs.declared.names.NodeId.{NodeId}
use Rattle.scp_workers.specs.scp_quorum.specs.QuorumTree.{QuorumTree}
use Rattle.scp_workers.specs.scp_wire.specs.declared.link.LinkItem.{LinkItem}
use Rattle.scp_workers.specs.scp_ends.specs.Order.{values}
use Rattle.scp_workers.specs.scp_ends.specs.Links.{LinkEnd}
use Rattle.scp_workers.specs.Reading.{ReaderEnd}
use Rattle.scp_gather.specs.Left.{Left, items_of, sent_over}
use Rattle.scp_gather.specs.Node.{IsNode, IsReadOut, EndWell}
use Rattle.scp_gather.specs.Report.{AreCame, AreKept, keeps_by}
use Rattle.scp_gather.specs.inside.Kept.{kept_by}
use Rattle.scp_gather.proofs.Hearing.{sole_is}
use Rattle.scp_workers.specs.scp_theorem.proofs.Basics.{there_is}
use Rattle.scp_gather.proofs.Lists.{within, zip_length}

-- where each link was paired with a reader, and there are as many of both, so was each reader
pub all_yielded : {A B : Type 0} (R : A → B → Type 0) (links front tails : List A) (readers yielded rest : List B)
    → links ≡ front ++ tails → readers ≡ yielded ++ rest → AllZip R front yielded → tails ≡ [] → length links ≡ length readers → readers ≡ yielded
all_yielded {B = B} R links front tails readers yielded rest e f a none same =
    let pairs : length front ≡ length yielded = zip_length R front yielded a in
    let few : length rest ≡ 0 = omega (arith, same, pairs, ap length e, ap length f, ap length none, length-append front tails, length-append yielded rest) in
    f ∙ ap (λ (rs : List B). yielded ++ rs) (nil_from_length rest few) ∙ append-nil yielded

-- what is at a place of a list that was mapped
at_map : {X Y : Type 0} (f : X → Y) (xs : List X) (l : ℕ) (y : Y) → slice_get (map f xs) l ≡ Some y → (x : X) × (slice_get xs l ≡ Some x) × (f x ≡ y)
at_map f [] l y e = absurd cc
at_map f (x ∷ xs) zero y e = (x, refl, some_is (f x) y e)
  where
    some_is : {Y : Type 0} (x y : Y) → Some x ≡ Some y → x ≡ y
    some_is x y e = cc
at_map f (x ∷ xs) (suc l) y e = at_map f xs l y e

same_rows : (rs : List ReaderEnd) → ((l : ℕ) (r : ReaderEnd) → slice_get rs l ≡ Some r → is_some (kept_by r) ≡ keeps_by r) → map is_some (map kept_by rs) ≡ map keeps_by rs
same_rows [] same = refl
same_rows (r ∷ rs) same =
    ap (λ (b : Bool). b ∷ map is_some (map kept_by rs)) (same 0 r refl)
    ∙ ap (λ (bs : List Bool). keeps_by r ∷ bs) (same_rows rs (λ l s at. same (suc l) s at))

module _ {D : Type 0} (says : Says D) where
  module _ (me : NodeId) (set : QuorumTree) (peers : List NodeId) (e : Left D) (n : IsNode me set peers e) (w : EndWell says e) where
    counts : length e.links ≡ length e.readers
    counts = n.links_count ∙ sym n.readers_count

    -- the link that a reader reads
    link_at : (l : ℕ) (r : ReaderEnd) → slice_get e.readers l ≡ Some r → (k : LinkEnd) × (slice_get e.links l ≡ Some k)
    link_at l r at = let b : l < length e.readers = within e.readers l r at in there_is e.links l (omega (arith, b, counts))

    read_out : (l : ℕ) (r : ReaderEnd) (at : slice_get e.readers l ≡ Some r) → IsReadOut e.pend.input (link_at l r at).0 r
    read_out l r at = let k = link_at l r at in w.lanes l k.0 k.1 r at

    -- what was received of a link is what was sent over it
    received : (l : ℕ) (r : ReaderEnd) → slice_get e.readers l ≡ Some r → values r.input.got ≡ sent_over e.links l
    received l r at =
        let k = link_at l r at in
        let b : l < length e.readers = within e.readers l r at in
        let count : length e.readers ≡ length peers = n.readers_count in
        let p = there_is peers l (omega (arith, b, count)) in
        let out = read_out l r at in
        sole_is r.input k.0.tail (n.lanes l p.0 p.1 k.0 k.1 r at).alone out.reads.heard out.queued ∙ sym (ap items_of k.1)

    kept_is : (r : ReaderEnd) (row : Vec LinkItem) (items : List LinkItem) → kept_by r ≡ Some row → IfSome (kept_by r) (λ kept. kept.items ≡ items) → row.items ≡ items
    kept_is r row items is kept = subst (λ (o : Option (Vec LinkItem)). IfSome o (λ kept. kept.items ≡ items)) is kept

    pub came_are : (came : List (Option (Vec LinkItem))) → (length e.links ≡ length e.readers → came ≡ map kept_by e.readers) → AreCame e came
    came_are came is = record {
      count = ap length (is counts) ∙ length-map e.readers kept_by ∙ sym counts;
      each = λ l row at.
          let r = at_map kept_by e.readers l (Some row) (ap (λ (rows : List (Option (Vec LinkItem))). slice_get rows l) (sym (is counts)) ∙ at) in
          kept_is r.0 row (values r.0.input.got) r.2 (read_out l r.0 r.1).reads.all.kept ∙ received l r.0 r.1;
    }

    pub kept_are : (came : List (Option (Vec LinkItem))) → (length e.links ≡ length e.readers → came ≡ map kept_by e.readers) → AreKept (map keeps_by e.readers) came
    kept_are came is = ap (λ (rows : List (Option (Vec LinkItem))). map is_some rows) (is counts) ∙ same_rows e.readers (λ l r at. (read_out l r at).reads.all.keeps)
