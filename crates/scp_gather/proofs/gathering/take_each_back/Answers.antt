use Rattle.std.proofs.Common.{arith, ◌≡◌, ◌⊎◌, inl, inr, ℕ, List, [], ◌∷◌, ◌++◌, sym, ap, ◌∙◌, subst, append_assoc, length}
use Rattle.std.specs.Prelude.{Option, Some, map, slice_get}
use Rattle.std.specs.Global.{Vec}
use Rattle.std.specs.List.{AllZip}
use Rattle.std.proofs.lemmas.List.{map-append, nil_from_length}
use Rattle.scp_workers.specs.scp_ends.specs.Ends.{Receiver}
use Rattle.scp_workers.specs.scp_ends.specs.Links.{LinkEnd}
use Rattle.scp_workers.specs.scp_wire.specs.declared.link.Inbound.{Inbound}
use Rattle.scp_workers.specs.scp_wire.specs.declared.link.LinkItem.{LinkItem}
use Rattle.scp_workers.specs.Reading.{ReaderEnd}
use Rattle.scp_gather.specs.Node.{IsReadOut}
use Rattle.scp_gather.specs.Report.{IsJoined}
use Rattle.scp_gather.specs.inside.Kept.{kept_by}
use Rattle.scp_gather.proofs.Keeping.{all_yielded}
use Rattle.scp_gather.proofs.Lists.{zip_at, zip_more, zip_next}
use Rattle.scp_gather.proofs.gathering.take_each_back.Goals as goal

-- all pairs were taken back where either list is at its end
all_pairs : (inbox : Receiver Inbound) (links front tails : List LinkEnd) (readers yielded rest : List ReaderEnd)
    → links ≡ front ++ tails → readers ≡ yielded ++ rest → AllZip (IsReadOut inbox) front yielded → (tails ≡ []) ⊎ (rest ≡ [])
    → (l : ℕ) → (k : LinkEnd) → slice_get links l ≡ Some k → (r : ReaderEnd) → slice_get readers l ≡ Some r → IsReadOut inbox k r
all_pairs inbox links front tails readers yielded rest e f a end l k there r there' =
    zip_at (IsReadOut inbox) front tails yielded rest a end l k (subst (λ (ks : List LinkEnd). slice_get ks l ≡ Some k) e there) r (subst (λ (rs : List ReaderEnd). slice_get rs l ≡ Some r) f there')

pub take_back-requires-clause-joined : goal.take_back-requires-clause-joined
take_back-requires-clause-joined c =
    let i = c.loop-reader.invariant in
    let links : c.args.links.items ≡ i.2 ++ c.in-Some-next.link ∷ c.next-in-loop-reader.new.self.rest.items = i.3 ∙ ap (λ (ks : List LinkEnd). i.2 ++ ks) c.in-Some-next.ensures.cases.0 in
    let readers : c.args.readers.items ≡ c.loop-reader.yielded ++ c.in-Some.reader ∷ c.next.new.self.rest.items = i.1 ∙ ap (λ (rs : List ReaderEnd). c.loop-reader.yielded ++ rs) c.in-Some.ensures.steps.0 in
    let at = zip_next (IsReadOut c.args.inbox.now) i.2 c.in-Some-next.link c.next-in-loop-reader.new.self.rest.items c.loop-reader.yielded c.in-Some.reader c.next.new.self.rest.items i.4 in
    subst (λ (x : Receiver Inbound). IsJoined x.line c.in-Some-next.link c.in-Some.reader) (sym i.0)
    (c.requires.joined (length c.loop-reader.yielded) c.in-Some-next.link
    (subst (λ (ks : List LinkEnd). slice_get ks (length c.loop-reader.yielded) ≡ Some c.in-Some-next.link) (sym links) at.0)
    c.in-Some.reader
    (subst (λ (rs : List ReaderEnd). slice_get rs (length c.loop-reader.yielded) ≡ Some c.in-Some.reader) (sym readers) at.1))

pub loop-reader-preserved : goal.loop-reader-preserved
loop-reader-preserved c =
    let i = c.loop-reader.invariant in (
      c.take_back.ensures.same ∙ i.0,
      i.1 ∙ ap (λ (rs : List ReaderEnd). c.loop-reader.yielded ++ rs) c.in-Some.ensures.steps.0 ∙ sym (append_assoc c.loop-reader.yielded (c.in-Some.reader ∷ []) c.next.new.self.rest.items),
      i.2 ++ c.in-Some-next.link ∷ [],
      i.3 ∙ ap (λ (ks : List LinkEnd). i.2 ++ ks) c.in-Some-next.ensures.cases.0 ∙ sym (append_assoc i.2 (c.in-Some-next.link ∷ []) c.next-in-loop-reader.new.self.rest.items),
      zip_more (IsReadOut c.args.inbox.now) i.2 c.loop-reader.yielded c.in-Some-next.link c.in-Some.reader i.4
          (subst (λ (x : Receiver Inbound). IsReadOut x c.in-Some-next.link c.in-Some.reader) i.0 c.take_back.ensures.read_out),
      c.in_ok-push.ensures.items
          ∙ ap (λ (rows : List (Option (Vec LinkItem))). rows ++ c.take_back.result ∷ []) i.5
          ∙ ap (λ (row : Option (Vec LinkItem)). map kept_by c.loop-reader.yielded ++ row ∷ []) c.take_back.ensures.kept
          ∙ sym (map-append kept_by c.loop-reader.yielded (c.in-Some.reader ∷ [])),
    )

pub returns-clause-read_out : goal.returns-clause-read_out
returns-clause-read_out c =
    let i = c.loop-reader.invariant in
    let none : c.loop-reader.reader-iterator.rest.items ≡ [] = nil_from_length c.loop-reader.reader-iterator.rest.items (omega (arith, c.loop-reader.reader-iterator.rest.ok, c.in-None.ensures.steps.0)) in
    all_pairs c.args.inbox.now c.args.links.items i.2 c.loop-reader.tails.rest.items c.args.readers.items c.loop-reader.yielded c.loop-reader.reader-iterator.rest.items i.3 i.1 i.4 (inr none)

pub returns-in_default-clause-read_out : goal.returns-in_default-clause-read_out
returns-in_default-clause-read_out c =
    let i = c.loop-reader.invariant in
    let none : c.loop-reader.tails.rest.items ≡ [] = nil_from_length c.loop-reader.tails.rest.items (omega (arith, c.loop-reader.tails.rest.ok, c.in_default.ensures.cases.0)) in
    all_pairs c.args.inbox.now c.args.links.items i.2 c.loop-reader.tails.rest.items c.args.readers.items c.loop-reader.yielded c.loop-reader.reader-iterator.rest.items i.3 i.1 i.4 (inl none)

pub returns-in_default-clause-kept : goal.returns-in_default-clause-kept
returns-in_default-clause-kept c = λ same.
    let i = c.loop-reader.invariant in
    let none : c.loop-reader.tails.rest.items ≡ [] = nil_from_length c.loop-reader.tails.rest.items (omega (arith, c.loop-reader.tails.rest.ok, c.in_default.ensures.cases.0)) in
    i.5 ∙ ap (λ (rs : List ReaderEnd). map kept_by rs)
    (sym (all_yielded (IsReadOut c.args.inbox.now) c.args.links.items i.2 c.loop-reader.tails.rest.items c.args.readers.items c.loop-reader.yielded c.loop-reader.reader-iterator.rest.items i.3 i.1 i.4 none same))
