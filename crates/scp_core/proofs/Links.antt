-- One event on one link.
use Rattle.std.proofs.Common.{◌≡◌, ℕ, suc, ◌+◌, ◌-◌, ◌≤◌, List, [], ◌∷◌, ◌++◌, refl, sym, ◌∙◌, ap, arith, length, add-one, length-append, take, drop}
use Rattle.std.specs.Prelude.{option_to_list}
use Rattle.std.proofs.lemmas.List.{take-append-drop, take-append-le, drop-append-le}
use Rattle.std.proofs.lemmas.List.Sums.{fold_push}
use Rattle.scp_theorem.specs.scp_types.specs.declared.names.NodeId.{NodeId}
use Rattle.scp_theorem.specs.scp_wire.specs.declared.link.LinkItem.{LinkItem}
use Rattle.scp_theorem.specs.scp_wire.specs.declared.link.Inbound.{Inbound}
use Rattle.scp_theorem.specs.scp_wire.specs.LinkReading.{ReaderView, unread, reading, readings, after, after_all, first_of}
use Rattle.scp_theorem.specs.scp_wire.specs.Shape.{goes, MayGo, never_open, AreInOrder, nothing_came}
use Rattle.scp_core.specs.History.{OnLink, tail_of, readings_of, read_so_far}
use Rattle.scp_core.specs.Node.{LinkView}
use Rattle.scp_core.specs.Flow.{LinkFlows}
use Rattle.scp_core.proofs.StageLaws.{ReadLaws}
use Rattle.scp_core.proofs.Queues.{drop-next}

-- an item more at the tail
abbrev pub more : OnLink → LinkItem → OnLink
more o x = record o { items = o.items ++ x ∷ [] }

module _ (laws : ReadLaws) where
  -- what is read of all is what was read so far, then what the reader will make of its queue
  pub whole : (me peer : NodeId) (room : ℕ) (o : OnLink) (k : LinkView) → LinkFlows me peer room o k → readings_of o ≡ read_so_far o ++ readings k.reader k.queue
  whole me peer room o k f =
      ap (readings unread) (sym (take-append-drop o.taken o.items))
      ∙ (laws.grow unread (take o.taken o.items) (drop o.taken o.items)).given
      ∙ rw (f.reader, f.queue) refl

  -- what was given of it is the front of all
  pub front : (me peer : NodeId) (room : ℕ) (o : OnLink) (k : LinkView) → LinkFlows me peer room o k → take o.given (readings_of o) ≡ take o.given (read_so_far o)
  front me peer room o k f = ap (take o.given) (whole me peer room o k f) ∙ take-append-le o.given (read_so_far o) (readings k.reader k.queue) f.given

  pub in_all : (me peer : NodeId) (room : ℕ) (o : OnLink) (k : LinkView) → LinkFlows me peer room o k → o.given ≤ length (readings_of o)
  in_all me peer room o k f = omega (arith, f.given, ap length (whole me peer room o k f), length-append (read_so_far o) (readings k.reader k.queue))

  pub link-put : (me peer : NodeId) (room : ℕ) (o : OnLink) (k : LinkView) (x : LinkItem) (k2 : LinkView) → MayGo peer me (tail_of o) x → goes (tail_of o) x ≡ record { life = k2.life; is_open = k2.is_open } → k2.queue ≡ k.queue ++ x ∷ [] → k2.room ≡ k.room → k2.reader ≡ k.reader → k2.hand ≡ k.hand → LinkFlows me peer room o k → LinkFlows me peer room (more o x) k2
  link-put me peer room o k x k2 may tail queue room2 reader hand f =
      let same : take o.taken (o.items ++ x ∷ []) ≡ take o.taken o.items = take-append-le o.taken o.items (x ∷ []) f.within in
      record {
        tail = fold_push goes never_open o.items x ∙ tail;
        shape = laws.more peer me never_open o.items x f.shape may;
        room_is = room2 ∙ f.room_is;
        within = omega (arith, f.within, length-append o.items (x ∷ []));
        queue = queue ∙ ap (λ xs. xs ++ x ∷ []) f.queue ∙ sym (drop-append-le o.taken o.items (x ∷ []) f.within);
        reader = reader ∙ f.reader ∙ ap (after_all unread) (sym same);
        given = rw same f.given;
        hand = hand ∙ f.hand ∙ ap (λ xs. drop o.given (readings unread xs)) (sym same);
      }

  pub put_same : (me peer : NodeId) (room : ℕ) (o : OnLink) (k : LinkView) (x : LinkItem) → LinkFlows me peer room o k → take o.given (readings_of (more o x)) ≡ take o.given (readings_of o)
  put_same me peer room o k x f = ap (take o.given) (laws.grow unread o.items (x ∷ [])).given ∙ take-append-le o.given (readings_of o) (readings (after_all unread o.items) (x ∷ [])) (in_all me peer room o k f)

  -- the reader takes an item
  pub link-take : (me peer : NodeId) (room : ℕ) (o : OnLink) (k : LinkView) (x : LinkItem) (rest : List LinkItem) → k.hand ≡ [] → k.queue ≡ x ∷ rest → LinkFlows me peer room o k → LinkFlows me peer room (record o { taken = o.taken + 1 }) (record k { queue = rest; reader = after k.reader x; hand = reading k.reader x })
  link-take me peer room o k x rest empty queue f =
      let cut = drop-next o.items o.taken x rest (sym f.queue ∙ queue) in
      let more' : take (o.taken + 1) o.items ≡ take o.taken o.items ++ x ∷ [] = rw add-one cut.0 in
      let read : readings unread (take (o.taken + 1) o.items) ≡ read_so_far o ++ reading k.reader x =
      ap (readings unread) more' ∙ (laws.one unread (take o.taken o.items) x).given ∙ ap (λ xs. read_so_far o ++ xs) (ap (λ (r : ReaderView). reading r x) (sym f.reader)) in
      let none : drop o.given (read_so_far o) ≡ [] = sym f.hand ∙ empty in
      record {
        tail = f.tail;
        shape = f.shape;
        room_is = f.room_is;
        within = rw add-one cut.2;
        queue = rw add-one (sym cut.1);
        reader = ap (λ (r : ReaderView). after r x) f.reader ∙ sym (laws.one unread (take o.taken o.items) x).stands ∙ ap (after_all unread) (sym more');
        given = rw read (omega (arith, f.given, length-append (read_so_far o) (reading k.reader x)));
        hand = sym (ap (drop o.given) read ∙ drop-append-le o.given (read_so_far o) (reading k.reader x) f.given ∙ ap (λ xs. xs ++ reading k.reader x) none);
      }

  -- the first in the hand is the next reading
  pub hand_cut : (me peer : NodeId) (room : ℕ) (o : OnLink) (k : LinkView) (x : Inbound) (xs : List Inbound) → k.hand ≡ x ∷ xs → LinkFlows me peer room o k → drop o.given (readings_of o) ≡ x ∷ (xs ++ readings k.reader k.queue)
  hand_cut me peer room o k x xs some f = ap (drop o.given) (whole me peer room o k f) ∙ drop-append-le o.given (read_so_far o) (readings k.reader k.queue) f.given ∙ ap (λ ys. ys ++ readings k.reader k.queue) (sym f.hand ∙ some)

  -- the reader puts the first in its hand
  pub link-give : (me peer : NodeId) (room : ℕ) (o : OnLink) (k : LinkView) (x : Inbound) (xs : List Inbound) → k.hand ≡ x ∷ xs → LinkFlows me peer room o k → LinkFlows me peer room (record o { given = o.given + 1 }) (record k { hand = xs })
  link-give me peer room o k x xs some f =
      let cut = drop-next (read_so_far o) o.given x xs (sym f.hand ∙ some) in
      record {
        tail = f.tail;
        shape = f.shape;
        room_is = f.room_is;
        within = f.within;
        queue = f.queue;
        reader = f.reader;
        given = rw add-one cut.2;
        hand = rw add-one (sym cut.1);
      }

  pub give_more : (me peer : NodeId) (room : ℕ) (o : OnLink) (k : LinkView) (x : Inbound) (xs : List Inbound) → k.hand ≡ x ∷ xs → LinkFlows me peer room o k → take (o.given + 1) (readings_of o) ≡ take o.given (readings_of o) ++ x ∷ []
  give_more me peer room o k x xs some f = rw add-one (drop-next (readings_of o) o.given x (xs ++ readings k.reader k.queue) (hand_cut me peer room o k x xs some f)).0

  -- what is read of a link is in order, and of its peer
  pub in_order : (me peer : NodeId) (room : ℕ) (o : OnLink) (k : LinkView) → LinkFlows me peer room o k → AreInOrder peer me nothing_came (readings_of o)
  in_order me peer room o k f = laws.in_order peer me o.items f.shape

-- ---- the hand: the first of what the reader read, and the others

first_and_others : (xs : List Inbound) → option_to_list (first_of xs) ++ drop 1 xs ≡ xs
first_and_others [] = refl
first_and_others (x ∷ xs) = refl

-- an item was read
pub read_into : (k : LinkView) (x : LinkItem) (rest : List LinkItem) (xs : List Inbound) → record k { queue = rest; reader = after k.reader x; hand = option_to_list (first_of xs) ++ drop 1 xs } ≡ record k { queue = rest; reader = after k.reader x; hand = xs }
read_into k x rest xs = ap (λ (hand : List Inbound). record k { queue = rest; reader = after k.reader x; hand = hand }) (first_and_others xs)

-- with one item fewer there is room for one more
pub one_out : (room left n m : ℕ) → left ≡ room → n ≡ suc m → n ≤ room → left - m ≡ room - n + 1
one_out room left n m same more le = omega (arith, same, more, le)
