-- Each move keeps the rule of an outbox in its place.
use Rattle.std.proofs.Common.{◌≡◌, ◌≢◌, ℕ, ◌+◌, cond, true, false, true≢false, List, [], ◌∷◌, ◌++◌, length, set, sym, refl, ap, ◌∙◌, subst, eq-eqb, ne_eqb, arith, ⊎_elim}
use mathlib.Core.Option.{some, some-ne-none}
use lib.ListN.{get_elem?}
use Rattle.atomic_table.proofs.Lists.{at_set}
use Rattle.crossbeam_queue.specs.Fifo.{Pushes, Pops, Forks, Merges, Learns}
use Rattle.scp_outbox.specs.scp_wire.specs.declared.message.Message.{Message}
use Rattle.scp_outbox.specs.Outbox.{OutboxView}
use Rattle.scp_shared_outbox.specs.declared.turn.Turn.{Turn}
use Rattle.scp_shared_outbox.specs.declared.turn.Turn.TheVariants.{Puts, Marks, Gives}
use Rattle.scp_shared_outbox.specs.declared.turn.Part.{Part}
use Rattle.scp_shared_outbox.specs.Turns.{Stands, put_by, marked, given}
use Rattle.scp_shared_outbox.specs.inside.Rule.{Seats, Fits, Kept, Lies, IsInHand, IsMine, after, emptied, nobody, beginner, producer, marker, KnowsRest}
use Rattle.scp_shared_outbox.proofs.Views.{All, all_set, all_snoc, at_end, update, update_here, update_else, update_same}

off : false ≡ true → ⊥
off e = true≢false (sym e)

-- whoever has the outbox in hand finds its place empty; so if the outbox is there, no end has it in hand
pub takes_out : (pass : ℕ) (v : Part) → Pops Kept pass v (IsInHand v)
takes_out pass v x items views h at =
    let seats = h.0 in let turns = h.1 in let old = h.3 pass v at in let lies = h.2 in
    let w : Part = record v { holds = true; turns = turns } in
    let seats' : Seats = record seats { holder = pass } in (
      w,
      (
        seats',
        turns,
        (let P : List OutboxView → Type 0 = Lies turns in subst P (sym lies.1) tt),
        all_set (Fits seats' turns items) views pass w
            (record { holds = λ _. (refl, refl, lies.1); puts = old.puts; marks = old.marks; takes = old.takes; unmade = old.unmade })
            (λ j u other e. let o = h.3 j u e in record { holds = λ p. absurd (let z = (o.holds p).2 in cc); puts = o.puts; marks = o.marks; takes = o.takes; unmade = o.unmade }),
      ),
      (turns, refl, lies.0, λ p. (old.marks p).1),
    )

-- the outbox is put back as it was
pub leaves : (n pass : ℕ) (v : Part) (x : OutboxView) → v.holds ≡ true → Stands v.turns x → Pushes Kept n pass v x (λ w. w ≡ emptied v)
leaves n pass v x may stands items views short h at =
    let seats = h.0 in let turns = h.1 in let old = h.3 pass v at in let mine = old.holds may in let w : Part = emptied v in
    let now : items ++ x ∷ [] ≡ x ∷ [] = ap (λ l. l ++ x ∷ []) mine.2 in (
      w,
      (
        seats,
        turns,
        (let P : List OutboxView → Type 0 = Lies turns in subst P (sym now) (subst (λ t. Stands t x) mine.1 stands, refl)),
        all_set (Fits seats turns (items ++ x ∷ [])) views pass w
            (record { holds = λ p. absurd (off p); puts = old.puts; marks = old.marks; takes = old.takes; unmade = old.unmade })
            (λ j u other e. let o = h.3 j u e in record { holds = λ p. absurd (other ((o.holds p).0 ∙ sym mine.0)); puts = o.puts; marks = o.marks; takes = o.takes; unmade = o.unmade }),
      ),
      refl,
    )

pub put_here : (n : ℕ) (message : Message) (turns : List Turn) → put_by n (Puts n message ∷ turns) ≡ put_by n turns ++ message ∷ []
put_here n message turns = ap (λ b. cond b (put_by n turns ++ message ∷ []) (put_by n turns)) (eq-eqb n n refl)

put_else : (n p : ℕ) (message : Message) (turns : List Turn) → n ≢ p → put_by p turns ≡ put_by p (Puts n message ∷ turns)
put_else n p message turns apart = sym (ap (λ b. cond b (put_by p turns ++ message ∷ []) (put_by p turns)) (ne_eqb n p apart))

-- a turn is one more of the end that made it, and of no other end
mine_after : (seats : Seats) (turns : List Turn) (items items' : List OutboxView) (pass : ℕ) (v : Part) (t : Turn) → IsMine t v → Fits seats turns items pass v → Fits seats (t ∷ turns) items' pass (after t v)
mine_after seats turns items items' pass v (Puts n message) mine old = record {
  holds = λ p. absurd (off p);
  puts = λ p. let o = old.puts p in (o.0, ap (λ l. l ++ message ∷ []) o.1 ∙ sym (subst (λ k. put_by v.number (Puts k message ∷ turns) ≡ put_by v.number turns ++ message ∷ []) mine.1 (put_here v.number message turns)));
  marks = old.marks;
  takes = λ p. absurd (true≢false (sym p ∙ mine.2));
  unmade = λ p. absurd (true≢false (sym p ∙ mine.2));
}
mine_after seats turns items items' pass v (Marks mark) mine old = record {
  holds = λ p. absurd (off p);
  puts = old.puts;
  marks = λ p. let o = old.marks p in (o.0, ap (λ l. l ++ mark ∷ []) o.1);
  takes = old.takes;
  unmade = old.unmade;
}
mine_after seats turns items items' pass v (Gives out) mine old = record {
  holds = λ p. absurd (off p);
  puts = old.puts;
  marks = old.marks;
  takes = λ p. let o = old.takes p in (o.0, ap (λ l. l ++ out ∷ []) o.1);
  unmade = old.unmade;
}

others_after : (seats : Seats) (turns : List Turn) (items items' : List OutboxView) (pass : ℕ) (v : Part) (t : Turn) → IsMine t v → v.holds ≡ true → Fits seats turns items pass v
    → (j : ℕ) (u : Part) → j ≢ pass → Fits seats turns items j u → Fits seats (t ∷ turns) items' j u
others_after seats turns items items' pass v (Puts n message) mine may old j u other o =
    let seat : seats.producer n ≡ pass = ap seats.producer (sym mine.1) ∙ (old.puts mine.0).0 in
    let away = λ (p : ℕ) (s : seats.producer p ≡ j) (q : n ≡ p). other (sym s ∙ ap seats.producer (sym q) ∙ seat) in record {
      holds = λ p. absurd (other ((o.holds p).0 ∙ sym (old.holds may).0));
      puts = λ p. let k = o.puts p in (k.0, k.1 ∙ put_else n u.number message turns (away u.number k.0));
      marks = o.marks;
      takes = o.takes;
      unmade = λ p k le. let l = o.unmade p k le in (l.0, sym (put_else n k message turns (away k l.0)) ∙ l.1);
    }
others_after seats turns items items' pass v (Marks mark) mine may old j u other o = record {
  holds = λ p. absurd (other ((o.holds p).0 ∙ sym (old.holds may).0));
  puts = o.puts;
  marks = λ p. absurd (other ((o.marks p).0 ∙ sym (old.marks mine).0));
  takes = o.takes;
  unmade = o.unmade;
}
others_after seats turns items items' pass v (Gives out) mine may old j u other o = record {
  holds = λ p. absurd (other ((o.holds p).0 ∙ sym (old.holds may).0));
  puts = o.puts;
  marks = o.marks;
  takes = λ p. absurd (other ((o.takes p).0 ∙ sym (old.takes mine).0));
  unmade = o.unmade;
}

-- the outbox is put back after a turn
pub tells : (n pass : ℕ) (v : Part) (x : OutboxView) (t : Turn) → v.holds ≡ true → IsMine t v → Stands (t ∷ v.turns) x → Pushes Kept n pass v x (λ w. w ≡ after t v)
tells n pass v x t may mine stands items views short h at =
    let seats = h.0 in let turns = h.1 in let old = h.3 pass v at in let has = old.holds may in let w : Part = after t v in let items' = items ++ x ∷ [] in
    let now : items' ≡ x ∷ [] = ap (λ l. l ++ x ∷ []) has.2 in (
      w,
      (
        seats,
        t ∷ turns,
        (let P : List OutboxView → Type 0 = Lies (t ∷ turns) in subst P (sym now) (subst (λ l. Stands (t ∷ l) x) has.1 stands, refl)),
        all_set (Fits seats (t ∷ turns) items') views pass w
            (mine_after seats turns items items' pass v t mine old)
            (λ j u other e. others_after seats turns items items' pass v t mine may old j u other (h.3 j u e)),
      ),
      refl,
    )

pub begins : Kept [] (beginner ∷ [])
begins = (
  record { holder = 0; producer = λ _. 0; marker = 0; taker = 0 },
  [],
  tt,
  all_set (Fits (record { holder = 0; producer = λ _. 0; marker = 0; taker = 0 }) [] []) (beginner ∷ []) 0 beginner
      (record { holds = λ _. (refl, refl, refl); puts = λ p. absurd (off p); marks = λ _. (refl, refl); takes = λ _. (refl, refl); unmade = λ _ p le. (refl, refl) })
      (λ j u other e. ⊎_elim (λ x. absurd (some-ne-none u (sym x))) (λ x. absurd (other x.0)) (at_end [] beginner u j e)),
)

nobody_fits : (seats : Seats) (turns : List Turn) (items : List OutboxView) (pass : ℕ) → Fits seats turns items pass nobody
nobody_fits seats turns items pass = record { holds = λ p. absurd (off p); puts = λ p. absurd (off p); marks = λ p. absurd (off p); takes = λ p. absurd (off p); unmade = λ p. absurd (off p) }

-- a producer's pass is made
pub makes : (pass : ℕ) (v : Part) → v.takes ≡ true → v.puts ≡ false → Forks Kept pass v (record v { made = v.made + 1 }) (producer v.made)
makes pass v may none items views h at =
    let seats = h.0 in let turns = h.1 in let old = h.3 pass v at in let left : Part = record v { made = v.made + 1 } in let vs : List Part = set views pass left in
    let late = old.unmade may v.made (omega arith) in
    let seats' : Seats = record seats { producer = update seats.producer v.made (length vs) } in (
      seats',
      turns,
      h.2,
      all_snoc (Fits seats' turns items) vs (producer v.made)
          (all_set (Fits seats' turns items) views pass left
          (record {
            holds = old.holds;
            puts = λ p. absurd (true≢false (sym p ∙ none));
            marks = old.marks;
            takes = old.takes;
            unmade = λ p k le. let l = old.unmade p k (omega arith) in (update_else seats.producer v.made (length vs) k (λ (q : k ≡ v.made). omega arith) ∙ l.0, l.1);
          })
          (λ j u other e. let o = h.3 j u e in record {
            holds = o.holds;
            puts = λ p. let k = o.puts p in (update_else seats.producer v.made (length vs) u.number (λ q. other (sym k.0 ∙ ap seats.producer q ∙ late.0)) ∙ k.0, k.1);
            marks = o.marks;
            takes = o.takes;
            unmade = λ p. absurd (other ((o.takes p).0 ∙ sym (old.takes may).0));
          }))
          (record {
            holds = λ p. absurd (off p);
            puts = λ _. (update_here seats.producer v.made (length vs) v.made refl, sym late.1);
            marks = λ p. absurd (off p);
            takes = λ p. absurd (off p);
            unmade = λ p. absurd (off p);
          }),
    )

-- the pass of the end that leaves marks is made
pub makes_marker : (pass : ℕ) (v : Part) → v.marks ≡ true → Forks Kept pass v (record v { marks = false; marked = [] }) (marker v.marked)
makes_marker pass v may items views h at =
    let seats = h.0 in let turns = h.1 in let old = h.3 pass v at in let left : Part = record v { marks = false; marked = [] } in let vs : List Part = set views pass left in
    let seats' : Seats = record seats { marker = length vs } in (
      seats',
      turns,
      h.2,
      all_snoc (Fits seats' turns items) vs (marker v.marked)
          (all_set (Fits seats' turns items) views pass left
          (record { holds = old.holds; puts = old.puts; marks = λ p. absurd (off p); takes = old.takes; unmade = old.unmade })
          (λ j u other e. let o = h.3 j u e in record { holds = o.holds; puts = o.puts; marks = λ p. absurd (other ((o.marks p).0 ∙ sym (old.marks may).0)); takes = o.takes; unmade = o.unmade }))
          (record { holds = λ p. absurd (off p); puts = λ p. absurd (off p); marks = λ _. (refl, (old.marks may).1); takes = λ p. absurd (off p); unmade = λ p. absurd (off p) }),
    )

-- another pass, if this one's view is new
was_there : (views : List Part) (pass other : ℕ) (both w : Part) → ¬ (other ≡ pass) → get_elem? (set views pass both) other ≡ some w → get_elem? views other ≡ some w
was_there views pass other both w two at' = ⊎_elim (λ x. absurd (two x.0)) (λ x. x.1) (at_set views pass other both w at')

-- a producer's pass is taken in
pub hears : (pass : ℕ) (v : Part) (other : ℕ) (w : Part) → v.takes ≡ true → w.puts ≡ true → Merges Kept pass v other w (record v { puts = true; number = w.number; put = w.put }) nobody
hears pass v other w may theirs items views h at two at' =
    let both : Part = record v { puts = true; number = w.number; put = w.put } in let seats = h.0 in let turns = h.1 in let old = h.3 pass v at in let vs : List Part = set views pass both in
    let gone = (h.3 other w (was_there views pass other both w two at')).puts theirs in
    let seats' : Seats = record seats { producer = update seats.producer w.number pass } in
    let Now : ℕ → Part → Type 0 = λ j u. j ≢ other → Fits seats' turns items j u in
    let now : All Now vs = all_set Now views pass both
    (λ _. record {
      holds = old.holds;
      puts = λ _. (update_here seats.producer w.number pass w.number refl, gone.1);
      marks = old.marks;
      takes = old.takes;
      unmade = λ p k le. let l = old.unmade p k le in (update_same seats.producer w.number pass k l.0, l.1);
    })
    (λ j u apart e away. let o = h.3 j u e in record {
      holds = o.holds;
      puts = λ p. let k = o.puts p in (update_else seats.producer w.number pass u.number (λ q. away (sym k.0 ∙ ap seats.producer q ∙ gone.0)) ∙ k.0, k.1);
      marks = o.marks;
      takes = o.takes;
      unmade = λ p. absurd (apart ((o.takes p).0 ∙ sym (old.takes may).0));
    }) in (seats', turns, h.2, all_set (Fits seats' turns items) vs other nobody (nobody_fits seats' turns items other) (λ j u apart e. now j u e apart))

-- the pass of the end that leaves marks is taken in
pub hears_marks : (pass : ℕ) (v : Part) (other : ℕ) (w : Part) → w.marks ≡ true → Merges Kept pass v other w (record v { marks = true; marked = w.marked }) nobody
hears_marks pass v other w theirs items views h at two at' =
    let both : Part = record v { marks = true; marked = w.marked } in let seats = h.0 in let turns = h.1 in let old = h.3 pass v at in let vs : List Part = set views pass both in
    let gone = (h.3 other w (was_there views pass other both w two at')).marks theirs in
    let seats' : Seats = record seats { marker = pass } in
    let Now : ℕ → Part → Type 0 = λ j u. j ≢ other → Fits seats' turns items j u in
    let now : All Now vs = all_set Now views pass both
    (λ _. record { holds = old.holds; puts = old.puts; marks = λ _. (refl, gone.1); takes = old.takes; unmade = old.unmade })
    (λ j u apart e away. let o = h.3 j u e in record { holds = o.holds; puts = o.puts; marks = λ p. absurd (away ((o.marks p).0 ∙ sym gone.0)); takes = o.takes; unmade = o.unmade }) in
    (seats', turns, h.2, all_set (Fits seats' turns items) vs other nobody (nobody_fits seats' turns items other) (λ j u apart e. now j u e apart))

pub told_puts : (pass : ℕ) (v : Part) → v.holds ≡ true → v.puts ≡ true → Learns Kept pass v (λ items. put_by v.number v.turns ≡ v.put)
told_puts pass v has may items views h at = let old = h.3 pass v at in ap (put_by v.number) (old.holds has).1 ∙ sym (old.puts may).1

pub told_rest : (pass : ℕ) (v : Part) → v.holds ≡ true → v.marks ≡ true → v.takes ≡ true → Learns Kept pass v (λ items. KnowsRest v)
told_rest pass v has marks takes items views h at =
    let old = h.3 pass v at in let same = (old.holds has).1 in (
      ap marked same ∙ sym (old.marks marks).1,
      ap given same ∙ sym (old.takes takes).1,
      λ p le. ap (put_by p) same ∙ (old.unmade takes p le).1,
    )

-- put back as it was, all is known that was known before
pub emptied_again : (v : Part) (o : OutboxView) (w : Part) → IsInHand v o w → emptied w ≡ emptied v
emptied_again v o w hand = ap emptied hand.1
