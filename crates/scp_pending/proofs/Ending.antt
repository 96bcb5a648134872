-- How connections end, along a list of takes; and what passes.
use Rattle.std.proofs.Common.{◌≡◌, ℕ, ◌+◌, ◌<◌, Bool, true, false, cond, List, [], ◌∷◌, ◌++◌, ◌⊎◌, refl, sym, ◌∙◌, ap, subst, arith, append_assoc, nat_eq, map, inl, inr}
use Rattle.std.specs.Prelude.{Some, slice_get, is_some, position, fold}
use Rattle.std.specs.List.{range_with_len}
use Rattle.std.proofs.lemmas.Bool.{eqb-true}
use Rattle.scp_wire.specs.scp_types.specs.declared.names.ConnId.{ConnId}
use Rattle.scp_wire.specs.scp_types.specs.declared.names.Hash.{Hash}
use Rattle.scp_wire.specs.scp_types.specs.declared.names.NodeId.{NodeId}
use Rattle.scp_wire.specs.scp_types.specs.declared.names.Seq.{Seq}
use Rattle.scp_wire.specs.scp_quorum.specs.QuorumTree.{QuorumTree}
use Rattle.scp_wire.specs.declared.carried.Carried.{Carried}
use Rattle.scp_wire.specs.declared.side.SideMessage.{SideMessage}
use Rattle.scp_wire.specs.declared.side.SideMessage.TheVariants.{GetSet, Set, NoSet}
use Rattle.scp_wire.specs.declared.link.Cause.TheVariants.{ParkedFull}
use Rattle.scp_wire.specs.declared.link.Command.TheVariants.{Tick, Propose, Round, Timer, Ask}
use Rattle.scp_wire.specs.declared.link.Inbound.{Inbound}
use Rattle.scp_wire.specs.declared.link.Inbound.TheVariants as inbound
use Rattle.scp_wire.specs.Connections.{conn_at, same_node, same_conn}
use Rattle.scp_wire.specs.Shape.{Come, nothing_came, comes, MayCome, AreInOrder, is_from, of_peer, HasShape}
use Rattle.scp_wire.specs.Marks.{number}
use Rattle.scp_wire.specs.Lanes.{in_lane, HasSlot, HaveSlots}
use Rattle.scp_fetch.specs.declared.want.Miss.TheVariants.{One}
use Rattle.scp_fetch.specs.Wants.{gives_up, last_missed}
use Rattle.scp_pending.specs.declared.parked.Parked.{Parked}
use Rattle.scp_pending.specs.declared.parked.Parked.TheVariants.{Waits, Free, Lost}
use Rattle.scp_pending.specs.declared.ready.DropCause.{DropCause}
use Rattle.scp_pending.specs.declared.ready.DropCause.TheVariants.{GaveUp, Closed as ByClose, ParkedFull as ByFull}
use Rattle.scp_pending.specs.declared.ready.Ready.{Ready}
use Rattle.scp_pending.specs.declared.ready.Ready.TheVariants.{Dropped, Closed}
use Rattle.scp_pending.specs.Queues.{QueueView, is_open, parked_of, seq_of, is_held, fate, leaves_behind, leaves_of, leaves_in, leaving_of, in_order_of, is_hash, hash_of, resolved, lost_by, dropped}
use Rattle.scp_pending.specs.Rules.{Settled, PendingView, settled_by, released_by, rules, releases, entering, overflows, goes_through, by_answer, is_answer, is_given_up, heard_out}
use Rattle.scp_pending.specs.Line.{marks_of, marks_parked}
use Rattle.scp_pending.specs.Endings.{Way, ways, numbers_of, Ascend, Exits, passing, commands_in, passed, commands_of}
use Rattle.scp_pending.specs.Pends.{Pends, start_of}
use Rattle.scp_pending.specs.Laws.{AllExits, CommandsPass}
use Rattle.scp_pending.proofs.Basics.{append_nil, clash, flat-append, same_node-refl, all_left, fold-append}
use Rattle.scp_pending.proofs.Serving.{parked_shut}
use Rattle.scp_pending.proofs.Sound.{sound_start}
use Rattle.scp_pending.proofs.Telling.{told_start}
use Rattle.scp_pending.proofs.Following.{HasLanes, come_of, apart, same_at, of_peer-push, order_split}
use Rattle.scp_pending.proofs.Accounting.{OnLine, on_step, lanes_on, is_there, shape_front, mine_all, family, family_has, family_own}
use Rattle.scp_pending.proofs.Rising.{Rises, IsPart, IsAdded, seqs_of, rises_to, rises_push, rises_ascend, seqs_step}
use Rattle.scp_pending.proofs.Permuting.{parked_numbers, numbers_permute, held_numbers, came_numbers}
use Rattle.scp_pending.proofs.Exiting.{IsAll, Ascending, ways-append, none_front, no_lane, Begins, EndsOutside, Before, exits_item}

-- ---- what the shape says of an item

begins_now : (peer me : NodeId) (h : Come) (item : Inbound) (life : ℕ) (ws : List Way) → MayCome peer me h item → (h.life < life → ws ≡ []) → Begins (conn_at peer me life) item ws
begins_now peer me h (inbound.Opened d) life ws m none = λ e. none (let at : nat_eq (h.life + 1) life ≡ true = sym (ap (λ (k : ConnId). same_conn k (conn_at peer me life)) m.1 ∙ same_at peer me (h.life + 1) life) ∙ e in omega (arith, eqb-true (h.life + 1) life at))
begins_now peer me h (inbound.Carried x) life ws m none = tt
begins_now peer me h (inbound.Side d message) life ws m none = tt
begins_now peer me h (inbound.Closed d cause) life ws m none = tt
begins_now peer me h (inbound.Local command) life ws m none = tt

ends_outside : (peer me : NodeId) (h : Come) (item : Inbound) (life : ℕ) → MayCome peer me h item → EndsOutside (conn_at peer me life) item
ends_outside peer me h (inbound.Opened d) life m = tt
ends_outside peer me h (inbound.Carried x) life m = tt
ends_outside peer me h (inbound.Side d message) life m = tt
ends_outside peer me h (inbound.Closed d cause) life m = λ e. m.2
ends_outside peer me h (inbound.Local command) life m = tt

-- of another link it says nothing
begins_else : (peer me : NodeId) (item : Inbound) (life : ℕ) (ws : List Way) → is_from peer item ≡ false → Begins (conn_at peer me life) item ws
begins_else peer me (inbound.Opened d) life ws o = λ e. clash (same_conn d (conn_at peer me life)) e (apart peer me d life o)
begins_else peer me (inbound.Carried x) life ws o = tt
begins_else peer me (inbound.Side d message) life ws o = tt
begins_else peer me (inbound.Closed d cause) life ws o = tt
begins_else peer me (inbound.Local command) life ws o = tt

outside_else : (peer me : NodeId) (item : Inbound) (life : ℕ) → is_from peer item ≡ false → EndsOutside (conn_at peer me life) item
outside_else peer me (inbound.Opened d) life o = tt
outside_else peer me (inbound.Carried x) life o = tt
outside_else peer me (inbound.Side d message) life o = tt
outside_else peer me (inbound.Closed d cause) life o = λ e. clash (same_conn d (conn_at peer me life)) e (apart peer me d life o)
outside_else peer me (inbound.Local command) life o = tt

-- ---- along a list of takes

abbrev pub AllLeft : Settled → (ℕ → ℕ → ℕ) → NodeId → NodeId → List Inbound → Settled → List Ready → Type 0
AllLeft start slots me peer taken s out = (life : ℕ) → Exits start (slots life) taken (conn_at peer me life) (is_open (conn_at peer me life) s.queues) (ways (conn_at peer me life) out)

may_come : (peer me : NodeId) (taken : List Inbound) (item : Inbound) → is_from peer item ≡ true → AreInOrder peer me nothing_came (of_peer peer (taken ++ item ∷ [])) → MayCome peer me (come_of peer taken) item
may_come peer me taken item e shape =
    let pushed : of_peer peer (taken ++ item ∷ []) ≡ of_peer peer taken ++ item ∷ [] = of_peer-push peer taken item ∙ ap (λ b. of_peer peer taken ++ cond b (item ∷ []) []) e in
    (order_split peer me nothing_came (of_peer peer taken) item (subst (AreInOrder peer me nothing_came) pushed shape)).1

-- ---- ascending numbers

carried_seq : Inbound → ℕ
carried_seq (inbound.Opened d) = 0
carried_seq (inbound.Carried x) = x.seq.0
carried_seq (inbound.Side d message) = 0
carried_seq (inbound.Closed d cause) = 0
carried_seq (inbound.Local command) = 0

next_rises : (peer me : NodeId) (h : Come) (item : Inbound) (c : ConnId) (old new : List Seq) → MayCome peer me h item → (comes h item).is_open ≡ true → Rises 0 h.next old → (h.is_open ≡ false → old ≡ []) → IsPart new old ⊎ IsAdded c item old new → Rises 0 (comes h item).next new
unfolding carried_seq
next_rises peer me h (inbound.Opened d) c old new m runs r none (inl p) = p 0 0 (subst (λ (seqs : List Seq). Rises 0 0 seqs) (sym (none m.0)) (omega arith))
next_rises peer me h (inbound.Opened d) c old new m runs r none (inr a) = absurd (let bad : inbound.Opened d ≡ inbound.Carried a.x = a.is in cc)
next_rises peer me h (inbound.Carried y) c old new m runs r none (inl p) = rises_to 0 h.next (h.next + 1) new (omega arith) (p 0 h.next r)
next_rises peer me h (inbound.Carried y) c old new m runs r none (inr a) = (let same : a.x.seq.0 ≡ h.next = sym (ap carried_seq a.is) ∙ m.2 in subst (λ (seqs : List Seq). Rises 0 (h.next + 1) seqs) (sym a.seqs) (rises_push 0 h.next old a.x.seq same r))
next_rises peer me h (inbound.Side d message) c old new m runs r none (inl p) = p 0 h.next r
next_rises peer me h (inbound.Side d message) c old new m runs r none (inr a) = absurd (let bad : inbound.Side d message ≡ inbound.Carried a.x = a.is in cc)
next_rises peer me h (inbound.Closed d cause) c old new m runs r none o = absurd (let bad : false ≡ true = runs in cc)
next_rises peer me h (inbound.Local command) c old new m runs r none o = absurd m

rises_step : (start : Settled) (slots : ℕ → ℕ → ℕ) (me peer : NodeId) (peers : List NodeId) (taken : List Inbound) (s : Settled) (out : List Ready) (item : Inbound) → AreInOrder peer me nothing_came (of_peer peer (taken ++ item ∷ [])) → OnLine start slots me peer peers taken s out → OnLine start slots me peer peers (taken ++ item ∷ []) (rules s item) (out ++ releases s item) → (life : ℕ) → Rises 0 (come_of peer taken).next (seqs_of (conn_at peer me life) s.queues) → Rises 0 (come_of peer (taken ++ item ∷ [])).next (seqs_of (conn_at peer me life) (rules s item).queues)
rises_step start slots me peer peers taken s out item shape k after life r = by_open (is_open c (rules s item).queues) refl
  where
    c : ConnId
    c = conn_at peer me life

    none : (come_of peer taken).is_open ≡ false → seqs_of c s.queues ≡ []
    none e = by_was (is_open c s.queues) refl
      where
        by_was : (b : Bool) → is_open c s.queues ≡ b → seqs_of c s.queues ≡ []
        by_was true o = clash (come_of peer taken).is_open ((k.told 0 life).open_here o).0 e
        by_was false o = ap (map seq_of) (parked_shut c s.queues o)

    by_from : (b : Bool) → is_from peer item ≡ b → is_open c (rules s item).queues ≡ true → Rises 0 (come_of peer (taken ++ item ∷ [])).next (seqs_of c (rules s item).queues)
    by_from true e open' =
        let pushed : of_peer peer (taken ++ item ∷ []) ≡ of_peer peer taken ++ item ∷ [] = of_peer-push peer taken item ∙ ap (λ b. of_peer peer taken ++ cond b (item ∷ []) []) e in
        let come : come_of peer (taken ++ item ∷ []) ≡ comes (come_of peer taken) item = ap (fold comes nothing_came) pushed ∙ fold-append comes nothing_came (of_peer peer taken) (item ∷ []) in
        let runs : (comes (come_of peer taken) item).is_open ≡ true = ap (λ (h : Come). h.is_open) (sym come) ∙ ((after.told 0 life).open_here open').0 in
        subst (λ (h : Come). Rises 0 h.next (seqs_of c (rules s item).queues)) (sym come) (next_rises peer me (come_of peer taken) item c (seqs_of c s.queues) (seqs_of c (rules s item).queues) (may_come peer me taken item e shape) runs r none (seqs_step c s item k.sound.single))
    by_from false e open' =
        let pushed : of_peer peer (taken ++ item ∷ []) ≡ of_peer peer taken = of_peer-push peer taken item ∙ ap (λ b. of_peer peer taken ++ cond b (item ∷ []) []) e ∙ append_nil (of_peer peer taken) in
        subst (λ (h : Come). Rises 0 h.next (seqs_of c (rules s item).queues)) (sym (ap (fold comes nothing_came) pushed)) (by_step (seqs_step c s item k.sound.single))
      where
        by_step : IsPart (seqs_of c (rules s item).queues) (seqs_of c s.queues) ⊎ IsAdded c item (seqs_of c s.queues) (seqs_of c (rules s item).queues) → Rises 0 (come_of peer taken).next (seqs_of c (rules s item).queues)
        by_step (inl p) = p 0 (come_of peer taken).next r
        by_step (inr a) = clash (is_from peer item) (ap (is_from peer) a.is ∙ ap (λ (d : ConnId). same_node d.from peer) a.mine ∙ same_node-refl peer) e

    by_open : (b : Bool) → is_open c (rules s item).queues ≡ b → Rises 0 (come_of peer (taken ++ item ∷ [])).next (seqs_of c (rules s item).queues)
    by_open true o = by_from (is_from peer item) refl o
    by_open false o = subst (λ (ps : List Parked). Rises 0 (come_of peer (taken ++ item ∷ [])).next (map seq_of ps)) (sym (parked_shut c (rules s item).queues o)) (omega arith)

abbrev pub AllRise : NodeId → NodeId → List Inbound → Settled → Type 0
AllRise me peer taken s = (life : ℕ) → Rises 0 (come_of peer taken).next (seqs_of (conn_at peer me life) s.queues)

left_step : (start : Settled) (slots : ℕ → ℕ → ℕ) (me peer : NodeId) (peers : List NodeId) (taken : List Inbound) (s : Settled) (out : List Ready) (item : Inbound) → ((life : ℕ) → HaveSlots (conn_at peer me life) (slots life) (taken ++ item ∷ [])) → AreInOrder peer me nothing_came (of_peer peer (taken ++ item ∷ [])) → OnLine start slots me peer peers taken s out → AllRise me peer taken s → AllLeft start slots me peer taken s out → AllLeft start slots me peer (taken ++ item ∷ []) (rules s item) (out ++ releases s item)
left_step start slots me peer peers taken s out item have shape k rise known life = subst (λ (ws : List Way). Exits start (slots life) (taken ++ item ∷ []) c (is_open c (rules s item).queues) ws) (sym (ways-append c out (releases s item))) (by_test (is_from peer item) refl)
  where
    c : ConnId
    c = conn_at peer me life

    here : Before start taken s
    here = record { now = k.sound.now; single = k.sound.single; mine = mine_all start taken s.wanted s.queues k.sound.fits; fits = k.sound.fits; wanted = k.sound.wanted }

    up : Ascending c s item
    up = record { parked = rises_ascend 0 (come_of peer taken).next (seqs_of c s.queues) (rise life); with_one = one }
      where
        one : (x : Carried) → item ≡ inbound.Carried x → x.conn ≡ c → Ascend 0 (seqs_of c s.queues ++ x.seq ∷ [])
        one x is mine =
            let from : is_from peer item ≡ true = ap (is_from peer) is ∙ ap (λ (d : ConnId). same_node d.from peer) mine ∙ same_node-refl peer in
            let may : MayCome peer me (come_of peer taken) (inbound.Carried x) = subst (MayCome peer me (come_of peer taken)) is (may_come peer me taken item from shape) in
            rises_ascend 0 ((come_of peer taken).next + 1) (seqs_of c s.queues ++ x.seq ∷ []) (rises_push 0 (come_of peer taken).next (seqs_of c s.queues) x.seq may.2 (rise life))

    lanes : HasLanes (slots life) c s item
    lanes = lanes_on start slots me peer peers taken s out item have k life

    whole : IsAll c s item (ways c out)
    whole x is mine live =
        let from : is_from peer item ≡ true = ap (is_from peer) is ∙ ap (λ (d : ConnId). same_node d.from peer) mine ∙ same_node-refl peer in
        let may : MayCome peer me (come_of peer taken) (inbound.Carried x) = subst (MayCome peer me (come_of peer taken)) is (may_come peer me taken item from shape) in
        let before : AreInOrder peer me nothing_came (of_peer peer taken) = shape_front peer me taken (item ∷ []) shape in
        numbers_permute (slots life) (range_with_len 0 x.seq.0) (numbers_of (ways c out) ++ parked_numbers c s.queues) (λ n. (
        let told = (k.told n life).open_here live in
        ap (in_lane (slots life) n) (ap (λ m. map number (range_with_len 0 m)) may.2 ∙ sym (came_numbers peer me life taken before told.0 told.1)) ∙ sym told.2 ∙ ap (in_lane (slots life) n) (held_numbers c out s.queues ((known life).running live))))

    by_test : (b : Bool) → is_from peer item ≡ b → Exits start (slots life) (taken ++ item ∷ []) c (is_open c (rules s item).queues) (ways c out ++ ways c (releases s item))
    by_test true e =
        let may : MayCome peer me (come_of peer taken) item = may_come peer me taken item e shape in
        exits_item start (slots life) taken c s item (ways c out) here lanes.parked lanes.item_is up whole (begins_now peer me (come_of peer taken) item life (ways c out) may (λ lt. none_front c out (marks_parked c s.queues) (no_lane (slots life) (marks_of c out ++ marks_parked c s.queues) (λ n. ((k.told n life).later lt).1)))) (ends_outside peer me (come_of peer taken) item life may) (known life)
    by_test false e = exits_item start (slots life) taken c s item (ways c out) here lanes.parked lanes.item_is up whole (begins_else peer me item life (ways c out) e) (outside_else peer me item life e) (known life)

pub record OnWay (start : Settled) (slots : ℕ → ℕ → ℕ) (me peer : NodeId) (peers : List NodeId) (taken : List Inbound) (s : Settled) (out : List Ready) : Type 0 where
  pub line : OnLine start slots me peer peers taken s out
  pub rise : AllRise me peer taken s
  pub left : AllLeft start slots me peer taken s out

pub way_along : (start : Settled) (slots : ℕ → ℕ → ℕ) (me peer : NodeId) (peers : List NodeId) (taken items : List Inbound) (s : Settled) (out : List Ready) → is_some (position (λ p. same_node p peer) peers) ≡ true → ((life : ℕ) → HaveSlots (conn_at peer me life) (slots life) (taken ++ items)) → AreInOrder peer me nothing_came (of_peer peer (taken ++ items)) → OnWay start slots me peer peers taken s out → OnWay start slots me peer peers (taken ++ items) (settled_by s items) (out ++ released_by s items)
way_along start slots me peer peers taken [] s out there have shape k = rw (append_nil taken, append_nil out) k
way_along start slots me peer peers taken (item ∷ items) s out there have shape k =
    let all : (life : ℕ) → HaveSlots (conn_at peer me life) (slots life) ((taken ++ item ∷ []) ++ items) = λ life. subst (HaveSlots (conn_at peer me life) (slots life)) (sym (append_assoc taken (item ∷ []) items)) (have life) in
    let first : (life : ℕ) → HaveSlots (conn_at peer me life) (slots life) (taken ++ item ∷ []) = λ life. (all_left (HasSlot (conn_at peer me life) (slots life)) (taken ++ item ∷ []) items (all life)).0 in
    let whole : AreInOrder peer me nothing_came (of_peer peer ((taken ++ item ∷ []) ++ items)) = subst (λ (l : List Inbound). AreInOrder peer me nothing_came (of_peer peer l)) (sym (append_assoc taken (item ∷ []) items)) shape in
    let now : AreInOrder peer me nothing_came (of_peer peer (taken ++ item ∷ [])) = shape_front peer me (taken ++ item ∷ []) items whole in
    rw (← append_assoc taken (item ∷ []) items, ← append_assoc out (releases s item) (released_by (rules s item) items))
    (way_along start slots me peer peers (taken ++ item ∷ []) items (rules s item) (out ++ releases s item) there all whole (record { line = on_step start slots me peer peers taken s out item there first now k.line; rise = λ g. rises_step start slots me peer peers taken s out item now k.line (on_step start slots me peer peers taken s out item there first now k.line) g (k.rise g); left = left_step start slots me peer peers taken s out item first now k.line k.rise k.left }))

pub way_of : (me peer : NodeId) (peers : List NodeId) (taken : List Inbound) (given : List Ready) (v : PendingView) (link life : ℕ) (slots : ℕ → ℕ) → Pends me peers taken given v → HasShape me peers taken → slice_get peers link ≡ Some peer → HaveSlots (conn_at peer me life) slots taken → OnWay (start_of me peers v) (family me peer taken life slots) me peer peers taken v.settled (given ++ v.leaving)
way_of me peer peers taken given v link life slots p shape at have =
    let start = start_of me peers v in
    let slots' = family me peer taken life slots in
    let begun : OnWay start slots' me peer peers [] start [] = record {
      line = record { sound = sound_start me peers v.settled.store.local p.local_is_sane; is_me = refl; are_peers = refl; to_me = tt; told = λ n g. told_start g };
      rise = λ g. omega arith;
      left = λ g. record { running = λ e. tt; ended = inl tt };
    } in
    let all : OnWay start slots' me peer peers taken (settled_by start taken) (released_by start taken) = way_along start slots' me peer peers [] taken start [] (is_there peers link peer at) (family_has me peer taken life slots (shape link peer at) have) (shape link peer at) begun in
    subst (λ (t : Settled). OnWay start slots' me peer peers taken t (given ++ v.leaving)) (sym p.settled) (subst (λ (out : List Ready). OnWay start slots' me peer peers taken (settled_by start taken) out) (sym p.left) all)

pub all_exits : AllExits
all_exits me peers taken given v p shape link peer at life slots have = subst (λ (f : ℕ → ℕ). Exits (start_of me peers v) f taken (conn_at peer me life) (is_open (conn_at peer me life) v.settled.queues) (ways (conn_at peer me life) (given ++ v.leaving))) (family_own me peer taken life slots) ((way_of me peer peers taken given v link life slots p shape at have).left life)

-- ---- local commands

none_fate : (c : ConnId) (p : Parked) → commands_of (fate c p) ≡ []
none_fate c (Waits x) = refl
none_fate c (Free d) = refl
none_fate c (Lost x cause) = refl

none_behind : (c : ConnId) (kept ps : List Parked) → commands_of (leaves_behind c kept ps) ≡ []
none_behind c kept [] = refl
none_behind c kept (p ∷ ps) = by_test (is_held kept p) (none_behind c (kept ++ p ∷ []) ps) (none_behind c kept ps)
  where
    by_test : (b : Bool) → commands_of (leaves_behind c (kept ++ p ∷ []) ps) ≡ [] → commands_of (leaves_behind c kept ps) ≡ [] → commands_of (cond b (leaves_behind c (kept ++ p ∷ []) ps) (fate c p ++ leaves_behind c kept ps)) ≡ []
    by_test true stay go = stay
    by_test false stay go = flat-append passed (fate c p) (leaves_behind c kept ps) ∙ ap (λ cs. cs ++ commands_of (leaves_behind c kept ps)) (none_fate c p) ∙ go

none_passed : (c : ConnId) (ps : List Parked) → commands_of (leaves_of c ps) ≡ []
none_passed c ps = none_behind c [] ps

none_leaving : (qs : List QueueView) → commands_of (leaving_of qs) ≡ []
none_leaving [] = refl
none_leaving (q ∷ qs) = flat-append passed (leaves_in q) (leaving_of qs) ∙ ap (λ cs. cs ++ commands_of (leaving_of qs)) (none_passed q.conn q.parked) ∙ none_leaving qs

none_dropped : (c : ConnId) (cause : DropCause) (ps : List Parked) (end : List Ready) → commands_of (map (dropped c cause) ps ++ end) ≡ commands_of end
none_dropped c cause [] end = refl
none_dropped c cause (p ∷ ps) end = none_dropped c cause ps end

passed_at : (s : Settled) (item : Inbound) → commands_of (releases s item) ≡ passing item
passed_at s (inbound.Opened c) = refl
passed_at s (inbound.Carried x) = by_tests (is_open x.conn s.queues) (overflows x.conn (entering s.store x) s.queues) (goes_through x.conn (entering s.store x) s.queues)
  where
    by_tests : (o f g : Bool) → commands_of (cond o (cond f (map (dropped x.conn ByFull) (parked_of x.conn s.queues) ++ Dropped x.conn x.seq ByFull ∷ Closed x.conn ParkedFull ∷ []) (cond g (fate x.conn (entering s.store x)) [])) []) ≡ []
    by_tests true true g = none_dropped x.conn ByFull (parked_of x.conn s.queues) (Dropped x.conn x.seq ByFull ∷ Closed x.conn ParkedFull ∷ [])
    by_tests true false true = none_fate x.conn (entering s.store x)
    by_tests true false false = refl
    by_tests false f g = refl
passed_at s (inbound.Side c m) = by_open (is_open c s.queues) m
  where
    by_set : (set : QuorumTree) (b : Bool) → commands_of (cond b (leaving_of (resolved (is_hash (hash_of set)) (by_answer set) s.queues)) []) ≡ []
    by_set set true = none_leaving (resolved (is_hash (hash_of set)) (by_answer set) s.queues)
    by_set set false = refl

    by_miss : (hash : Hash) (b : Bool) → commands_of (cond b (leaving_of (resolved (is_hash hash) (lost_by GaveUp) s.queues)) []) ≡ []
    by_miss hash true = none_leaving (resolved (is_hash hash) (lost_by GaveUp) s.queues)
    by_miss hash false = refl

    by_message : (m : SideMessage) → commands_of (heard_out m s) ≡ []
    by_message (GetSet hash) = refl
    by_message (Set set) = by_set set (is_answer set s)
    by_message (NoSet hash) = by_miss hash (gives_up (One hash) s.wanted hash)

    by_open : (b : Bool) (m : SideMessage) → commands_of (cond b (heard_out m s) []) ≡ []
    by_open true m = by_message m
    by_open false m = refl
passed_at s (inbound.Closed c cause) = by_test (is_open c s.queues)
  where
    by_test : (b : Bool) → commands_of (cond b (map (dropped c ByClose) (parked_of c s.queues) ++ Closed c cause ∷ []) []) ≡ []
    by_test true = none_dropped c ByClose (parked_of c s.queues) (Closed c cause ∷ [])
    by_test false = refl
passed_at s (inbound.Local Tick) = none_leaving (resolved (is_given_up s.wanted) (lost_by GaveUp) (in_order_of (last_missed s.wanted) s.queues))
passed_at s (inbound.Local (Propose slot value)) = refl
passed_at s (inbound.Local (Round slot)) = refl
passed_at s (inbound.Local (Timer slot)) = refl
passed_at s (inbound.Local (Ask link slot)) = refl

pub passed_along : (s : Settled) (items : List Inbound) → commands_of (released_by s items) ≡ commands_in items
passed_along s [] = refl
passed_along s (item ∷ items) = flat-append passed (releases s item) (released_by (rules s item) items) ∙ ap (λ cs. cs ++ commands_of (released_by (rules s item) items)) (passed_at s item) ∙ ap (λ cs. passing item ++ cs) (passed_along (rules s item) items)

pub commands_pass : CommandsPass
commands_pass me peers taken given v p = ap commands_of p.left ∙ passed_along (start_of me peers v) taken
