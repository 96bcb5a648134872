-- Of a connection that is open, what left and what is parked are, by their numbers, all that came.
use Rattle.std.proofs.Common.{◌≡◌, ℕ, ◌+◌, ◌<◌, Bool, true, false, cond, List, [], ◌∷◌, ◌++◌, refl, sym, ◌∙◌, ap, subst, arith, append_assoc, nat_eq, map}
use Rattle.std.specs.Prelude.{filter, fold, ◌&&◌}
use Rattle.std.specs.List.{range_with_len}
use Rattle.std.specs.List.Sorted.{IsPermutation}
use Rattle.std.proofs.lemmas.Bool.{eqb-true, eqb-false}
use Rattle.std.proofs.lemmas.List.FromFn.{map-range_with_len_more}
use Rattle.std.proofs.lemmas.List.Sorted.{IsPermutation-refl, IsPermutation-trans, IsPermutation-sym, IsPermutation-cons, IsPermutation-middle}
use Rattle.scp_wire.specs.scp_types.specs.declared.names.ConnId.{ConnId}
use Rattle.scp_wire.specs.scp_types.specs.declared.names.NodeId.{NodeId}
use Rattle.scp_wire.specs.scp_types.specs.declared.names.Seq.{Seq}
use Rattle.scp_wire.specs.declared.link.Cause.{Cause}
use Rattle.scp_wire.specs.declared.link.Inbound.{Inbound}
use Rattle.scp_wire.specs.declared.link.Inbound.TheVariants as inbound
use Rattle.scp_wire.specs.Connections.{conn_at, same_conn, same_node}
use Rattle.scp_wire.specs.Shape.{Come, nothing_came, comes, AreInOrder, is_from, of_peer}
use Rattle.scp_wire.specs.Marks.{Mark, number, ended, one_if, came_mark, marks_in}
use Rattle.scp_wire.specs.Lanes.{in_lane}
use Rattle.scp_pending.specs.declared.parked.Parked.{Parked}
use Rattle.scp_pending.specs.declared.ready.DropCause.{DropCause}
use Rattle.scp_pending.specs.declared.ready.DropCause.TheVariants.{BadSet, GaveUp, Closed as ByClose, ParkedFull as ByFull}
use Rattle.scp_pending.specs.declared.ready.Ready.{Ready}
use Rattle.scp_pending.specs.declared.ready.Ready.TheVariants.{Deliver, Dropped, Closed, Local}
use Rattle.scp_pending.specs.Queues.{QueueView, parked_of, seq_of}
use Rattle.scp_pending.specs.Line.{marks_of, parked_mark, marks_parked}
use Rattle.scp_pending.specs.Endings.{Way, went, over, way_by, way, ways, HasWent, AllWent, number_of, numbers_of}
use Rattle.scp_pending.proofs.Basics.{append_nil, same_number, map-append, flat-append, all_left}
use Rattle.scp_pending.proofs.Laning.{filter-append}
use Rattle.scp_pending.proofs.Numbered.{kept, same_is}

-- ---- lists that are the same lane by lane

parts_are : {X : Type 0} (a b : X) (us vs : List X) → a ∷ us ≡ b ∷ vs → (a ≡ b) × (us ≡ vs)
parts_are a b us vs e = (cc, cc)

-- of these numbers, those of the lane
abbrev pub at_lane : (ℕ → ℕ) → ℕ → List ℕ → List ℕ
at_lane slots n ks = filter (λ k. nat_eq (slots k) n) ks

-- the first of its lane in a list
record FirstIn (slots : ℕ → ℕ) (x : ℕ) (rest ys : List ℕ) : Type 0 where
  front : List ℕ
  back : List ℕ
  at : ys ≡ front ++ x ∷ back
  none : at_lane slots (slots x) front ≡ []
  others : at_lane slots (slots x) back ≡ rest

first_in : (slots : ℕ → ℕ) (x : ℕ) (rest ys : List ℕ) → at_lane slots (slots x) ys ≡ x ∷ rest → FirstIn slots x rest ys
first_in slots x rest [] e = absurd cc
first_in slots x rest (y ∷ ys) e = by_test (nat_eq (slots y) (slots x)) refl e (first_in slots x rest ys)
  where
    by_test : (b : Bool) → nat_eq (slots y) (slots x) ≡ b → cond b (y ∷ at_lane slots (slots x) ys) (at_lane slots (slots x) ys) ≡ x ∷ rest → (at_lane slots (slots x) ys ≡ x ∷ rest → FirstIn slots x rest ys) → FirstIn slots x rest (y ∷ ys)
    by_test true is k later =
        let both = parts_are y x (at_lane slots (slots x) ys) rest k in
        record { front = []; back = ys; at = ap (λ z. z ∷ ys) both.0; none = refl; others = both.1 }
    by_test false is k later =
        let one = later k in
        record { front = y ∷ one.front; back = one.back; at = ap (λ zs. y ∷ zs) one.at; none = ap (λ b. cond b (y ∷ at_lane slots (slots x) one.front) (at_lane slots (slots x) one.front)) is ∙ one.none; others = one.others }

none_left : (slots : ℕ → ℕ) (ys : List ℕ) → ((n : ℕ) → [] ≡ at_lane slots n ys) → ys ≡ []
none_left slots [] same = refl
none_left slots (y ∷ ys) same = absurd (let bad : [] ≡ y ∷ at_lane slots (slots y) ys = same (slots y) ∙ ap (λ b. cond b (y ∷ at_lane slots (slots y) ys) (at_lane slots (slots y) ys)) (same_number (slots y)) in cc)

-- one of a lane, taken out of the lists
without_one : (slots : ℕ → ℕ) (n x : ℕ) (xs front back : List ℕ) → at_lane slots (slots x) front ≡ [] → at_lane slots (slots x) back ≡ at_lane slots (slots x) xs → at_lane slots n (x ∷ xs) ≡ at_lane slots n (front ++ x ∷ back) → at_lane slots n xs ≡ at_lane slots n (front ++ back)
without_one slots n x xs front back none others same = by_test (nat_eq (slots x) n) refl
  where
    test : ℕ → Bool
    test k = nat_eq (slots k) n

    by_test : (b : Bool) → nat_eq (slots x) n ≡ b → at_lane slots n xs ≡ at_lane slots n (front ++ back)
    by_test true is =
        let lane : slots x ≡ n = eqb-true (slots x) n is in
        sym (filter-append test front back ∙ subst (λ (m : ℕ). at_lane slots m front ++ at_lane slots m back ≡ at_lane slots m xs) lane (ap (λ zs. zs ++ at_lane slots (slots x) back) none ∙ others))
    by_test false is =
        ap (λ b. cond b (x ∷ at_lane slots n xs) (at_lane slots n xs)) (sym is)
        ∙ same
        ∙ filter-append test front (x ∷ back)
        ∙ ap (λ b. at_lane slots n front ++ cond b (x ∷ at_lane slots n back) (at_lane slots n back)) is
        ∙ sym (filter-append test front back)

-- then the one is the other in another order
pub lanes_permute : (slots : ℕ → ℕ) (xs ys : List ℕ) → ((n : ℕ) → at_lane slots n xs ≡ at_lane slots n ys) → IsPermutation xs ys
lanes_permute slots [] ys same = subst (λ (zs : List ℕ). IsPermutation [] zs) (sym (none_left slots ys same)) (IsPermutation-refl [])
lanes_permute slots (x ∷ xs) ys same =
    let here : at_lane slots (slots x) ys ≡ x ∷ at_lane slots (slots x) xs = sym (same (slots x)) ∙ ap (λ b. cond b (x ∷ at_lane slots (slots x) xs) (at_lane slots (slots x) xs)) (same_number (slots x)) in
    let one = first_in slots x (at_lane slots (slots x) xs) ys here in
    let rest : IsPermutation xs (one.front ++ one.back) = lanes_permute slots xs (one.front ++ one.back) (λ n. without_one slots n x xs one.front one.back one.none one.others (same n ∙ ap (at_lane slots n) one.at)) in
    subst (λ (zs : List ℕ). IsPermutation (x ∷ xs) zs) (sym one.at) (IsPermutation-trans (x ∷ xs) (x ∷ (one.front ++ one.back)) (one.front ++ x ∷ one.back) (IsPermutation-cons x xs (one.front ++ one.back) rest) (IsPermutation-sym (one.front ++ x ∷ one.back) (x ∷ (one.front ++ one.back)) (IsPermutation-middle one.front x one.back)))

-- ---- marks that are numbers

in_lane-numbers : (slots : ℕ → ℕ) (n : ℕ) (ks : List ℕ) → in_lane slots n (map number ks) ≡ map number (at_lane slots n ks)
in_lane-numbers slots n [] = refl
in_lane-numbers slots n (k ∷ ks) = by_test (nat_eq (slots k) n) (in_lane-numbers slots n ks)
  where
    by_test : (b : Bool) → in_lane slots n (map number ks) ≡ map number (at_lane slots n ks) → cond b (number k ∷ in_lane slots n (map number ks)) (in_lane slots n (map number ks)) ≡ map number (cond b (k ∷ at_lane slots n ks) (at_lane slots n ks))
    by_test true e = ap (λ zs. number k ∷ zs) e
    by_test false e = e

number_is : (x y : ℕ) → number x ≡ number y → x ≡ y
number_is x y e = cc

number_back : (xs ys : List ℕ) → map number xs ≡ map number ys → xs ≡ ys
number_back [] [] e = refl
number_back [] (y ∷ ys) e = absurd cc
number_back (x ∷ xs) [] e = absurd cc
number_back (x ∷ xs) (y ∷ ys) e = (let both = parts_are (number x) (number y) (map number xs) (map number ys) e in ap (λ z. z ∷ xs) (number_is x y both.0) ∙ ap (λ zs. y ∷ zs) (number_back xs ys both.1))

pub numbers_permute : (slots : ℕ → ℕ) (xs ys : List ℕ) → ((n : ℕ) → in_lane slots n (map number xs) ≡ in_lane slots n (map number ys)) → IsPermutation xs ys
numbers_permute slots xs ys same = lanes_permute slots xs ys (λ n. number_back (at_lane slots n xs) (at_lane slots n ys) (sym (in_lane-numbers slots n xs) ∙ same n ∙ in_lane-numbers slots n ys))

-- ---- what left, and what is parked

cause_number : (b : Bool) (cause : DropCause) (seq : Seq) → one_if b (number seq.0) ≡ map number (numbers_of (one_if b (way_by cause seq)))
cause_number true BadSet seq = refl
cause_number true GaveUp seq = refl
cause_number true ByClose seq = refl
cause_number true ByFull seq = refl
cause_number false cause seq = refl

one_number : (b : Bool) (seq : Seq) → one_if b (number seq.0) ≡ map number (numbers_of (one_if b (went seq)))
one_number true seq = refl
one_number false seq = refl

marks_went : (c : ConnId) (rs : List Ready) → AllWent (ways c rs) → marks_of c rs ≡ map number (numbers_of (ways c rs))
marks_went c [] a = refl
marks_went c (r ∷ rs) a = (let both = all_left HasWent (way c r) (ways c rs) a in by_ready r both.0 (marks_went c rs both.1))
  where
    joined : (ws vs : List Way) → map number (numbers_of ws) ++ map number (numbers_of vs) ≡ map number (numbers_of (ws ++ vs))
    joined ws vs = sym (ap (map number) (flat-append number_of ws vs) ∙ map-append number (numbers_of ws) (numbers_of vs))

    with_rest : (r : Ready) (front : List Mark) → front ≡ map number (numbers_of (way c r)) → marks_of c rs ≡ map number (numbers_of (ways c rs)) → front ++ marks_of c rs ≡ map number (numbers_of (way c r ++ ways c rs))
    with_rest r front e rest = ap (λ zs. zs ++ marks_of c rs) e ∙ ap (λ zs. map number (numbers_of (way c r)) ++ zs) rest ∙ joined (way c r) (ways c rs)

    no_end : (b : Bool) (d : ConnId) (cause : Cause) → same_conn d c ≡ b → AllWent (one_if b (over cause)) → one_if b (ended cause) ≡ map number (numbers_of (one_if b (over cause)))
    no_end true d cause e k = absurd k.0
    no_end false d cause e k = refl

    by_ready : (r : Ready) → AllWent (way c r) → marks_of c rs ≡ map number (numbers_of (ways c rs)) → marks_of c (r ∷ rs) ≡ map number (numbers_of (ways c (r ∷ rs)))
    by_ready (Deliver d) k rest = with_rest (Deliver d) (one_if (same_conn d.conn c) (number d.seq.0)) (one_number (same_conn d.conn c) d.seq) rest
    by_ready (Dropped d seq cause) k rest = with_rest (Dropped d seq cause) (one_if (same_conn d c) (number seq.0)) (cause_number (same_conn d c) cause seq) rest
    by_ready (Closed d cause) k rest = with_rest (Closed d cause) (one_if (same_conn d c) (ended cause)) (no_end (same_conn d c) d cause refl k) rest
    by_ready (Local command) k rest = rest

-- the numbers of what is parked
abbrev pub parked_numbers : ConnId → List QueueView → List ℕ
parked_numbers c qs = map (λ (seq : Seq). seq.0) (map seq_of (parked_of c qs))

marks_are : (ps : List Parked) → map parked_mark ps ≡ map number (map (λ (seq : Seq). seq.0) (map seq_of ps))
marks_are [] = refl
marks_are (p ∷ ps) = ap (λ zs. parked_mark p ∷ zs) (marks_are ps)

pub held_numbers : (c : ConnId) (rs : List Ready) (qs : List QueueView) → AllWent (ways c rs) → marks_of c rs ++ marks_parked c qs ≡ map number (numbers_of (ways c rs) ++ parked_numbers c qs)
held_numbers c rs qs a = ap (λ zs. zs ++ marks_parked c qs) (marks_went c rs a) ∙ ap (λ zs. map number (numbers_of (ways c rs)) ++ zs) (marks_are (parked_of c qs)) ∙ sym (map-append number (numbers_of (ways c rs)) (parked_numbers c qs))

-- ---- what came

pub range_more : (n : ℕ) → range_with_len 0 (n + 1) ≡ range_with_len 0 n ++ n ∷ []
range_more n = sym (map_same (range_with_len 0 (n + 1))) ∙ map-range_with_len_more (λ (k : ℕ). k) 0 n n (omega arith) ∙ ap (λ ks. ks ++ n ∷ []) (map_same (range_with_len 0 n))
  where
    map_same : (ks : List ℕ) → map (λ (k : ℕ). k) ks ≡ ks
    map_same [] = refl
    map_same (k ∷ ks) = ap (λ zs. k ∷ zs) (map_same ks)

-- the numbers that came already
record Counted (life : ℕ) (h : Come) (before : List Mark) : Type 0 where
  later : h.life < life → before ≡ []
  now : h.is_open ≡ true → h.life ≡ life → before ≡ map number (range_with_len 0 h.next)

counted_carried : (life : ℕ) (h : Come) (before : List Mark) (seq : ℕ) (b : Bool) → nat_eq h.life life ≡ b → h.is_open ≡ true → seq ≡ h.next → Counted life h before → Counted life (record h { next = h.next + 1 }) (before ++ one_if b (number seq))
counted_carried life h before seq true is o at k = record {
  later = λ lt. absurd (omega (arith, lt, eqb-true h.life life is));
  now = λ _ l. ap (λ zs. zs ++ number seq ∷ []) (k.now o l) ∙ ap (λ (n : ℕ). map number (range_with_len 0 h.next) ++ number n ∷ []) at ∙ sym (ap (map number) (range_more h.next) ∙ map-append number (range_with_len 0 h.next) (h.next ∷ []));
}
counted_carried life h before seq false is o at k = record { later = λ lt. append_nil before ∙ k.later lt; now = λ _ l. absurd (eqb-false h.life life is l) }

counted_closed : (life : ℕ) (h : Come) (before : List Mark) (mark : Mark) (b : Bool) → nat_eq h.life life ≡ b → Counted life h before → Counted life (record h { is_open = false }) (before ++ one_if b mark)
counted_closed life h before mark true is k = record { later = λ lt. absurd (omega (arith, lt, eqb-true h.life life is)); now = λ o l. absurd cc }
counted_closed life h before mark false is k = record { later = λ lt. append_nil before ∙ k.later lt; now = λ o l. absurd cc }

counted_opened : (life : ℕ) (h : Come) (before : List Mark) → Counted life h before → Counted life (record { life = h.life + 1; is_open = true; next = 0 }) before
counted_opened life h before k = record { later = λ lt. k.later (omega (arith, lt)); now = λ o l. k.later (omega (arith, l)) }

counted_from : (peer me : NodeId) (life : ℕ) (h : Come) (before : List Mark) (items : List Inbound) → Counted life h before → AreInOrder peer me h items → Counted life (fold comes h items) (before ++ marks_in (conn_at peer me life) items)
counted_from peer me life h before [] k a = subst (λ (ms : List Mark). Counted life h ms) (sym (append_nil before)) k
counted_from peer me life h before (inbound.Opened d ∷ items) k a = counted_from peer me life (record { life = h.life + 1; is_open = true; next = 0 }) before items (counted_opened life h before k) a.1
counted_from peer me life h before (inbound.Carried x ∷ items) k a =
    let c = conn_at peer me life in
    let is : nat_eq h.life life ≡ same_conn x.conn c = sym (same_is peer me x.conn h.life life a.0.1) in
    subst (λ (ms : List Mark). Counted life (fold comes (record h { next = h.next + 1 }) items) ms) (append_assoc before (one_if (same_conn x.conn c) (number x.seq.0)) (marks_in c items))
    (counted_from peer me life (record h { next = h.next + 1 }) (before ++ one_if (same_conn x.conn c) (number x.seq.0)) items (counted_carried life h before x.seq.0 (same_conn x.conn c) is a.0.0 a.0.2 k) a.1)
counted_from peer me life h before (inbound.Side d message ∷ items) k a = counted_from peer me life h before items k a.1
counted_from peer me life h before (inbound.Closed d cause ∷ items) k a =
    let c = conn_at peer me life in
    let is : nat_eq h.life life ≡ same_conn d c = sym (same_is peer me d h.life life a.0.1) in
    subst (λ (ms : List Mark). Counted life (fold comes (record h { is_open = false }) items) ms) (append_assoc before (one_if (same_conn d c) (ended cause)) (marks_in c items))
    (counted_from peer me life (record h { is_open = false }) (before ++ one_if (same_conn d c) (ended cause)) items (counted_closed life h before (ended cause) (same_conn d c) is k) a.1)
counted_from peer me life h before (inbound.Local command ∷ items) k a = absurd a.0

not_of : (b b2 b3 : Bool) (mark : Mark) → b ≡ false → one_if (b && b2 && b3) mark ≡ []
not_of b b2 b3 mark e = rw e refl

other_mark : (c : ConnId) (item : Inbound) → is_from c.from item ≡ false → came_mark c item ≡ []
other_mark c (inbound.Opened d) e = refl
other_mark c (inbound.Carried x) e = not_of (same_node x.conn.from c.from) (same_node x.conn.to c.to) (nat_eq x.conn.life c.life) (number x.seq.0) e
other_mark c (inbound.Side d message) e = refl
other_mark c (inbound.Closed d cause) e = not_of (same_node d.from c.from) (same_node d.to c.to) (nat_eq d.life c.life) (ended cause) e
other_mark c (inbound.Local command) e = refl

-- of a connection that is open, its numbers came from the first on
pub came_numbers : (peer me : NodeId) (life : ℕ) (taken : List Inbound) → AreInOrder peer me nothing_came (of_peer peer taken) → (fold comes nothing_came (of_peer peer taken)).is_open ≡ true → (fold comes nothing_came (of_peer peer taken)).life ≡ life → marks_in (conn_at peer me life) taken ≡ map number (range_with_len 0 (fold comes nothing_came (of_peer peer taken)).next)
came_numbers peer me life taken order runs same =
    let c = conn_at peer me life in
    sym (kept (came_mark c) (is_from peer) (other_mark c) taken)
    ∙ (counted_from peer me life nothing_came [] (of_peer peer taken) (record { later = λ lt. refl; now = λ o l. refl }) order).now runs same
