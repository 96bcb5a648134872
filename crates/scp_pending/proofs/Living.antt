-- A connection is open in what is parked exactly if what was taken leaves it open, and it wasn't cut off.
use Rattle.std.proofs.Common.{◌≡◌, ℕ, Bool, true, false, cond, not, List, [], ◌∷◌, ◌++◌, refl, sym, ◌∙◌, ap, subst, nat_eq}
use Rattle.std.specs.Prelude.{◌&&◌, ◌||◌, map}
use Rattle.std.specs.List.{list_any}
use Rattle.std.proofs.lemmas.Bool.{eqb-true}
use Rattle.scp_wire.specs.scp_types.specs.declared.names.ConnId.{ConnId}
use Rattle.scp_wire.specs.declared.link.Cause.TheVariants.{ParkedFull}
use Rattle.scp_wire.specs.Connections.{conn_at, same_conn}
use Rattle.scp_wire.specs.Shape.{Come}
use Rattle.scp_wire.specs.Marks.{Mark, number, ended, one_if, messages_in}
use Rattle.scp_pending.specs.declared.parked.Parked.{Parked}
use Rattle.scp_pending.specs.declared.ready.Ready.{Ready}
use Rattle.scp_pending.specs.declared.ready.Ready.TheVariants.{Deliver, Dropped, Closed, Local}
use Rattle.scp_pending.specs.Queues.{QueueView, is_open, parked_of}
use Rattle.scp_pending.specs.Line.{ready_mark, marks_of, parked_mark, marks_parked}
use Rattle.scp_pending.specs.Living.{stands, is_too_many, cuts_off, is_cut_off, OpenByPlace}
use Rattle.scp_pending.proofs.Basics.{same_number}
use Rattle.scp_pending.proofs.Telling.{Told, IsCutHere, NoEnd}
use Rattle.scp_wire.specs.Lanes.{slots_of, in_lane}
use Rattle.scp_pending.proofs.Numbered.{slots_are}
use Rattle.scp_pending.proofs.Accounting.{numbered_of}
use Rattle.scp_pending.proofs.Following.{come_of}
use Rattle.scp_pending.proofs.Ending.{way_of}

-- an end as parked-full among marks
abbrev pub is_full_mark : Mark → Bool
is_full_mark (number seq) = false
is_full_mark (ended cause) = is_too_many cause

abbrev pub has_full : List Mark → Bool
has_full marks = list_any is_full_mark marks

full-append : (xs ys : List Mark) → has_full (xs ++ ys) ≡ (has_full xs || has_full ys)
full-append [] ys = refl
full-append (x ∷ xs) ys = ap (λ b. is_full_mark x || b) (full-append xs ys) ∙ or_assoc (is_full_mark x) (has_full xs) (has_full ys)
  where
    or_assoc : (a b c : Bool) → (a || (b || c)) ≡ ((a || b) || c)
    or_assoc true b c = refl
    or_assoc false b c = refl

none_parked : (ps : List Parked) → has_full (map parked_mark ps) ≡ false
none_parked [] = refl
none_parked (p ∷ ps) = none_parked ps

full_mark : (c : ConnId) (r : Ready) → has_full (ready_mark c r) ≡ cuts_off c r
full_mark c (Deliver delivery) = by_test (same_conn delivery.conn c)
  where
    by_test : (b : Bool) → has_full (one_if b (number delivery.seq.0)) ≡ false
    by_test true = refl
    by_test false = refl
full_mark c (Dropped conn seq cause) = by_test (same_conn conn c)
  where
    by_test : (b : Bool) → has_full (one_if b (number seq.0)) ≡ false
    by_test true = refl
    by_test false = refl
full_mark c (Closed conn cause) = by_test (same_conn conn c)
  where
    or_false : (b : Bool) → (b || false) ≡ b
    or_false true = refl
    or_false false = refl

    by_test : (b : Bool) → has_full (one_if b (ended cause)) ≡ (b && is_too_many cause)
    by_test true = or_false (is_too_many cause)
    by_test false = refl
full_mark c (Local command) = refl

full_marks : (c : ConnId) (rs : List Ready) → has_full (marks_of c rs) ≡ is_cut_off c rs
full_marks c [] = refl
full_marks c (r ∷ rs) = full-append (ready_mark c r) (marks_of c rs) ∙ two (full_mark c r) (full_marks c rs)
  where
    two : {a b d e : Bool} → a ≡ b → d ≡ e → (a || d) ≡ (b || e)
    two p q = rw (p, q) refl

-- what runs on has no end in it
running : (xs : List Mark) → NoEnd xs → has_full xs ≡ false
running [] r = refl
running (number seq ∷ xs) r = running xs r
running (ended cause ∷ xs) r = absurd r

-- each lane has each end
full_in : (slots : ℕ → ℕ) (n : ℕ) (xs : List Mark) → has_full (in_lane slots n xs) ≡ has_full xs
full_in slots n [] = refl
full_in slots n (number seq ∷ xs) = by_test (nat_eq (slots seq) n) (full_in slots n xs)
  where
    by_test : (b : Bool) → has_full (in_lane slots n xs) ≡ has_full xs → has_full (cond b (number seq ∷ in_lane slots n xs) (in_lane slots n xs)) ≡ has_full xs
    by_test true e = e
    by_test false e = e
full_in slots n (ended cause ∷ xs) = ap (λ b. is_too_many cause || b) (full_in slots n xs)

-- what is cut off has
cut_short : (front : List Mark) → has_full (front ++ ended ParkedFull ∷ []) ≡ true
cut_short [] = refl
cut_short (x ∷ xs) = by_test (is_full_mark x) (cut_short xs)
  where
    by_test : (b : Bool) → has_full (xs ++ ended ParkedFull ∷ []) ≡ true → (b || has_full (xs ++ ended ParkedFull ∷ [])) ≡ true
    by_test true e = refl
    by_test false e = e

-- its line has such an end exactly if what was given, and what is on its way, has it
line_full : (c : ConnId) (rs : List Ready) (qs : List QueueView) → has_full (marks_of c rs ++ marks_parked c qs) ≡ is_cut_off c rs
line_full c rs qs = full-append (marks_of c rs) (marks_parked c qs) ∙ two (full_marks c rs) (none_parked (parked_of c qs)) ∙ or_false (is_cut_off c rs)
  where
    two : {a b d e : Bool} → a ≡ b → d ≡ e → (a || d) ≡ (b || e)
    two p q = rw (p, q) refl

    or_false : (b : Bool) → (b || false) ≡ b
    or_false true = refl
    or_false false = refl

told_open : (life : ℕ) (h : Come) (o cut : Bool) (sent line : List Mark) → has_full line ≡ cut → Told life h o sent line → o ≡ (stands life h && not cut)
told_open life h true cut sent line full t =
    let here = t.open_here refl in
    let runs : NoEnd line = subst NoEnd (sym here.2) (t.runs here.0 here.1) in
    let whole : cut ≡ false = sym full ∙ running line runs in
    rw (whole, here.0, here.1, same_number life) refl
told_open life h false cut sent line full t = by_tests h.is_open (nat_eq h.life life) refl refl
  where
    by_tests : (p q : Bool) → h.is_open ≡ p → nat_eq h.life life ≡ q → false ≡ ((p && q) && not cut)
    by_tests true true e f =
        let short : IsCutHere sent line = t.shut_here refl e (eqb-true h.life life f) in
        let yes : cut ≡ true = sym full ∙ ap has_full short.line_is ∙ cut_short short.front in
        rw yes refl
    by_tests true false e f = refl
    by_tests false q e f = refl

pub open_by_place : OpenByPlace
open_by_place me peers taken given v p shape link peer at life =
    let c = conn_at peer me life in
    let slots = slots_of (messages_in c taken) in
    let have = slots_are c (messages_in c taken) taken (numbered_of me peer taken life (shape link peer at)) in
    told_open life (come_of peer taken) (is_open c v.settled.queues) (is_cut_off c (given ++ v.leaving)) _ _ (full_in _ 0 (marks_of c (given ++ v.leaving) ++ marks_parked c v.settled.queues) ∙ line_full c (given ++ v.leaving) v.settled.queues) ((way_of me peer peers taken given v link life slots p shape at have).line.told 0 life)
