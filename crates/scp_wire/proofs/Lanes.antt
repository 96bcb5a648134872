-- Lines seen lane by lane.
use Rattle.std.proofs.Common.{length, length-append, append_assoc, ◌≡◌, ℕ, ◌+◌, Bool, true, false, cond, List, [], ◌∷◌, ◌++◌, refl, sym, ◌∙◌, ap, subst, map, inl, inr}
use Rattle.std.specs.Prelude.{Option, Some, None, option_to_list, filter, nat_eq, slice_get}
use Rattle.scp_wire.specs.declared.link.Cause.{Cause}
use Rattle.scp_wire.specs.declared.link.Cause.TheVariants.{ParkedFull}
use Rattle.scp_wire.specs.Marks.{Mark, number, ended}
use Rattle.scp_wire.specs.declared.message.Message.{Message}
use Rattle.scp_wire.specs.Sent.{numbers}
use Rattle.scp_wire.specs.Lanes.{slot_of, slot_in, slots_of, is_in_lane, in_lane, lane_numbers, LanesOfSent, EndsLast, FollowsIn, WholeFollows}

heads : (a b : Mark) (xs ys : List Mark) → a ∷ xs ≡ b ∷ ys → (a ≡ b) × (xs ≡ ys)
heads a b xs ys e = (ap (first a) e, ap rest e)
  where
    first : Mark → List Mark → Mark
    first d [] = d
    first d (x ∷ xs) = x

    rest : List Mark → List Mark
    rest [] = []
    rest (x ∷ xs) = xs

same_number : (n m : ℕ) → number n ≡ number m → n ≡ m
same_number n m e = ap of_mark e
  where
    of_mark : Mark → ℕ
    of_mark (number k) = k
    of_mark (ended cause) = n

nil_left : {X : Type 0} (xs ys : List X) → xs ++ ys ≡ [] → xs ≡ []
nil_left [] ys e = refl
nil_left (x ∷ xs) ys e = absurd cc

no_number : (end : Option Cause) (n : ℕ) (rest : List Mark) → number n ∷ rest ≡ map ended (option_to_list end) → ⊥
no_number None n rest e = cc
no_number (Some cause) n rest e = (let bad : number n ≡ ended cause = (heads (number n) (ended cause) rest [] e).0 in cc)

no_end : (ns : List ℕ) (m : ℕ) (more : List Mark) (cause : Cause) (rest : List Mark) → ended cause ∷ rest ≡ number m ∷ more → ⊥
no_end ns m more cause rest e = (let bad : ended cause ≡ number m = (heads (ended cause) (number m) rest more e).0 in cc)

-- the line is what was sent
same_follows : (ns : List ℕ) (end : Option Cause) (front back more : List Mark) → front ++ more ≡ map number ns ++ map ended (option_to_list end) → EndsLast (front ++ back) → FollowsIn ns front
same_follows ns end [] back more e l = tt
same_follows ns end (ended cause ∷ front) back more e l = nil_left front back l
same_follows [] end (number n ∷ front) back more e l = absurd (no_number end n (front ++ more) e)
same_follows (m ∷ ns) end (number n ∷ front) back more e l = (let both = heads (number n) (number m) (front ++ more) (map number ns ++ map ended (option_to_list end)) e in (same_number n m both.0, same_follows ns end front back more both.1 l))

-- the line is a prefix of it, and then an end
cut_follows : (ns : List ℕ) (end : Option Cause) (front back before rest later : List Mark) (cause : Cause) → front ++ back ≡ before ++ ended cause ∷ later → map number ns ++ map ended (option_to_list end) ≡ before ++ rest → EndsLast (front ++ back) → FollowsIn ns front
cut_follows ns end [] back before rest later cause e s l = tt
cut_follows ns end (ended k ∷ front) back before rest later cause e s l = nil_left front back l
cut_follows ns end (number n ∷ front) back [] rest later cause e s l = absurd (let bad : number n ≡ ended cause = (heads (number n) (ended cause) (front ++ back) later e).0 in cc)
cut_follows ns end (number n ∷ front) back (ended k ∷ before) rest later cause e s l = absurd (let bad : number n ≡ ended k = (heads (number n) (ended k) (front ++ back) (before ++ ended cause ∷ later) e).0 in cc)
cut_follows [] end (number n ∷ front) back (number m ∷ before) rest later cause e s l = absurd (no_number end m (before ++ rest) (sym s))
cut_follows (k ∷ ns) end (number n ∷ front) back (number m ∷ before) rest later cause e s l =
    let both = heads (number n) (number m) (front ++ back) (before ++ ended cause ∷ later) e in
    let sent = heads (number k) (number m) (map number ns ++ map ended (option_to_list end)) (before ++ rest) s in
    (same_number n m both.0 ∙ sym (same_number k m sent.0), cut_follows ns end front back before rest later cause both.1 sent.1 l)

pub whole_follows : WholeFollows
whole_follows ns end sent more front back s (inl e) l = same_follows ns end front back (back ++ more) (sym (append_assoc front back more) ∙ ap (λ zs. zs ++ more) e ∙ sym s) l
whole_follows ns end sent more front back s (inr k) l = cut_follows ns end front back k.front (k.rest ++ more) k.later ParkedFull k.line_is (s ∙ ap (λ zs. zs ++ more) k.sent_is ∙ append_assoc k.front k.rest more) l

-- ---- a lane of what was sent

pub filter-append : {X : Type 0} (f : X → Bool) (xs ys : List X) → filter f (xs ++ ys) ≡ filter f xs ++ filter f ys
filter-append f [] ys = refl
filter-append f (x ∷ xs) ys = by_test (f x) (filter-append f xs ys)
  where
    by_test : (b : Bool) → filter f (xs ++ ys) ≡ filter f xs ++ filter f ys → cond b (x ∷ filter f (xs ++ ys)) (filter f (xs ++ ys)) ≡ cond b (x ∷ filter f xs) (filter f xs) ++ filter f ys
    by_test true e = ap (λ zs. x ∷ zs) e
    by_test false e = e

at_its_place : {X : Type 0} (xs : List X) (x : X) (ys : List X) → slice_get (xs ++ x ∷ ys) (length xs) ≡ Some x
at_its_place [] x ys = refl
at_its_place (z ∷ zs) x ys = at_its_place zs x ys

numbers_in : (s : ℕ) (before ms : List Message) (n : ℕ) → length before ≡ n → in_lane (slots_of (before ++ ms)) s (numbers n ms) ≡ map number (lane_numbers s n ms)
numbers_in s before [] n e = refl
numbers_in s before (m ∷ ms) n e = rw mine (by_test (nat_eq (slot_of m) s) (subst (λ (all : List Message). in_lane (slots_of all) s (numbers (n + 1) ms) ≡ map number (lane_numbers s (n + 1) ms)) (append_assoc before (m ∷ []) ms) (numbers_in s (before ++ m ∷ []) ms (n + 1) (length-append before (m ∷ []) ∙ ap (λ k. k + 1) e))))
  where
    mine : slots_of (before ++ m ∷ ms) n ≡ slot_of m
    mine = ap (λ k. slots_of (before ++ m ∷ ms) k) (sym e) ∙ ap slot_in (at_its_place before m ms)

    by_test : (b : Bool) → in_lane (slots_of (before ++ m ∷ ms)) s (numbers (n + 1) ms) ≡ map number (lane_numbers s (n + 1) ms) → cond b (number n ∷ in_lane (slots_of (before ++ m ∷ ms)) s (numbers (n + 1) ms)) (in_lane (slots_of (before ++ m ∷ ms)) s (numbers (n + 1) ms)) ≡ map number (cond b (n ∷ lane_numbers s (n + 1) ms) (lane_numbers s (n + 1) ms))
    by_test true e = ap (λ zs. number n ∷ zs) e
    by_test false e = e

end_in : (slots : ℕ → ℕ) (s : ℕ) (end : Option Cause) → in_lane slots s (map ended (option_to_list end)) ≡ map ended (option_to_list end)
end_in slots s None = refl
end_in slots s (Some cause) = refl

pub lanes_of_sent : LanesOfSent
lanes_of_sent messages end s = filter-append (is_in_lane (slots_of messages) s) (numbers 0 messages) (map ended (option_to_list end)) ∙ ap (λ zs. zs ++ in_lane (slots_of messages) s (map ended (option_to_list end))) (numbers_in s [] messages 0 refl) ∙ ap (λ zs. map number (lane_numbers s 0 messages) ++ zs) (end_in (slots_of messages) s end)
