-- How a connection's line is related to what came of it, one item after another.
use Rattle.std.proofs.Common.{◌≡◌, ◌≢◌, ℕ, ◌+◌, ◌<◌, Bool, true, false, List, [], ◌∷◌, ◌++◌, refl, sym, ◌∙◌, ap, arith, append_assoc, nat_eq, inl, inr, ◌⊎◌}
use Rattle.std.proofs.lemmas.Bool.{eqb-true, eqb-false}
use Rattle.scp_wire.specs.declared.link.Cause.{Cause}
use Rattle.scp_wire.specs.declared.link.Cause.TheVariants.{ParkedFull}
use Rattle.scp_wire.specs.Shape.{Come, nothing_came}
use Rattle.scp_wire.specs.Marks.{Mark, number, ended}
use Rattle.scp_wire.specs.Lanes.{EndsLast}
use Rattle.scp_pending.proofs.Basics.{append_nil}

-- no end
abbrev pub NoEnd : List Mark → Type 0
NoEnd [] = Unit {0}
NoEnd (number seq ∷ rest) = NoEnd rest
NoEnd (ended cause ∷ rest) = ⊥

NoEnd-append : (xs ys : List Mark) → NoEnd xs → NoEnd ys → NoEnd (xs ++ ys)
NoEnd-append [] ys a b = b
NoEnd-append (number seq ∷ xs) ys a b = NoEnd-append xs ys a b
NoEnd-append (ended cause ∷ xs) ys a b = absurd a

NoEnd-last : (xs : List Mark) → NoEnd xs → EndsLast xs
NoEnd-last [] a = tt
NoEnd-last (number seq ∷ xs) a = NoEnd-last xs a
NoEnd-last (ended cause ∷ xs) a = absurd a

NoEnd-end : (xs : List Mark) (cause : Cause) → NoEnd xs → EndsLast (xs ++ ended cause ∷ [])
NoEnd-end [] cause a = refl
NoEnd-end (number seq ∷ xs) cause a = NoEnd-end xs cause a
NoEnd-end (ended k ∷ xs) cause a = absurd a

-- the line is a prefix of what was sent, ended as ParkedFull
pub record IsCutHere (sent' line' : List Mark) : Type 0 where
  pub front : List Mark
  pub rest : List Mark
  pub sent_is : sent' ≡ front ++ rest
  pub line_is : line' ≡ front ++ ended ParkedFull ∷ []

pub record Told (life : ℕ) (h : Come) (open' : Bool) (sent' line' : List Mark) : Type 0 where
  pub later : h.life < life → (sent' ≡ []) × (line' ≡ [])
  pub open_here : open' ≡ true → (h.is_open ≡ true) × (h.life ≡ life) × (line' ≡ sent')
  pub shut_here : open' ≡ false → h.is_open ≡ true → h.life ≡ life → IsCutHere sent' line'
  pub runs : h.is_open ≡ true → h.life ≡ life → NoEnd sent'
  pub whole : (line' ≡ sent') ⊎ IsCutHere sent' line'
  pub ends : EndsLast line'

-- nothing is said of this connection, and its link stays
pub told_same : (life : ℕ) (h : Come) (open' new : Bool) (s l s' l' : List Mark) → new ≡ open' → s' ≡ s → l' ≡ l → Told life h open' s l → Told life h new s' l'
told_same life h open' new s l s' l' o e f a = rw (o, e, f) a

-- an item on the link, of another life
pub told_other : (life : ℕ) (h h' : Come) (open' new : Bool) (s l : List Mark) → h'.life ≡ h.life → h.life ≢ life → (new ≡ true → open' ≡ true) → Told life h open' s l → Told life h' new s l
told_other life h h' open' new s l same other still a = record {
  later = λ lt. a.later (rw (← same) lt);
  open_here = λ o. absurd (other (a.open_here (still o)).1);
  shut_here = λ o r e. absurd (other (sym same ∙ e));
  runs = λ r e. absurd (other (sym same ∙ e));
  whole = a.whole;
  ends = a.ends;
}

-- the link is opened: this life, or another
pub told_opens : (life : ℕ) (h : Come) (old : Bool) (s l : List Mark) → Told life h old s l → Told life (record { life = h.life + 1; is_open = true; next = 0 }) (nat_eq (h.life + 1) life) s l
told_opens life h old s l a = record {
  later = λ lt. a.later (omega (arith, lt));
  open_here = λ o. (let e : h.life + 1 ≡ life = eqb-true (h.life + 1) life o in let none = a.later (omega (arith, e)) in (refl, e, none.1 ∙ sym none.0));
  shut_here = λ o r e. absurd (eqb-false (h.life + 1) life o e);
  runs = λ r e. (let none = a.later (omega (arith, e)) in rw none.0 tt);
  whole = a.whole;
  ends = a.ends;
}

-- a message of an open connection, in this lane or in another
pub told_number : (life : ℕ) (h : Come) (one s l : List Mark) → NoEnd one → h.is_open ≡ true → h.life ≡ life → Told life h true s l → Told life (record h { next = h.next + 1 }) true (s ++ one) (l ++ one)
told_number life h one s l plain running same a =
    let runs : NoEnd (s ++ one) = NoEnd-append s one (a.runs running same) plain in
    let line : l ≡ s = (a.open_here refl).2 in
    record {
      later = λ lt. absurd (omega (arith, same, lt));
      open_here = λ o. (running, same, ap (λ ms. ms ++ one) line);
      shut_here = λ o r e. absurd cc;
      runs = λ r e. runs;
      whole = inl (ap (λ ms. ms ++ one) line);
      ends = rw line (NoEnd-last (s ++ one) runs);
    }

-- the 65th: it and all that is parked leave, and the connection is cut off
pub told_cut : (life : ℕ) (h : Come) (one s l : List Mark) → NoEnd one → h.is_open ≡ true → h.life ≡ life → Told life h true s l → Told life (record h { next = h.next + 1 }) false (s ++ one) (l ++ (one ++ ended ParkedFull ∷ []))
told_cut life h one s l plain running same a =
    let runs : NoEnd (s ++ one) = NoEnd-append s one (a.runs running same) plain in
    let line : l ≡ s = (a.open_here refl).2 in
    let ends : l ++ (one ++ ended ParkedFull ∷ []) ≡ (s ++ one) ++ ended ParkedFull ∷ [] = ap (λ ms. ms ++ (one ++ ended ParkedFull ∷ [])) line ∙ sym (append_assoc s one (ended ParkedFull ∷ [])) in
    let cut : IsCutHere (s ++ one) (l ++ (one ++ ended ParkedFull ∷ [])) = record { front = s ++ one; rest = []; sent_is = sym (append_nil _); line_is = ends } in
    record {
      later = λ lt. absurd (omega (arith, same, lt));
      open_here = λ o. absurd cc;
      shut_here = λ o r e. cut;
      runs = λ r e. runs;
      whole = inr cut;
      ends = rw ends (NoEnd-end (s ++ one) ParkedFull runs);
    }

-- a message that is discarded: its connection was cut off
pub told_discard : (life : ℕ) (h : Come) (one s l : List Mark) → NoEnd one → h.is_open ≡ true → h.life ≡ life → Told life h false s l → Told life (record h { next = h.next + 1 }) false (s ++ one) l
told_discard life h one s l plain running same a =
    let old = a.shut_here refl running same in
    let cut : IsCutHere (s ++ one) l = record { front = old.front; rest = old.rest ++ one; sent_is = ap (λ ms. ms ++ one) old.sent_is ∙ append_assoc old.front old.rest one; line_is = old.line_is } in
    record {
      later = λ lt. absurd (omega (arith, same, lt));
      open_here = λ o. absurd cc;
      shut_here = λ o r e. cut;
      runs = λ r e. NoEnd-append s one (a.runs running same) plain;
      whole = inr cut;
      ends = a.ends;
    }

-- a close of an open connection
pub told_close : (life : ℕ) (h : Come) (cause : Cause) (s l : List Mark) → h.is_open ≡ true → h.life ≡ life → Told life h true s l → Told life (record h { is_open = false }) false (s ++ ended cause ∷ []) (l ++ ended cause ∷ [])
told_close life h cause s l running same a =
    let line : l ≡ s = (a.open_here refl).2 in
    record {
      later = λ lt. absurd (omega (arith, same, lt));
      open_here = λ o. absurd cc;
      shut_here = λ o r e. absurd cc;
      runs = λ r e. absurd cc;
      whole = inl (ap (λ ms. ms ++ ended cause ∷ []) line);
      ends = rw line (NoEnd-end s cause (a.runs running same));
    }

-- a close of one that was cut off
pub told_close_cut : (life : ℕ) (h : Come) (cause : Cause) (s l : List Mark) → h.is_open ≡ true → h.life ≡ life → Told life h false s l → Told life (record h { is_open = false }) false (s ++ ended cause ∷ []) l
told_close_cut life h cause s l running same a =
    let old = a.shut_here refl running same in
    let cut : IsCutHere (s ++ ended cause ∷ []) l = record { front = old.front; rest = old.rest ++ ended cause ∷ []; sent_is = ap (λ ms. ms ++ ended cause ∷ []) old.sent_is ∙ append_assoc old.front old.rest (ended cause ∷ []); line_is = old.line_is } in
    record {
      later = λ lt. absurd (omega (arith, same, lt));
      open_here = λ o. absurd cc;
      shut_here = λ o r e. absurd cc;
      runs = λ r e. absurd cc;
      whole = inr cut;
      ends = a.ends;
    }

pub told_start : (life : ℕ) → Told life nothing_came false [] []
told_start life = record {
  later = λ lt. (refl, refl);
  open_here = λ o. absurd cc;
  shut_here = λ o r e. absurd cc;
  runs = λ r e. absurd cc;
  whole = inl refl;
  ends = tt;
}
