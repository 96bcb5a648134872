-- Reads and writes one after another.
use Rattle.std.proofs.Common.{◌≡◌, ℕ, List, [], ◌++◌, Option, Some, None, append_assoc, append-nil, refl, subst, sym, ◌∙◌, ap, arith, IfSome, take, drop, length, ◌-◌}
use Rattle.std.proofs.lemmas.Grind.{common_steps}
use Rattle.scp_device.specs.Device.{Gains, GainsPart, Loses, HasEnded, Stays}

pub gains-nothing : (w : Option (List ℕ)) → Gains w [] w
gains-nothing None = tt
gains-nothing (Some old) = grind (arith, common_steps)

pub gains-more : (a b c : Option (List ℕ)) (x y : List ℕ) → Gains a x b → Gains b y c → Gains a (x ++ y) c
gains-more None b c x y p q = tt
gains-more (Some old) b c x y p q =
    let q' : Gains (Some (old ++ x)) y c = subst (λ (o : Option (List ℕ)). Gains o y c) p q in
    rw append_assoc at q'

pub loses-nothing : (r : Option (List ℕ)) → Loses r [] r
loses-nothing None = tt
loses-nothing (Some all) = (all, refl, refl)

pub loses-more : (a b c : Option (List ℕ)) (x y : List ℕ) → Loses a x b → Loses b y c → Loses a (x ++ y) c
loses-more None b c x y p q = tt
loses-more (Some all) b c x y p q =
    let q' : Loses (Some p.0) y c = subst (λ (o : Option (List ℕ)). Loses o y c) p.2 q in
    (q'.0, p.1 ∙ ap (λ l. x ++ l) q'.1 ∙ sym (append_assoc x y q'.0), q'.2)

-- what was read before the end is all
pub read-whole : (a b : Option (List ℕ)) (text : List ℕ) → Loses a text b → HasEnded b → IfSome a (λ all. text ≡ all)
read-whole None b text p h = tt
read-whole (Some all) b text p h =
    let none : p.0 ≡ [] = subst HasEnded p.2 h in
    sym (p.1 ∙ ap (λ l. text ++ l) none ∙ append-nil text)

-- ---- a part of a text that was written

pub gains_part-nothing : (a b : Option (List ℕ)) (text : List ℕ) → Stays a b → GainsPart a text b
gains_part-nothing None b text h = record { part = []; rest = text; splits = refl; gained = tt }
gains_part-nothing (Some old) b text h = record { part = []; rest = text; splits = refl; gained = h ∙ ap Some (sym (append-nil old)) }

pub gains_part-more : (a b c : Option (List ℕ)) (x y : List ℕ) → Gains a x b → GainsPart b y c → GainsPart a (x ++ y) c
gains_part-more a b c x y p q = record {
  part = x ++ q.part;
  rest = q.rest;
  splits = ap (λ l. x ++ l) q.splits ∙ sym (append_assoc x q.part q.rest);
  gained = gains-more a b c x q.part p q.gained;
}

pub front_and_rest : (n : ℕ) (text : List ℕ) → take n text ++ take (length text - n) (drop n text) ≡ text
front_and_rest n text = grind (arith, common_steps)
