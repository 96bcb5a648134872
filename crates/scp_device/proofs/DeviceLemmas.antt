-- Reads and writes one after another.
use Rattle.std.proofs.Common.{◌≡◌, ℕ, List, [], ◌++◌, Option, Some, None, append_assoc, append-nil, refl, subst, sym, ◌∙◌, ap, arith, IfSome, take, drop, length, ◌-◌, ◌+◌, ◌<◌, ◌≤◌, suc, Bor, get_or, flat_map, drop-cons}
use Rattle.std.proofs.lemmas.Grind.{common_steps}
use Rattle.std.proofs.lemmas.List.{drop_all}
use Rattle.std.specs.Io.KnownBytes.{Consumes, Appends, Keeps, IsAtEnd}
use Rattle.scp_device.specs.Device.{Gains, GainsPart, Loses, HasEnded, Stays}

pub gains-nothing : (w : Option (List ℕ)) → Gains w [] w
gains-nothing None = tt
gains-nothing (Some old) = grind (arith, common_steps)

pub gains-more : (a b c : Option (List ℕ)) (x y : List ℕ) → Gains a x b → Gains b y c → Gains a (x ++ y) c
gains-more None b c x y p q = tt
gains-more (Some old) b c x y p q =
    let q' : Gains (Some (old ++ x)) y c = subst (λ (o : Option (List ℕ)). Gains o y c) p q in
    rw append_assoc at q'

pub loses-nothing : (r : Option (List ℕ)) → Loses r [] r
loses-nothing None = tt
loses-nothing (Some all) = (all, refl, refl)

pub loses-more : (a b c : Option (List ℕ)) (x y : List ℕ) → Loses a x b → Loses b y c → Loses a (x ++ y) c
loses-more None b c x y p q = tt
loses-more (Some all) b c x y p q =
    let q' : Loses (Some p.0) y c = subst (λ (o : Option (List ℕ)). Loses o y c) p.2 q in
    (q'.0, p.1 ∙ ap (λ l. x ++ l) q'.1 ∙ sym (append_assoc x y q'.0), q'.2)

-- what was read before the end is all
pub read-whole : (a b : Option (List ℕ)) (text : List ℕ) → Loses a text b → HasEnded b → IfSome a (λ all. text ≡ all)
read-whole None b text p h = tt
read-whole (Some all) b text p h =
    let none : p.0 ≡ [] = subst HasEnded p.2 h in
    sym (p.1 ∙ ap (λ l. text ++ l) none ∙ append-nil text)

-- what std's readers and writers say, in the words of this crate
pub loses_consumed : (a b : Option (List ℕ)) (bytes : List ℕ) → Consumes a b bytes → Loses a bytes b
loses_consumed None b bytes h = tt
loses_consumed (Some xs) None bytes h = absurd h
loses_consumed (Some xs) (Some ys) bytes h = (ys, h, refl)

pub has_ended : (a b : Option (List ℕ)) → Consumes a b [] → IsAtEnd b → HasEnded a
has_ended None b h e = tt
has_ended (Some xs) None h e = absurd h
has_ended (Some xs) (Some ys) h e = h ∙ e

pub gains_appended : (a b : Option (List ℕ)) (bytes : List ℕ) → Appends a b bytes → Gains a bytes b
gains_appended None b bytes h = tt
gains_appended (Some xs) None bytes h = absurd h
gains_appended (Some xs) (Some ys) bytes h = ap Some h

pub stays_kept : (a b : Option (List ℕ)) → Keeps a b → Stays a b
stays_kept None b h = tt
stays_kept (Some xs) None h = absurd h
stays_kept (Some xs) (Some ys) h = ap Some h

pub stays_unwritten : (a b : Option (List ℕ)) → Appends a b [] → Stays a b
stays_unwritten None b h = tt
stays_unwritten (Some xs) None h = absurd h
stays_unwritten (Some xs) (Some ys) h = ap Some (h ∙ append-nil xs)

-- ---- a part of a text that was written

pub gains_part-nothing : (a b : Option (List ℕ)) (text : List ℕ) → Stays a b → GainsPart a text b
gains_part-nothing None b text h = record { part = []; rest = text; splits = refl; gained = tt }
gains_part-nothing (Some old) b text h = record { part = []; rest = text; splits = refl; gained = h ∙ ap Some (sym (append-nil old)) }

pub gains_part-more : (a b c : Option (List ℕ)) (x y : List ℕ) → Gains a x b → GainsPart b y c → GainsPart a (x ++ y) c
gains_part-more a b c x y p q = record {
  part = x ++ q.part;
  rest = q.rest;
  splits = ap (λ l. x ++ l) q.splits ∙ sym (append_assoc x q.part q.rest);
  gained = gains-more a b c x q.part p q.gained;
}

pub front_and_rest : (n : ℕ) (text : List ℕ) → take n text ++ take (length text - n) (drop n text) ≡ text
front_and_rest n text = grind (arith, common_steps)

-- ---- a text in parts

abbrev pub joined : List (Bor (List ℕ)) → List ℕ
joined parts = flat_map (λ part. part.now) parts

-- one part more
parts_step : (parts : List (Bor (List ℕ))) (i : ℕ) (d : Bor (List ℕ)) → i < length parts → (get_or parts i d).now ++ joined (drop (i + 1) parts) ≡ joined (drop i parts)
parts_step parts i d lt =
    let s : i + 1 ≡ suc i = omega arith in
    ap (λ (k : ℕ). (get_or parts i d).now ++ joined (drop k parts)) s ∙ sym (ap (λ (l : List (Bor (List ℕ))). joined l) (drop-cons parts i d lt))

pub parts_more : (a b c : Option (List ℕ)) (parts : List (Bor (List ℕ))) (i : ℕ) (d : Bor (List ℕ)) → i < length parts → Gains a (get_or parts i d).now b → Gains b (joined (drop (i + 1) parts)) c → Gains a (joined (drop i parts)) c
parts_more a b c parts i d lt p q = subst (λ (l : List ℕ). Gains a l c) (parts_step parts i d lt) (gains-more a b c (get_or parts i d).now (joined (drop (i + 1) parts)) p q)

-- no part is left
pub parts_end : (w : Option (List ℕ)) (parts : List (Bor (List ℕ))) (i : ℕ) → length parts ≤ i → Gains w (joined (drop i parts)) w
parts_end w parts i long = subst (λ (l : List (Bor (List ℕ))). Gains w (joined l) w) (sym (drop_all i parts long)) (gains-nothing w)

-- three parts, of which the second is these digits, and the parts of a line that tells a bad word
pub three_parts : (a x b d : List ℕ) → x ≡ d → a ++ (x ++ (b ++ [])) ≡ a ++ d ++ b
three_parts a x b d e = ap (λ (l : List ℕ). a ++ (l ++ (b ++ []))) e ∙ simp (append_assoc, append-nil)

pub bad_word_parts : (f l a w c e n z dl dw : List ℕ) → l ≡ dl → w ≡ dw → f ++ (l ++ (a ++ (w ++ (c ++ (e ++ (n ++ (z ++ []))))))) ≡ f ++ dl ++ a ++ dw ++ c ++ (e ++ n) ++ z
bad_word_parts f l a w c e n z dl dw p q =
    ap (λ (k : List ℕ). f ++ (k ++ (a ++ (w ++ (c ++ (e ++ (n ++ (z ++ [])))))))) p ∙ ap (λ (k : List ℕ). f ++ (dl ++ (a ++ (k ++ (c ++ (e ++ (n ++ (z ++ [])))))))) q ∙ simp (append_assoc, append-nil)
