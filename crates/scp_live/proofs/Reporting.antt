-- Texts that are written one after the other, and the number of a line.
use Rattle.std.proofs.Common.{◌≡◌, ◌+◌, ◌*◌, ℕ, min, List, ◌++◌, Option, None, Some, sym, ◌∙◌, ap, subst, append_assoc, arith, inl}
use Rattle.std.specs.Prelude.{◌⊎◌, Result, Ok, Err, OnOk, OnErr, IfErr, IsErrOf, IsOkUnless}
use Rattle.scp_again.specs.scp_types.specs.declared.fault.Fault.{Fault}
use Rattle.scp_again.specs.scp_types.specs.declared.fault.Fault.TheVariants.{NoMemory, JournalFull, Failed}
use Rattle.scp_report.specs.scp_device.specs.Device.{Gains, GainsPart, Fails}

-- two times so many, and two more, up to a bound
pub two_lines : (place bound : ℕ) → min (min (place * 2) bound + 2) bound ≡ min (place * 2 + 2) bound
two_lines place bound = omega arith

gains_on : (a b c : Option (List ℕ)) (s t : List ℕ) → Gains a s b → Gains b t c → Gains a (s ++ t) c
gains_on None b c s t p q = tt
gains_on (Some w) b c s t p q =
    let r : Gains (Some (w ++ s)) t c = subst (λ (m : Option (List ℕ)). Gains m t c) p q in
    r ∙ ap (λ (l : List ℕ). Some l) (append_assoc w s t)

part_on : (a b c : Option (List ℕ)) (s t : List ℕ) → Gains a s b → GainsPart b t c → GainsPart a (s ++ t) c
part_on a b c s t p q = record {
  part = s ++ q.part;
  rest = q.rest;
  splits = ap (λ (l : List ℕ). s ++ l) q.splits ∙ sym (append_assoc s q.part q.rest);
  gained = gains_on a b c s q.part p q.gained;
}

-- a part of the first text is a part of both
pub part_within : (a b : Option (List ℕ)) (s t : List ℕ) → GainsPart a s b → GainsPart a (s ++ t) b
part_within a b s t p = record {
  part = p.part;
  rest = p.rest ++ t;
  splits = ap (λ (l : List ℕ). l ++ t) p.splits ∙ append_assoc p.part p.rest t;
  gained = p.gained;
}

-- after the first text the second was written, or a part of it
pub whole_behind : (r : Result (Unit {0}) Fault) (a b c : Option (List ℕ)) (s t : List ℕ) → Gains a s b → OnOk r (Gains b t c) → OnOk r (Gains a (s ++ t) c)
whole_behind (Ok x) a b c s t p q = gains_on a b c s t p q
whole_behind (Err f) a b c s t p q = tt

pub part_behind : (r : Result (Unit {0}) Fault) (a b c : Option (List ℕ)) (s t : List ℕ) → Gains a s b → OnErr r (GainsPart b t c) → OnErr r (GainsPart a (s ++ t) c)
part_behind (Ok x) a b c s t p q = tt
part_behind (Err f) a b c s t p q = part_on a b c s t p q

-- a writer that hadn't failed before
pub raised_behind : (r : Result (Unit {0}) Fault) (a b c : ℕ) → b ≡ a → OnErr r (Fails b c) → OnErr r (Fails a c)
raised_behind r a b c same q = subst (λ (n : ℕ). OnErr r (Fails n c)) same q

pub kept_behind : (r : Result (Unit {0}) Fault) (a b c : ℕ) → b ≡ a → OnOk r (c ≡ b) → OnOk r (c ≡ a)
kept_behind r a b c same q = subst (λ (n : ℕ). OnOk r (c ≡ n)) same q

-- a call that is refused for memory alone
pub memory_alone : {T : Type 0} (r : Result T Fault) → IsOkUnless r NoMemory → IfErr r (λ f. (f ≡ NoMemory) ⊎ ((f ≡ JournalFull) ⊎ (f ≡ Failed)))
memory_alone (Ok x) only = tt
memory_alone (Err f) only = inl (let same : f ≡ NoMemory = cc in same)

pub memory_isnt : {T : Type 0} (r : Result T Fault) (g : Fault) → (NoMemory ≡ g → ⊥) → IsOkUnless r NoMemory → IsErrOf r g → ⊥
memory_isnt (Ok x) g other only is = cc
memory_isnt (Err f) g other only is =
    let same : f ≡ NoMemory = cc in
    let here : f ≡ g = cc in
    other (sym same ∙ here)
