-- What a smaller script is to come to.
use Rattle.std.proofs.Common.{◌≡◌, ◌++◌, ℕ, Bool, List, None, Some, Ok, Err, IsTrue, sym, ◌∙◌, subst, inr, nat_eq, length, string_bytes}
use Rattle.std.specs.Prelude.{Option, Result, IfOk, IfSome, OnOk, codes}
use Rattle.std.specs.Fmt.{decimal}
use Rattle.std.specs.Global.{Vec}
use Rattle.std.specs.Cmp.Lexicographic.{pointwise}
use Rattle.std.proofs.lemmas.Slice.Eq.{bytes_eq-Decides}
use Rattle.scp_script_hints.specs.scp_script.specs.Words.{lines_of}
use Rattle.scp_sim_findings.specs.declared.outcome.Finding.{Finding}
use Rattle.scp_sim_findings.specs.declared.outcome.Judging.{Judging}
use Rattle.scp_sim_findings.specs.declared.running.Told.{Told}
use Rattle.scp_sim_findings.specs.declared.shrinking.Aim.{Aim}
use Rattle.scp_sim_findings.specs.Needs.{AreAlike, AreNeedsOf}
use Rattle.scp_sim_findings.specs.Replayed.{ComesTo}
use Rattle.scp_sim_findings.specs.Shrunk.{IsPartOf, text_of}
use Rattle.scp_sim_findings.specs.Told.{Shortens}
use Rattle.scp_sim_findings.specs.inside.Reaching.{Reaches}

-- what holds of a value, if there is one, holds of this one
pub of_some : {A : Type 0} (P : A → Type 0) (found : Option A) (value : A) → found ≡ Some value → IfSome found P → P value
of_some {A} P found value is holds = subst (λ (o : Option A). IfSome o P) is holds

-- the needs are those that are aimed at, if they are the same bytes
pub needs_same : (aim : Aim) (script needs one other : List ℕ) (same : Bool) → AreNeedsOf aim.finding script needs → one ≡ needs → other ≡ aim.needs.items → same ≡ pointwise nat_eq one other
    → IsTrue same → AreNeedsOf aim.finding script aim.needs.items
needs_same aim script needs one other same are is wanted equal true_so =
    let alike : one ≡ other = (bytes_eq-Decides one other).0 (sym equal ∙ true_so) in
    subst (λ (l : List ℕ). AreNeedsOf aim.finding script l) (sym is ∙ alike ∙ wanted) are

-- a script that comes to the finding reaches what is aimed at, if its needs are the same
pub reached_if : {E : Type 0} (aim : Aim) (script : List ℕ) (r : Result Bool E) → ComesTo script aim.finding aim.judging.marks aim.judging.slots
    → IfOk r (λ same. IsTrue same → AreNeedsOf aim.finding script aim.needs.items) → IfOk r (λ same. IsTrue same → Reaches aim script)
reached_if aim script (Ok same) comes needs = λ true_so. record { comes = comes; needs = needs true_so }
reached_if aim script (Err fault) comes needs = tt

-- what reaches it comes to the finding
pub comes_of : (finding : Finding) (judging : Judging) (aim : Aim) (text : List ℕ) → aim.finding ≡ finding → aim.judging ≡ judging → Reaches aim text → ComesTo text finding judging.marks judging.slots
comes_of finding judging aim text f j reaches =
    subst (λ (to : Judging). ComesTo text finding to.marks to.slots) j (subst (λ (to : Finding). ComesTo text to aim.judging.marks aim.judging.slots) f reaches.comes)

-- two scripts that reach it are alike
pub alike_of : (finding : Finding) (aim : Aim) (one other : List ℕ) → aim.finding ≡ finding → Reaches aim one → Reaches aim other → AreAlike finding one other
alike_of finding aim one other f a b =
    subst (λ (to : Finding). AreAlike to one other) f (record { needs = aim.needs.items; of_one = a.needs; of_other = b.needs })

-- the smaller script that was found was put beside the report's script
pub shortened : {E : Type 0} (r : Result (Unit {0}) E) (finding : Finding) (judging : Judging) (old new : Told) (read : List ℕ) (found : Option (Vec ℕ)) (script : Vec ℕ) → found ≡ Some script → read ≡ old.script.items
    → IfSome found (λ text. IsPartOf (lines_of read) text.items)
    → IfSome found (λ text. ComesTo text.items finding judging.marks judging.slots)
    → IfSome found (λ text. AreAlike finding (text_of (lines_of read)) text.items)
    → OnOk r (new.shrunk ≡ Some script)
    → OnOk r (string_bytes new.text ≡ string_bytes old.text ++ (codes "shrunk to " ++ decimal (length script.items) ++ codes " bytes\n"))
    → OnOk r (new ≡ record old { shrunk = new.shrunk; text = new.text })
    → OnOk r (Shortens (Some finding) judging.marks judging.slots old new)
shortened (Ok done) finding judging old new read found script is whole part comes alike shrunk text rest =
    inr (
      script,
      record {
        shrunk = shrunk;
        part = subst (λ (s : List ℕ). IsPartOf (lines_of s) script.items) whole (of_some (λ (text : Vec ℕ). IsPartOf (lines_of read) text.items) found script is part);
        comes = of_some (λ (text : Vec ℕ). ComesTo text.items finding judging.marks judging.slots) found script is comes;
        alike = subst (λ (s : List ℕ). AreAlike finding (text_of (lines_of s)) script.items) whole (of_some (λ (text : Vec ℕ). AreAlike finding (text_of (lines_of read)) text.items) found script is alike);
        text_is = text;
        rest = rest;
      },
    )
shortened (Err fault) finding judging old new read found script is whole part comes alike shrunk text rest = tt
