-- From what a call promises to what is promised of it.
use Rattle.std.proofs.Common.{◌≡◌, ℕ, Bool, true, false, List, ◌++◌, Result, Ok, Err, ◌↔◌, refl, sym, ◌∙◌, ap, append_assoc}
use Rattle.std.specs.Prelude.{OnOk, IfOk, IsTrue}

pub then_ok : {A E P Q : Type 0} (r : Result A E) → OnOk r P → (P → Q) → OnOk r Q
then_ok (Ok x) p f = f p
then_ok (Err e) p f = tt

pub both_ok : {A E : Type 0} (P Q R : A → Type 0) (r : Result A E) → IfOk r P → IfOk r Q → ((x : A) → P x → Q x → R x) → IfOk r R
both_ok P Q R (Ok x) p q f = f x p q
both_ok P Q R (Err e) p q f = tt

pub joined : (s t u x y : List ℕ) → t ≡ s ++ x → u ≡ t ++ y → u ≡ s ++ (x ++ y)
joined s t u x y e f = f ∙ ap (λ l. l ++ y) e ∙ append_assoc s x y

pub is_both : {A B : Type 0} (b : Bool) → A → (IsTrue b ↔ B) → IsTrue b ↔ (A × B)
is_both b a told = ((λ h. (a, told.0 h)), λ h. told.1 h.1)

pub is_neither : {A B : Type 0} → ¬ A → IsTrue false ↔ (A × B)
is_neither refuted = ((λ h. let wrong : false ≡ true = h in absurd cc), λ h. absurd (refuted h.0))

pub told_false : {A : Type 0} (b : Bool) → (IsTrue b ↔ A) → b ≡ false → ¬ A
told_false b told e a = let wrong : false ≡ true = sym e ∙ told.1 a in absurd cc

-- five texts, one behind another
pub five : {A E : Type 0} (r : Result A E) (s0 s1 s2 s3 s4 s5 a b c d e : List ℕ) → s1 ≡ s0 ++ a → s2 ≡ s1 ++ b → s3 ≡ s2 ++ c → s4 ≡ s3 ++ d → OnOk r (s5 ≡ s4 ++ e) → OnOk r (s5 ≡ s0 ++ ((((a ++ b) ++ c) ++ d) ++ e))
five r s0 s1 s2 s3 s4 s5 a b c d e first second third fourth last =
    let two = joined s0 s1 s2 a b first second in
    let three = joined s0 s2 s3 (a ++ b) c two third in
    let four = joined s0 s3 s4 ((a ++ b) ++ c) d three fourth in
    then_ok r last (λ end. joined s0 s4 s5 (((a ++ b) ++ c) ++ d) e four end)

pub four : {A E : Type 0} (r : Result A E) (s0 s1 s2 s3 s4 a b c d : List ℕ) → s1 ≡ s0 ++ a → s2 ≡ s1 ++ b → s3 ≡ s2 ++ c → OnOk r (s4 ≡ s3 ++ d) → OnOk r (s4 ≡ s0 ++ (((a ++ b) ++ c) ++ d))
four r s0 s1 s2 s3 s4 a b c d first second third last =
    let two = joined s0 s1 s2 a b first second in
    let three = joined s0 s2 s3 (a ++ b) c two third in
    then_ok r last (λ end. joined s0 s3 s4 ((a ++ b) ++ c) d three end)
