-- What words say, and where they are refused.
use Rattle.std.proofs.Common.{◌≡◌, ℕ, ◌+◌, ◌≤◌, List, [], ◌∷◌, Option, Some, None, Result, Ok, Err, refl, sym, subst, arith}
use Rattle.scp_text.specs.scp_device.specs.declared.bad.BadWord.{BadWord}
use Rattle.scp_text.specs.scp_device.specs.declared.bad.WordFault.{WordFault}
use Rattle.scp_text.specs.scp_device.specs.declared.bad.WordFault.TheVariants.{NoMemory, Bad}
use Rattle.scp_text.specs.scp_device.specs.declared.bad.Expected.{Expected}
use Rattle.scp_text.specs.Messages.{Answers, IsNear, or_refused, ◌>>=◌}
use Rattle.scp_script_text.specs.Lines.{only_word, ends}

small : {A : Type 0} (says : List ℕ → Option A) (expected : Expected) (words : List (List ℕ)) (r : BadWord) → only_word says expected words ≡ Err r → r.word ≤ 2
small says expected [] r h = let same : 1 ≡ r.word = cc in omega (arith, same)
small {A = A} says expected (w ∷ ws) r h = by (says w) ws h
  where
    by : (o : Option A) (ws : List (List ℕ)) → (or_refused o 1 expected >>= (λ x. ends ws >>= (λ done. Ok x))) ≡ Err r → r.word ≤ 2
    by None ws h = let same : 1 ≡ r.word = cc in omega (arith, same)
    by (Some x) [] h = absurd cc
    by (Some x) (v ∷ vs) h = let same : 2 ≡ r.word = cc in omega (arith, same)

-- one word is refused there, or a second one behind it
pub word_near : {A : Type 0} (says : List ℕ → Option A) (expected : Expected) (words : List (List ℕ)) (e : WordFault) → Answers (Err e) (only_word says expected words) → IsNear e
word_near says expected words NoMemory h = tt
word_near says expected words (Bad r) h = omega (arith, small says expected words r h)
