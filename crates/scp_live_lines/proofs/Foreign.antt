-- A line with bytes over 127 has a word with such bytes; and what a line is refused for, by its bytes or by its words.
use Rattle.std.proofs.Common.{◌≡◌, ◌+◌, ℕ, Bool, true, false, List, [], ◌∷◌, Option, Some, None, refl, sym, ◌∙◌, subst, nat_lt}
use borrow.Author.Tests.{eqb-true}
use Rattle.std.specs.Prelude.{◌==◌, cond}
use Rattle.std.specs.List.{onto_first}
use Rattle.scp_script.specs.scp_device.specs.declared.bad.Expected.{Expected}
use Rattle.scp_script.specs.Words.{is_ascii}
use Rattle.scp_script.specs.Reasons.{parts_of, foreign_in, mark_in, first_wrong, byte_fault}
use Rattle.scp_script.specs.scp_device.specs.declared.bad.BadWord.{BadWord}
use Rattle.scp_script.specs.scp_device.specs.declared.bad.WordFault.{WordFault}
use Rattle.scp_script.specs.scp_device.specs.declared.bad.WordFault.TheVariants.{Bad, NoMemory}
use Rattle.scp_live_lines.specs.declared.asked.Asked.{Asked}
use Rattle.scp_live_lines.specs.Says.{Says}
use Rattle.scp_live_lines.specs.Results.{IfRefusal}
use Rattle.scp_live_lines.specs.Bad.{IsWrongIn, IsBadBy, IsFirstBad}
use Rattle.scp_live_lines.specs.inside.Forms.{refusal_by}

-- one of the words has bytes over 127
abbrev pub HasForeign : Expected → ℕ → List (List ℕ) → Type 0
HasForeign expected place words = (fault : BadWord) × (first_wrong (foreign_in expected) place words ≡ Some fault)

onto_ascii : (e : Expected) (x : ℕ) (n : ℕ) (words : List (List ℕ)) → nat_lt x 128 ≡ true → HasForeign e n words → HasForeign e n (onto_first x words)
onto_ascii e x n [] p h = let none = h.1 in absurd cc
onto_ascii e x n (w ∷ ws) p h = (h.0, rw p h.1)

onto_foreign : (e : Expected) (x : ℕ) (n : ℕ) (words : List (List ℕ)) → nat_lt x 128 ≡ false → HasForeign e n (onto_first x words)
onto_foreign e x n [] p = (record { word = n; expected = e }, rw p refl)
onto_foreign e x n (w ∷ ws) p = (record { word = n; expected = e }, rw p refl)

-- a line with bytes over 127 has a word with such bytes
has_foreign : (e : Expected) (n : ℕ) (line : List ℕ) → is_ascii line ≡ false → HasForeign e n (parts_of line)
has_foreign e n [] h = absurd cc
has_foreign e n (x ∷ xs) h = by (x == 32) (nat_lt x 128) refl refl (λ k rest. has_foreign e k xs rest)
  where
    by : (space small : Bool) → (x == 32) ≡ space → nat_lt x 128 ≡ small → ((k : ℕ) → is_ascii xs ≡ false → HasForeign e k (parts_of xs)) → HasForeign e n (cond (x == 32) ([] ∷ parts_of xs) (onto_first x (parts_of xs)))
    by true true p q found = let rest : is_ascii xs ≡ false = rw q at h in rw p (found (n + 1) rest)
    by true false p q found = let is : x ≡ 32 = eqb-true x 32 p in let within : nat_lt 32 128 ≡ false = rw is at q in absurd cc
    by false true p q found = let rest : is_ascii xs ≡ false = rw q at h in rw p (onto_ascii e x n (parts_of xs) q (found n rest))
    by false false p q found = rw p (onto_foreign e x n (parts_of xs) q)

-- so such a line has a word with bytes that no line has
byte_fault_of : (line : List ℕ) → is_ascii line ≡ false → (fault : BadWord) × (byte_fault line ≡ Some fault)
byte_fault_of line h =
    let found = has_foreign (mark_in line) 1 line h in
    (found.0, rw h found.1)

by_bytes : (names : List (List ℕ)) (line : List ℕ) (found r : BadWord) (o : Option BadWord) (fault : BadWord) → o ≡ Some fault → r ≡ refusal_by o found → IsBadBy o names line r
by_bytes names line found r (Some b) fault e h = h
by_bytes names line found r None fault e h = absurd cc

-- what a line that isn't ASCII is refused for
pub foreign_is_bad : (names : List (List ℕ)) (line : List ℕ) (found r : BadWord) → is_ascii line ≡ false → r ≡ refusal_by (byte_fault line) found → IsFirstBad names line r
foreign_is_bad names line found r h e = let fault = byte_fault_of line h in by_bytes names line found r (byte_fault line) fault.0 fault.1 e

by_words : (names : List (List ℕ)) (line : List ℕ) (found r : BadWord) (o : Option BadWord) → IsWrongIn names (parts_of line) found → r ≡ refusal_by o found → IsBadBy o names line r
by_words names line found r (Some b) wrong e = e
by_words names line found r None wrong e = subst (λ (x : BadWord). IsWrongIn names (parts_of line) x) (sym e) wrong

-- what a line is refused for whose words are wrong
pub words_are_bad : (names : List (List ℕ)) (line : List ℕ) (found r : BadWord) → IsWrongIn names (parts_of line) found → r ≡ refusal_by (byte_fault line) found → IsFirstBad names line r
words_are_bad names line found r wrong e = by_words names line found r (byte_fault line) wrong e

-- ---- the answer to a line that isn't read

pub foreign_judged : (names : List (List ℕ)) (line : List ℕ) (found : BadWord) (b : WordFault) → is_ascii line ≡ false → IfRefusal b (λ r. r ≡ refusal_by (byte_fault line) found) → IfRefusal b (IsFirstBad names line)
foreign_judged names line found (Bad r) h e = foreign_is_bad names line found r h e
foreign_judged names line found NoMemory h e = tt

pub words_judged : (names : List (List ℕ)) (line : List ℕ) (found : BadWord) (b : WordFault) → IsWrongIn names (parts_of line) found → IfRefusal b (λ r. r ≡ refusal_by (byte_fault line) found) → IfRefusal b (IsFirstBad names line)
words_judged names line found (Bad r) h e = words_are_bad names line found r h e
words_judged names line found NoMemory h e = tt

pub says_none : (names : List (List ℕ)) (line : List ℕ) (b : WordFault) → ((a : Asked) → ¬ (Says names line a)) → IfRefusal b (λ r. (a : Asked) → ¬ (Says names line a))
says_none names line (Bad r) h = h
says_none names line NoMemory h = tt

-- a line that isn't ASCII says nothing
pub no_ascii : (names : List (List ℕ)) (line : List ℕ) → is_ascii line ≡ false → (a : Asked) → ¬ (Says names line a)
no_ascii names line e a = λ h. let yes : is_ascii line ≡ true = h.0 in cc (sym e ∙ yes)

-- the words of a line that isn't skipped, where its text is refused
pub wrong_line : (names : List (List ℕ)) (line text : List ℕ) (b : WordFault) (found : BadWord) → text ≡ line → b ≡ Bad found → IfRefusal b (IsWrongIn names (parts_of text)) → IsWrongIn names (parts_of line) found
wrong_line names line text b found e is h = subst (λ (l : List ℕ). IsWrongIn names (parts_of l) found) e (subst (λ (x : WordFault). IfRefusal x (IsWrongIn names (parts_of text))) is h)
