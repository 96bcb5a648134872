-- Lines of a text, one after another.
use Rattle.std.proofs.Common.{◌≡◌, ℕ, List, ◌++◌, ◌∙◌, ap, append_assoc}

-- one line more
pub line_after : (new mid old before line : List ℕ) → new ≡ mid ++ line → mid ≡ old ++ before → new ≡ old ++ (before ++ line)
line_after new mid old before line e f = e ∙ ap (λ (t : List ℕ). t ++ line) f ∙ append_assoc old before line

two_numbers : (a n b m e : List ℕ) → a ++ (n ++ (b ++ (m ++ e))) ≡ a ++ n ++ b ++ m ++ e
two_numbers a n b m e = simp append_assoc

three_numbers : (a n b m d k e : List ℕ) → a ++ (n ++ (b ++ (m ++ (d ++ (k ++ e))))) ≡ a ++ n ++ b ++ m ++ d ++ k ++ e
three_numbers a n b m d k e = simp append_assoc

-- one with two numbers
pub two_after : (new mid old before a n b m e : List ℕ) → new ≡ mid ++ (a ++ (n ++ (b ++ (m ++ e)))) → mid ≡ old ++ before → new ≡ old ++ (before ++ (a ++ n ++ b ++ m ++ e))
two_after new mid old before a n b m e h f =
    line_after new mid old before (a ++ n ++ b ++ m ++ e) (h ∙ ap (λ (l : List ℕ). mid ++ l) (two_numbers a n b m e)) f

-- one with three numbers
pub three_after : (new mid old before a n b m d k e : List ℕ) → new ≡ mid ++ (a ++ (n ++ (b ++ (m ++ (d ++ (k ++ e)))))) → mid ≡ old ++ before → new ≡ old ++ (before ++ (a ++ n ++ b ++ m ++ d ++ k ++ e))
three_after new mid old before a n b m d k e h f =
    line_after new mid old before (a ++ n ++ b ++ m ++ d ++ k ++ e) (h ∙ ap (λ (l : List ℕ). mid ++ l) (three_numbers a n b m d k e)) f
