-- The places of `wait` lines, one behind the other.
use Rattle.std.proofs.Common.{◌≡◌, ◌<◌, ◌≤◌, ◌+◌, ◌∙◌, ℕ, List, [], ◌∷◌, ◌++◌, Some, length, get_or, refl, sym, ap, subst, arith, inl, inr}
use Rattle.std.specs.List.{AllByRecursion}
use Rattle.std.proofs.lemmas.Option.{slice_get_read}
use Rattle.scp_script.specs.declared.command.Command.{Command}
use Rattle.scp_threaded_script.specs.Waits.{IsWaitAt, AreWaits}
use Rattle.scp_threaded_script.specs.inside.Waiting.{AddsWait, IsWait}

-- the line at a place, where it is a `wait` line
wait_here : (commands : List Command) (i : ℕ) (command : Command) → i < length commands → command ≡ get_or commands i command → IsWait command → IsWaitAt commands i
wait_here commands i command lt is wait = (wait.0, wait.1, slice_get_read commands (length commands) i command refl lt is ∙ ap (λ (c : Command). Some c) wait.2)

waits_more : (commands : List Command) (from n : ℕ) (places : List ℕ) → from ≤ n → AreWaits commands from places → AllByRecursion (λ i. i < n) places → IsWaitAt commands n → AreWaits commands from (places ++ n ∷ [])
waits_more commands from n [] le waits below wait = (le, wait, tt)
waits_more commands from n (place ∷ places) le waits below wait = (waits.0, waits.1, waits_more commands (place + 1) n places (omega (arith, below.0)) waits.2 below.1 wait)

below_next : (n : ℕ) (places : List ℕ) → AllByRecursion (λ i. i < n) places → AllByRecursion (λ i. i < n + 1) places
below_next n [] below = tt
below_next n (place ∷ places) below = (omega (arith, below.0), below_next n places below.1)

below_more : (n : ℕ) (places : List ℕ) → AllByRecursion (λ i. i < n) places → AllByRecursion (λ i. i < n + 1) (places ++ n ∷ [])
below_more n [] below = (omega arith, tt)
below_more n (place ∷ places) below = (omega (arith, below.0), below_more n places below.1)

-- a line more
pub added_at : (commands : List Command) (i place : ℕ) (command : Command) (old new : List ℕ) → i < length commands → command ≡ get_or commands i command → place ≡ i → AreWaits commands 0 old → AllByRecursion (λ j. j < i) old → AddsWait command place old new → AreWaits commands 0 new × AllByRecursion (λ j. j < i + 1) new
added_at commands i place command old new lt is same waits below (inl e) =
    subst (λ (l : List ℕ). AreWaits commands 0 l × AllByRecursion (λ j. j < i + 1) l) (sym e) (waits, below_next i old below)
added_at commands i place command old new lt is same waits below (inr p) =
    subst (λ (l : List ℕ). AreWaits commands 0 l × AllByRecursion (λ j. j < i + 1) l) (sym (p.1 ∙ ap (λ (n : ℕ). old ++ n ∷ []) same))
    (waits_more commands 0 i old (omega arith) waits below (wait_here commands i command lt is p.0), below_more i old below)
