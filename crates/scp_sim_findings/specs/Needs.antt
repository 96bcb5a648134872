-- What the slots of a script's nodes need where they are stuck (this project's profile).
use Rattle.std.specs.Prelude.{ℕ, ◌≡◌, Bool, false, List, [], ◌++◌, ◌==◌, Option, Some, None, codes, flat_map, slice_get, if◌then◌else◌, string_bytes}
use Rattle.std.specs.List.{slice_split}
use Rattle.scp_script_hints.specs.scp_script.specs.Words.{lines_of, same}
use Rattle.scp_sim_findings.specs.declared.outcome.Finding.{Finding}
use Rattle.scp_sim_findings.specs.declared.outcome.Finding.TheVariants.{Split, Stuck, Cut}
use Rattle.scp_trace.specs.declared.depth.Depth.TheVariants.{Stands}
use Rattle.scp_trace.specs.declared.playing.Traced.{Traced}
use Rattle.scp_trace.specs.Traced.{IsTraced}

-- The text is the status of a script's nodes at its `report` lines, with what they wait for.
abbrev pub IsStandOf : List ℕ → List ℕ → Type 0
IsStandOf script text = (told : Traced) × IsTraced Stands script told × (text ≡ string_bytes told.text)

-- The word is there, and it is `needs`.
abbrev pub is_needs : Option (List ℕ) → Bool
is_needs None = false
is_needs (Some word) = same word (codes "needs")

-- The line of a status says what a slot needs: its fourth word is `needs`.
abbrev pub is_need : List ℕ → Bool
is_need line = is_needs (slice_get (slice_split (λ byte. byte == 32) line) 3)

-- The line with its line end, if it says what a slot needs.
abbrev pub need_text : List ℕ → List ℕ
need_text line = if is_need line then line ++ codes "\n" else []

-- The lines of a status that say what slots need.
abbrev pub needs_in : List ℕ → List ℕ
needs_in stand = flat_map need_text (lines_of stand)

-- What the slots of a script's nodes need, if the finding is that nodes are stuck; nothing for any other finding.
abbrev pub AreNeedsOf : Finding → List ℕ → List ℕ → Type 0
AreNeedsOf Stuck script needs = (stand : List ℕ) × IsStandOf script stand × (needs ≡ needs_in stand)
AreNeedsOf Split script needs = needs ≡ []
AreNeedsOf Cut script needs = needs ≡ []

-- Two scripts lead to the same finding, and if nodes are stuck, they are so for the same needs.
pub record AreAlike (finding : Finding) (one other : List ℕ) : Type 0 where
  pub needs : List ℕ
  pub of_one : AreNeedsOf finding one needs
  pub of_other : AreNeedsOf finding other needs
