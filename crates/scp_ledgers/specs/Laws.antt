-- What follows from the definitions.
use Rattle.std.specs.Prelude.{◌≡◌, ℕ, Bool, List, [], ◌∷◌}
use Rattle.scp_shown.specs.scp_audit.specs.Audit.{IsArchive}
use Rattle.scp_shown.specs.scp_audit.specs.declared.archive.Archive.{Archive}
use Rattle.scp_shown.specs.scp_history.specs.declared.line.Line.{Line}
use Rattle.scp_ledgers.specs.Report.{IsReport, report_text}
use Rattle.scp_ledgers.specs.declared.span.Span.{Span}

-- the archives are what these files are, each in turn
abbrev pub AreRead : List (List ℕ) → List Archive → Type 0
AreRead [] [] = Unit {0}
AreRead [] (a ∷ archives) = ⊥
AreRead (f ∷ files) [] = ⊥
AreRead (f ∷ files) (a ∷ archives) = IsArchive f a × AreRead files archives

-- files have one report, and so one text
abbrev pub ReportsAreOne : Type 0
ReportsAreOne = (span : Span) (files : List (List ℕ)) (a b : List Archive) (ls ms : List Line) → AreRead files a → AreRead files b → IsReport span a ls → IsReport span b ms → (ls ≡ ms) × ((by_number : Bool) → report_text by_number ls ≡ report_text by_number ms)
