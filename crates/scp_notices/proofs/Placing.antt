-- The fate that is reported for a line is that of the line's command.
use Rattle.std.proofs.Common.{◌≡◌, ◌+◌, ◌<◌, ℕ, zero, suc, Bool, true, false, cond, List, [], ◌∷◌, ◌++◌, Option, Some, map, filter, option_map, length, nat_eq, refl, sym, ◌∙◌, ap, arith, append-nil, length-append, eq-eqb}
use Rattle.std.specs.Prelude.{slice_get, if◌then◌else◌}
use Rattle.std.proofs.lemmas.Bool.{eqb-true}
use Rattle.std.proofs.lemmas.Grind.{flat_map-append}
use Rattle.std.proofs.lemmas.List.{map-append}
use Rattle.std.proofs.lemmas.List.Elements.{filter-append}
use Rattle.std.proofs.lemmas.Option.{none-some, same_Some, slice_get-map}
use Rattle.scp_line.specs.scp_wire.specs.declared.link.Command.{Command as LocalCommand}
use Rattle.scp_line.specs.scp_wire.specs.declared.link.Command.TheVariants as local
use Rattle.scp_line.specs.scp_wire.specs.declared.link.Inbound.{Inbound}
use Rattle.scp_line.specs.scp_wire.specs.declared.link.Inbound.TheVariants.{Local}
use Rattle.scp_line.specs.scp_pending.specs.Endings.{passing, passing_command, commands_in}
use Rattle.scp_line.specs.scp_ledger.specs.declared.took.CommandFate.{CommandFate}
use Rattle.scp_line.specs.scp_turn.specs.Commands.{TakenCommand, commands_taken, fates_taken}
use Rattle.scp_line.specs.scp_gather.specs.Kv.{NodeReport}
use Rattle.scp_line.specs.scp_script.specs.declared.command.Command.{Command}
use Rattle.scp_line.specs.scp_script.specs.declared.command.Command.TheVariants as script
use Rattle.scp_line.specs.scp_threaded_script.specs.Lines.{link_of, local_by, told_to, command_by, commands_for}
use Rattle.scp_line.specs.Commands.{commands_to, taken_among, HasFatesOfLines}
use Rattle.scp_line.specs.scp_report.specs.Report.{ReportView}
use Rattle.scp_line.specs.Left.{left_behind, reports_left}
use Rattle.scp_notices.specs.declared.commands.Told.{Told}
use Rattle.scp_notices.specs.Ignoring.{fates_at, told_by, told_from, teller, is_told_by, count_at, fate_by}
use Rattle.scp_notices.specs.Own.{AreOfTheirLines}
use Rattle.scp_notices.specs.Threads.{told_in}

-- ---- what lines give a node

more_to : (n : ℕ) (x y : List Command) → commands_to n (x ++ y) ≡ commands_to n x ++ commands_to n y
more_to n x y = ap (λ (l : List Inbound). commands_in l) (flat_map-append (command_by n) x y) ∙ flat_map-append passing (commands_for n x) (commands_for n y)

abbrev to_node : ℕ → LocalCommand → Option (ℕ × LocalCommand)
to_node n command = Some (n, command)

-- a line on which the node of a number reports gives it one command
record Gives (n : ℕ) (command : Command) : Type 0 where
  given : LocalCommand
  line : local_by command ≡ to_node n given
  is : commands_to n (command ∷ []) ≡ given ∷ []

gives : (n at : ℕ) (c : LocalCommand) (command : Command) → local_by command ≡ to_node at c → passing_command c ≡ c ∷ [] → at ≡ n → Gives n command
gives n at c command line passes same = record {
  given = c;
  line = line ∙ ap (λ (m : ℕ). to_node m c) same;
  is =
      ap (λ (o : Option (ℕ × LocalCommand)). commands_in (told_to n o ++ [])) line
      ∙ ap (λ (b : Bool). commands_in ((if b then Local c ∷ [] else []) ++ [])) (eq-eqb at n same)
      ∙ append-nil (passing_command c)
      ∙ passes;
}

gives_by : (n : ℕ) (command : Command) → teller command ≡ Some n → Gives n command
gives_by n (script.Propose at slot value) e = gives n at (local.Propose (record { 0 = slot }) value) (script.Propose at slot value) refl refl (same_Some at n e)
gives_by n (script.Round at slot) e = gives n at (local.Round (record { 0 = slot })) (script.Round at slot) refl refl (same_Some at n e)
gives_by n (script.Timer at slot) e = gives n at (local.Timer (record { 0 = slot })) (script.Timer at slot) refl refl (same_Some at n e)
gives_by n (script.Ask from to slot) e = gives n from (local.Ask (link_of to from) (record { 0 = slot })) (script.Ask from to slot) refl refl (same_Some from n e)
gives_by n command e = absurd (none-some n e)

-- ---- how many

once : (b : Bool) (c : LocalCommand) (command : Command) → passing_command c ≡ c ∷ [] → length (commands_in ((if b then Local c ∷ [] else []) ++ [])) ≡ length (cond b (command ∷ []) [])
once true c command passes = ap (λ (l : List LocalCommand). length (l ++ [])) passes
once false c command passes = refl

never : (b : Bool) → length (commands_in ((if b then Local local.Tick ∷ [] else []) ++ [])) ≡ 0
never true = refl
never false = refl

one_count : (n : ℕ) (command : Command) → length (commands_to n (command ∷ [])) ≡ count_at n (command ∷ [])
one_count n (script.Propose at slot value) = once (nat_eq at n) (local.Propose (record { 0 = slot }) value) (script.Propose at slot value) refl
one_count n (script.Round at slot) = once (nat_eq at n) (local.Round (record { 0 = slot })) (script.Round at slot) refl
one_count n (script.Timer at slot) = once (nat_eq at n) (local.Timer (record { 0 = slot })) (script.Timer at slot) refl
one_count n (script.Ask from to slot) = once (nat_eq from n) (local.Ask (link_of to from) (record { 0 = slot })) (script.Ask from to slot) refl
one_count n (script.Tick at) = never (nat_eq at n)
one_count n command = refl

counts : (n : ℕ) (commands : List Command) → length (commands_to n commands) ≡ count_at n commands
counts n [] = refl
counts n (c ∷ commands) =
    let whole : length (commands_to n (c ∷ commands)) ≡ length (commands_to n (c ∷ [])) + length (commands_to n commands) = ap (λ (l : List LocalCommand). length l) (more_to n (c ∷ []) commands) ∙ length-append (commands_to n (c ∷ [])) (commands_to n commands) in
    let parts : count_at n (c ∷ commands) ≡ count_at n (c ∷ []) + count_at n commands =
    ap (λ (l : List Command). length l) (filter-append (λ (x : Command). is_told_by n (teller x)) (c ∷ []) commands) ∙ length-append (filter (λ (x : Command). is_told_by n (teller x)) (c ∷ [])) (filter (λ (x : Command). is_told_by n (teller x)) commands) in
    whole
    ∙ ap (λ (m : ℕ). m + length (commands_to n commands)) (one_count n c)
    ∙ ap (λ (m : ℕ). count_at n (c ∷ []) + m) (counts n commands)
    ∙ sym parts

-- ---- by their places

at_end : {X : Type 0} (xs : List X) (y : X) (ys : List X) → slice_get (xs ++ y ∷ ys) (length xs) ≡ Some y
at_end [] y ys = refl
at_end (x ∷ xs) y ys = at_end xs y ys

found : (taken : List TakenCommand) (rest : List LocalCommand) (k : ℕ) (fate : CommandFate) → slice_get (fates_taken taken) k ≡ Some fate → (t : TakenCommand) × (slice_get taken k ≡ Some t) × (slice_get (commands_taken taken ++ rest) k ≡ Some t.command) × (t.fate ≡ fate)
found [] rest k fate e = absurd (none-some fate e)
found (t ∷ taken) rest zero fate e = (t, refl, refl, same_Some t.fate fate e)
found (t ∷ taken) rest (suc k) fate e = found taken rest k fate e

pub of_their_lines : (commands : List Command) (told : List Told) (n : ℕ) (taken : List TakenCommand) (rest : List LocalCommand) → fates_at n told ≡ fates_taken taken → commands_to n commands ≡ commands_taken taken ++ rest → AreOfTheirLines commands told n taken
of_their_lines commands told n taken rest fates first = λ before command after' fate split teller_is reported.
    let g = gives_by n command teller_is in
    let k = count_at n before in
    let its : slice_get (fates_taken taken) k ≡ Some fate = sym (ap (λ (o : Option ℕ). fate_by told before o) teller_is ∙ ap (λ (l : List CommandFate). slice_get l k) fates) ∙ reported in
    let f = found taken rest k fate its in
    let whole : commands_to n commands ≡ commands_to n before ++ (g.given ∷ commands_to n after') =
    ap (λ (l : List Command). commands_to n l) split
    ∙ more_to n before (command ∷ after')
    ∙ ap (λ (l : List LocalCommand). commands_to n before ++ l) (more_to n (command ∷ []) after' ∙ ap (λ (l : List LocalCommand). l ++ commands_to n after') g.is) in
    let here : slice_get (commands_taken taken ++ rest) k ≡ Some g.given =
    ap (λ (l : List LocalCommand). slice_get l k) (sym first ∙ whole)
    ∙ ap (λ (m : ℕ). slice_get (commands_to n before ++ (g.given ∷ commands_to n after')) m) (sym (counts n before))
    ∙ at_end (commands_to n before) g.given (commands_to n after') in
    let same : g.given ≡ f.0.command = same_Some g.given f.0.command (sym here ∙ f.2) in
    (f.0, f.1, g.line ∙ ap (λ (c : LocalCommand). to_node n c) same, f.3)

-- ---- in threads: what each node reported

fates_same : (n m : ℕ) (fates : List CommandFate) → nat_eq m n ≡ true → fates_at n (told_by m fates) ≡ fates
fates_same n m [] e = refl
fates_same n m (fate ∷ fates) e =
    let more = filter (λ (t : Told). nat_eq t.node n) (told_by m fates) in
    ap (λ (b : Bool). map (λ (t : Told). t.fate) (cond b (record { node = m; fate = fate } ∷ more) more)) e ∙ ap (λ (l : List CommandFate). fate ∷ l) (fates_same n m fates e)

fates_other : (n m : ℕ) (fates : List CommandFate) → nat_eq m n ≡ false → fates_at n (told_by m fates) ≡ []
fates_other n m [] e = refl
fates_other n m (fate ∷ fates) e =
    let more = filter (λ (t : Told). nat_eq t.node n) (told_by m fates) in
    ap (λ (b : Bool). map (λ (t : Told). t.fate) (cond b (record { node = m; fate = fate } ∷ more) more)) e ∙ fates_other n m fates e

fates_on : (n : ℕ) (x y : List Told) → fates_at n (x ++ y) ≡ fates_at n x ++ fates_at n y
fates_on n x y =
    ap (λ (l : List Told). map (λ (t : Told). t.fate) l) (filter-append (λ (t : Told). nat_eq t.node n) x y)
    ∙ map-append (λ (t : Told). t.fate) (filter (λ (t : Told). nat_eq t.node n) x) (filter (λ (t : Told). nat_eq t.node n) y)

are_apart : (a b : ℕ) → b < a → nat_eq a b ≡ false
are_apart a b less = by_test (nat_eq a b) refl
  where
    by_test : (t : Bool) → nat_eq a b ≡ t → t ≡ false
    by_test true is = absurd (omega (arith, eqb-true a b is, less))
    by_test false is = refl

are_apart_too : (a b : ℕ) → a < b → nat_eq a b ≡ false
are_apart_too a b less = by_test (nat_eq a b) refl
  where
    by_test : (t : Bool) → nat_eq a b ≡ t → t ≡ false
    by_test true is = absurd (omega (arith, eqb-true a b is, less))
    by_test false is = refl

none_from : (n m : ℕ) (nodes : List (List CommandFate)) → n < m → fates_at n (told_from m nodes) ≡ []
none_from n m [] less = refl
none_from n m (fates ∷ nodes) less =
    fates_on n (told_by m fates) (told_from (m + 1) nodes)
    ∙ ap (λ (l : List CommandFate). l ++ fates_at n (told_from (m + 1) nodes)) (fates_other n m fates (are_apart m n less))
    ∙ none_from n (m + 1) nodes (omega (arith, less))

those_of : (n m i : ℕ) (nodes : List (List CommandFate)) (fates : List CommandFate) → n ≡ m + i → slice_get nodes i ≡ Some fates → fates_at n (told_from m nodes) ≡ fates
those_of n m i [] fates number at = absurd (none-some fates at)
those_of n m zero (first ∷ nodes) fates number at =
    let same : m ≡ n = omega (arith, number) in
    fates_on n (told_by m first) (told_from (m + 1) nodes)
    ∙ ap (λ (l : List CommandFate). l ++ fates_at n (told_from (m + 1) nodes)) (fates_same n m first (eq-eqb m n same))
    ∙ ap (λ (l : List CommandFate). first ++ l) (none_from n (m + 1) nodes (omega (arith, same)))
    ∙ append-nil first
    ∙ same_Some first fates at
those_of n m (suc i) (first ∷ nodes) fates number at =
    fates_on n (told_by m first) (told_from (m + 1) nodes)
    ∙ ap (λ (l : List CommandFate). l ++ fates_at n (told_from (m + 1) nodes)) (fates_other n m first (are_apart_too m n (omega (arith, number))))
    ∙ those_of n (m + 1) i nodes fates (omega (arith, number)) at

-- the records of nodes have what their reports have of commands
commands_left : (commands : List Command) (losses : List (List ℕ)) (number : ℕ) (nodes : List NodeReport) → map (λ (r : ReportView). r.commands) (left_behind commands losses number nodes) ≡ map (λ (x : NodeReport). x.commands.items) nodes
commands_left commands losses number [] = refl
commands_left commands losses number (node ∷ nodes) = ap (λ (l : List (List CommandFate)). node.commands.items ∷ l) (commands_left commands losses (number + 1) nodes)

pub reported_lines : (commands : List Command) (reports : List NodeReport) (losses : List (List ℕ)) (i : ℕ) (r : NodeReport) → slice_get reports i ≡ Some r → (h : HasFatesOfLines commands (i + 1) r) → AreOfTheirLines commands (told_in (reports_left commands reports losses)) (i + 1) (taken_among h.fates.told.takes)
reported_lines commands reports losses i r at h =
    let there : slice_get (map (λ (x : NodeReport). x.commands.items) reports) i ≡ Some r.commands.items = slice_get-map (λ (x : NodeReport). x.commands.items) reports i ∙ ap (λ (o : Option NodeReport). option_map (λ (x : NodeReport). x.commands.items) o) at in
    let told : fates_at (i + 1) (told_in (reports_left commands reports losses)) ≡ r.commands.items =
    ap (λ (l : List (List CommandFate)). fates_at (i + 1) (told_from 1 l)) (commands_left commands losses 0 reports)
    ∙ those_of (i + 1) 1 i (map (λ (x : NodeReport). x.commands.items) reports) r.commands.items (omega arith) there in
    of_their_lines commands (told_in (reports_left commands reports losses)) (i + 1) (taken_among h.fates.told.takes) [] (told ∙ sym h.fates_are) (sym h.commands_are ∙ sym (append-nil (commands_taken (taken_among h.fates.told.takes))))
