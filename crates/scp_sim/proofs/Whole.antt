-- A script of a plan: its first lines, and those of what happened.
use Rattle.std.proofs.Common.{◌≡◌, ◌≤◌, ◌<◌, ◌^◌, ℕ, Bool, true, false, List, [], ◌∷◌, ◌++◌, Option, Some, None, is_some, codes, refl, sym, ◌∙◌, ap, subst, arith, append_assoc, append-nil, flat_map}
use Rattle.std.specs.Prelude.{◌==◌, ◌&&◌, ◌||◌, ◌-◌, ◌+◌, ◌*◌, All, fold, nat_eq, nat_le, nat_lt, option_to_list, string_bytes, unwrap_or, if◌then◌else◌}
use Rattle.std.specs.List.{ends_with, last_or, list_all, slice_split}
use Rattle.std.specs.Char.{digit_value}
use Rattle.std.specs.Fmt.{decimal}
use Rattle.std.specs.Str.Parse.{digits_value}
use Rattle.std.proofs.lemmas.Bool.Decides.{nat_tests}
use Rattle.std.proofs.lemmas.Fmt.{decimal_is_IsNumeral}
use Rattle.std.proofs.lemmas.Grind.{flat_map-append}
use Rattle.std.proofs.lemmas.List.Elements.{All-nil, All-cons, All-append, All-head, All-tail}
use Rattle.std.proofs.lemmas.List.Splits.{slice_split_at, slice_split_none}
use Rattle.std.proofs.lemmas.List.Sums.{fold-append}
use Rattle.scp_sim_options.specs.declared.plan.Plan.{Plan}
use Rattle.scp_again.specs.scp_quorum.specs.QuorumTree.{QuorumTree}
use Rattle.scp_script_check.specs.scp_script_text.specs.declared.script.Form.TheVariants.{Hex}
use Rattle.scp_script_check.specs.scp_script_text.specs.Lines.{carried_in}
use Rattle.scp_script_check.specs.scp_script_text.specs.Scripts.{lines_of, IsLineBy, IsLineOf, AreLinesOf}
use Rattle.scp_line.specs.scp_script.specs.declared.command.Command.{Command}
use Rattle.scp_line.specs.scp_script.specs.declared.command.Command.TheVariants.{Caps, Nodes, Set, Open, Close, Send, Propose, Round, Timer, Tick, Ask, Settle, Wait, Report}
use Rattle.scp_line.specs.scp_script.specs.Nodes.{set_given, set_at, of_all}
use Rattle.scp_line.specs.scp_script.specs.Script.{begins, counted, node_count, command_in, commands_of, nodes_by, is_line, AreAdmitted, AreLines}
use Rattle.scp_line.specs.scp_script.specs.Words.{is_ascii, is_skipped, words_of, node_in}
use Rattle.scp_line.specs.scp_script.proofs.Admitted.{count_stays}
use Rattle.scp_line.specs.scp_text.proofs.Items.{and_both}
use Rattle.scp_script_check.specs.Lines.{IsSaid}
use Rattle.scp_sim.specs.Lines.{IsDone}
use Rattle.scp_sim.specs.Simulated.{with_end, first_lines, IsSimulated}
use Rattle.scp_sim.specs.inside.Follows.{IsRead}
use Rattle.scp_sim.specs.inside.Lines.{IsDoneText}
use Rattle.scp_sim.proofs.Saying.{IsWord, is_printed, number_word}

-- ---- what happened changes neither how many nodes there are nor a quorum set

count_same : (n : ℕ) (c : Command) → begins c ≡ true → counted n c ≡ n
count_same n (Caps capacities) e = refl
count_same n (Nodes count quorum) e = absurd cc
count_same n (Set node set) e = refl
count_same n (Open from to) e = refl
count_same n (Close from to) e = refl
count_same n (Send from to bytes) e = refl
count_same n (Propose node slot value) e = refl
count_same n (Round node slot) e = refl
count_same n (Timer node slot) e = refl
count_same n (Tick node) e = refl
count_same n (Ask from to slot) e = refl
count_same n Settle e = refl
count_same n (Wait node things) e = refl
count_same n (Report node) e = refl

counts_same : (n : ℕ) (cs : List Command) → All IsDone cs → fold counted n cs ≡ n
counts_same n [] h = refl
counts_same n (c ∷ cs) h = ap (λ (m : ℕ). fold counted m cs) (count_same n c (All-head IsDone c cs h).begun) ∙ counts_same n cs (All-tail IsDone c cs h)

pub count_kept : (first did : List Command) → All IsDone did → node_count (first ++ did) ≡ node_count first
count_kept first did h = fold-append counted 0 first did ∙ counts_same (node_count first) did h

gives_none : (node : ℕ) (c : Command) → begins c ≡ true → set_given node c ≡ []
gives_none node (Caps capacities) e = absurd cc
gives_none node (Nodes count quorum) e = absurd cc
gives_none node (Set at set) e = absurd cc
gives_none node (Open from to) e = refl
gives_none node (Close from to) e = refl
gives_none node (Send from to bytes) e = refl
gives_none node (Propose at slot value) e = refl
gives_none node (Round at slot) e = refl
gives_none node (Timer at slot) e = refl
gives_none node (Tick at) e = refl
gives_none node (Ask from to slot) e = refl
gives_none node Settle e = refl
gives_none node (Wait at things) e = refl
gives_none node (Report at) e = refl

give_none : (node : ℕ) (cs : List Command) → All IsDone cs → flat_map (set_given node) cs ≡ []
give_none node [] h = refl
give_none node (c ∷ cs) h =
    ap (λ (l : List QuorumTree). l ++ flat_map (set_given node) cs) (gives_none node c (All-head IsDone c cs h).begun) ∙ give_none node cs (All-tail IsDone c cs h)

pub sets_kept : (node : ℕ) (first did : List Command) → All IsDone did → set_at node (first ++ did) ≡ set_at node first
sets_kept node first did h =
    let all : flat_map (set_given node) (first ++ did) ≡ flat_map (set_given node) first =
    flat_map-append (set_given node) first did ∙ (ap (λ (l : List QuorumTree). flat_map (set_given node) first ++ l) (give_none node did h) ∙ append-nil (flat_map (set_given node) first)) in
    ap (λ (l : List QuorumTree). unwrap_or (last_or None l) (of_all 1 1)) all

-- ---- the first line tells how many nodes there are

-- the first line, without its end
abbrev head : ℕ → ℕ → List ℕ
head count quorum = codes "nodes" ++ 32 ∷ (decimal count ++ 32 ∷ decimal quorum)

free : (mark : ℕ) → mark < 33 → (word : List ℕ) → IsWord word → All (λ b. (b == mark) ≡ false) word
free mark low [] h = All-nil (λ b. (b == mark) ≡ false)
free mark low (x ∷ xs) h =
    let both = and_both (is_printed x) (list_all is_printed xs) h in
    let above : nat_lt 32 x ≡ true = (and_both (nat_lt 32 x) (nat_lt x 127) both.0).0 in
    let lt : 32 < x = grind (arith, nat_tests) in
    let no : (x == mark) ≡ false = grind (arith, nat_tests) in
    All-cons (λ b. (b == mark) ≡ false) x xs no (free mark low xs both.1)

head_free : (count quorum : ℕ) → count < 2 ^ 64 → quorum < 2 ^ 64 → All (λ b. (b == 10) ≡ false) (head count quorum)
head_free count quorum hc hq =
    let P : ℕ → Type 0 = λ b. (b == 10) ≡ false in
    let low : 10 < 33 = omega arith in
    All-append P (codes "nodes") (32 ∷ (decimal count ++ 32 ∷ decimal quorum)) (free 10 low (codes "nodes") refl)
    (All-cons P 32 (decimal count ++ 32 ∷ decimal quorum) refl
    (All-append P (decimal count) (32 ∷ decimal quorum) (free 10 low (decimal count) (number_word count hc))
    (All-cons P 32 (decimal quorum) refl (free 10 low (decimal quorum) (number_word quorum hq)))))

head_parts : (count quorum : ℕ) → count < 2 ^ 64 → quorum < 2 ^ 64 → slice_split (λ b. b == 32) (head count quorum) ≡ codes "nodes" ∷ decimal count ∷ decimal quorum ∷ []
head_parts count quorum hc hq =
    let cut : ℕ → Bool = λ b. b == 32 in
    let low : 32 < 33 = omega arith in
    let last : slice_split cut (decimal quorum) ≡ decimal quorum ∷ [] = slice_split_none cut (decimal quorum) (free 32 low (decimal quorum) (number_word quorum hq)) in
    let two : slice_split cut (decimal count ++ 32 ∷ decimal quorum) ≡ decimal count ∷ decimal quorum ∷ [] = slice_split_at cut (decimal count) 32 (decimal quorum) (free 32 low (decimal count) (number_word count hc)) refl ∙ ap (λ (ws : List (List ℕ)). decimal count ∷ ws) last in
    slice_split_at cut (codes "nodes") 32 (decimal count ++ 32 ∷ decimal quorum) (free 32 low (codes "nodes") refl) refl ∙ ap (λ (ws : List (List ℕ)). codes "nodes" ∷ ws) two

-- what stands behind the first line
rest_of : (count quorum : ℕ) (sets : List ℕ) → (more : List ℕ) × (with_end (codes "nodes " ++ decimal count ++ codes " " ++ decimal quorum ++ codes "\n" ++ sets) ≡ head count quorum ++ 10 ∷ more)
rest_of count quorum sets = by (ends_with nat_eq all (codes "\n"))
  where
    all : List ℕ
    all = codes "nodes " ++ decimal count ++ codes " " ++ decimal quorum ++ codes "\n" ++ sets

    pieces : (c q more : List ℕ) → ((((codes "nodes " ++ c) ++ codes " ") ++ q) ++ codes "\n") ++ more ≡ (codes "nodes" ++ 32 ∷ (c ++ 32 ∷ q)) ++ 10 ∷ more
    pieces c q more = simp append_assoc

    by : (b : Bool) → (more : List ℕ) × ((if b then all else all ++ codes "\n") ≡ head count quorum ++ 10 ∷ more)
    by true = (sets, pieces (decimal count) (decimal quorum) sets)
    by false = (sets ++ codes "\n", append_assoc (codes "nodes " ++ decimal count ++ codes " " ++ decimal quorum ++ codes "\n") sets (codes "\n") ∙ pieces (decimal count) (decimal quorum) (sets ++ codes "\n"))

-- a word that names a node writes its number
node_of : (word : List ℕ) (n m : ℕ) → digits_value 10 word ≡ n → node_in word ≡ Some m → (m ≡ n) × (1 ≤ m)
node_of [] n m v e = absurd cc
node_of (d ∷ []) n m v e = by (nat_le 49 d) (nat_le d 56) refl refl e
  where
    by : (a b : Bool) → nat_le 49 d ≡ a → nat_le d 56 ≡ b → (if nat_le 49 d && nat_le d 56 then Some (d - 48) else None) ≡ Some m → (m ≡ n) × (1 ≤ m)
    by true true p q e =
        let low : 49 ≤ d = grind (arith, nat_tests) in
        let high : d ≤ 56 = grind (arith, nat_tests) in
        let above : nat_lt d 48 ≡ false = grind (arith, nat_tests) in
        let below : nat_lt d 58 ≡ true = grind (arith, nat_tests) in
        let digit : digit_value d ≡ d - 48 = rw (above, below) refl in
        let is : Some (d - 48) ≡ Some m = sym (ap (λ (t : Bool). if t && nat_le d 56 then Some (d - 48) else None) p ∙ ap (λ (t : Bool). if true && t then Some (d - 48) else None) q) ∙ e in
        let same : d - 48 ≡ m = cc in
        let value : 0 * 10 + digit_value d ≡ n = v in
        (omega (arith, same, value, digit, low), omega (arith, same, low))
    by true false p q e = absurd (let no : None ≡ Some m = sym (ap (λ (t : Bool). if t && nat_le d 56 then Some (d - 48) else None) p ∙ ap (λ (t : Bool). if true && t then Some (d - 48) else None) q) ∙ e in cc)
    by false b p q e = absurd (let no : None ≡ Some m = sym (ap (λ (t : Bool). if t && nat_le d 56 then Some (d - 48) else None) p) ∙ e in cc)
node_of (d ∷ x ∷ xs) n m v e = absurd cc

-- a first command that tells how many nodes there are
abbrev TellsNodes : Option Command → ℕ → Type 0
TellsNodes found count = (quorum : ℕ) × (found ≡ Some (Nodes count quorum)) × (1 ≤ count)

tells : (first second : List ℕ) (n : ℕ) → digits_value 10 first ≡ n → is_some (nodes_by (node_in first) (node_in second)) ≡ true → TellsNodes (nodes_by (node_in first) (node_in second)) n
tells first second n v some = by (node_in first) (node_in second) refl some
  where
    one : (a b : ℕ) → node_in first ≡ Some a → is_some (nodes_by (Some a) (Some b)) ≡ true → TellsNodes (nodes_by (Some a) (Some b)) n
    one a b p some = of (nat_le b a) some
      where
        is : (a ≡ n) × (1 ≤ a)
        is = node_of first n a v p

        of : (t : Bool) → is_some (if t then Some (Nodes a b) else None) ≡ true → TellsNodes (if t then Some (Nodes a b) else None) n
        of true s = (b, ap (λ (k : ℕ). Some (Nodes k b)) is.0, subst (λ (k : ℕ). 1 ≤ k) is.0 is.1)
        of false s = absurd cc

    by : (a b : Option ℕ) → node_in first ≡ a → is_some (nodes_by a b) ≡ true → TellsNodes (nodes_by a b) n
    by (Some a) (Some b) p s = one a b p s
    by (Some a) None p s = absurd cc
    by None b p s = absurd cc

-- of a first line that is good, and says so many nodes
line_tells : (line first second : List ℕ) (n : ℕ) → digits_value 10 first ≡ n → is_skipped line ≡ false → slice_split (λ b. b == 32) line ≡ codes "nodes" ∷ first ∷ second ∷ [] → is_line line ≡ true → TellsNodes (command_in (words_of line)) n
line_tells line first second n v there parts good =
    let all : words_of line ≡ codes "nodes" ∷ first ∷ second ∷ [] = ap (λ (s : Bool). if s then [] else slice_split (λ b. b == 32) line) there ∙ parts in
    let it : command_in (words_of line) ≡ nodes_by (node_in first) (node_in second) = ap (λ (ws : List (List ℕ)). command_in ws) all in
    let either : (is_skipped line || is_some (command_in (words_of line))) ≡ true = (and_both (is_ascii line) (is_skipped line || is_some (command_in (words_of line))) good).1 in
    let some : is_some (nodes_by (node_in first) (node_in second)) ≡ true = sym (ap (λ (s : Bool). s || is_some (command_in (words_of line))) there ∙ ap (λ (o : Option Command). is_some o) it) ∙ either in
    subst (λ (o : Option Command). TellsNodes o n) (sym it) (tells first second n v some)

-- commands of which the first tells how many nodes there are, and may stand where they do
counted_first : (line : List ℕ) (lines : List (List ℕ)) (n : ℕ) → TellsNodes (command_in (words_of line)) n → AreAdmitted [] (commands_of (line ∷ lines)) → node_count (commands_of (line ∷ lines)) ≡ n
counted_first line lines n t all =
    let rest = commands_of lines in
    let first : Command = Nodes n t.0 in
    let is : commands_of (line ∷ lines) ≡ first ∷ rest = ap (λ (o : Option Command). option_to_list o ++ rest) t.1 in
    let admitted : AreAdmitted [] (first ∷ rest) = subst (λ (cs : List Command). AreAdmitted [] cs) is all in
    ap (λ (cs : List Command). node_count cs) is ∙ count_stays (first ∷ []) rest admitted.1 t.2

first_is : (digits : List (List ℕ)) (line : List ℕ) (lines : List (List ℕ)) (count quorum : ℕ) → count < 2 ^ 64 → quorum < 2 ^ 64 → line ≡ head count quorum → AreLinesOf Hex (line ∷ lines) digits → AreLines digits → node_count (commands_of digits) ≡ count
first_is [] line lines count quorum hc hq is written good = absurd written
first_is (d ∷ ds) line lines count quorum hc hq is written good =
    let parts = head_parts count quorum hc hq in
    let by_head : IsLineOf Hex (head count quorum) d = subst (λ (l : List ℕ). IsLineOf Hex l d) is written.0 in
    let same : d ≡ head count quorum = subst (λ (ws : List (List ℕ)). IsLineBy (carried_in ws) Hex (head count quorum) d) parts by_head in
    let value : digits_value 10 (decimal count) ≡ count = (decimal_is_IsNumeral count hc).1 in
    let first_good : is_line (head count quorum) ≡ true = subst (λ (l : List ℕ). is_line l ≡ true) same (and_both (is_line d) (list_all is_line ds) good.each).0 in
    let tells_it : TellsNodes (command_in (words_of (head count quorum))) count = line_tells (head count quorum) (decimal count) (decimal quorum) count value refl parts first_good in
    counted_first d ds count (subst (λ (l : List ℕ). TellsNodes (command_in (words_of l)) count) (sym same) tells_it) good.admitted

pub first_count : (plan : Plan) (first : List Command) (numbers : List ℕ) → plan.nodes < 256 → plan.need < 256 → IsSaid (first_lines plan) first numbers → node_count first ≡ plan.nodes
first_count plan first numbers hc hq said =
    let rest = rest_of plan.nodes plan.need (string_bytes plan.sets) in
    let c : plan.nodes < 2 ^ 64 = omega (arith, hc) in
    let q : plan.need < 2 ^ 64 = omega (arith, hq) in
    let start = head plan.nodes plan.need in
    let split : lines_of (first_lines plan) ≡ start ∷ lines_of rest.0 = ap (λ (t : List ℕ). lines_of t) rest.1 ∙ slice_split_at (λ b. b == 10) start 10 rest.0 (head_free plan.nodes plan.need c q) refl in
    let written : AreLinesOf Hex (start ∷ lines_of rest.0) said.digits = subst (λ (ls : List (List ℕ)). AreLinesOf Hex ls said.digits) split said.written in
    ap (λ (cs : List Command). node_count cs) said.commands_are ∙ first_is said.digits start (lines_of rest.0) plan.nodes plan.need c q refl written said.good

-- ---- both together

pub simulated : (plan : Plan) (text begun did : List ℕ) → plan.nodes < 256 → plan.need < 256 → begun ≡ first_lines plan → IsRead begun → IsDoneText did → text ≡ begun ++ did → IsSimulated plan text
simulated plan text begun did hc hq is read done whole =
    let said : IsSaid (first_lines plan) read.first read.numbers = subst (λ (t : List ℕ). IsSaid t read.first read.numbers) is read.said in
    record {
      first = read.first;
      numbers = read.numbers;
      said = said;
      lines = done.lines;
      is = whole ∙ ap (λ (t : List ℕ). t ++ did) is ∙ ap (λ (t : List ℕ). first_lines plan ++ t) done.is;
      are = done.are;
      count = count_kept read.first (commands_of done.lines) done.are.done ∙ first_count plan read.first read.numbers hc hq said;
      sets = λ node. sets_kept node read.first (commands_of done.lines) done.are.done;
    }
