-- What the lines of a script are warned of, one after another.
use Rattle.std.proofs.Common.{◌≡◌, ◌+◌, ◌<◌, ℕ, Bool, true, false, not, ◌||◌, ◌&&◌, List, [], ◌∷◌, ◌++◌, length, take, drop, get_or, Option, Some, None, refl, sym, ◌∙◌, ◌≤◌, ap, append_assoc, append-nil, option_to_list}
use Rattle.std.specs.Prelude.{if◌then◌else◌, flat_map, is_none}
use Rattle.std.specs.List.{list_any}
use Rattle.std.specs.Ordering.{nat_cmp}
use Rattle.std.specs.BTreeSet.{BTreeSet, contains}
use Rattle.std.proofs.lemmas.List.{at_drop_more, at_drop_all, flat_map_more}
use Rattle.std.proofs.lemmas.List.Folds.{list_any-append}
use Rattle.scp_script.specs.declared.command.Command.{Command}
use Rattle.scp_script.specs.declared.command.Command.TheVariants.{Send, Propose, Settle, Wait}
use Rattle.scp_script.specs.Script.{is_link}
use Rattle.scp_script.specs.Nodes.{numbers}
use Rattle.scp_script.specs.Reasons.{or_else}
use Rattle.scp_script_check.specs.declared.warned.Before.{Before}
use Rattle.scp_script.specs.scp_wire.specs.Message.{message_reading}
use Rattle.scp_script_check.specs.declared.warning.Warning.{Warning}
use Rattle.scp_script_check.specs.declared.warning.Warning.TheVariants.{Driven, Unled, BadValue}
use Rattle.scp_script_check.specs.Nodes.{acts_on, settles_them, sends_on, proposes_for, is_list, speaks_in}
use Rattle.scp_script_check.specs.inside.Sent.{has_sent}
use Rattle.scp_script_check.specs.inside.Behind.{KnowsBefore, place_behind}
use Rattle.scp_script_check.specs.Warnings.{Turns, turn_of, leader_of, is_led, bytes_warning, rest_place, line_warnings, command_warnings}
use Rattle.scp_script_check.proofs.Counting.{one_more}

-- ---- the first command that is left unsettled

-- what the place so far says behind these
abbrev pub place_with : Option ℕ → ℕ → List Command → Option ℕ
place_with found i cs = if list_any settles_them cs then rest_place i cs else or_else found (rest_place i cs)

settled_quiet : (c : Command) → settles_them c ≡ true → acts_on c ≡ false
settled_quiet Settle e = refl
settled_quiet (Wait node things) e = refl
settled_quiet c e = absurd cc

place_step : (s a y : Bool) (found rest : Option ℕ) (i : ℕ) → (s ≡ true → a ≡ false)
    → (if (s || y) then (if a && not y then Some i else rest) else or_else found (if a && not y then Some i else rest))
    ≡ (if y then rest else or_else (if s then None else (if is_none found && a then Some i else found)) rest)
place_step true true y found rest i quiet = absurd (let e : true ≡ false = quiet refl in cc e)
place_step true false true found rest i quiet = refl
place_step true false false found rest i quiet = refl
place_step false true true found rest i quiet = refl
place_step false true false None rest i quiet = refl
place_step false true false (Some p) rest i quiet = refl
place_step false false true found rest i quiet = refl
place_step false false false None rest i quiet = refl
place_step false false false (Some p) rest i quiet = refl

place_next : (found : Option ℕ) (i : ℕ) (c : Command) (cs : List Command) → place_with found i (c ∷ cs) ≡ place_with (place_behind found i c) (i + 1) cs
place_next found i c cs = place_step (settles_them c) (acts_on c) (list_any settles_them cs) found (rest_place (i + 1) cs) i (settled_quiet c)

-- one command more
pub place_more : (found : Option ℕ) (cs : List Command) (i : ℕ) (c : Command) → i < length cs → c ≡ get_or cs i c
    → place_with found i (drop i cs) ≡ place_with (place_behind found i c) (i + 1) (drop (i + 1) cs)
place_more found cs i c within is =
    at_drop_more (place_with found i) cs i c within ∙ ap (λ (x : Command). place_with found i (x ∷ drop (i + 1) cs)) (sym is) ∙ place_next found i c (drop (i + 1) cs)

none_else : (b : Bool) (o : Option ℕ) → (if b then o else or_else None o) ≡ o
none_else true o = refl
none_else false o = refl

pub place_begins : (cs : List Command) → place_with None 0 cs ≡ rest_place 0 cs
place_begins cs = none_else (list_any settles_them cs) (rest_place 0 cs)

pub place_ends : (found : Option ℕ) (i : ℕ) → place_with found i [] ≡ found
place_ends None i = refl
place_ends (Some p) i = refl

-- ---- what was done

or_end : (a b : Bool) → (a || (b || false)) ≡ (a || b)
or_end true b = refl
or_end false true = refl
or_end false false = refl

or_never : (a : Bool) → (a || (false || false)) ≡ a
or_never true = refl
or_never false = refl

pub sent_known : (b b2 : Before) (done : List Command) (from to : ℕ) (bytes : List ℕ)
    → ((f t : ℕ) → has_sent b2.sent.items f t ≡ (has_sent b.sent.items f t || is_link f t from to)) → b2.proposed ≡ b.proposed
    → KnowsBefore b done → KnowsBefore b2 (done ++ Send from to bytes ∷ [])
sent_known b b2 done from to bytes more same k = record {
  sent = λ f t. more f t ∙ ap (λ (x : Bool). x || is_link f t from to) (k.sent f t) ∙ sym (list_any-append (sends_on f t) done (Send from to bytes ∷ []) ∙ or_end (list_any (sends_on f t) done) (is_link f t from to));
  proposed = λ s. ap (λ p. contains nat_cmp p s) same ∙ k.proposed s ∙ sym (list_any-append (proposes_for s) done (Send from to bytes ∷ []) ∙ or_never (list_any (proposes_for s) done));
}

pub proposed_known : (b b2 : Before) (done : List Command) (node slot : ℕ) (value : List ℕ)
    → ((s : ℕ) → contains nat_cmp b2.proposed s ≡ (contains nat_cmp b.proposed s || proposes_for s (Propose node slot value))) → b2.sent ≡ b.sent
    → KnowsBefore b done → KnowsBefore b2 (done ++ Propose node slot value ∷ [])
proposed_known b b2 done node slot value more same k = record {
  sent = λ f t. ap (λ l. has_sent l.items f t) same ∙ k.sent f t ∙ sym (list_any-append (sends_on f t) done (Propose node slot value ∷ []) ∙ or_never (list_any (sends_on f t) done));
  proposed = λ s. more s ∙ ap (λ (x : Bool). x || proposes_for s (Propose node slot value)) (k.proposed s) ∙ sym (list_any-append (proposes_for s) done (Propose node slot value ∷ []) ∙ or_end (list_any (proposes_for s) done) (proposes_for s (Propose node slot value)));
}

-- ---- line by line

pub none_left : (turns : Turns) (cs done : List Command) (lines : List ℕ) → line_warnings turns cs done lines [] ≡ []
none_left turns cs done [] = refl
none_left turns cs done (line ∷ lines) = refl

-- a line more
pub lines_next : (turns : Turns) (cs done others : List Command) (line : ℕ) (lines : List ℕ) (c : Command) (out out2 all : List Warning)
    → out ++ line_warnings turns cs done (line ∷ lines) (c ∷ others) ≡ all → out2 ≡ out ++ command_warnings turns cs done line c
    → out2 ++ line_warnings turns cs (done ++ c ∷ []) lines others ≡ all
lines_next turns cs done others line lines c out out2 all h e =
    ap (λ l. l ++ line_warnings turns cs (done ++ c ∷ []) lines others) e ∙ append_assoc out (command_warnings turns cs done line c) (line_warnings turns cs (done ++ c ∷ []) lines others) ∙ h

-- no command is left
pub no_more : (turns : Turns) (cs : List Command) (i : ℕ) (lines : List ℕ) (out all : List Warning) → length cs ≤ i
    → out ++ line_warnings turns cs (take i cs) lines (drop i cs) ≡ all → out ≡ all
no_more turns cs i lines out all past h =
    let none : line_warnings turns cs (take i cs) lines (drop i cs) ≡ [] =
    at_drop_all (λ (others : List Command). line_warnings turns cs (take i cs) lines others) cs i past ∙ none_left turns cs (take i cs) lines in
    sym (append-nil out) ∙ ap (λ (l : List Warning). out ++ l) (sym none) ∙ h

-- what a `send` adds
pub send_added : (turns : Turns) (cs done : List Command) (b : Before) (line from to : ℕ) (bytes : List ℕ) (out out2 : List Warning)
    → out2 ≡ out ++ (bytes_warning line (message_reading bytes) ++ (if not (has_sent b.sent.items from to) && speaks_in from cs then Driven line from to ∷ [] else []))
    → KnowsBefore b done → out2 ≡ out ++ command_warnings turns cs done line (Send from to bytes)
send_added turns cs done b line from to bytes out out2 e k =
    e ∙ ap (λ (x : Bool). out ++ (bytes_warning line (message_reading bytes) ++ (if not x && speaks_in from cs then Driven line from to ∷ [] else []))) (k.sent from to)

-- what a proposal adds
pub propose_added : (turns : Turns) (cs done : List Command) (b : Before) (line node slot : ℕ) (value : List ℕ) (led : BTreeSet ℕ) (found : Option Warning) (out out2 : List Warning)
    → out2 ≡ out ++ option_to_list found
    → option_to_list found ≡ (if is_list value then (if not (contains nat_cmp b.proposed slot) && not (contains nat_cmp led slot) then Unled line slot (leader_of (turn_of turns node) slot 1) ∷ [] else []) else BadValue line ∷ [])
    → contains nat_cmp led slot ≡ is_led turns cs slot → KnowsBefore b done → out2 ≡ out ++ command_warnings turns cs done line (Propose node slot value)
propose_added turns cs done b line node slot value led found out out2 e f l k =
    let slot_told : List Warning = Unled line slot (leader_of (turn_of turns node) slot 1) ∷ [] in
    e ∙ ap (λ (ws : List Warning). out ++ ws) (
    f
    ∙ ap (λ (x : Bool). if is_list value then (if not x && not (contains nat_cmp led slot) then slot_told else []) else BadValue line ∷ []) (k.proposed slot)
    ∙ ap (λ (x : Bool). if is_list value then (if not (list_any (proposes_for slot) done) && not x then slot_told else []) else BadValue line ∷ []) l
    )

-- ---- links

pub unknown_there : (same speaks known scripted opened : Bool) → known ≡ false → false ≡ (not same && (speaks && (known && (not scripted && not opened))))
unknown_there true speaks known scripted opened e = refl
unknown_there false false known scripted opened e = refl
unknown_there false true true scripted opened e = absurd cc
unknown_there false true false scripted opened e = refl

pub scripted_there : (same speaks known scripted opened : Bool) → scripted ≡ true → false ≡ (not same && (speaks && (known && (not scripted && not opened))))
scripted_there true speaks known scripted opened e = refl
scripted_there false false known scripted opened e = refl
scripted_there false true false scripted opened e = refl
scripted_there false true true true opened e = refl
scripted_there false true true false opened e = absurd cc

pub missing_there : (same speaks known scripted opened r : Bool) → same ≡ false → speaks ≡ true → known ≡ true → scripted ≡ false → opened ≡ r
    → not r ≡ (not same && (speaks && (known && (not scripted && not opened))))
missing_there same speaks known scripted opened r a b c d e = rw (a, b, c, d, e) refl

pub links_more : (f : ℕ → List Warning) (o : List Warning) (i : ℕ) → (o ++ flat_map f (numbers i)) ++ f (i + 1) ≡ o ++ flat_map f (numbers (i + 1))
links_more f o i = rw (one_more i) (flat_map_more f o (numbers i) (i + 1))
