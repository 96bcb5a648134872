-- Lines of what happened, one after another.
use Rattle.std.proofs.Common.{◌≡◌, ℕ, Bool, true, false, List, [], ◌∷◌, ◌++◌, Some, codes, refl, sym, ◌∙◌, ap, subst, append-nil}
use Rattle.std.specs.Prelude.{◌&&◌, All, Option, option_to_list, if◌then◌else◌}
use Rattle.std.specs.List.{list_all}
use Rattle.std.proofs.lemmas.Grind.{flat_map-append}
use Rattle.std.proofs.lemmas.List.Elements.{All-nil, All-cons, All-append}
use Rattle.scp_line.specs.scp_script.specs.declared.command.Command.{Command}
use Rattle.scp_line.specs.scp_script.specs.Script.{begins, command_in, commands_of, is_line}
use Rattle.scp_line.specs.scp_script.specs.Nodes.{NamesNodes}
use Rattle.scp_line.specs.scp_script.specs.Words.{words_of}
use Rattle.scp_sim.specs.Lines.{IsDone, text_of}
use Rattle.scp_sim.specs.inside.Lines.{line_of, IsInRange, IsDoneText}
use Rattle.scp_line.specs.scp_text.proofs.Items.{and_both}
use Rattle.scp_sim.specs.inside.Follows.{Follows}
use Rattle.scp_sim.proofs.Saying.{line_says}

-- of no line
pub none_done : (text : List ℕ) → text ≡ [] → IsDoneText text
none_done text e = record { lines = []; is = e; are = record { each = refl; done = All-nil IsDone } }

and_true : (a b : Bool) → a ≡ true → b ≡ true → (a && b) ≡ true
and_true true true p q = refl
and_true true false p q = absurd cc
and_true false b p q = absurd cc

each_more : (lines : List (List ℕ)) (line : List ℕ) → list_all is_line lines ≡ true → is_line line ≡ true → list_all is_line (lines ++ line ∷ []) ≡ true
each_more [] line h k = and_true (is_line line) true k refl
each_more (x ∷ xs) line h k =
    let both = and_both (is_line x) (list_all is_line xs) h in
    and_true (is_line x) (list_all is_line (xs ++ line ∷ [])) both.0 (each_more xs line both.1 k)

said_more : (lines : List (List ℕ)) (line : List ℕ) (c : Command) → command_in (words_of line) ≡ Some c → commands_of (lines ++ line ∷ []) ≡ commands_of lines ++ c ∷ []
said_more lines line c says =
    let of : List ℕ → List Command = λ l. option_to_list (command_in (words_of l)) in
    flat_map-append of lines (line ∷ []) ∙ ap (λ (t : List Command). commands_of lines ++ t) (append-nil (of line) ∙ ap (λ (o : Option Command). option_to_list o) says)

text_more : (lines : List (List ℕ)) (line : List ℕ) → text_of (lines ++ line ∷ []) ≡ text_of lines ++ (line ++ codes "\n")
text_more lines line =
    let of : List ℕ → List ℕ = λ l. l ++ codes "\n" in
    flat_map-append of lines (line ∷ []) ∙ ap (λ (t : List ℕ). text_of lines ++ t) (append-nil (of line))

-- of one line more
pub more_done : (text : List ℕ) (c : Command) → IsDoneText text → IsDone c → IsInRange c → IsDoneText (text ++ (line_of c ++ codes "\n"))
more_done text c t d r =
    let says = line_says c d r in
    record {
      lines = t.lines ++ line_of c ∷ [];
      is = ap (λ (x : List ℕ). x ++ (line_of c ++ codes "\n")) t.is ∙ sym (text_more t.lines (line_of c));
      are = record {
        each = each_more t.lines (line_of c) t.are.each says.good;
        done = subst (λ (cs : List Command). All IsDone cs) (sym (said_more t.lines (line_of c) c says.says)) (All-append IsDone (commands_of t.lines) (c ∷ []) t.are.done (All-cons IsDone c [] d (All-nil IsDone)));
      };
    }

-- so it is where the line was written, and where it wasn't
pub added : (b : Bool) (old line new : List ℕ) (c : Command) → IsDoneText old → NamesNodes c → begins c ≡ true → IsInRange c → line ≡ line_of c ++ codes "\n" → new ≡ (if b then old ++ line else old) → IsDoneText new
added true old line new c t names begun r e n = subst (λ (x : List ℕ). IsDoneText x) (sym (n ∙ ap (λ (l : List ℕ). old ++ l) e)) (more_done old c t (record { names = names; begun = begun }) r)
added false old line new c t names begun r e n = subst (λ (x : List ℕ). IsDoneText x) (sym n) t

-- what stands behind the first lines
pub follows : (first did text : List ℕ) → IsDoneText did → text ≡ first ++ did → Follows first text
follows first did text t e = record { did = did; are = t; is = e }
