-- What is told at the end.
use Rattle.std.proofs.Common.{◌≡◌, ◌<◌, ◌+◌, length, get_or, take, ◌++◌, ◌∷◌, [], ℕ, suc, Bool, true, false, not, List, refl, sym, ◌∙◌, ap, subst, append_assoc, append-nil, arith}
use Rattle.std.specs.Prelude.{◌&&◌, ◌||◌, Result, Ok, Err, OnOk, codes}
use Rattle.std.proofs.lemmas.List.{take_more}
use Rattle.scp_line.specs.scp_types.specs.declared.fault.Fault.{Fault}
use Rattle.std.specs.List.{list_any}
use Rattle.std.proofs.lemmas.List.Folds.{list_any-append}
use Rattle.scp_line.specs.scp_core.specs.Kv.{TheoremGivesLedger}
use Rattle.scp_line.specs.scp_turn.specs.Network.{NetworkView}
use Rattle.scp_line.specs.scp_script.specs.declared.command.Command.{Command}
use Rattle.scp_line.specs.scp_script.specs.declared.command.Command.TheVariants as script
use Rattle.scp_line.specs.Nodes.{HasPlayed}
use Rattle.scp_stand_node.specs.scp_stand_slot.specs.declared.names.Names.{Names}
use Rattle.scp_stand_node.specs.scp_stand_slot.specs.Adding.{Adds}
use Rattle.scp_stand_node.specs.Slots.{AreTexts}
use Rattle.scp_line.specs.scp_script.specs.Script.{node_count}
use Rattle.scp_trace.specs.Playing.{moment_at}
use Rattle.scp_trace.specs.Standing.{acts, asks_for, is_told, TellsLast, IsEnd}
use Rattle.scp_trace.proofs.Seen.{have_played}

-- ---- who was told

no_report : (number : ℕ) (command : Command) → acts command ≡ true → asks_for number command ≡ false
no_report number (script.Caps capacities) e = absurd cc
no_report number (script.Nodes count quorum) e = absurd cc
no_report number (script.Set at set) e = absurd cc
no_report number (script.Open from to) e = refl
no_report number (script.Close from to) e = refl
no_report number (script.Send from to bytes) e = refl
no_report number (script.Propose at slot value) e = refl
no_report number (script.Round at slot) e = refl
no_report number (script.Timer at slot) e = refl
no_report number (script.Tick at) e = refl
no_report number (script.Ask from to slot) e = refl
no_report number script.Settle e = refl
no_report number (script.Wait at things) e = refl
no_report number (script.Report at) e = absurd cc

or_true : (b : Bool) → (b || true) ≡ true
or_true true = refl
or_true false = refl

or_false : (b : Bool) → (b || false) ≡ b
or_false true = refl
or_false false = refl

and_none : (b : Bool) → (b && false) ≡ false
and_none true = refl
and_none false = refl

and_all : (b : Bool) → (b && true) ≡ b
and_all true = refl
and_all false = refl

or_assoc : (a b d : Bool) → ((a || b) || d) ≡ (a || (b || d))
or_assoc true b d = refl
or_assoc false b d = refl

any_behind : (cs : List Command) (command : Command) (b : Bool) → acts command ≡ b → list_any acts (cs ++ command ∷ []) ≡ (list_any acts cs || b)
any_behind cs command b e =
    list_any-append acts cs (command ∷ [])
    ∙ ap (λ (d : Bool). list_any acts cs || d) (ap (λ (d : Bool). d || false) e ∙ or_false b)

-- behind a line that acts nobody is told
pub none_told : (number : ℕ) (cs : List Command) (command : Command) → acts command ≡ true → is_told number (cs ++ command ∷ []) ≡ false
none_told number [] command e = ap (λ (b : Bool). (b && true) || false) (no_report number command e)
none_told number (c ∷ cs) command e =
    ap (λ (b : Bool). (asks_for number c && not b) || is_told number (cs ++ command ∷ [])) (any_behind cs command true e ∙ or_true (list_any acts cs))
    ∙ ap (λ (b : Bool). (asks_for number c && false) || b) (none_told number cs command e)
    ∙ or_false (asks_for number c && false)
    ∙ and_none (asks_for number c)

-- behind another a node is told if it was, or if it is now
pub told_now : (number : ℕ) (cs : List Command) (command : Command) → acts command ≡ false → is_told number (cs ++ command ∷ []) ≡ (is_told number cs || asks_for number command)
told_now number [] command e = or_false (asks_for number command && true) ∙ and_all (asks_for number command)
told_now number (c ∷ cs) command e =
    ap (λ (b : Bool). (asks_for number c && not b) || is_told number (cs ++ command ∷ [])) (any_behind cs command false e ∙ or_false (list_any acts cs))
    ∙ ap (λ (b : Bool). (asks_for number c && not (list_any acts cs)) || b) (told_now number cs command e)
    ∙ sym (or_assoc (asks_for number c && not (list_any acts cs)) (is_told number cs) (asks_for number command))

-- one line more
behind : (number : ℕ) (commands : List Command) (i : ℕ) (command : Command) → i < length commands → command ≡ get_or commands i command → is_told number (take (i + 1) commands) ≡ is_told number (take i commands ++ command ∷ [])
behind number commands i command lt is = ap (is_told number) (take_more commands i command lt ∙ ap (λ (x : Command). take i commands ++ x ∷ []) (sym is))

pub told_acted : (number : ℕ) (commands : List Command) (i : ℕ) (command : Command) (now : Bool) → i < length commands → command ≡ get_or commands i command → acts command ≡ true → now ≡ false → now ≡ is_told number (take (i + 1) commands)
told_acted number commands i command now lt is acting e = e ∙ sym (behind number commands i command lt is ∙ none_told number (take i commands) command acting)

pub told_asked : (number : ℕ) (commands : List Command) (i : ℕ) (command : Command) (now : Bool) → i < length commands → command ≡ get_or commands i command → acts command ≡ false → asks_for number command ≡ true → now ≡ true → now ≡ is_told number (take (i + 1) commands)
told_asked number commands i command now lt is quiet asks e =
    e ∙ sym (behind number commands i command lt is ∙ told_now number (take i commands) command quiet ∙ ap (λ (b : Bool). is_told number (take i commands) || b) asks ∙ or_true (is_told number (take i commands)))

pub told_kept : (number : ℕ) (commands : List Command) (i : ℕ) (command : Command) (before now : Bool) → i < length commands → command ≡ get_or commands i command → acts command ≡ false → asks_for number command ≡ false → before ≡ is_told number (take i commands) → now ≡ before → now ≡ is_told number (take (i + 1) commands)
told_kept number commands i command before now lt is quiet asks was e =
    e ∙ was ∙ sym (behind number commands i command lt is ∙ told_now number (take i commands) command quiet ∙ ap (λ (b : Bool). is_told number (take i commands) || b) asks ∙ or_false (is_told number (take i commands)))

-- ---- the texts

-- of no node, and of one more
pub no_texts : (P : ℕ → List ℕ → Type 0) (text : List ℕ) → Adds text text (AreTexts P 0)
unfolding AreTexts
no_texts P text = ([], sym (append-nil text), refl)

pub one_text_more : (P : ℕ → List ℕ → Type 0) (n : ℕ) (old mid new : List ℕ) → Adds old mid (AreTexts P n) → Adds mid new (P n) → Adds old new (AreTexts P (n + 1))
unfolding AreTexts
one_text_more P n old mid new a b =
    let next : suc n ≡ n + 1 = omega arith in
    let all : AreTexts P (suc n) (a.0 ++ b.0) = (a.0, b.0, refl, a.2, b.2) in (
      a.0 ++ b.0,
      b.1 ∙ ap (λ (l : List ℕ). l ++ b.0) a.1 ∙ append_assoc old a.0 b.0,
      subst (λ (m : ℕ). AreTexts P m (a.0 ++ b.0)) next all,
    )

-- the end
is_end : TheoremGivesLedger → (anew : Bool) (names : Names) (count : ℕ) (commands : List Command) (network : NetworkView) (old mid new : List ℕ) → count ≡ node_count commands → (far : HasPlayed commands commands network) → mid ≡ old ++ codes "end\n"
    → Adds mid new (AreTexts (λ index. TellsLast anew names commands network.nodes (index + 1)) count) → Adds old new (IsEnd anew names commands (moment_at far.heard network))
is_end law anew names count commands network old mid new many far e a = (
  codes "end\n" ++ a.0,
  a.1 ∙ ap (λ (l : List ℕ). l ++ a.0) e ∙ append_assoc old (codes "end\n") a.0,
  record {
    played = have_played law commands commands network far;
    stands = a.0;
    of_nodes = subst (λ (n : ℕ). AreTexts (λ index. TellsLast anew names commands network.nodes (index + 1)) n a.0) many a.2;
    is = refl;
  },
)

pub end_told : TheoremGivesLedger → (anew : Bool) (names : Names) (count : ℕ) (commands : List Command) (network : NetworkView) (old mid new : List ℕ) (r : Result (Unit {0}) Fault) → count ≡ node_count commands → (far : HasPlayed commands commands network) → mid ≡ old ++ codes "end\n"
    → OnOk r (Adds mid new (AreTexts (λ index. TellsLast anew names commands network.nodes (index + 1)) count)) → OnOk r (Adds old new (IsEnd anew names commands (moment_at far.heard network)))
end_told law anew names count commands network old mid new (Ok done) many far e a = is_end law anew names count commands network old mid new many far e a
end_told law anew names count commands network old mid new (Err fault) many far e a = tt
