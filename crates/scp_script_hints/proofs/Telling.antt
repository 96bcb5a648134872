-- What the lines of a script are hinted at, one after another.
use Rattle.std.proofs.Common.{◌≡◌, ◌≤◌, ℕ, Bool, true, false, ◌||◌, List, [], ◌∷◌, ◌++◌, Option, Some, None, length, take, drop, refl, sym, ◌∙◌, ap, append_assoc, append-nil}
use Rattle.std.specs.Prelude.{IfSome, IfNone}
use Rattle.std.specs.List.{list_any}
use Rattle.std.specs.Ordering.{nat_cmp}
use Rattle.std.specs.BTreeSet.{BTreeSet, contains}
use Rattle.std.proofs.Common.{inl, inr}
use Rattle.std.proofs.lemmas.List.{at_drop_all}
use Rattle.std.proofs.lemmas.List.Folds.{list_any-append}
use Rattle.scp_script.specs.scp_types.specs.declared.names.NodeId.{NodeId}
use Rattle.scp_script.specs.scp_quorum.specs.NodeSet.{is_in}
use Rattle.scp_script.specs.scp_quorum.specs.Satisfies.{AreDisjoint}
use Rattle.scp_script.specs.declared.command.Command.{Command}
use Rattle.scp_quorum_search.specs.declared.member.Member.{Member}
use Rattle.scp_quorum_search.specs.Quorums.{IsQuorumOf, Intersect}
use Rattle.scp_script_hints.specs.declared.hint.Hint.{Hint}
use Rattle.scp_script_hints.specs.declared.before.Before.{Before}
use Rattle.scp_script_hints.specs.Hints.{sends_on, may_decide, command_hints, hints_behind, line_hints, AreApart}
use Rattle.scp_script_hints.specs.inside.Apart.{apart_hints}
use Rattle.scp_script_hints.specs.inside.Behind.{has_sent, KnowsBefore}

or_end : (a b : Bool) → (a || (b || false)) ≡ (a || b)
or_end true b = refl
or_end false true = refl
or_end false false = refl

-- a command that was noted
pub noted : (b b2 : Before) (done : List Command) (command : Command)
    → ((f t : ℕ) → has_sent b2.sent.items f t ≡ (has_sent b.sent.items f t || sends_on f t command))
    → ((n : ℕ) → contains nat_cmp b2.deciding n ≡ (contains nat_cmp b.deciding n || may_decide n command))
    → KnowsBefore b done → KnowsBefore b2 (done ++ command ∷ [])
noted b b2 done command sent deciding k = record {
  sent = λ f t. sent f t ∙ ap (λ (x : Bool). x || sends_on f t command) (k.sent f t) ∙ sym (list_any-append (sends_on f t) done (command ∷ []) ∙ or_end (list_any (sends_on f t) done) (sends_on f t command));
  deciding = λ n. deciding n ∙ ap (λ (x : Bool). x || may_decide n command) (k.deciding n) ∙ sym (list_any-append (may_decide n) done (command ∷ []) ∙ or_end (list_any (may_decide n) done) (may_decide n command));
}

-- what is known of the lines before tells what a command is hinted at behind them
pub told_behind : (commands done : List Command) (b : Before) (line : ℕ) (command : Command) → KnowsBefore b done
    → command_hints commands (has_sent b.sent.items) (contains nat_cmp b.deciding) line command ≡ hints_behind commands done line command
told_behind commands done b line command k = λ i. command_hints commands (λ f t. k.sent f t i) (λ n. k.deciding n i) line command

-- the same behind hints so far
pub added_behind : (commands done : List Command) (b : Before) (line : ℕ) (command : Command) (out out2 : List Hint) → KnowsBefore b done
    → out2 ≡ out ++ command_hints commands (has_sent b.sent.items) (contains nat_cmp b.deciding) line command
    → out2 ≡ out ++ hints_behind commands done line command
added_behind commands done b line command out out2 k e = e ∙ ap (λ (l : List Hint). out ++ l) (told_behind commands done b line command k)

none_left : (commands done : List Command) (lines : List ℕ) → line_hints commands done lines [] ≡ []
none_left commands done [] = refl
none_left commands done (line ∷ lines) = refl

-- a line more
pub lines_next : (commands done others : List Command) (line : ℕ) (lines : List ℕ) (c : Command) (out out2 all : List Hint)
    → out ++ line_hints commands done (line ∷ lines) (c ∷ others) ≡ all → out2 ≡ out ++ hints_behind commands done line c
    → out2 ++ line_hints commands (done ++ c ∷ []) lines others ≡ all
lines_next commands done others line lines c out out2 all h e =
    ap (λ l. l ++ line_hints commands (done ++ c ∷ []) lines others) e ∙ append_assoc out (hints_behind commands done line c) (line_hints commands (done ++ c ∷ []) lines others) ∙ h

-- no command is left
pub no_more : (commands : List Command) (i : ℕ) (lines : List ℕ) (out all : List Hint) → length commands ≤ i
    → out ++ line_hints commands (take i commands) lines (drop i commands) ≡ all → out ≡ all
no_more commands i lines out all past h =
    let none : line_hints commands (take i commands) lines (drop i commands) ≡ [] =
    at_drop_all (λ (others : List Command). line_hints commands (take i commands) lines others) commands i past ∙ none_left commands (take i commands) lines in
    sym (append-nil out) ∙ ap (λ (l : List Hint). out ++ l) (sym none) ∙ h

-- ---- as a whole

-- what was found of the members' quorums tells whether two of them are apart
pub apart_is : (members : List Member) (found : Option (BTreeSet NodeId × BTreeSet NodeId))
    → IfSome found (λ two. IsQuorumOf members (is_in two.0)) → IfSome found (λ two. IsQuorumOf members (is_in two.1))
    → IfSome found (λ two. AreDisjoint (is_in two.0) (is_in two.1)) → IfNone found (Intersect members)
    → AreApart members (apart_hints found)
apart_is members None one other disjoint none = inl (none, refl)
apart_is members (Some two) one other disjoint none = inr (two.0, two.1, one, other, disjoint, refl)
