use Rattle.std.proofs.Common.{◌∙◌, sym, refl, map, List, ℕ, Bor}
use Rattle.scp_script.proofs.Judged.{words_stand, words_refused, words_unread}
use Rattle.scp_script.proofs.judging.take_words.Goals as goal

pub returns-then-is_set : goal.returns-then-is_set
returns-then-is_set c = λ before knows. sym c.if-is_set.ensures

pub returns-in_default : goal.returns-in_default
returns-in_default c = λ before knows. words_unread before (map (λ (word : Bor (List ℕ)). word.now) c.args.words.now) c.args.known.now (sym c.in_default.is ∙ c.bare_command.ensures.found (sym c.if-is_set.ensures))

pub returns-then-take : goal.returns-then-take
returns-then-take c = λ before knows. words_stand before (map (λ (word : Bor (List ℕ)). word.now) c.args.words.now) c.in-Some.command c.take.new.self (sym c.in-Some.is ∙ c.bare_command.ensures.found (sym c.if-is_set.ensures)) ((c.if-take.ensures.good before knows).0 refl) (c.if-take.ensures.known before knows refl)

pub returns : goal.returns
returns c = λ before knows. words_refused before (map (λ (word : Bor (List ℕ)). word.now) c.args.words.now) c.in-Some.command c.take.new.self (sym c.in-Some.is ∙ c.bare_command.ensures.found (sym c.if-is_set.ensures)) (λ a. cc ((c.if-take.ensures.good before knows).1 a))
