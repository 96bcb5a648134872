use Rattle.std.proofs.Common.{◌∙◌, ◌==◌, ap, subst, is_some, map, List, ℕ, Bor}
use Rattle.std.specs.List.{slice_split}
use Rattle.scp_script.specs.inside.Judging.{IsPlaceOfWords}
use Rattle.scp_script.proofs.Judged.{many_words}
use Rattle.scp_script.proofs.judging.take_text.Goals as goal

pub returns-in-Some : goal.returns-in-Some
returns-in-Some c = λ before knows. subst (λ (words : List (List ℕ)). IsPlaceOfWords before words c.take_words.result c.take_words.new.known) (ap (map (λ (word : Bor (List ℕ)). word.now)) c.as_slice.ensures.value ∙ c.in-Some.ensures.words) (c.take_words.ensures before knows)

pub returns-in-None : goal.returns-in-None
returns-in-None c = λ before knows. many_words before (slice_split (λ byte. byte == 32) c.args.text.now) c.args.known.now (c.few_words.ensures.many (ap is_some c.in-None.is))
