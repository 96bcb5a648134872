-- The first word of a line.
use Rattle.std.proofs.Common.{◌≡◌, ℕ, Bool, true, false, List, Option, Some, None, refl, ap}
use Rattle.std.specs.Prelude.{codes, if◌then◌else◌}
use Rattle.std.specs.Cmp.Lexicographic.{bytes_decides}
use Rattle.scp_script.specs.Words.{same}
use Rattle.scp_live_lines.specs.declared.verb.Verb.{Verb}
use Rattle.scp_live_lines.specs.declared.verb.Verb.TheVariants as verbs
use Rattle.scp_live_lines.specs.Verbs.{verb_in}
use Rattle.scp_live_lines.specs.inside.Forms.{word_of}

-- one more word in a table of words
one_more : (word key : List ℕ) (at verb : Verb) (others : Option Verb) (b : Bool) → same word key ≡ b → word_of at ≡ key → (others ≡ Some verb → word ≡ word_of verb) → (if b then Some at else others) ≡ Some verb → word ≡ word_of verb
one_more word key at verb others true e k behind h =
    let is : at ≡ verb = cc in
    let told : word ≡ key = (bytes_decides word key).0 e in
    cc (told, k, ap word_of is)
one_more word key at verb others false e k behind h = behind h

-- a word that says something is the word for it
pub verb_is : (word : List ℕ) (verb : Verb) → verb_in word ≡ Some verb → word ≡ word_of verb
verb_is word verb =
    one_more word (codes "open") verbs.Open verb _ (same word (codes "open")) refl refl
    (one_more word (codes "close") verbs.Close verb _ (same word (codes "close")) refl refl
    (one_more word (codes "recv") verbs.Recv verb _ (same word (codes "recv")) refl refl
    (one_more word (codes "propose") verbs.Propose verb _ (same word (codes "propose")) refl refl
    (one_more word (codes "round") verbs.Round verb _ (same word (codes "round")) refl refl
    (one_more word (codes "timer") verbs.Timer verb _ (same word (codes "timer")) refl refl
    (one_more word (codes "ballot") verbs.Ballot verb _ (same word (codes "ballot")) refl refl
    (one_more word (codes "tick") verbs.Tick verb _ (same word (codes "tick")) refl refl
    (one_more word (codes "ask") verbs.Ask verb _ (same word (codes "ask")) refl refl
    (one_more word (codes "again") verbs.Again verb _ (same word (codes "again")) refl refl
    (one_more word (codes "state") verbs.State verb _ (same word (codes "state")) refl refl
    (one_more word (codes "report") verbs.Report verb _ (same word (codes "report")) refl refl
    (one_more word (codes "stand") verbs.Stand verb _ (same word (codes "stand")) refl refl
    (one_more word (codes "applied") verbs.Applied verb None (same word (codes "applied")) refl refl (λ e. absurd cc))))))))))))))
