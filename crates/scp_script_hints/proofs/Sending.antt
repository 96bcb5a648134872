-- A link more that was sent on.
use Rattle.std.proofs.Common.{◌≡◌, ℕ, Bool, true, false, ◌||◌, ◌&&◌, List, [], ◌∷◌, ◌++◌, refl, ◌∙◌, arith, nat_eq}
use Rattle.std.proofs.lemmas.Bool.Decides.{nat_tests}
use Rattle.std.proofs.lemmas.List.Folds.{list_any-append}
use Rattle.scp_script.specs.Script.{is_link}
use Rattle.scp_script_hints.specs.declared.before.SentLink.{SentLink}
use Rattle.scp_script_hints.specs.inside.Behind.{has_sent}

or_none : (a b : Bool) → (a || (b || false)) ≡ (a || b)
or_none true b = refl
or_none false true = refl
or_none false false = refl

pub sent_more : (links : List SentLink) (from to f t : ℕ) → has_sent (links ++ record { from = from; to = to } ∷ []) f t ≡ (has_sent links f t || is_link f t from to)
sent_more links from to f t = list_any-append (λ (link : SentLink). is_link f t link.from link.to) links (record { from = from; to = to } ∷ []) ∙ or_none (has_sent links f t) (is_link f t from to)

had : (a b : Bool) → (b ≡ true → a ≡ true) → a ≡ (a || b)
had true b h = refl
had false true h = let e : false ≡ true = h refl in absurd cc
had false false h = refl

both : (a b : Bool) → (a && b) ≡ true → (a ≡ true) × (b ≡ true)
both true b e = (refl, e)
both false b e = absurd cc

-- a link that was sent on before adds none
pub sent_again : (links : List SentLink) (from to f t : ℕ) → has_sent links from to ≡ true → has_sent links f t ≡ (has_sent links f t || is_link f t from to)
sent_again links from to f t h = had (has_sent links f t) (is_link f t from to) (λ e.
    let p = both (nat_eq f from) (nat_eq t to) e in
    let a : f ≡ from = grind (arith, nat_tests, p.0) in
    let b : t ≡ to = grind (arith, nat_tests, p.1) in
    rw (a, b) h)
