-- The table of links.
use Rattle.std.proofs.Common.{◌≡◌, ◌≢◌, ℕ, zero, suc, [], replicate, Bool, true, false, List, length, get_or, set, refl, ap, arith, nat_eq}
use Rattle.std.specs.Prelude.{if◌then◌else◌}
use Rattle.std.proofs.lemmas.Bool.Decides.{nat_tests}
use Rattle.std.proofs.lemmas.List.{get_or-set_other}
use Rattle.std.proofs.lemmas.Grind.{get_or-set_at}
use Rattle.scp_script.specs.declared.links.Link.{Link}
use Rattle.scp_script.specs.declared.links.TheConstants.{PLACES}
use Rattle.scp_script.specs.Script.{is_link}
use Rattle.scp_script.specs.Nodes.{IsSmall}
use Rattle.scp_script.specs.Reading.{place, no_link, KnowsLink}

-- what a table says of a link behind a change at another or the same
pub at_put : (table : List Link) (from to from2 to2 : ℕ) (link : Link) → length table ≡ PLACES → IsSmall from → IsSmall to → IsSmall from2 → IsSmall to2 →
    get_or (set table (place from to) link) (place from2 to2) no_link ≡ (if is_link from2 to2 from to then link else get_or table (place from2 to2) no_link)
at_put table from to from2 to2 link long f t f2 t2 = by (nat_eq from2 from) (nat_eq to2 to) refl refl
  where
    other : place from2 to2 ≢ place from to → get_or (set table (place from to) link) (place from2 to2) no_link ≡ get_or table (place from2 to2) no_link
    other apart = get_or-set_other table (place from to) (place from2 to2) link no_link apart

    by : (a b : Bool) → nat_eq from2 from ≡ a → nat_eq to2 to ≡ b → get_or (set table (place from to) link) (place from2 to2) no_link ≡ (if is_link from2 to2 from to then link else get_or table (place from2 to2) no_link)
    by true true p q =
        let e : from2 ≡ from = grind (arith, nat_tests) in
        let d : to2 ≡ to = grind (arith, nat_tests) in
        rw (p, q) (get_or-set_at table (place from to) (place from2 to2) link no_link (omega arith) (omega arith))
    by true false p q =
        let d : to2 ≢ to = grind (arith, nat_tests) in
        rw (p, q) (other (λ same. d (let e : from2 ≡ from = grind (arith, nat_tests) in omega arith)))
    by false b p q =
        let d : from2 ≢ from = grind (arith, nat_tests) in
        rw p (other (λ same. d (omega arith)))

nothing_at : (n i : ℕ) → get_or (replicate n no_link) i no_link ≡ no_link
nothing_at zero i = refl
nothing_at (suc n) zero = refl
nothing_at (suc n) (suc i) = nothing_at n i

-- a new table says of each link that it was never opened
pub nothing_known : (from to : ℕ) → KnowsLink (record { 0 = replicate PLACES no_link }) [] from to
nothing_known from to = record {
  opened = ap (λ (link : Link). link.is_open) (nothing_at PLACES (place from to));
  lives = ap (λ (link : Link). link.lives) (nothing_at PLACES (place from to));
}
