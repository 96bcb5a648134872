-- The tests of sanity and of encoding decide exactly that.
use Rattle.std.specs.Prelude.{◌≡◌, ◌↔◌, refl, true}
use Rattle.scp_wire.specs.scp_xdr.specs.Kind.{Fits}
use Rattle.scp_wire.specs.scp_quorum.specs.QuorumTree.{QuorumTree}
use Rattle.scp_wire.specs.scp_quorum.specs.QuorumKind.{set_kind, set_value}
use Rattle.scp_wire.specs.scp_quorum.specs.Sane.{IsSane}
use Rattle.scp_pending.specs.Sanity.{is_yes, is_sane, sane_or_not, has_spelling, spelt_or_not, SanityIsTold, SpellingIsTold}

yes_is : {A : Type 0} (d : Dec A) → is_yes d ≡ true → A
yes_is (yes a) e = a
yes_is (no n) e = cc

is_yes_of : {A : Type 0} (d : Dec A) → A → is_yes d ≡ true
is_yes_of (yes a) h = refl
is_yes_of (no n) h = absurd (n h)

pub sane_of_test : (q : QuorumTree) → is_sane q ≡ true → IsSane q
unfolding is_sane
sane_of_test q e = yes_is (sane_or_not q) e

pub test_of_sane : (q : QuorumTree) → IsSane q → is_sane q ≡ true
unfolding is_sane
test_of_sane q s = is_yes_of (sane_or_not q) s

pub fits_of_test : (q : QuorumTree) → has_spelling q ≡ true → Fits set_kind (set_value q)
unfolding has_spelling
fits_of_test q e = yes_is (spelt_or_not q) e

pub test_of_fits : (q : QuorumTree) → Fits set_kind (set_value q) → has_spelling q ≡ true
unfolding has_spelling
test_of_fits q f = is_yes_of (spelt_or_not q) f

pub sanity_is_told : SanityIsTold
sanity_is_told q = (sane_of_test q, test_of_sane q)

pub spelling_is_told : SpellingIsTold
spelling_is_told q = (fits_of_test q, test_of_fits q)
