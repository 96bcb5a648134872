-- Numbers that are said.
use Rattle.std.proofs.Common.{◌≡◌, ℕ, ◌≤◌, ℤ, true, ◌&&◌, Some, subst, arith, nat_le, min, codes}
use Rattle.std.specs.Prelude.{pos, negsuc}
use Rattle.std.proofs.lemmas.Option.{none-some, cond_some, option_and_then_some}
use Rattle.std.proofs.lemmas.Bool.Decides.{nat_tests}
use Rattle.toml.specs.Data.{Data, string, integer, float, boolean, datetime, array, table, Members, get_member}
use Rattle.scp_live_config.specs.Names.{counted_to, number_to}
use Rattle.scp_live_config.specs.Sets.{threshold_in}

below : (n most : ℕ) → (nat_le 1 n && nat_le n most) ≡ true → (1 ≤ n) × (n ≤ most)
below n most h = grind (arith, nat_tests)

pub counted : (most : ℕ) (z : ℤ) (n : ℕ) → counted_to most z ≡ Some n → (1 ≤ n) × (n ≤ most)
counted most (pos k) n e =
    let (within, same) = cond_some (nat_le 1 k && nat_le k most) k n e in
    let P : ℕ → Type 0 = λ m. (1 ≤ m) × (m ≤ most) in
    subst P same (below k most within)
counted most (negsuc k) n e = absurd (none-some n e)

pub numbered : (most : ℕ) (said : Data) (n : ℕ) → number_to most said ≡ Some n → (1 ≤ n) × (n ≤ most)
numbered most (integer z) n e = counted most z n e
numbered most (string s) n e = absurd (none-some n e)
numbered most (float s) n e = absurd (none-some n e)
numbered most (boolean s) n e = absurd (none-some n e)
numbered most (datetime s) n e = absurd (none-some n e)
numbered most (array s) n e = absurd (none-some n e)
numbered most (table s) n e = absurd (none-some n e)

-- a threshold is from 1 to the count of the entries
pub threshold_within : (entries : ℕ) (ms : Members) (n : ℕ) → threshold_in entries ms ≡ Some n → (1 ≤ n) × (n ≤ entries)
threshold_within entries ms n e =
    option_and_then_some (number_to (min entries 4294967295)) (get_member (codes "THRESHOLD") ms) n e (λ said there h. let r = numbered (min entries 4294967295) said n h in (r.0, omega (arith, r.1)))
