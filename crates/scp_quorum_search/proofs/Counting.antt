-- How many tries a search makes.
use Rattle.std.proofs.Common.{◌≡◌, ℕ, suc, ◌+◌, ◌*◌, ◌^◌, ◌≤◌, arith, add-one}
use Rattle.std.proofs.Math.Nat.{pow-suc, pow-le-pow_right, add-mul}
use Rattle.std.proofs.lemmas.Nat.{mul-le}

pub power_suc : (n : ℕ) → 2 ^ (n + 1) ≡ 2 ^ n + 2 ^ n
power_suc n = let e : 2 ^ suc n ≡ 2 ^ n * 2 = pow-suc 2 n in rw add-one (omega (arith, e))

pub power_more : (m n : ℕ) → m ≤ n → 2 ^ (m + 1) ≤ 2 ^ (n + 1)
power_more m n h = pow-le-pow_right (omega arith) (omega arith)

-- at least two
pub two_of : (n : ℕ) → 2 ≤ 2 ^ (n + 1)
two_of n = power_more 0 n (omega arith)

pub round_more : (i p : ℕ) → (i + 1) * p ≡ i * p + p
round_more i p = let e : (i + 1) * p ≡ i * p + 1 * p = add-mul i 1 p in omega (arith, e)

-- a search from each of at most n nodes
pub searches_fit : (a n : ℕ) → a ≤ n → a * 2 ^ (a + 1) ≤ n * 2 ^ (n + 1)
searches_fit a n le = mul-le a (2 ^ (a + 1)) n (2 ^ (n + 1)) le (power_more a n le)
