-- What reads take off a stream, one after another.
use Rattle.std.proofs.Common.{◌≡◌, ℕ, ◌+◌, ◌<◌, ◌≤◌, Bool, true, List, [], ◌++◌, length, take, Option, Some, None, refl, sym, ap, subst, ◌∙◌, append-nil, arith}
use Rattle.std.proofs.lemmas.Bool.{le-ltb}
use Rattle.std.proofs.lemmas.List.{length-append, nil_from_length}
use Rattle.scp_device.specs.Device.{Loses, HasEnded, IsAll}
use Rattle.scp_device.proofs.DeviceLemmas.{loses-nothing, loses-more}
use Rattle.scp_quorum.specs.scp_xdr.specs.Reading.{reading_whole}
use Rattle.scp_archive.specs.declared.entries.TheConstants.{RECORD_LIMIT}
use Rattle.scp_archive.specs.declared.entries.Next.{Next}
use Rattle.scp_archive.specs.declared.entries.Next.TheVariants.{Entry, Unread as Passed, End, Cut}
use Rattle.scp_archive.specs.declared.entries.Unread.{Unread}
use Rattle.scp_archive.specs.Entry.{entry_kind}
use Rattle.scp_archive.specs.Stream.{TakesAll, value_read, read_of}
use Rattle.scp_archive.specs.inside.Stream.{TakesRest, IsUnread, IsReadAs, PassesOver}

-- what was read before the end is all
pub all_read : (a b : Option (List ℕ)) (x : List ℕ) → Loses a x b → HasEnded b → IsAll a x
all_read None b x p h = tt
all_read (Some all) b x p h =
    let none : p.0 ≡ [] = subst HasEnded p.2 h in
    sym (p.1 ∙ ap (λ (l : List ℕ). x ++ l) none ∙ append-nil x)

-- after all was read nothing is left
pub takes_all : (a b : Option (List ℕ)) (x : List ℕ) → Loses a x b → IsAll a x → TakesAll a b
takes_all None b x p h = tt
takes_all (Some all) b x p h = p.2 ∙ ap Some (nil_from_length p.0 (omega (arith, ap length p.1, ap length h, length-append x p.0)))

-- a read of nothing
pub loses_no_more : (a b c : Option (List ℕ)) (x y : List ℕ) (n : ℕ) → Loses a x b → n ≡ 0 → Loses b (take n y) c → Loses a x c
loses_no_more a b c x y n p e q =
    let none : Loses b [] c = subst (λ (k : ℕ). Loses b (take k y) c) e q in
    subst (λ (l : List ℕ). Loses a l c) (append-nil x) (loses-more a b c x [] p none)

-- ---- passing over

pub passed_none : (a : Option (List ℕ)) (n : ℕ) → (body : List ℕ) × (length body + n ≡ n) × Loses a body a
passed_none a n = ([], omega arith, loses-nothing a)

pub passed_more : (a b c : Option (List ℕ)) (n missing left k : ℕ) (x : List ℕ) → ((body : List ℕ) × (length body + missing ≡ n) × Loses a body b) → length x ≡ k → left + k ≡ missing → Loses b x c → (body : List ℕ) × (length body + left ≡ n) × Loses a body c
passed_more a b c n missing left k x p e f q = (p.0 ++ x, omega (arith, length-append p.0 x, p.1, e, f), loses-more a b c p.0 x p.2 q)

-- the stream ended before
pub passed_short : (a b c : Option (List ℕ)) (n missing k : ℕ) (y : List ℕ) → ((body : List ℕ) × (length body + missing ≡ n) × Loses a body b) → HasEnded b → k ≡ 0 → Loses b (take k y) c → PassesOver n a missing c
passed_short a b c n missing k y p h e q = (p.0, p.1, loses_no_more a b c p.0 y k p.2 e q, λ _. all_read a b p.0 p.2 h)

-- it didn't
pub passed_whole : (a b : Option (List ℕ)) (n missing : ℕ) → ((body : List ℕ) × (length body + missing ≡ n) × Loses a body b) → missing ≤ 0 → PassesOver n a 0 b
passed_whole a b n missing p z = (p.0, omega (arith, p.1, z), p.2, λ lt. absurd (omega (arith, lt)))

-- ---- what follows a mark

pub cut_rest : (is_last : Bool) (n missing : ℕ) (a b : Option (List ℕ)) → PassesOver n a missing b → 0 < missing → TakesRest is_last n a Cut b
cut_rest is_last n missing a b p lt = (p.0, omega (arith, p.1, lt), p.2, p.3 lt)

pub passed_rest : (is_last : Bool) (n missing : ℕ) (why : Unread) (a b : Option (List ℕ)) → PassesOver n a missing b → missing ≤ 0 → IsUnread is_last n why → TakesRest is_last n a (Passed why) b
passed_rest is_last n missing why a b p z unread =
    let len : length p.0 ≡ n = omega (arith, p.1, z) in
    (p.0, len, p.2, unread p.0 len)

pub short_rest : (n : ℕ) (a b : Option (List ℕ)) (body : List ℕ) → length body < n → Loses a body b → IsAll a body → TakesRest true n a Cut b
short_rest n a b body lt p h = (body, lt, p, h)

within_read : (body : List ℕ) → length body ≤ RECORD_LIMIT → value_read (reading_whole entry_kind body) ≡ read_of (record { is_last = true; body = body })
within_read body few = rw (le-ltb RECORD_LIMIT (length body) few) refl

pub read_rest : (n : ℕ) (a b : Option (List ℕ)) (body : List ℕ) (next : Next) → length body ≤ n → n ≤ length body → n ≤ RECORD_LIMIT → Loses a body b → IsReadAs next (value_read (reading_whole entry_kind body)) → TakesRest true n a next b
read_rest n a b body (Entry e) le ge few p h = (body, omega arith, p, sym (within_read body (omega arith)) ∙ h)
read_rest n a b body (Passed why) le ge few p h = (body, omega arith, p, sym (within_read body (omega arith)) ∙ h)
read_rest n a b body End le ge few p h = absurd h
read_rest n a b body Cut le ge few p h = absurd h
