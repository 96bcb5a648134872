-- What a mark and what follows it take off a stream.
use Rattle.std.proofs.Common.{◌≡◌, ℕ, ◌+◌, ◌-◌, ◌^◌, ◌<◌, ◌≤◌, Bool, true, false, cond, leb, List, [], ◌++◌, inl, inr, length, Option, Some, None, Result, Ok, Err, refl, sym, ap, subst, ◌∙◌, append_assoc, arith}
use Rattle.std.specs.Prelude.{IfOk}
use Rattle.std.proofs.lemmas.Bool.{cases_lt, le-leb, lt-leb, lt-ltb}
use Rattle.std.proofs.lemmas.List.{length-append}
use Rattle.scp_quorum.specs.scp_types.specs.declared.fault.Fault.{Fault}
use Rattle.scp_device.specs.Device.{Loses, IsAll}
use Rattle.scp_device.proofs.DeviceLemmas.{loses-more}
use Rattle.scp_quorum.specs.scp_xdr.specs.Kind.{Values, word}
use Rattle.scp_quorum.specs.scp_xdr.proofs.Lengths.{word_len}
use Rattle.scp_archive.specs.declared.entries.TheConstants.{RECORD_LIMIT}
use Rattle.scp_archive.specs.declared.entries.Next.{Next}
use Rattle.scp_archive.specs.declared.entries.Next.TheVariants.{Entry, Unread as Passed, End, Cut}
use Rattle.scp_archive.specs.declared.entries.Unread.{Unread}
use Rattle.scp_archive.specs.declared.entries.Unread.TheVariants.{Fragment, TooLong}
use Rattle.scp_archive.specs.Entry.{entry_kind, entry_value}
use Rattle.scp_archive.specs.Stream.{Framed, framed, TakesRecord, HasNoRecord, IsCutShort, TakesAll, Takes}
use Rattle.scp_archive.specs.inside.Stream.{TakesBody, IsShortOf, TakesRest, IsUnread, is_last_mark, marked_len}
use Rattle.scp_archive.proofs.Taking.{takes_all}
use Rattle.scp_archive.proofs.Apart.{mark_number, mark_number_fits, same_mark, after_marks, framed_long}

-- ---- why a record isn't read

pub fragment_unread : (n : ℕ) → IsUnread false n Fragment
fragment_unread n body len = refl

pub long_unread : (n : ℕ) → RECORD_LIMIT < n → IsUnread true n TooLong
long_unread n long body len = rw (lt-ltb RECORD_LIMIT (length body) (omega arith)) refl

-- ---- the number of a mark

pub low_mark : (n : ℕ) → n < 2 ^ 31 → (is_last_mark n ≡ false) × (marked_len n ≡ n)
low_mark n lt =
    let low : leb (2 ^ 31) n ≡ false = lt-leb (2 ^ 31) n lt in
    (low, ap (λ (b : Bool). cond b (n - 2 ^ 31) n) low)

pub high_mark : (n : ℕ) → 2 ^ 31 ≤ n → (is_last_mark n ≡ true) × (marked_len n ≡ n - 2 ^ 31)
high_mark n le =
    let high : leb (2 ^ 31) n ≡ true = le-leb (2 ^ 31) n le in
    (high, ap (λ (b : Bool). cond b (n - 2 ^ 31) n) high)

pub rest_is : (b c : Bool) (n m : ℕ) (x y : Option (List ℕ)) (next : Next) → c ≡ b → m ≡ n → TakesRest b n x next y → TakesRest c m x next y
rest_is b c n m x y next p q h =
    subst (λ (k : ℕ). TakesRest c k x next y) (sym q) (subst (λ (k : Bool). TakesRest k n x next y) (sym p) h)

-- a mark of this number
pub mark_is : (n : ℕ) → n < 2 ^ 32 → (mark_number (is_last_mark n) (marked_len n) ≡ n) × (marked_len n < 2 ^ 31)
mark_is n lt = elim (cases_lt n (2 ^ 31)) as (λ _. (mark_number (is_last_mark n) (marked_len n) ≡ n) × (marked_len n < 2 ^ 31)) [
  | inl p ↦ (
      let h = low_mark n p in
      (ap (λ (b : Bool). mark_number b (marked_len n)) h.0 ∙ h.1, omega (arith, h.1, p)))
  | inr p ↦ (
      let h = high_mark n p in
      (ap (λ (b : Bool). mark_number b (marked_len n)) h.0 ∙ omega (arith, h.1, p), omega (arith, h.1, lt)))
]

-- ---- what a mark and what follows it take

took_body : (n : ℕ) (a b c : Option (List ℕ)) (read : Result (Values entry_kind) Unread) → n < 2 ^ 32 → Loses a (word n) b → TakesBody (is_last_mark n) (marked_len n) b read c → TakesRecord a read c
took_body n a b c read lt p q =
    let is = mark_is n lt in
    let r : Framed = record { is_last = is_last_mark n; body = q.0 } in
    let number : mark_number r.is_last (length r.body) ≡ n = ap (λ (k : ℕ). mark_number r.is_last k) q.1 ∙ is.0 in
    let text : word n ++ q.0 ≡ framed r = ap (λ (k : ℕ). word k ++ q.0) (sym number) in
    (r, omega (arith, q.1, is.1), subst (λ (l : List ℕ). Loses a l c) text (loses-more a b c (word n) q.0 p q.2), q.3)

-- a mark, and fewer bytes than it says, are no whole record
no_record : (n : ℕ) (all body : List ℕ) → n < 2 ^ 32 → all ≡ word n ++ body → length body < marked_len n → (all ≡ [] → ⊥) × HasNoRecord all
no_record n all body lt e short =
    let is = mark_is n lt in (
      λ none. omega (arith, ap length e, ap length none, length-append (word n) body, word_len n),
      λ r rest fits f. (
          let m = mark_number r.is_last (length r.body) in
          let moved : word n ++ body ≡ word m ++ (r.body ++ rest) = sym e ∙ f ∙ append_assoc (word m) r.body rest in
          let marks = after_marks n m body (r.body ++ rest) lt (mark_number_fits r.is_last (length r.body) fits) moved in
          let said = same_mark (is_last_mark n) r.is_last (marked_len n) (length r.body) is.1 fits (is.0 ∙ marks.0) in
          omega (arith, said.1, ap length marks.1, length-append r.body rest, short)),
    )

took_cut : (n : ℕ) (a b c : Option (List ℕ)) → n < 2 ^ 32 → Loses a (word n) b → IsShortOf (marked_len n) b c → IsCutShort a × TakesAll a c
took_cut n None b c lt p q = (tt, tt)
took_cut n (Some all) b c lt p q =
    let rest : IsAll (Some p.0) q.0 = subst (λ (o : Option (List ℕ)). IsAll o q.0) p.2 q.3 in
    let whole : all ≡ word n ++ q.0 = p.1 ∙ ap (λ (l : List ℕ). word n ++ l) (sym rest) in
    (no_record n all q.0 lt whole q.1, takes_all (Some all) c (word n ++ q.0) (loses-more (Some all) b c (word n) q.0 p q.2) (sym whole))

pub took_marked : (n : ℕ) (a b c : Option (List ℕ)) (next : Next) → n < 2 ^ 32 → Loses a (word n) b → TakesRest (is_last_mark n) (marked_len n) b next c → Takes a next c
took_marked n a b c (Entry e) lt p h = took_body n a b c (Ok (entry_value e)) lt p h
took_marked n a b c (Passed why) lt p h = took_body n a b c (Err why) lt p h
took_marked n a b c End lt p h = absurd h
took_marked n a b c Cut lt p h = took_cut n a b c lt p h

-- ---- where there is no mark

-- less than a mark is left
pub took_short : (a b : Option (List ℕ)) (x : List ℕ) → Loses a x b → IsAll a x → (x ≡ [] → ⊥) → length x < 4 → Takes a Cut b
took_short None b x p h some short = (tt, tt)
took_short (Some all) b x p h some short =
    ((λ none. some (h ∙ none), λ r rest fits e. omega (arith, framed_long r rest, ap length e, ap length h, short)), takes_all (Some all) b x p h)

-- nothing is left
pub took_end : (a b : Option (List ℕ)) (x : List ℕ) → Loses a x b → IsAll a x → x ≡ [] → Takes a End b
took_end None b x p h none = (tt, tt)
took_end (Some all) b x p h none = (sym h ∙ none, takes_all (Some all) b x p h)

pub marked_all : (r : Result Next Fault) (n : ℕ) (a b c : Option (List ℕ)) → n < 2 ^ 32 → Loses a (word n) b → IfOk r (λ next. TakesRest (is_last_mark n) (marked_len n) b next c) → IfOk r (λ next. Takes a next c)
marked_all (Ok next) n a b c lt p h = took_marked n a b c next lt p h
marked_all (Err f) n a b c lt p h = tt
