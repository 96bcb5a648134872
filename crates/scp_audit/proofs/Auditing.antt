-- What was read of an archive, with one record more.
use Rattle.std.proofs.Common.{◌≡◌, ℕ, true, false, cond, List, [], ◌∷◌, ◌++◌, refl, sym, ap, subst, ◌∙◌}
use Rattle.std.specs.Prelude.{Option, Some, None, Result}
use Rattle.std.specs.List.{AllByRecursion}
use Rattle.std.specs.Option.{ForSome}
use Rattle.scp_archive.specs.scp_types.specs.declared.names.Hash.{Hash}
use Rattle.scp_archive.specs.scp_quorum.specs.QuorumTree.{QuorumTree}
use Rattle.scp_archive.specs.scp_xdr.specs.Kind.{Values}
use Rattle.scp_archive.specs.scp_device.specs.Device.{Loses, HasEnded}
use Rattle.scp_archive.specs.Entry.{entry_kind}
use Rattle.scp_archive.specs.Stream.{Framed, IsFramed, framed, IsStream, HasNoRecord, read_of, IsCutShort}
use Rattle.scp_archive.specs.declared.entries.Unread.{Unread as Reason}
use Rattle.scp_archive.proofs.Apart.{stream_begins, stream_grows, nothing_has_no_record}
use Rattle.scp_judged.specs.Named.{has_hash, named, first_there, NamesToo}
use Rattle.scp_judged.proofs.Naming.{find_more, or_none}
use Rattle.scp_audit.specs.Judging.{NamesAll}
use Rattle.scp_audit.specs.Audit.{SameNamed, nothing_named, Comes, AreAudited, IsArchive, IsSaneRecord}
use Rattle.scp_audit.specs.declared.archive.Archive.{Archive}
use Rattle.scp_audit.specs.declared.archive.Record.{Record}
use Rattle.scp_audit.specs.declared.archive.Record.TheVariants.{Ledger, Unread}

-- ---- sets that are named

first_assoc : {X : Type 0} (o p q : Option X) → first_there (first_there o p) q ≡ first_there o (first_there p q)
first_assoc None p q = refl
first_assoc (Some x) p q = refl

pub names_none : (old : Hash → Option QuorumTree) → NamesAll old [] old
names_none old = λ h. or_none (old h)

pub names_more : (a b c : Hash → Option QuorumTree) (qs : List QuorumTree) (q : QuorumTree) → NamesAll a qs b → NamesToo b c q → NamesAll a (qs ++ q ∷ []) c
names_more a b c qs q so_far more = λ h.
    more h
    ∙ ap (λ (o : Option QuorumTree). first_there o (cond (has_hash h q) (Some q) None)) (so_far h)
    ∙ first_assoc (a h) (named qs h) (cond (has_hash h q) (Some q) None)
    ∙ ap (λ (o : Option QuorumTree). first_there (a h) o) (sym (find_more (has_hash h) qs q))

-- ---- what came of records

comes_from : (a b c : Hash → Option QuorumTree) (read : Result (Values entry_kind) Reason) (x : Record) → SameNamed a b → Comes b read x c → Comes a read x c
comes_from a b c read (Ledger l) same h = (h.0, h.1, (λ k. h.2 k ∙ ap (λ (o : Option QuorumTree). first_there o (named h.0.sets.items k)) (same k)), h.3)
comes_from a b c read (Unread why) same h = (h.0, λ k. h.1 k ∙ same k)

audited_more : (first mid last : Hash → Option QuorumTree) (rs : List Framed) (xs : List Record) (r : Framed) (x : Record) → AreAudited first rs xs mid → Comes mid (read_of r) x last → AreAudited first (rs ++ r ∷ []) (xs ++ x ∷ []) last
audited_more first mid last [] [] r x h k = (last, comes_from first mid last (read_of r) x h k, λ hash. refl)
audited_more first mid last [] (y ∷ ys) r x h k = absurd h
audited_more first mid last (s ∷ rs) [] r x h k = absurd h
audited_more first mid last (s ∷ rs) (y ∷ ys) r x h k = (h.0, h.1, audited_more h.0 mid last rs ys r x h.2 k)

-- ---- what was read so far

-- the bytes are these records and what is left, where that is known
pub record SoFar (bytes : List ℕ) (xs : List Record) (left : Option (List ℕ)) (sets : Hash → Option QuorumTree) : Type 0 where
  pub records : List Framed
  pub rest : List ℕ
  pub left_is : left ≡ Some rest
  pub stream : IsStream bytes records rest
  pub audited : AreAudited nothing_named records xs sets

abbrev pub IsSoFar : Option (List ℕ) → List Record → Option (List ℕ) → (Hash → Option QuorumTree) → Type 0
IsSoFar first xs left sets = ForSome first (λ bytes. SoFar bytes xs left sets)

pub so_far_none : (first : Option (List ℕ)) (sets : Hash → Option QuorumTree) → ((h : Hash) → sets h ≡ None) → IsSoFar first [] first sets
so_far_none first sets none = λ bytes e. record { records = []; rest = bytes; left_is = e; stream = stream_begins bytes; audited = none }

pub so_far_more : (first left after : Option (List ℕ)) (xs : List Record) (x : Record) (old new : Hash → Option QuorumTree) → IsSoFar first xs left old → ((r : Framed) × IsFramed r × Loses left (framed r) after × Comes old (read_of r) x new) → IsSoFar first (xs ++ x ∷ []) after new
so_far_more first left after xs x old new so more = λ bytes e.
    let s = so bytes e in
    let lost = subst (λ (o : Option (List ℕ)). Loses o (framed more.0) after) s.left_is more.2 in
    record {
      records = s.records ++ more.0 ∷ [];
      rest = lost.0;
      left_is = lost.2;
      stream = stream_grows bytes s.records more.0 lost.0 (subst (λ (l : List ℕ). IsStream bytes s.records l) lost.1 s.stream) more.1;
      audited = audited_more nothing_named old new s.records xs more.0 x s.audited more.3;
    }

-- the archive is read to its end
pub ended_here : (first left : Option (List ℕ)) (xs : List Record) (a : Archive) (sets : Hash → Option QuorumTree) → IsSoFar first xs left sets → HasEnded left → a.records.items ≡ xs → a.is_cut ≡ false → ForSome first (λ bytes. IsArchive bytes a)
ended_here first left xs a sets so ended same uncut = λ bytes e.
    let s = so bytes e in
    let none : s.rest ≡ [] = subst (λ (o : Option (List ℕ)). HasEnded o) s.left_is ended in
    record {
      records = s.records;
      rest = s.rest;
      stream = s.stream;
      ends = subst (λ (l : List ℕ). HasNoRecord l) (sym none) nothing_has_no_record;
      cut = (λ t. (let bad : true ≡ false = sym t ∙ uncut in absurd cc), λ some. absurd (some none));
      last = sets;
      audited = subst (λ (l : List Record). AreAudited nothing_named s.records l sets) (sym same) s.audited;
    }

-- the archive ends within a record
pub cut_here : (first left : Option (List ℕ)) (xs : List Record) (a : Archive) (sets : Hash → Option QuorumTree) → IsSoFar first xs left sets → IsCutShort left → a.records.items ≡ xs → a.is_cut ≡ true → ForSome first (λ bytes. IsArchive bytes a)
cut_here first left xs a sets so short same cut = λ bytes e.
    let s = so bytes e in
    let here = subst (λ (o : Option (List ℕ)). IsCutShort o) s.left_is short in
    record {
      records = s.records;
      rest = s.rest;
      stream = s.stream;
      ends = here.1;
      cut = (λ t. here.0, λ some. cut);
      last = sets;
      audited = subst (λ (l : List Record). AreAudited nothing_named s.records l sets) (sym same) s.audited;
    }

-- what counts stays sane
pub sane_more : (xs : List Record) (x : Record) → AllByRecursion IsSaneRecord xs → IsSaneRecord x → AllByRecursion IsSaneRecord (xs ++ x ∷ [])
sane_more [] x all one = (one, tt)
sane_more (y ∷ ys) x all one = (all.0, sane_more ys x all.1 one)
