-- Going over a file, its entries are read.
use Rattle.std.proofs.Common.{◌≡◌, ◌+◌, ◌-◌, ℕ, Bool, List, [], ◌∷◌, ◌++◌, length, drop, sym, ◌∙◌, ap, subst, refl, arith, append_assoc, length-append}
use Rattle.std.proofs.lemmas.List.{append-nil, map-append, drop_at}
use Rattle.scp_live_log.specs.Log.{EntryView, Marked, IsEntry, AreEntries, HasNoEntry, spelled, spelled_entry, chained, last_digest, entries_of}
use Rattle.scp_live_log.specs.inside.Front.{IsFront}
use Rattle.scp_live_log.proofs.Entries.{spelled-append, last_digest-append, are_both}

-- these entries were read; these bytes are left
pub record IsReading (before bytes : List ℕ) (entries : List EntryView) (last rest : List ℕ) : Type 0 where
  pub marked : List Marked
  pub are : entries_of marked ≡ entries
  pub each : AreEntries marked
  pub splits : bytes ≡ spelled before marked ++ rest
  pub ends : last ≡ last_digest before marked

pub reading_start : (before bytes : List ℕ) → IsReading before bytes [] before bytes
reading_start before bytes = record { marked = []; are = refl; each = tt; splits = refl; ends = refl }

pub reading_more : (before bytes : List ℕ) (entries : List EntryView) (last rest : List ℕ) (begins : Bool) (e : EntryView) (more digest : List ℕ) (behind : List ℕ)
    → IsEntry e → rest ≡ spelled_entry last begins e ++ behind → digest ≡ chained last e → more ≡ behind → IsReading before bytes entries last rest → IsReading before bytes (entries ++ e ∷ []) digest more
reading_more before bytes entries last rest begins e more digest behind ie is chain same r =
    let one : List Marked = record { begins = begins; entry = e } ∷ [] in
    record {
      marked = r.marked ++ one;
      are = map-append (λ (m : Marked). m.entry) r.marked one ∙ ap (λ (l : List EntryView). l ++ e ∷ []) r.are;
      each = are_both r.marked one r.each (ie, tt);
      splits =
          r.splits ∙ ap (λ (l : List ℕ). spelled before r.marked ++ l) (is ∙ ap (λ (d : List ℕ). spelled_entry d begins e ++ behind) r.ends)
          ∙ sym (append_assoc (spelled before r.marked) (spelled_entry (last_digest before r.marked) begins e) behind)
          ∙ ap (λ (l : List ℕ). (spelled before r.marked ++ l) ++ behind) (sym (append-nil (spelled_entry (last_digest before r.marked) begins e)))
          ∙ ap (λ (l : List ℕ). l ++ behind) (sym (spelled-append before r.marked one))
          ∙ ap (λ (l : List ℕ). spelled before (r.marked ++ one) ++ l) (sym same);
      ends = chain ∙ ap (λ (d : List ℕ). chained d e) r.ends ∙ sym (last_digest-append before r.marked one);
    }

pub reading_end : (before bytes : List ℕ) (entries : List EntryView) (last rest : List ℕ) (size : ℕ) → size ≡ length bytes - length rest → HasNoEntry last rest → IsReading before bytes entries last rest → IsFront before bytes entries last size
reading_end before bytes entries last rest size is none r =
    let long : length bytes ≡ length (spelled before r.marked) + length rest = ap length r.splits ∙ length-append (spelled before r.marked) rest in
    let same : length (spelled before r.marked) ≡ size = omega (arith, long, is) in
    let left : drop size bytes ≡ rest = ap (drop size) r.splits ∙ drop_at (spelled before r.marked) rest size same in
    record {
      marked = r.marked;
      are = r.are;
      each = r.each;
      splits = r.splits ∙ ap (λ (l : List ℕ). spelled before r.marked ++ l) (sym left);
      ends = r.ends;
      no_more = subst (λ (l : List ℕ). HasNoEntry last l) (sym left) none;
    }
