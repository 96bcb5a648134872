-- The lines of a value, one after another.
use Rattle.std.proofs.Common.{◌≡◌, ℕ, List, [], ◌∷◌, ◌++◌, ap, ◌∙◌, append_assoc, sym, refl, subst}
use Rattle.std.specs.Prelude.{Result, Ok, Err, OnOk}
use Rattle.scp_history.specs.scp_types.specs.declared.names.NodeId.{NodeId}
use Rattle.scp_history.specs.scp_ledger.specs.Journal.{Heard}
use Rattle.scp_history.specs.declared.line.Counts.{Counts}
use Rattle.scp_history.specs.declared.line.Line.{Line}
use Rattle.scp_history.specs.declared.line.Line.TheVariants.{Value, Uncertified, Unbacked}
use Rattle.scp_history.specs.declared.side.Side.{Side}
use Rattle.scp_shown.specs.ValueLines.{if_any, AreValueLines}
use Rattle.scp_shown.specs.Sides.{AreCertified, IsSide, side_of}
use Rattle.scp_shown.specs.inside.Tallying.{IsTally, counted}
use Rattle.scp_shown.specs.declared.tally.Tally.{Tally}

-- the lines of a tally
abbrev pub lines_in : ℕ → List ℕ → Tally → List Line
lines_in ledger x t = (Value ledger x (counted t) ∷ if_any (λ vs. Uncertified ledger vs) t.certified.fails.items) ++ if_any (λ vs. Unbacked ledger vs) t.unbacked.items

pub tally_lines : (ledger : ℕ) (hs : List Heard) (nodes : List NodeId) (x : List ℕ) (t : Tally) → IsTally hs nodes x t → AreValueLines ledger hs nodes x (lines_in ledger x t)
tally_lines ledger hs nodes x t is = record {
  externalize = t.externalize.items;
  confirm = t.confirm.items;
  prepare = t.prepare.items;
  certified = t.certified.holds.items;
  uncertified = t.certified.fails.items;
  backed = t.backed.holds.items;
  others = t.backed.fails.items;
  unbacked = t.unbacked.items;
  externalize_it = is.externalize;
  confirm_it = is.confirm;
  prepare_it = is.prepare;
  are_certified = is.certified;
  are_uncertified = is.uncertified;
  are_backed = is.backed;
  are_others = is.others;
  are_unbacked = is.unbacked;
  all = refl;
}

-- those of a tally for whom the value is certified
pub tally_certified : (hs : List Heard) (nodes : List NodeId) (x : List ℕ) (t : Tally) (certified : List NodeId) → certified ≡ t.certified.holds.items → IsTally hs nodes x t → AreCertified hs nodes x certified
tally_certified hs nodes x t certified e is = subst (λ (l : List NodeId). AreCertified hs nodes x l) (sym e) (record { externalize = t.externalize.items; externalize_it = is.externalize; are_certified = is.certified })

-- three times lines are added
pub added_thrice : (old one two three us bs : List Line) (v w : Line) → v ≡ w → one ≡ old ++ v ∷ [] → two ≡ one ++ us → three ≡ two ++ bs → three ≡ old ++ ((w ∷ us) ++ bs)
added_thrice old one two three us bs v w e p q r =
    r
    ∙ ap (λ (l : List Line). l ++ bs) (q ∙ ap (λ (l : List Line). l ++ us) (p ∙ ap (λ (k : Line). old ++ k ∷ []) e) ∙ append_assoc old (w ∷ []) us)
    ∙ append_assoc old (w ∷ us) bs

-- the side of a value, where it could be added
pub side_is : {Y E : Type 0} (r : Result Y E) (hs : List Heard) (nodes : List NodeId) (x : List ℕ) (certified : List NodeId) (old new : List Side) → AreCertified hs nodes x certified → OnOk r (new ≡ old ++ side_of x certified) → OnOk r ((here : List Side) × IsSide hs nodes x here × (new ≡ old ++ here))
side_is (Ok y) hs nodes x certified old new are added = (side_of x certified, record { certified = certified; are_certified = are; all = refl }, added)
side_is (Err e) hs nodes x certified old new are added = tt

-- what holds in any case holds where it could be added
pub on_side : {Y E : Type 0} (r : Result Y E) (P : Type 0) → P → OnOk r P
on_side (Ok y) P p = p
on_side (Err e) P p = tt
