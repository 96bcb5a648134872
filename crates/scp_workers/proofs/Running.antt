-- What one receive adds to a worker's run.
use Rattle.std.specs.Prelude.{Option}
use Rattle.std.proofs.Common.{◌≡◌, ℕ, inl, inr, List, [], ◌∷◌, ◌++◌, sym, ◌∙◌, subst}
use Rattle.scp_ends.specs.declared.item.Item.{Item}
use Rattle.scp_ends.specs.declared.item.Item.TheVariants.{One, Stop}
use Rattle.scp_ends.specs.Order.{values}
use Rattle.scp_ends.specs.Ends.{Sender, Receiver}
use Rattle.scp_shared_outbox.specs.Ends.{PutterView}
use Rattle.scp_theorem.specs.scp_ledger.specs.declared.took.Outgoing.{Outgoing}
use Rattle.scp_workers.specs.Working.{sent_by, FitsAlone, AreSameOutlets, AreUnused}
use Rattle.scp_workers.specs.inside.Handing.{PutsOut}
use Rattle.scp_workers.specs.inside.Working.{HasGiven, GivesOn, TakesOn, MayTake}
use Rattle.scp_workers.proofs.Receiving.{one_more, no_more, fits_one}
use Rattle.scp_workers.proofs.Outlets.{have_none, have_more}

module _ {T : Type 0} where
  -- what was received fits
  pub fits_all : (fits : List T → Type 0) (r : Receiver T) (xs : List T) → FitsAlone fits r → (r.producers ≡ 1 → fits xs) → fits xs
  fits_all fits r xs (inl one) f = f one
  fits_all fits r xs (inr all) f = all xs

  -- of as many producers
  pub fits_still : (fits : List T → Type 0) (r s : Receiver T) → s.producers ≡ r.producers → FitsAlone fits r → FitsAlone fits s
  fits_still fits r s e (inl one) = inl (e ∙ one)
  fits_still fits r s e (inr all) = inr all

module _ {T U S : Type 0} (runs : S → List T → List U → List Outgoing → S → Type 0) where
  -- nothing was taken yet
  pub given_none : (rests : S → Type 0) (first : S) (got : List T) (sent : List U) (outlets : List PutterView) → got ≡ [] → sent ≡ [] → AreUnused outlets → runs first [] [] [] first → rests first → HasGiven runs rests first got sent outlets first
  given_none rests first got sent outlets e f unused h left = record {
    out = [];
    all = subst (λ (xs : List T). runs first xs sent [] first) (sym e) (subst (λ (ys : List U). runs first [] ys [] first) (sym f) h);
    put = have_none outlets unused;
    nothing_left = left;
  }

  pub may_take : (rests : S → Type 0) (fits : List T → Type 0) (got : List (Item T)) (n : ℕ) (x : T) (item : Item T) (first stage : S) (old new : Option (Sender U)) (outlets : List PutterView)
      → new ≡ old → item ≡ One n x → fits (values (got ++ item ∷ [])) → HasGiven runs rests first (values got) (sent_by old) outlets stage → MayTake runs fits x (sent_by new) stage
  may_take rests fits got n x item first stage old new outlets e is f h =
      (first, values got, h.out, subst (λ (o : Option (Sender U)). runs first (values got) (sent_by o) h.out stage) (sym e) h.all, fits_one fits got n x item is f)

  -- what is taken, put and given comes after what was
  pub takes_on : (x : T) (old between new : S) (gave more all : List U) (outs : List Outgoing) (before outlets : List PutterView)
      → ((first : S) → (took : List T) → (out : List Outgoing) → runs first took gave out old → runs first (took ++ x ∷ []) more (out ++ outs) between)
      → AreSameOutlets before outlets → PutsOut outs before outlets → GivesOn runs between more new all → TakesOn runs x old gave before new all outlets
  takes_on x old between new gave more all outs before outlets takes same puts gives = λ first took out h have. (
    out ++ outs,
    gives first (took ++ x ∷ []) (out ++ outs) (takes first took out h),
    have_more out outs before outlets same puts have,
  )

  pub ran_one : (rests : S → Type 0) (got now : List (Item T)) (n : ℕ) (x : T) (first old new : S) (tx same : Option (Sender U)) (more : List U) (before outlets : List PutterView)
      → same ≡ tx → now ≡ got ++ One n x ∷ [] → HasGiven runs rests first (values got) (sent_by tx) before old → TakesOn runs x old (sent_by same) before new more outlets → rests new → HasGiven runs rests first (values now) more outlets new
  ran_one rests got now n x first old new tx same more before outlets e is h takes left =
      let did = takes first (values got) h.out (subst (λ (o : Option (Sender U)). runs first (values got) (sent_by o) h.out old) (sym e) h.all) h.put in record {
        out = did.0;
        all = one_more (λ (xs : List T). runs first xs more did.0 new) got now n x is did.1;
        put = did.2;
        nothing_left = left;
      }

  pub ran_stop : (rests : S → Type 0) (got now : List (Item T)) (n : ℕ) (first stage : S) (tx same : Option (Sender U)) (outlets : List PutterView)
      → same ≡ tx → now ≡ got ++ Stop n ∷ [] → HasGiven runs rests first (values got) (sent_by tx) outlets stage → HasGiven runs rests first (values now) (sent_by same) outlets stage
  ran_stop rests got now n first stage tx same outlets e is h = record {
    out = h.out;
    all = no_more (λ (xs : List T). runs first xs (sent_by same) h.out stage) got now n is (subst (λ (o : Option (Sender U)). runs first (values got) (sent_by o) h.out stage) (sym e) h.all);
    put = h.put;
    nothing_left = h.nothing_left;
  }
