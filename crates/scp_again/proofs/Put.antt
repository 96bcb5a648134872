-- What a step puts into the outboxes: statements that were just said, each newer than all of its slot and kind, and no two of one slot and kind.
use Rattle.std.proofs.Common.{◌≡◌, ℕ, Bool, true, false, List, [], ◌∷◌, refl, sym, ◌∙◌, subst, All, get_or, map, inl, inr, ◌++◌}
use Rattle.std.specs.Prelude.{Option, Some, None, AllPairs, option_to_list}
use Rattle.std.specs.Option.{ForSome}
use Rattle.std.proofs.lemmas.List.Elements.{All-nil, All-cons, All-head, All-tail}
use Rattle.std.proofs.lemmas.List.Kept.{AllPairs-cons}
use Rattle.scp_core.specs.scp_envelope.specs.Newer.{IsNewer}
use Rattle.scp_core.specs.scp_envelope.specs.declared.statement.Envelope.{Envelope as Enveloped}
use Rattle.scp_core.specs.scp_envelope.specs.declared.statement.Statement.{Statement}
use Rattle.scp_core.specs.scp_wire.specs.declared.message.Message.{Message}
use Rattle.scp_core.specs.scp_outbox.specs.Outbox.{is_nomination, are_alike}
use Rattle.scp_core.specs.scp_outbox.specs.Sent.{statement_of}
use Rattle.scp_core.specs.scp_slot.specs.declared.output.Emitted.{Emitted}
use Rattle.scp_core.specs.scp_ledger.specs.Seen.{LedgerView}
use Rattle.scp_core.specs.scp_ledger.specs.Takes.{to_all, to_peers}
use Rattle.scp_core.specs.scp_theorem.specs.Grounds.{Who}
use Rattle.scp_core.specs.scp_theorem.specs.Handed.{handed_by}
use Rattle.scp_core.specs.scp_theorem.proofs.Basics.{none_some, some_same, which}
use Rattle.scp_core.specs.scp_theorem.proofs.Telling.{told}
use Rattle.scp_again.proofs.Lists.{pairs_none, all_one}
use Rattle.scp_again.proofs.Current.{true_false, kinds_are, IsSaid, IsLast}

-- no two statements of one slot and kind
abbrev pub IsApart : Option Statement → Option Statement → Type 0
IsApart (Some s) (Some t) = are_alike s t ≡ false
IsApart (Some s) None = Unit {0}
IsApart None (Some t) = Unit {0}
IsApart None None = Unit {0}

pub apart_none : (o p : Option Statement) → p ≡ None → IsApart o p
apart_none (Some s) p e = subst (IsApart (Some s)) (sym e) tt
apart_none None p e = subst (IsApart None) (sym e) tt

pairs_one : (m : Message) → AllPairs (λ a b. IsApart (statement_of a) (statement_of b)) (m ∷ [])
pairs_one m = AllPairs-cons (λ a b. IsApart (statement_of a) (statement_of b)) m [] (All-nil (λ b. IsApart (statement_of m) (statement_of b))) (pairs_none (λ a b. IsApart (statement_of a) (statement_of b)))

-- it isn't alike to any that is emitted
abbrev pub IsApartFrom : Statement → Option Enveloped → Type 0
IsApartFrom s found = (e : Enveloped) → found ≡ Some e → are_alike s e.statement ≡ false

of_message : (P : Statement → Type 0) (e : Enveloped) → P e.statement → ForSome (statement_of (told e)) P
of_message P e p s is = subst P (some_same (statement_of (told e)) e.statement s refl is) p

kinds_apart : (s t : Statement) → is_nomination s.pledges ≡ true → is_nomination t.pledges ≡ false → are_alike s t ≡ false
kinds_apart s t x y = elim (which (are_alike s t)) [
  | inl like ↦ true_false (is_nomination s.pledges) x (kinds_are s t like ∙ y)
  | inr not_like ↦ not_like
]

some_apart : (s : Statement) (d : Enveloped) → are_alike s d.statement ≡ false → IsApartFrom s (Some d)
some_apart s d apart e is = subst (λ (x : Enveloped). are_alike s x.statement ≡ false) (some_same (Some d) d e refl is) apart

none_apart : (s : Statement) → IsApartFrom s None
none_apart s e is = none_some None e refl is

module _ {D : Type 0} where
  -- a statement that was just said
  pub record IsFresh (who : Who) (old new : LedgerView D) (s : Statement) : Type 0 where
    pub said : IsSaid who new s
    pub last : IsLast new s
    pub ahead : (t : Statement) → IsSaid who old t → are_alike t s ≡ true → IsNewer t s

  pub record ArePut (who : Who) (old new : LedgerView D) (messages : List Message) : Type 0 where
    pub fresh : All (λ m. ForSome (statement_of m) (IsFresh who old new)) messages
    pub apart : AllPairs (λ m n. IsApart (statement_of m) (statement_of n)) messages
    pub stays : (s : Statement) → IsLast old s → All (λ m. IsApart (Some s) (statement_of m)) messages → IsLast new s

  -- no statement is put
  pub put_quiet : (who : Who) (old new : LedgerView D) (messages : List Message) → All (λ m. statement_of m ≡ None) messages → ((s : Statement) → IsLast old s → IsLast new s) → ArePut who old new messages
  put_quiet who old new messages none stays = record {
    fresh = λ k d below s is. none_some (statement_of (get_or messages k d)) s (none k d below) is;
    apart = λ i j d lt below. apart_none (statement_of (get_or messages i d)) (statement_of (get_or messages j d)) (none j d below);
    stays = λ s l apart. stays s l;
  }

  -- ---- what a machine emits

  -- of the kind, the statement is fresh
  abbrev pub AreFresh : Who → LedgerView D → LedgerView D → Bool → Option Enveloped → Type 0
  AreFresh who old new kind found = (e : Enveloped) → found ≡ Some e → IsFresh who old new e.statement × (is_nomination e.statement.pledges ≡ kind)

  module _ (who : Who) (old new : LedgerView D) where
    put_peers : (nomination ballot : Option Enveloped) (link : ℕ) → AreFresh who old new true nomination → AreFresh who old new false ballot
        → ((s : Statement) → IsLast old s → IsApartFrom s nomination → IsApartFrom s ballot → IsLast new s)
        → ArePut who old new (handed_by (map to_all (option_to_list nomination ++ option_to_list ballot)) link)
    put_peers None None link n b stays = record {
      fresh = All-nil (λ m. ForSome (statement_of m) (IsFresh who old new));
      apart = pairs_none (λ m n. IsApart (statement_of m) (statement_of n));
      stays = λ s l apart. stays s l (none_apart s) (none_apart s);
    }
    put_peers (Some d) None link n b stays = record {
      fresh = all_one (λ m. ForSome (statement_of m) (IsFresh who old new)) (told d) (of_message (IsFresh who old new) d (n d refl).0);
      apart = pairs_one (told d);
      stays = λ s l apart. stays s l (some_apart s d (All-head (λ m. IsApart (Some s) (statement_of m)) (told d) [] apart)) (none_apart s);
    }
    put_peers None (Some e) link n b stays = record {
      fresh = all_one (λ m. ForSome (statement_of m) (IsFresh who old new)) (told e) (of_message (IsFresh who old new) e (b e refl).0);
      apart = pairs_one (told e);
      stays = λ s l apart. stays s l (none_apart s) (some_apart s e (All-head (λ m. IsApart (Some s) (statement_of m)) (told e) [] apart));
    }
    put_peers (Some d) (Some e) link n b stays = record {
      fresh = All-cons (λ m. ForSome (statement_of m) (IsFresh who old new)) (told d) (told e ∷ []) (of_message (IsFresh who old new) d (n d refl).0) (all_one (λ m. ForSome (statement_of m) (IsFresh who old new)) (told e) (of_message (IsFresh who old new) e (b e refl).0));
      apart = AllPairs-cons (λ m n. IsApart (statement_of m) (statement_of n)) (told d) (told e ∷ []) (all_one (λ m. IsApart (Some d.statement) (statement_of m)) (told e) (kinds_apart d.statement e.statement (n d refl).1 (b e refl).1)) (pairs_one (told e));
      stays = λ s l apart. stays s l (some_apart s d (All-head (λ m. IsApart (Some s) (statement_of m)) (told d) (told e ∷ []) apart)) (some_apart s e (All-head (λ m. IsApart (Some s) (statement_of m)) (told e) [] (All-tail (λ m. IsApart (Some s) (statement_of m)) (told d) (told e ∷ []) apart)));
    }

    -- what is emitted goes to all peers
    pub put_emitted : (emitted : Emitted) (link : ℕ) → AreFresh who old new true emitted.nomination → AreFresh who old new false emitted.ballot
        → ((s : Statement) → IsLast old s → IsApartFrom s emitted.nomination → IsApartFrom s emitted.ballot → IsLast new s) → ArePut who old new (handed_by (to_peers emitted) link)
    put_emitted emitted link n b stays = put_peers emitted.nomination emitted.ballot link n b stays
