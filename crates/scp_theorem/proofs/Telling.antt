-- A message after others, and a statement that is said ahead of them.
use Rattle.std.proofs.Common.{◌≡◌, ℕ, Bool, true, false, List, [], ◌∷◌, ◌++◌, refl, sym, ◌∙◌, subst, arith, append-nil, All, get_or, nat_eq}
use Rattle.std.specs.Prelude.{Option, Some, None, if◌then◌else◌}
use Rattle.std.specs.Option.{ForSome}
use Rattle.std.proofs.lemmas.List.Elements.{All-nil, All-cons}
use Rattle.std.proofs.lemmas.List.Quantifiers.{all_pairs_push}
use Rattle.std.proofs.lemmas.Bool.{eqb-true}
use Rattle.scp_outbox.specs.scp_envelope.specs.declared.statement.Envelope.{Envelope as Enveloped}
use Rattle.scp_outbox.specs.scp_envelope.specs.declared.statement.Statement.{Statement}
use Rattle.scp_outbox.specs.scp_wire.specs.declared.message.Message.{Message}
use Rattle.scp_outbox.specs.scp_wire.specs.declared.message.Message.TheVariants.{Envelope, GetSet, Set, NoSet, GetRecord, Record, Records}
use Rattle.scp_outbox.specs.Outbox.{is_nomination, same_bool}
use Rattle.scp_outbox.specs.Handing.{to_link}
use Rattle.scp_outbox.specs.Sent.{statement_of, IsStep, AreNewer}
use Rattle.scp_apply.specs.scp_ledger.specs.Seen.{LedgerView}
use Rattle.scp_theorem.specs.Grounds.{Grounds, MaySend}
use Rattle.scp_theorem.proofs.Basics.{true_isnt, and_second}
use Rattle.scp_theorem.proofs.Machines.{IsBehind, MayTell}

-- ---- one message, and a message for one link

pub all_one : (P : Message → Type 0) (m : Message) → P m → All P (m ∷ [])
all_one P m p = All-cons P m [] p (All-nil P)

pub all_to : (P : ℕ → Message → Type 0) (to link : ℕ) (m : Message) → P to m → All (P link) (to_link to m link)
all_to P to link m p = by_test (nat_eq link to) refl
  where
    by_test : (b : Bool) → nat_eq link to ≡ b → All (P link) (if b then m ∷ [] else [])
    by_test true e = all_one (P link) m (subst (λ (l : ℕ). P l m) (sym (eqb-true link to e)) p)
    by_test false e = All-nil (P link)

-- ---- a message after others

pub none_newer : AreNewer []
none_newer i j d lt below = absurd (omega (arith, below))

-- a message is newer than all of these that are of its slot and kind
abbrev pub IsAhead : List Message → Message → Type 0
IsAhead messages m = All (λ n. IsStep (statement_of n) (statement_of m)) messages

pub newer_push : (messages : List Message) (m : Message) → AreNewer messages → IsAhead messages m → AreNewer (messages ++ m ∷ [])
newer_push messages m newer ahead = all_pairs_push (λ a b. IsStep (statement_of a) (statement_of b)) messages m newer (λ k d below. ahead k d below)

-- what is no statement
step_to : (o : Option Statement) (m : Message) → statement_of m ≡ None → IsStep o (statement_of m)
step_to o m e = subst (IsStep o) (sym e) (at_none o)
  where
    at_none : (o : Option Statement) → IsStep o None
    at_none None = tt
    at_none (Some s) = tt

pub newer_to : (messages : List Message) (to link : ℕ) (m : Message) → statement_of m ≡ None → AreNewer messages → AreNewer (messages ++ to_link to m link)
newer_to messages to link m e newer = by_test (nat_eq link to)
  where
    by_test : (b : Bool) → AreNewer (messages ++ (if b then m ∷ [] else []))
    by_test true = newer_push messages m newer (λ k d below. step_to (statement_of (get_or messages k d)) m e)
    by_test false = subst AreNewer (sym (append-nil messages)) newer

-- ---- statements behind their machines

module _ {D : Type 0} where
  -- a statement that was handed out is behind its machine
  abbrev pub IsSaid : LedgerView D → Message → Type 0
  IsSaid v m = ForSome (statement_of m) (IsBehind v)

  pub nothing_said : (v : LedgerView D) (m : Message) → statement_of m ≡ None → IsSaid v m
  nothing_said v m none s e = absurd (some_isnt s (sym none ∙ e))
    where
      some_isnt : (x : Statement) → None ≡ Some x → ⊥
      some_isnt x e = cc

-- the message of a statement
abbrev pub told : Enveloped → Message
told e = Envelope (record { value = e })

module _ {D : Type 0} where
  pub is_said : (v : LedgerView D) (e : Enveloped) → IsBehind v e.statement → IsSaid v (told e)
  is_said v e behind s is = subst (IsBehind v) (some_is e.statement s is) behind
    where
      some_is : (x y : Statement) → Some x ≡ Some y → x ≡ y
      some_is x y k = cc

  -- a message that was handed out, and a statement that is said
  pub step_told : (g : Grounds) (old new : LedgerView D) (link : ℕ) (e : Enveloped) (n : Message) → MaySend g link n → IsSaid old n → MayTell g.who old new e → IsStep (statement_of n) (Some e.statement)
  step_told g old new link e (Envelope b) may said tell = λ alike. tell.ahead b.value.statement may.0.node (said b.value.statement refl) alike
  step_told g old new link e (GetSet hash) may said tell = tt
  step_told g old new link e (Set set) may said tell = tt
  step_told g old new link e (NoSet hash) may said tell = tt
  step_told g old new link e (GetRecord slot) may said tell = tt
  step_told g old new link e (Record slot value) may said tell = tt
  step_told g old new link e (Records first values) may said tell = tt

-- of two kinds
pub apart : (d e : Enveloped) → is_nomination d.statement.pledges ≡ true → is_nomination e.statement.pledges ≡ false → IsStep (Some d.statement) (Some e.statement)
apart d e nom bal = λ alike. absurd (differ (is_nomination d.statement.pledges) (is_nomination e.statement.pledges) nom bal (and_second (nat_eq d.statement.slot.0 e.statement.slot.0) (same_bool (is_nomination d.statement.pledges) (is_nomination e.statement.pledges)) alike))
  where
    differ : (a b : Bool) → a ≡ true → b ≡ false → same_bool a b ≡ true → ⊥
    differ true true x y z = true_isnt y
    differ true false x y z = true_isnt (sym z)
    differ false b x y z = true_isnt (sym x)
