-- What the steps of a worker keep.
-- No public clause reaches these definitions: nothing here need be believed.
use Rattle.std.specs.Prelude.{◌≡◌, ℕ, ◌<◌, Bool, false, List, [], ◌∷◌, ◌++◌, slice_index_or}
use Rattle.scp_theorem.specs.scp_types.specs.declared.limits.TheConstants.{NODE_LIMIT}
use Rattle.scp_shared_outbox.specs.Ends.{PutterView}
use Rattle.scp_theorem.specs.scp_ledger.specs.declared.took.Outgoing.{Outgoing}
use Rattle.scp_ends.specs.declared.item.Item.{Item}
use Rattle.scp_ends.specs.Ends.{Receiver, HeardAll, stopped}
use Rattle.scp_workers.specs.Working.{Work, IsSameInput, IsSameOutput, AreSameOutlets, HavePut}

-- each producer was heard to its end, unless nobody sends any more
abbrev pub HearsToTheEnd : {T : Type 0} → Receiver T → Bool → Type 0
HearsToTheEnd input cut_off = cut_off ≡ false → HeardAll input

-- the flags say which producers have ended
abbrev pub AreStops : {T : Type 0} → List Bool → List (Item T) → Type 0
AreStops flags got = (p : ℕ) → p < NODE_LIMIT → slice_index_or flags p false ≡ stopped p got

-- the stage gave and handed out all that it gives of these
pub record HasGiven {T U S : Type 0} (runs : S → List T → List U → List Outgoing → S → Type 0) (rests : S → Type 0) (first : S) (took : List T) (gave : List U) (outlets : List PutterView) (now : S) : Type 0 where
  pub out : List Outgoing
  pub all : runs first took gave out now
  pub put : HavePut out outlets
  pub nothing_left : rests now

-- the stage gave more
abbrev pub GivesOn : {T U S : Type 0} → (S → List T → List U → List Outgoing → S → Type 0) → S → List U → S → List U → Type 0
GivesOn {T} {U} {S} runs old gave new more = (first : S) → (took : List T) → (out : List Outgoing) → runs first took gave out old → runs first took more out new

-- it took one more thing, gave more, and what it handed out was put too
abbrev pub TakesOn : {T U S : Type 0} → (S → List T → List U → List Outgoing → S → Type 0) → T → S → List U → List PutterView → S → List U → List PutterView → Type 0
TakesOn {T} {U} {S} runs x old gave before new more outlets = (first : S) → (took : List T) → (out : List Outgoing) → runs first took gave out old → HavePut out before → (all : List Outgoing) × runs first (took ++ x ∷ []) more all new × HavePut all outlets

-- some list of things was taken to get here
abbrev pub RanTo : {T U S : Type 0} → (S → List T → List U → List Outgoing → S → Type 0) → List U → S → Type 0
RanTo {T} {U} {S} runs gave now = (first : S) × (took : List T) × (out : List Outgoing) × runs first took gave out now

-- the same, and the next thing fits after them
abbrev pub MayTake : {T U S : Type 0} → (S → List T → List U → List Outgoing → S → Type 0) → (List T → Type 0) → T → List U → S → Type 0
MayTake {T} {U} {S} runs fits x gave now = (first : S) × (took : List T) × (out : List Outgoing) × runs first took gave out now × fits (took ++ x ∷ [])

pub record SameEnds {T U S : Type 0} (v w : Work T U S) : Type 0 where
  pub input : IsSameInput v.input w.input
  pub output : IsSameOutput v.output w.output
  pub outlets : AreSameOutlets v.outlets w.outlets
  pub first : w.first ≡ v.first
