-- What the state machine of one slot answers to the inputs of a script, as text (this project's profile).
use Rattle.std.specs.Prelude.{ℕ, ◌≡◌, ◌⊎◌, ◌++◌, List, [], ◌∷◌, Bool, true, false, Option, Some, None, flat_map, codes}
use Rattle.std.specs.Fmt.{decimal}
use Rattle.hex.specs.Hex.{encode_lower}
use Rattle.scp_slot.specs.scp_types.specs.declared.names.NodeId.{NodeId}
use Rattle.scp_slot.specs.scp_xdr.specs.Kind.{Spells}
use Rattle.scp_slot.specs.scp_envelope.specs.Kinds.{envelope_kind, envelope_value}
use Rattle.scp_slot.specs.scp_envelope.specs.declared.statement.Envelope.{Envelope}
use Rattle.scp_slot.specs.scp_driver.specs.declared.driver.Level.{Level}
use Rattle.scp_slot.specs.scp_driver.specs.Kv.{kv_level, greatest}
use Rattle.scp_slot.specs.scp_ballot.specs.declared.balloted.Certified.{Certified}
use Rattle.scp_slot.specs.declared.output.SlotInput.{SlotInput}
use Rattle.scp_slot.specs.declared.output.SlotOutput.{SlotOutput}
use Rattle.scp_slot.specs.declared.output.Verdict.{Verdict}
use Rattle.scp_slot.specs.declared.output.Verdict.TheVariants.{Fresh, Stale, Own, BadStatement, BadValue, Idle}
use Rattle.scp_slot.specs.Slot.{SlotView, Begins}
use Rattle.scp_slot.specs.Takes.{Takes, Decides}
use Rattle.scp_script_slot.specs.declared.script.Script.{Script}
use Rattle.scp_script_slot.specs.declared.script.Setup.{Setup}

-- the word of a verdict
abbrev pub verdict_word : Verdict → List ℕ
verdict_word Fresh = codes "fresh"
verdict_word Stale = codes "stale"
verdict_word Own = codes "own"
verdict_word BadStatement = codes "bad-statement"
verdict_word BadValue = codes "bad-value"
verdict_word Idle = codes "idle"

-- bytes in lower-case hex digits, or a dash for no bytes
abbrev pub hex_word : List ℕ → List ℕ
hex_word [] = codes "-"
hex_word (byte ∷ bytes) = encode_lower (byte ∷ bytes)

-- the line of an emitted envelope of these bytes
abbrev pub emitted_line : List ℕ → List ℕ
emitted_line bytes = codes "emit " ++ hex_word bytes ++ codes "\n"

-- the line of an emitted envelope: the hex digits of its XDR
pub record IsEnvelopeLine (e : Envelope) (text : List ℕ) : Type 0 where
  pub bytes : List ℕ
  pub spells : Spells envelope_kind bytes (envelope_value e)
  pub line : text ≡ emitted_line bytes

-- the line of an emitted envelope; no line if there is none
abbrev pub IsEmitted : Option Envelope → List ℕ → Type 0
IsEmitted None text = text ≡ []
IsEmitted (Some e) text = IsEnvelopeLine e text

-- a node's id in hex digits, after a space
abbrev pub node_word : NodeId → List ℕ
node_word node = codes " " ++ hex_word node.0

-- the line of a decision: the value, the counter of its commit, and the quorum's nodes
abbrev pub decided_line : Certified → List ℕ
decided_line d = codes "decided " ++ hex_word d.value ++ codes " " ++ decimal d.n ++ flat_map node_word d.quorum.keys ++ codes "\n"

-- the line of a decision; no line if there is none
abbrev pub decided_text : Option Certified → List ℕ
decided_text None = []
decided_text (Some d) = decided_line d

-- the line `more` if rules are left, or else no line
abbrev pub more_text : Bool → List ℕ
more_text true = codes "more\n"
more_text false = []

-- the lines of an output: the verdict's word, what is emitted, the decision, and `more` if rules are left
pub record IsOutput (out : SlotOutput) (text : List ℕ) : Type 0 where
  pub nomination : List ℕ
  pub ballot : List ℕ
  pub nominated : IsEmitted out.emitted.nomination nomination
  pub balloted : IsEmitted out.emitted.ballot ballot
  pub whole : text ≡ verdict_word out.verdict ++ codes "\n" ++ nomination ++ ballot ++ decided_text out.decided ++ more_text out.more

-- the machine takes the input, decides if its ballots do, and the text is its output
pub record IsShown (level : ℕ → List ℕ → Level) (combined : ℕ → List (List ℕ) → List ℕ) (input : SlotInput) (old : SlotView) (text : List ℕ) (new : SlotView) : Type 0 where
  pub out : SlotOutput
  pub takes : Takes (level old.slot) (combined old.nomination.slot) input old out new
  pub decides : Decides old out new
  pub shown : IsOutput out text

-- the answer to an input: the machine's output, or `done` after the decision, when the input isn't taken
abbrev pub IsAnswer : (ℕ → List ℕ → Level) → (ℕ → List (List ℕ) → List ℕ) → SlotInput → SlotView → List ℕ → SlotView → Type 0
IsAnswer level combined input old text new =
    ((old.decided ≡ true) × (text ≡ codes "done\n") × (new ≡ old)) ⊎ ((old.decided ≡ false) × IsShown level combined input old text new)

-- the answers to the inputs in their order; each starts from where the one before left the machine
abbrev pub AreAnswers : (ℕ → List ℕ → Level) → (ℕ → List (List ℕ) → List ℕ) → List SlotInput → SlotView → List ℕ → SlotView → Type 0
AreAnswers level combined [] old text new = (text ≡ []) × (new ≡ old)
AreAnswers level combined (input ∷ inputs) old text new =
    (first : List ℕ) × (rest : List ℕ) × (mid : SlotView) × (text ≡ first ++ rest) × IsAnswer level combined input old first mid × AreAnswers level combined inputs mid rest new

-- a machine of this node, slot and quorum set, which has heard and said nothing, gives these answers to the inputs
pub record Answers (level : ℕ → List ℕ → Level) (combined : ℕ → List (List ℕ) → List ℕ) (setup : Setup) (inputs : List SlotInput) (text : List ℕ) : Type 0 where
  pub first : SlotView
  pub last : SlotView
  pub begins : Begins setup.me setup.slot.0 setup.set.value first
  pub answers : AreAnswers level combined inputs first text last

-- the answers to a script's setup and its inputs; no text if there is no setup
abbrev pub IsPlayedBy : Option Setup → List SlotInput → List ℕ → Type 0
IsPlayedBy None inputs text = text ≡ []
IsPlayedBy (Some setup) inputs text = Answers (λ slot. kv_level) (λ slot. greatest) setup inputs text

-- the text is what a machine with the driver for operation lists answers to the script; no text if the script sets up no machine
abbrev pub IsPlayed : Script → List ℕ → Type 0
IsPlayed script text = IsPlayedBy script.setup script.inputs.items text
