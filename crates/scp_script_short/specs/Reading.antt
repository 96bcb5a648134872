-- The words of a shorthand (this project's profile): `open all`, `rounds SLOT K`, `catchup I J N`.
use Rattle.std.specs.Prelude.{ℕ, ◌+◌, Bool, true, false, ◌&&◌, List, [], ◌∷◌, Option, Some, None, Result, Ok, Err, if◌then◌else◌, codes, slice_get, option_map, nat_eq, nat_le}
use Rattle.scp_script_text.specs.scp_types.specs.declared.names.Slot.{Slot}
use Rattle.scp_script_text.specs.scp_text.specs.Pieces.{same, number_in}
use Rattle.scp_script_text.specs.scp_text.specs.Sets.{counter_in}
use Rattle.scp_script_short.specs.declared.reading.TheConstants.{COUNT_LIMIT}
use Rattle.scp_script_text.specs.scp_device.specs.declared.bad.Expected.{Expected}
use Rattle.scp_script_text.specs.scp_device.specs.declared.bad.Expected.TheVariants.{ASlot, HowMany, ANode, AnotherNode, NoMore}
use Rattle.scp_script_text.specs.scp_device.specs.declared.bad.BadWord.{BadWord}
use Rattle.scp_script_short.specs.declared.shorthand.Shorthand.{Shorthand}
use Rattle.scp_script_short.specs.declared.shorthand.Shorthand.TheVariants.{OpenAll, Rounds, CatchUp}

infixl 10 ◌>>=◌
-- one reading after another; the first refusal ends it
abbrev pub ◌>>=◌ : {A B : Type 0} → Result A BadWord → (A → Result B BadWord) → Result B BadWord
(Ok x) >>= f = f x
(Err e) >>= f = Err e

-- what was found, or the refusal of the word at this place
abbrev pub or_refused : {A : Type 0} → Option A → ℕ → Expected → Result A BadWord
or_refused (Some x) place expected = Ok x
or_refused None place expected = Err (record { word = place; expected = expected })

-- what the word says, if there is one
abbrev pub said_by : {A : Type 0} → (List ℕ → Option A) → Option (List ℕ) → Option A
said_by says (Some word) = says word
said_by says None = None

-- what the word at a place, from 0 on, says; a refusal reports the place from 1 on
abbrev pub at : {A : Type 0} → (List ℕ → Option A) → Expected → List (List ℕ) → ℕ → Result A BadWord
at says expected words place = or_refused (said_by says (slice_get words place)) (place + 1) expected

-- there is no word, or it is refused at this place
abbrev pub no_word : Option (List ℕ) → ℕ → Result Bool BadWord
no_word None place = Ok true
no_word (Some word) place = Err (record { word = place; expected = NoMore })

-- there is no word at this place, from 0 on
abbrev pub ended : List (List ℕ) → ℕ → Result Bool BadWord
ended words place = no_word (slice_get words place) (place + 1)

-- the number, if it is from 1 to `most`
abbrev pub up_to : ℕ → Option ℕ → Option ℕ
up_to most (Some number) = if nat_le 1 number && nat_le number most then Some number else None
up_to most None = None

-- a number from 1 to `most`, without a sign or a leading zero
abbrev pub number_to : ℕ → List ℕ → Option ℕ
number_to most word = up_to most (counter_in word)

-- the number, unless it is `node`
abbrev pub unless : ℕ → Option ℕ → Option ℕ
unless node (Some number) = if nat_eq number node then None else Some number
unless node None = None

-- the number of a node from 1 to `nodes` that isn't `node`
abbrev pub other_to : ℕ → ℕ → List ℕ → Option ℕ
other_to nodes node word = unless node (number_to nodes word)

-- a slot
abbrev pub slot_in : List ℕ → Option Slot
slot_in word = option_map (λ number. record { 0 = number }) (number_in word)

-- the word after the first is `all`
abbrev pub is_all : List (List ℕ) → Bool
is_all [] = false
is_all (verb ∷ []) = false
is_all (verb ∷ word ∷ words) = same word (codes "all")

-- `open all`
abbrev pub open_all_in : ℕ → List (List ℕ) → Result Shorthand BadWord
open_all_in nodes words = do
  done ← ended words 2
  Ok (OpenAll nodes)

-- `rounds SLOT K`, K from 1 to 65,535
abbrev pub rounds_in : ℕ → List (List ℕ) → Result Shorthand BadWord
rounds_in nodes words = do
  slot ← at slot_in ASlot words 1
  times ← at (number_to COUNT_LIMIT) HowMany words 2
  done ← ended words 3
  Ok (Rounds nodes slot times)

-- `catchup I J N`, I and J two different nodes, N from 1 to 65,535
abbrev pub catch_up_in : ℕ → List (List ℕ) → Result Shorthand BadWord
catch_up_in nodes words = do
  node ← at (number_to nodes) (ANode nodes) words 1
  peer ← at (other_to nodes node) (AnotherNode nodes) words 2
  until ← at (number_to COUNT_LIMIT) HowMany words 3
  done ← ended words 4
  Ok (CatchUp node peer until)

-- a shorthand was read
abbrev pub a_shorthand : Result Shorthand BadWord → Result (Option Shorthand) BadWord
a_shorthand (Ok shorthand) = Ok (Some shorthand)
a_shorthand (Err refusal) = Err refusal

-- the shorthand that words say, judged by the first of them; nothing if they are no shorthand
abbrev pub shorthand_by : ℕ → List ℕ → List (List ℕ) → Result (Option Shorthand) BadWord
shorthand_by nodes verb words =
    if same verb (codes "rounds") then a_shorthand (rounds_in nodes words)
    else (if same verb (codes "catchup") then a_shorthand (catch_up_in nodes words)
    else (if same verb (codes "open") && is_all words then a_shorthand (open_all_in nodes words)
    else Ok None))

-- the shorthand that the words of a line say in a script of this many nodes, or nothing, or the first bad word of a shorthand
abbrev pub shorthand_in : ℕ → List (List ℕ) → Result (Option Shorthand) BadWord
shorthand_in nodes [] = Ok None
shorthand_in nodes (verb ∷ words) = shorthand_by nodes verb (verb ∷ words)
