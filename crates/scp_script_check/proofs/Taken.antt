-- A script that is being read, line by line.
use Rattle.std.proofs.Common.{◌≡◌, ℕ, ◌+◌, ◌≤◌, Bool, true, false, not, ◌&&◌, ◌||◌, List, [], ◌∷◌, ◌++◌, length, take, drop, map, Option, Some, None, is_some, option_to_list, refl, sym, ◌∙◌, ap, subst, arith, append-nil}
use Rattle.std.specs.Prelude.{if◌then◌else◌, All}
use Rattle.std.proofs.lemmas.List.{length-take-le}
use Rattle.scp_script_text.specs.declared.script.Form.TheVariants.{Hex}
use Rattle.scp_script_text.specs.Scripts.{lines_of, IsLineOf, AreLinesOf}
use Rattle.scp_script.specs.declared.command.Command.{Command}
use Rattle.scp_script.specs.declared.reading.Reading.{Reading}
use Rattle.scp_script.specs.Words.{words_of, is_skipped, is_ascii}
use Rattle.scp_script.specs.Script.{command_in, commands_of, AreLines, AreAdmitted}
use Rattle.scp_script.specs.Nodes.{NamesNodes}
use Rattle.scp_script.specs.inside.Reading.{HasRead}
use Rattle.scp_script.specs.Reading.{IsReading, Stands}
use Rattle.scp_script.proofs.Lines.{reads-more, lines-more}
use Rattle.scp_script.specs.scp_device.specs.declared.bad.ReadFault.{ReadFault}
use Rattle.scp_script.specs.scp_device.specs.declared.bad.ReadFault.TheVariants as faults
use Rattle.scp_script_check.specs.Lines.{numbers_of, IsSaid, IsBad, IsReason}
use Rattle.scp_script_check.specs.inside.Lines.{IsTaken, IsPlaced, IsFound}

-- these lines were read
pub record HasTaken (lines : List (List ℕ)) (reading : Reading) (numbers : List ℕ) : Type 0 where
  pub digits : List (List ℕ)
  pub written : AreLinesOf Hex lines digits
  pub read : HasRead reading digits
  pub good : AreLines digits
  pub numbers_are : numbers ≡ numbers_of 1 digits

pub nothing_taken : (reading : Reading) (numbers : List ℕ) → reading.commands.items ≡ [] → IsReading reading → numbers ≡ [] → HasTaken [] reading numbers
nothing_taken reading numbers none r e = record {
  digits = [];
  written = tt;
  read = record { reading = r; commands = none };
  good = record { each = refl; admitted = tt };
  numbers_are = e;
}

more_lines : (lines outs : List (List ℕ)) (line out : List ℕ) → AreLinesOf Hex lines outs → IsLineOf Hex line out → AreLinesOf Hex (lines ++ line ∷ []) (outs ++ out ∷ [])
more_lines [] [] line out w l = (l, tt)
more_lines [] (o ∷ os) line out w l = absurd w
more_lines (x ∷ xs) [] line out w l = absurd w
more_lines (x ∷ xs) (o ∷ os) line out w l = (w.0, more_lines xs os line out w.1 l)

same_length : (lines outs : List (List ℕ)) → AreLinesOf Hex lines outs → length outs ≡ length lines
same_length [] [] w = refl
same_length [] (o ∷ os) w = absurd w
same_length (x ∷ xs) [] w = absurd w
same_length (x ∷ xs) (o ∷ os) w = omega (arith, same_length xs os w.1)

-- ---- the numbers of the lines

behind : (o : Option Command) (n : ℕ) (ps qs last : List ℕ) → qs ≡ ps ++ last → map (λ (c : Command). n) (option_to_list o) ++ qs ≡ (map (λ (c : Command). n) (option_to_list o) ++ ps) ++ last
behind None n ps qs last e = e
behind (Some c) n ps qs last e = ap (λ l. n ∷ l) e

alone : (o : Option Command) (n m : ℕ) → n ≡ m → map (λ (c : Command). n) (option_to_list o) ++ [] ≡ map (λ (c : Command). m) (option_to_list o)
alone None n m e = refl
alone (Some c) n m e = ap (λ k. k ∷ []) e

numbers_more : (n m : ℕ) (ds : List (List ℕ)) (d : List ℕ) → n + length ds ≡ m
    → numbers_of n (ds ++ d ∷ []) ≡ numbers_of n ds ++ map (λ (c : Command). m) (option_to_list (command_in (words_of d)))
numbers_more n m [] d e = alone (command_in (words_of d)) n m (omega (arith, e))
numbers_more n m (x ∷ xs) d e =
    behind (command_in (words_of x)) n (numbers_of (n + 1) xs) (numbers_of (n + 1) (xs ++ d ∷ [])) (map (λ (c : Command). m) (option_to_list (command_in (words_of d)))) (numbers_more (n + 1) m xs d (omega (arith, e)))

-- a line that stands holds a command just where it isn't skipped
one_number : (o : Option Command) (ascii skipped : Bool) (m : ℕ) (numbers : List ℕ) → (ascii && (skipped || is_some o)) ≡ true → (skipped ≡ true → o ≡ None)
    → numbers ++ map (λ (c : Command). m) (option_to_list o) ≡ (if not skipped then numbers ++ m ∷ [] else numbers)
one_number None ascii true m numbers good none = append-nil numbers
one_number None true false m numbers good none = absurd cc
one_number None false false m numbers good none = absurd cc
one_number (Some c) ascii false m numbers good none = refl
one_number (Some c) ascii true m numbers good none = absurd (let e : Some c ≡ None = none refl in cc e)

skipped_none : (d : List ℕ) → is_skipped d ≡ true → command_in (words_of d) ≡ None
skipped_none d e = rw e refl

-- a line more was taken in
pub taken_more : (lines : List (List ℕ)) (line : List ℕ) (old new : Reading) (numbers numbers2 : List ℕ) (holds : Bool) (number : ℕ)
    → HasTaken lines old numbers → IsTaken old line holds new → number ≡ length lines + 1 → numbers2 ≡ (if holds then numbers ++ number ∷ [] else numbers)
    → HasTaken (lines ++ line ∷ []) new numbers2
taken_more lines line old new numbers numbers2 holds number h t n e =
    let stands : Stands (commands_of h.digits) t.digits = subst (λ (cs : List Command). Stands cs t.digits) h.read.commands t.stands in
    let many : 1 + length h.digits ≡ number = omega (arith, n, same_length lines h.digits h.written) in
    record {
      digits = h.digits ++ t.digits ∷ [];
      written = more_lines lines h.digits line t.digits h.written t.written;
      read = reads-more old new h.digits t.digits h.read t.taken;
      good = lines-more h.digits t.digits h.good stands;
      numbers_are =
          e
          ∙ ap (λ (b : Bool). if b then numbers ++ number ∷ [] else numbers) t.holds_is
          ∙ sym (one_number (command_in (words_of t.digits)) (is_ascii t.digits) (is_skipped t.digits) number numbers stands.0 (skipped_none t.digits))
          ∙ ap (λ l. l ++ map (λ (c : Command). number) (option_to_list (command_in (words_of t.digits)))) h.numbers_are
          ∙ sym (numbers_more 1 number h.digits t.digits many);
    }

-- ---- all was read

pub all_said : (text : List ℕ) (reading : Reading) (numbers : List ℕ) → HasTaken (lines_of text) reading numbers → IsSaid text reading.commands.items numbers
all_said text reading numbers h = record { digits = h.digits; written = h.written; good = h.good; commands_are = h.read.commands; lines_are = h.numbers_are }

pub all_named : (lines : List (List ℕ)) (reading : Reading) (numbers : List ℕ) → HasTaken lines reading numbers → All NamesNodes reading.commands.items
all_named lines reading numbers h = h.read.reading.nodes

pub all_admitted : (lines : List (List ℕ)) (reading : Reading) (numbers : List ℕ) → HasTaken lines reading numbers → AreAdmitted [] reading.commands.items
all_admitted lines reading numbers h = subst (λ (cs : List Command). AreAdmitted [] cs) (sym h.read.commands) h.good.admitted

-- ---- a line is bad

pub refused_there : (text : List ℕ) (i : ℕ) (line : List ℕ) (reading : Reading) (numbers : List ℕ) (fault : ReadFault)
    → lines_of text ≡ take i (lines_of text) ++ line ∷ drop (i + 1) (lines_of text) → i ≤ length (lines_of text) → HasTaken (take i (lines_of text)) reading numbers
    → IsPlaced reading.commands.items line (i + 1) fault → IsFound text fault
refused_there text i line reading numbers faults.NoMemory parts within h p = tt
refused_there text i line reading numbers (faults.BadAt number) parts within h p = record {
  front = take i (lines_of text);
  line = line;
  back = drop (i + 1) (lines_of text);
  digits = h.digits;
  lines = parts;
  place = p.0 ∙ ap (λ n. n + 1) (sym (length-take-le i (lines_of text) within));
  written = h.written;
  good = h.good;
  is_bad = subst (λ (cs : List Command). IsBad cs line) h.read.commands p.1;
}
refused_there text i line reading numbers (faults.Bad bad) parts within h p = record {
  line = record {
    front = take i (lines_of text);
    line = line;
    back = drop (i + 1) (lines_of text);
    digits = h.digits;
    lines = parts;
    place = p.0 ∙ ap (λ n. n + 1) (sym (length-take-le i (lines_of text) within));
    written = h.written;
    good = h.good;
    is_bad = subst (λ (cs : List Command). IsBad cs line) h.read.commands p.1;
  };
  reason = subst (λ (cs : List Command). IsReason cs line (Some bad.bad)) h.read.commands p.2;
}
