-- What a refused line means.
use Rattle.std.specs.Prelude.{Result, Ok, Err}
use Rattle.scp_script.specs.scp_device.specs.declared.bad.WordFault.{WordFault}
use Rattle.scp_script.specs.scp_device.specs.declared.bad.WordFault.TheVariants.{Bad, NoMemory}
use Rattle.scp_script.specs.scp_device.specs.declared.bad.BadWord.{BadWord}

-- This holds of the refused word, if the fault is a bad word. Running out of memory says nothing.
abbrev pub IfRefusal : WordFault → (BadWord → Type 0) → Type 0
IfRefusal (Bad refusal) Is = Is refusal
IfRefusal NoMemory Is = Unit {0}

-- This holds of the refused word, if the line was refused for a bad word.
abbrev pub IfBad : {A : Type 0} → Result A WordFault → (BadWord → Type 0) → Type 0
IfBad (Ok a) Is = Unit {0}
IfBad (Err bad) Is = IfRefusal bad Is
