-- What a call that reads a shorthand may return.
-- No public clause reaches this: nothing here need be believed.
use Rattle.std.specs.Prelude.{◌≡◌, Result, Ok, Err}
use Rattle.scp_script_text.specs.scp_device.specs.declared.bad.BadWord.{BadWord}
use Rattle.scp_script_text.specs.scp_device.specs.declared.bad.WordFault.{WordFault}
use Rattle.scp_script_text.specs.scp_device.specs.declared.bad.WordFault.TheVariants.{NoMemory, Bad}

-- what a call that reads may return: out of memory, or this reading
abbrev pub Answers : {A : Type 0} → Result A WordFault → Result A BadWord → Type 0
Answers (Ok x) reading = reading ≡ Ok x
Answers (Err NoMemory) reading = Unit {0}
Answers (Err (Bad refusal)) reading = reading ≡ Err refusal
