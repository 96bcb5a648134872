use Rattle.std.proofs.Common.{◌∙◌, sym, map}
use Rattle.std.specs.Prelude.{string_bytes}
use Rattle.scp_live_lines.proofs.Behind.{says_first, wrong_first, bytes_first}
use Rattle.scp_live_lines.proofs.reading.read_words.Goals as goal

pub returns-in-Some-clause-read : goal.returns-in-Some-clause-read
returns-in-Some-clause-read c = says_first (map string_bytes c.args.names.now) c.args.words.now _ c.in-Some.verb c.in-len1-up.len_at_least (sym c.verb_of.ensures ∙ c.in-Some.is) c.read_behind.result c.read_behind.ensures.read

pub returns-in-Some-clause-bad : goal.returns-in-Some-clause-bad
returns-in-Some-clause-bad c = wrong_first (map string_bytes c.args.names.now) c.args.words.now _ c.in-Some.verb c.in-len1-up.len_at_least (sym c.verb_of.ensures ∙ c.in-Some.is) c.read_behind.result c.read_behind.ensures.bad

pub returns-in-Some-clause-memory : goal.returns-in-Some-clause-memory
returns-in-Some-clause-memory c = λ none. bytes_first (map string_bytes c.args.names.now) c.args.words.now _ c.in-Some.verb c.in-len1-up.len_at_least (sym c.verb_of.ensures ∙ c.in-Some.is) (c.read_behind.ensures.memory none)
