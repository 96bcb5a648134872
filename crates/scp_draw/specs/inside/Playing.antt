-- Playing a script as the code does it.
-- No public clause reaches this definition: nothing here need be believed.
use Rattle.std.specs.Prelude.{false, []}
use Rattle.scp_trace.specs.scp_facts.specs.declared.watch.Awaited.TheVariants.{Nothing}
use Rattle.scp_draw.specs.declared.playing.LineFacts.{LineFacts}

-- a watch that has noted nothing
abbrev pub begun : LineFacts
begun = record { facts = record { tellings = []; awaited = Nothing; lacks_memory = false } }
