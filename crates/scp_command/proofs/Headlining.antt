-- What a command answers to a script that is played is of nodes that hold their headlines.
use Rattle.std.proofs.Common.{ℕ, List}
use Rattle.scp_notices.specs.scp_line.specs.Headlines.{PlayingKeepsHeadlines, ReportingKeepsHeadlines}
use Rattle.scp_convert.specs.scp_prompt.specs.declared.asked.Mode.{Mode}
use Rattle.scp_convert.specs.scp_prompt.specs.declared.asked.Mode.TheVariants.{Serial, Threads}
use Rattle.scp_convert.specs.scp_prompt.specs.declared.asked.Shape.{Shape}
use Rattle.scp_convert.specs.scp_prompt.specs.declared.asked.Task.{Task}
use Rattle.scp_convert.specs.scp_prompt.specs.declared.asked.Task.TheVariants.{Run, Account, Check, Stand, Trace, Draw, Slot, Quorums, Hex, Text}
use Rattle.scp_command.specs.declared.answer.Answer.{Answer}
use Rattle.scp_command.specs.Answers.{Answers, IsRunAnswer, IsThreadsAnswer, IsAccountAnswer, IsThreadsAccount, IsHeadlinedRun, IsHeadlinedInThreads, IsHeadlinedAccount, IsHeadlinedThreadsAccount, IsHeadlinedFor}

run_headlined : PlayingKeepsHeadlines → (shape : Shape) (input : List ℕ) (answer : Answer) → IsRunAnswer shape input answer → IsHeadlinedRun shape input answer
run_headlined law shape input answer is =
    let played = is.ran.shows.run.played in
    record {
      given = is.given;
      is_given = is.is_given;
      commands = is.script.commands.items;
      lines = is.script.lines.items;
      said = is.ran.said;
      nodes = is.network.nodes;
      each = law is.script.commands.items played.heard is.network.nodes played.played;
      reports = is.reports;
    }

threads_headlined : ReportingKeepsHeadlines → (shape : Shape) (input : List ℕ) (answer : Answer) → IsThreadsAnswer shape input answer → IsHeadlinedInThreads shape input answer
threads_headlined law shape input answer is = record {
  given = is.given;
  is_given = is.is_given;
  commands = is.script.commands.items;
  lines = is.script.lines.items;
  said = is.ran.said;
  nodes = is.nodes;
  each = law is.script.commands.items is.nodes is.ran.shows.reported;
  reports = is.reports;
}

account_headlined : PlayingKeepsHeadlines → (input : List ℕ) (answer : Answer) → IsAccountAnswer input answer → IsHeadlinedAccount input answer
account_headlined law input answer is =
    let played = is.is_kept.played in
    record {
      given = is.given;
      is_given = is.is_given;
      commands = is.script.commands.items;
      lines = is.script.lines.items;
      said = is.ran.said;
      network = is.network;
      kept = is.kept;
      is_kept = is.is_kept;
      each = law is.script.commands.items played.heard is.network.nodes played.played;
      account = is.account;
    }

threads_account_headlined : ReportingKeepsHeadlines → (input : List ℕ) (answer : Answer) → IsThreadsAccount input answer → IsHeadlinedThreadsAccount input answer
threads_account_headlined law input answer is = record {
  given = is.given;
  is_given = is.is_given;
  commands = is.script.commands.items;
  lines = is.script.lines.items;
  said = is.ran.said;
  nodes = is.nodes;
  each = law is.script.commands.items is.nodes is.ran.shows.reported;
  kept = is.kept;
  account = is.account;
}

pub headlined : PlayingKeepsHeadlines → ReportingKeepsHeadlines → (task : Task) (input : List ℕ) (answer : Answer) → Answers task input answer → IsHeadlinedFor task input answer
headlined played reported (Run Serial shape) input answer is = run_headlined played shape input answer is
headlined played reported (Run Threads shape) input answer is = threads_headlined reported shape input answer is
headlined played reported (Account Serial) input answer is = account_headlined played input answer is
headlined played reported (Account Threads) input answer is = threads_account_headlined reported input answer is
headlined played reported Check input answer is = tt
headlined played reported Stand input answer is = tt
headlined played reported Trace input answer is = tt
headlined played reported Draw input answer is = tt
headlined played reported Slot input answer is = tt
headlined played reported Quorums input answer is = tt
headlined played reported Hex input answer is = tt
headlined played reported Text input answer is = tt
