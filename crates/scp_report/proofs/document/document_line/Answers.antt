use Rattle.std.proofs.Common.{string_bytes}
use Rattle.serde_json.specs.View.{view}
use Rattle.scp_report.proofs.Documents.{text_is}
use Rattle.scp_report.proofs.document.document_line.Goals as goal

pub returns : goal.returns
returns c = λ views e. text_is views (view c.args.document.now) (string_bytes c.in_ok-text.text) (string_bytes c.push_str.new.self) e c.in_ok-text.ensures.text c.in_ok-push_str.ensures.bytes
