use Rattle.std.proofs.Common.{ap, string_bytes, [], ◌++◌, ◌∙◌, ◌∷◌}
use Rattle.std.proofs.lemmas.Result.{on_ok_weaker}
use Rattle.trace_lines.proofs.Sent.{line_written}
use Rattle.trace_lines.proofs.line.Line.write.Goals as goal

pub returns-in-Ok-clause-ok : goal.returns-in-Ok-clause-ok
returns-in-Ok-clause-ok c =
    let sent = c.in-Ok.ensures.events in
    let is = line_written c.args.self.now.members.items sent.0 (string_bytes c.in-Ok.line) sent.1 sent.2 in
    on_ok_weaker c.push_line.result (λ pushed. pushed ∙ ap (λ bs. string_bytes c.args.text.now ++ (bs ++ 10 ∷ [])) is)
    c.push_line.ensures.ok
