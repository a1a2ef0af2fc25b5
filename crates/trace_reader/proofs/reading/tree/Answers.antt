use Rattle.std.proofs.Common.{sym, ◌∙◌, true≢false}
use Rattle.trace_reader.proofs.Trees.{tree_found, tree_refused}
use Rattle.trace_reader.proofs.reading.tree.Goals as goal

pub returns-in-Ok : goal.returns-in-Ok
returns-in-Ok c = tree_found _ _ c.in-Ok.ensures.ok.0 c.in-Ok.ensures.ok.1

pub returns-else-is_memory : goal.returns-else-is_memory
returns-else-is_memory c = tree_refused _ (c.in-Err.ensures.err (λ m. true≢false (sym (c.is_memory.ensures.1 m) ∙ c.if-is_memory.false)))
