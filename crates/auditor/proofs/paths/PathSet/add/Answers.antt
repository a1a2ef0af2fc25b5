use Rattle.std.proofs.Common.{List, ap, sym, ℕ, ◌||◌, ◌∙◌}
use Rattle.text_and_lists.specs.Order.{text_eq}
use Rattle.auditor.specs.inner.Paths.{has_path}
use Rattle.auditor.proofs.Sets.{has_added}
use Rattle.auditor.proofs.paths.PathSet.add.Goals as goal

pub returns : goal.returns
returns c = record {
  ok = λ p. has_added p c.self.inside.paths.keys c.insert.new.self.keys c.args.path c.in_ok-insert.ensures.keys
      ∙ ap (λ (l : List (List ℕ)). text_eq p c.args.path || has_path p l) c.self.view_is;
}
