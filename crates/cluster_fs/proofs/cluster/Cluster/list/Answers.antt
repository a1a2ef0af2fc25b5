use Rattle.text_and_lists.proofs.Tree.{entries_made}
use Rattle.text_and_lists.specs.Order.{text_total}
use Rattle.cluster_fs.proofs.Listed.{is_rest}
use Rattle.s3_types.specs.Pages.{begins}
use Rattle.std.proofs.Common.{List, ap, subst, sym, ℕ, ◌∙◌, ◌≡◌}
use Rattle.std.specs.List.{filter}
use Rattle.std.specs.Map.{keys_of}
use Rattle.std.specs.Prelude.{IfOk}
use Rattle.std.specs.FinMap as map
use Rattle.cluster_fs.proofs.cluster.Cluster.list.Goals as goal

pub paths_of-requires : goal.paths_of-requires
paths_of-requires c = (is_rest c.args.prefix.now c.self.inside.held.entries c.range-rest.result c.range-rest.ensures.ordered
    (c.range-rest.ensures.between tt)).follows

pub returns : goal.returns
returns c =
    let e : filter (begins c.args.prefix.now) (keys_of c.range-rest.result) ≡ filter (begins c.args.prefix.now) (map.keys c.args.self.now) =
    (is_rest c.args.prefix.now c.self.inside.held.entries c.range-rest.result c.range-rest.ensures.ordered
    (c.range-rest.ensures.between tt)).all
    ∙ ap (λ (l : List (List ℕ × List ℕ)). filter (begins c.args.prefix.now) (keys_of l))
    (sym (entries_made text_total c.self.inside.held.entries c.range-rest.ensures.ordered) ∙ ap map.entries c.self.view_is) in
    subst (λ (l : List (List ℕ)). IfOk c.paths_of.result (λ paths. paths ≡ l)) e c.paths_of.ensures
