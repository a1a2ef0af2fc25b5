use Rattle.text_and_lists.specs.Order.{text_eq}
use Rattle.cluster_fs.proofs.Renamed.{onto_another, onto_itself}
use Rattle.cluster_fs.proofs.cluster.Cluster.rename.Goals.{else-ne, then-ne}
use Rattle.s3_types.specs.Answer.{renamed}
use Rattle.s3_types.specs.Store.{Files}
use Rattle.std.proofs.Common.{Bool, Some, ap, false, not, sym, true, ◌∙◌, ◌≡◌}
use Rattle.std.specs.FinMap as map
use Rattle.cluster_fs.proofs.cluster.Cluster.rename.Goals as goal

not_is : (b r : Bool) → r ≡ not b → not r ≡ b
not_is true r h = ap not h
not_is false r h = ap not h

pub returns-clause-ok : goal.returns-clause-ok
returns-clause-ok c =
    let bytes : c.in_ok-bytes.bytes ≡ c.in-Some.bytes.now = c.in_ok-bytes.ensures.cases in
    let put : c.put.new.self ≡ map.insert c.args.self.now c.args.target.now c.in-Some.bytes.now = c.in_ok-put.ensures.ok ∙ ap
    (map.insert c.args.self.now c.args.target.now) bytes in
    let is : renamed c.args.self.now c.args.source.now c.args.target.now (Some c.in-Some.bytes.now) ≡ renamed c.args.self.now
    c.args.source.now c.args.target.now (map.get c.args.self.now c.args.source.now) =
    ap (renamed c.args.self.now c.args.source.now c.args.target.now) c.in-Some.ensures in
    elim c.if-ne.branch [
      | then-ne w ↦
          let n : text_eq c.args.source.now c.args.target.now ≡ false = sym (not_is _ c.ne.result c.ne.ensures) ∙ ap not w.if-ne.true in
          w.self-is ∙ w.delete.ensures ∙ ap (λ (m : Files). map.remove m c.args.source.now) put
          ∙ onto_another c.args.self.now c.args.source.now c.args.target.now c.in-Some.bytes.now n ∙ is
      | else-ne w ↦
          let n : text_eq c.args.source.now c.args.target.now ≡ true = sym (not_is _ c.ne.result c.ne.ensures) ∙ ap not w.if-ne.false in
          w.self-is ∙ put ∙ onto_itself c.args.self.now c.args.source.now c.args.target.now c.in-Some.bytes.now n ∙ is
    ]
