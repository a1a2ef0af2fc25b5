use Rattle.serde_json.specs.Data.{put}
use Rattle.std.proofs.Common.{ap, arith, sym, ◌∙◌}
use Rattle.std.proofs.lemmas.Result.{on_ok_weaker}
use Rattle.trace_lines.proofs.Places.{put_before, put_behind, put_last, put_over}
use Rattle.trace_lines.specs.Members.{data_of, listed}
use Rattle.trace_lines.proofs.line.put.Goals as goal

pub returns-in-Less-clause-ok : goal.returns-in-Less-clause-ok
returns-in-Less-clause-ok c =
    let m = c.args.member in
    on_ok_weaker c.insert_at.result (λ made. ap listed made
    ∙ put_before _ _ m _ (omega arith) c.index.ensures (sym c.name_order.ensures ∙ c.in-Less.is) c.loop-at.invariant.passes
    ∙ ap (λ ms. put m.name.now (data_of m.value) (listed ms)) c.loop-at.invariant.same) c.insert_at.ensures.ok

pub returns-in-Equal-clause-ok : goal.returns-in-Equal-clause-ok
returns-in-Equal-clause-ok c =
    let m = c.args.member in
    put_over _ _ m _ (omega arith) c.index.ensures (sym c.name_order.ensures ∙ c.in-Equal.is) c.loop-at.invariant.passes
    ∙ ap (λ ms. put m.name.now (data_of m.value) (listed ms)) c.loop-at.invariant.same

pub loop-at-preserved : goal.loop-at-preserved
loop-at-preserved c = record {
  same = c.loop-at.invariant.same;
  passes = put_behind _ _ c.args.member _ (omega arith) c.index.ensures (sym c.name_order.ensures ∙ c.in-Greater.is)
      c.loop-at.invariant.passes;
}

pub returns-clause-ok : goal.returns-clause-ok
returns-clause-ok c =
    let m = c.args.member in
    on_ok_weaker c.insert_at-2.result (λ made. ap listed made
    ∙ put_last c.loop-at.members.items c.loop-at.at c.len-end.result m (omega arith) (omega arith) c.loop-at.invariant.passes
    ∙ ap (λ ms. put m.name.now (data_of m.value) (listed ms)) c.loop-at.invariant.same) c.insert_at-2.ensures.ok
