use Rattle.s3a_top.proofs.Pieces.{IsWrittenSoFar, more_written, on_error, some_written}
use Rattle.s3a_top.specs.Bytes.{WritesSome}
use Rattle.std.proofs.Common.{List, Option, rules, subst, sym, ℕ}
use Rattle.s3a_top.proofs.output.write_output.Goals as goal

pub returns-in_err-n-clause-partly : goal.returns-in_err-n-clause-partly
returns-in_err-n-clause-partly g c =
    let written = g.K.Sink.written in
    let some = some_written (written c.args.out.now) (written c.loop-rest.out) c.args.bytes.now c.loop-rest.rest.now
    c.loop-rest.invariant.written in
    on_error c.from_residual.result (subst (λ (o : Option (List ℕ)). WritesSome (written c.args.out.now) o c.args.bytes.now)
    (sym c.in_err-n.ensures.same) some)

pub returns-then-n-eq0-clause-partly : goal.returns-then-n-eq0-clause-partly
returns-then-n-eq0-clause-partly g c =
    let written = g.K.Sink.written in
    some_written (written c.args.out.now) (written c.write.new.self) c.args.bytes.now _
    (more_written (written c.args.out.now) (written c.loop-rest.out) (written c.write.new.self) c.args.bytes.now c.loop-rest.rest.now
    c.in_ok-n.n c.loop-rest.invariant.written c.in_ok-n.ensures.appended)

pub loop-rest-preserved : goal.loop-rest-preserved
loop-rest-preserved g c =
    let written = g.K.Sink.written in
    record {
      calm = search rules;
      written = subst (IsWrittenSoFar (written c.args.out.now) (written c.write.new.self) c.args.bytes.now) (sym c.split_at.ensures.back)
          (more_written (written c.args.out.now) (written c.loop-rest.out) (written c.write.new.self) c.args.bytes.now c.loop-rest.rest.now
          c.in_ok-n.n c.loop-rest.invariant.written c.in_ok-n.ensures.appended);
    }

pub returns-clause-partly : goal.returns-clause-partly
returns-clause-partly g c =
    let written = g.K.Sink.written in
    let some = some_written (written c.args.out.now) (written c.loop-rest.out) c.args.bytes.now c.loop-rest.rest.now
    c.loop-rest.invariant.written in
    on_error c.flush.result (subst (λ (o : Option (List ℕ)). WritesSome (written c.args.out.now) o c.args.bytes.now)
    (sym c.flush.ensures.same) some)
