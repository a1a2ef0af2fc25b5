use Rattle.std.proofs.Common.{refl}
use Rattle.auditor.proofs.Opening.{begun}
use Rattle.auditor.proofs.audit.Audit.begin.Goals as goal

pub returns : goal.returns
returns c = record {
  begun = begun _ c.args.dest c.args.keeps c.args.tasks c.in_ok-new.ensures.same c.new-2.ensures.new c.new-2.ensures.waits
      c.new-3.ensures.none refl;
}
