use Rattle.job_examples.specs.Jobs.{worker}
use Rattle.job_examples.specs.Strays.{stray}
use Rattle.job_model.specs.declared.events.Event.TheVariants.{Do}
use Rattle.job_model.specs.declared.events.Op.TheVariants.{Setup}
use Rattle.s3_types.specs.declared.request.Actor.TheVariants.{Attempt, Driver}
use Rattle.std.proofs.Common.{arith, refl, [], ◌≡◌, ◌≤◌}
use Rattle.job_examples.proofs.strays.Goals as goal

pub returns : goal.returns
returns c = record {
  no_event = λ p. let h : 1 ≤ 0 = p.numbered.0 in absurd (omega arith);
  undeclared = λ p. let h : Attempt 9 9 ≡ Driver = ((p.unended (Do Driver Setup) refl).turns refl).0 in cc;
  idle = λ p. let h : worker ≡ Driver = ((p.unended (Do Driver Setup) refl).turns refl).0 in cc;
  late = λ p. let h : stray 5 Driver ≡ [] = p.none refl in cc;
}
