use Rattle.std.proofs.Common.{ap, refl, subst, sym, ◌∙◌, true, false, ◌≡◌}
use Rattle.std.proofs.lemmas.Bool.{false≢true}
use Rattle.audit_top.proofs.Answering.{some_lines}
use Rattle.audit_top.specs.Answer.{IsAnswer}
use Rattle.audit_top.specs.inner.Answer.{text_of}
use Rattle.audit_top.specs.inner.Progress.{Judged}
use Rattle.audit_top.specs.declared.verdict.Verdict.{Verdict}
use Rattle.trace_reader.specs.Faults.{wanting}
use Rattle.audit_top.proofs.answer.answer_of.Goals as goal

pub fault_text-requires : goal.fault_text-requires
fault_text-requires c = record {
  of_trace = λ e.
      let judged = subst (λ (v : Verdict). Judged c.requires.judged.0 c.args.auditor.now v) c.in-Faulty.is c.requires.judged.1 in
      false≢true (sym judged.0 ∙ ap wanting e);
}

pub over-requires : goal.over-requires
over-requires c =
    let judged = subst (λ (v : Verdict). Judged c.requires.judged.0 c.args.auditor.now v) c.in-Over.is c.requires.judged.1 in
    record { told = (judged.lines, judged.told) }

pub returns-in-Failed-clause-right : goal.returns-in-Failed-clause-right
returns-in-Failed-clause-right c left h = ((some_lines left).0, (some_lines left).1, refl)

pub returns-in-NoMemory-clause-right : goal.returns-in-NoMemory-clause-right
returns-in-NoMemory-clause-right c left h = (
  (some_lines left).0,
  (some_lines left).1,
  subst (λ d. IsAnswer d (text_of c.no_memory.result.text) (some_lines left).0) (sym c.no_memory.ensures.due) c.no_memory.ensures.text,
)
