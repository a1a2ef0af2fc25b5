use Rattle.journal_log.proofs.Imaged.{all_joined, moments}
use Rattle.journal_log.proofs.Journals.{changes_none}
use Rattle.journal_log.proofs.Steps.{changes_more}
use Rattle.journal_log.specs.Changes.{changes}
use Rattle.journal_log.specs.Made.{IsMade}
use Rattle.s3_types.specs.declared.journal.Entry.{Entry}
use Rattle.std.proofs.Common.{List, subst, sym, take, [], ◌∙◌, ◌∷◌}
use Rattle.std.proofs.lemmas.List.{take_all}
use Rattle.std.specs.List.{AllByRecursion}
use Rattle.journal_log.proofs.images.keeps_images.Goals as goal

pub loop-entry-init : goal.loop-entry-init
loop-entry-init c = subst (AllByRecursion IsMade) (sym changes_none) tt

pub loop-entry-preserved : goal.loop-entry-preserved
loop-entry-preserved c =
    let es = c.as_slice-entries.result.now in
    let i = c.loop-entry.entry-index in
    let e = c.entry-item.result in
    subst (AllByRecursion IsMade) (sym (changes_more es i e c.loop-entry-test.true c.entry-item.is))
    (all_joined IsMade (changes (take i es)) (changes (e ∷ [])) c.loop-entry.invariant c.entry_made.ensures)

pub returns : goal.returns
returns c opening =
    let es = c.as_slice-entries.result.now in
    moments opening c.args.journal.now.entries (subst (λ (l : List Entry). AllByRecursion IsMade (changes l))
    (take_all c.loop-entry.entry-index es c.loop-entry-test.false ∙ c.as_slice-entries.ensures.entries) c.loop-entry.invariant)
