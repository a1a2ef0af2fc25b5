use Rattle.list_walk.specs.Walks.{keys_on}
use Rattle.std.proofs.Common.{ap, arith, length, subst, sym, ◌∙◌}
use Rattle.std.proofs.lemmas.Option.{slice_get_within}
use Rattle.task_magic.proofs.Committed.{goes_gone_at, goes_read_at, keeps_read_at, within_at}
use Rattle.task_magic.specs.Committing.{HoldsCommit, commit_by, commit_of}
use Rattle.task_requests.specs.Publishing.{picked}
use Rattle.task_magic.proofs.committing.Committing.hear_record.Goals as goal

pub record_at-requires : goal.record_at-requires
record_at-requires c = within_at (length c.args.plan.now.files) c.args.self.now.places c.args.self.now.at c.args.place
    c.requires.keeps.within c.requires.at

pub returns-then-is_no_key-clause-goes : goal.returns-then-is_no_key-clause-goes
returns-then-is_no_key-clause-goes c =
    let h = c.args.self.now in
    ap (commit_of c.args.plan.now) c.finish.ensures
    ∙ goes_gone_at c.args.plan.now h.listing (keys_on h.walk) h.places h.at c.args.place h.end c.args.reply.now c.requires.end
    c.requires.listing c.requires.at c.requires.fits
    c.in_ok-name.name (sym c.is_no_key.ensures ∙ c.if-is_no_key.true) (c.in_ok-name.ensures ∙ c.in_ok-key.ensures)

pub behind-self-requires : goal.behind-self-requires
behind-self-requires c = omega (
  arith,
  c.len.ensures,
  slice_get_within c.args.self.now.places c.args.self.now.at c.args.place
      (sym c.requires.at),
)

pub returns-clause-keeps : goal.returns-clause-keeps
returns-clause-keeps c =
    let h = c.args.self.now in
    subst (HoldsCommit c.args.plan.now h.places h.records) (sym c.behind-self.ensures)
    (keeps_read_at c.args.plan.now h.listing (keys_on h.walk) h.places h.at c.args.place h.end c.args.reply.now c.requires.end
    c.requires.listing c.requires.at c.requires.fits h.records (sym c.is_no_key.ensures ∙ c.if-is_no_key.false) c.requires.keeps)

pub returns-clause-goes : goal.returns-clause-goes
returns-clause-goes c =
    let h = c.args.self.now in
    ap (λ n. commit_by h.listing (keys_on h.walk) (picked c.args.plan.now.files h.places) n h.end) c.behind-self.ensures
    ∙ goes_read_at c.args.plan.now h.listing (keys_on h.walk) h.places h.at c.args.place h.end c.args.reply.now c.requires.end
    c.requires.listing c.requires.at c.requires.fits (sym c.is_no_key.ensures ∙ c.if-is_no_key.false)
