use Rattle.std.proofs.Common.{◌∙◌, ◌<◌, length, arith}
use Rattle.conflict.proofs.Deleting.{fits_here, goes_on, goes_next}
use Rattle.conflict.proofs.kept.DeleteKept.hear.Goals as goal

pub hear-requires : goal.hear-requires
hear-requires c =
    let d = c.self.inside in
    let within : d.at < length d.prefixes = omega (arith, c.if-self-len.false, c.len.ensures) in
    fits_here d.prefixes d.at d.sweep d.test.prefix c.args.reply.now within c.args.self.now c.self.view_is c.requires

pub returns-then-branch : goal.returns-then-branch
returns-then-branch c =
    let d = c.self.inside in
    let within : d.at < length d.prefixes = omega (arith, c.if-self-len.false, c.len.ensures) in
    goes_on d.prefixes d.at d.sweep d.test.prefix c.args.reply.now within c.args.self.now c.in_ok-hear.field-0 c.hear.new.self
    c.self.view_is c.in_ok-hear.ensures c.if-branch.true

pub returns : goal.returns
returns c =
    let d = c.self.inside in
    let within : d.at < length d.prefixes = omega (arith, c.if-self-len.false, c.len.ensures) in
    goes_next d.prefixes d.at d.sweep d.test.prefix c.args.reply.now within c.args.self.now c.in_ok-hear.field-0 c.hear.new.self
    c.put.new.place c.self.view_is c.in_ok-hear.ensures c.if-branch.false (c.put.ensures ∙ c.new.ensures)
