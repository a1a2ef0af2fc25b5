use Rattle.std.proofs.Common.{length, refl}
use Rattle.std.proofs.lemmas.Option.{slice_get_read}
use Rattle.trace_text.proofs.Following.{follows_on, one_of_all, told_tells}
use Rattle.trace_text.proofs.sends.write_all.Goals as goal

pub write_send-requires-clause-tag : goal.write_send-requires-clause-tag
write_send-requires-clause-tag g c =
    let es = c.args.entries.now in
    let e = c.in-Some.entry.now in
    let found = c.in-Some.ensures.lookup in
    told_tells g.opening es c.sends.tape e c.sends.invariant.follows
    (slice_get_read es (length es) c.sends.tape.at e refl found.3.0 found.1)

pub sends-preserved : goal.sends-preserved
sends-preserved g c =
    let es = c.args.entries.now in
    let t = c.sends.tape in
    let u = c.write_send.new.tape in
    let e = c.in-Some.entry.now in
    let so_far = c.sends.invariant in
    let found = c.in-Some.ensures.lookup in
    let here = slice_get_read es (length es) t.at e refl found.3.0 found.1 in
    let written = c.in_ok-write_send.ensures in
    record {
      follows = follows_on g.opening es t e so_far.follows here c.args.commit u written;
      text = one_of_all g.opening es t e so_far.follows here c.args.commit u written _ so_far.text;
    }
