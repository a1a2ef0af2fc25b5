use Rattle.s3a_top.proofs.Ending.{ends_written}
use Rattle.s3a_top.proofs.top.run.Goals as goal

pub returns-clause-due : goal.returns-clause-due
returns-clause-due g c =
    let left = g.Q.Source.left in
    let written = g.K.Sink.written in
    let new = c.worked-work.new in
    let e = c.worked-work.ensures in
    (ends_written g.F.Shelf.sight c.args.words.now (left c.args.input.now) (left new.input) c.args.shelf.now new.shelf _ _ _ _
    c.worked-work.result c.say-status.result c.code.result (written c.args.out.now) (written c.say-status.new.out) c.code.ensures
    c.say-status.ensures.text e.comes e.shows).due

pub returns-clause-read : goal.returns-clause-read
returns-clause-read g c =
    let left = g.Q.Source.left in
    let written = g.K.Sink.written in
    let new = c.worked-work.new in
    let e = c.worked-work.ensures in
    (ends_written g.F.Shelf.sight c.args.words.now (left c.args.input.now) (left new.input) c.args.shelf.now new.shelf _ _ _ _
    c.worked-work.result c.say-status.result c.code.result (written c.args.out.now) (written c.say-status.new.out) c.code.ensures
    c.say-status.ensures.text e.comes e.shows).read

pub returns-clause-shelf : goal.returns-clause-shelf
returns-clause-shelf g c =
    let left = g.Q.Source.left in
    let written = g.K.Sink.written in
    let new = c.worked-work.new in
    let e = c.worked-work.ensures in
    (ends_written g.F.Shelf.sight c.args.words.now (left c.args.input.now) (left new.input) c.args.shelf.now new.shelf _ _ _ _
    c.worked-work.result c.say-status.result c.code.result (written c.args.out.now) (written c.say-status.new.out) c.code.ensures
    c.say-status.ensures.text e.comes e.shows).shelf

pub returns-clause-job : goal.returns-clause-job
returns-clause-job g c command is kind =
    let left = g.Q.Source.left in
    let written = g.K.Sink.written in
    let new = c.worked-work.new in
    let e = c.worked-work.ensures in
    (ends_written g.F.Shelf.sight c.args.words.now (left c.args.input.now) (left new.input) c.args.shelf.now new.shelf _ _ _ _
    c.worked-work.result c.say-status.result c.code.result (written c.args.out.now) (written c.say-status.new.out) c.code.ensures
    c.say-status.ensures.text e.comes e.shows).job command is kind

pub returns-clause-store : goal.returns-clause-store
returns-clause-store g c command is kind =
    let left = g.Q.Source.left in
    let written = g.K.Sink.written in
    let new = c.worked-work.new in
    let e = c.worked-work.ensures in
    (ends_written g.F.Shelf.sight c.args.words.now (left c.args.input.now) (left new.input) c.args.shelf.now new.shelf _ _ _ _
    c.worked-work.result c.say-status.result c.code.result (written c.args.out.now) (written c.say-status.new.out) c.code.ensures
    c.say-status.ensures.text e.comes e.shows).store command is kind

pub returns-clause-quiet : goal.returns-clause-quiet
returns-clause-quiet g c command is kind =
    let left = g.Q.Source.left in
    let written = g.K.Sink.written in
    let new = c.worked-work.new in
    let e = c.worked-work.ensures in
    (ends_written g.F.Shelf.sight c.args.words.now (left c.args.input.now) (left new.input) c.args.shelf.now new.shelf _ _ _ _
    c.worked-work.result c.say-status.result c.code.result (written c.args.out.now) (written c.say-status.new.out) c.code.ensures
    c.say-status.ensures.text e.comes e.shows).quiet command is kind

pub returns-clause-trace_job : goal.returns-clause-trace_job
returns-clause-trace_job g c command is kind =
    let left = g.Q.Source.left in
    let written = g.K.Sink.written in
    let new = c.worked-work.new in
    let e = c.worked-work.ensures in
    (ends_written g.F.Shelf.sight c.args.words.now (left c.args.input.now) (left new.input) c.args.shelf.now new.shelf _ _ _ _
    c.worked-work.result c.say-status.result c.code.result (written c.args.out.now) (written c.say-status.new.out) c.code.ensures
    c.say-status.ensures.text e.comes e.shows).trace_job command is kind

pub returns-clause-trace_store : goal.returns-clause-trace_store
returns-clause-trace_store g c command is kind =
    let left = g.Q.Source.left in
    let written = g.K.Sink.written in
    let new = c.worked-work.new in
    let e = c.worked-work.ensures in
    (ends_written g.F.Shelf.sight c.args.words.now (left c.args.input.now) (left new.input) c.args.shelf.now new.shelf _ _ _ _
    c.worked-work.result c.say-status.result c.code.result (written c.args.out.now) (written c.say-status.new.out) c.code.ensures
    c.say-status.ensures.text e.comes e.shows).trace_store command is kind

pub returns-clause-trace_loads : goal.returns-clause-trace_loads
returns-clause-trace_loads g c asks =
    let left = g.Q.Source.left in
    let written = g.K.Sink.written in
    let new = c.worked-work.new in
    let e = c.worked-work.ensures in
    (ends_written g.F.Shelf.sight c.args.words.now (left c.args.input.now) (left new.input) c.args.shelf.now new.shelf _ _ _ _
    c.worked-work.result c.say-status.result c.code.result (written c.args.out.now) (written c.say-status.new.out) c.code.ensures
    c.say-status.ensures.text e.comes e.shows).trace_loads asks

pub returns-clause-usage : goal.returns-clause-usage
returns-clause-usage g c none =
    let left = g.Q.Source.left in
    let written = g.K.Sink.written in
    let new = c.worked-work.new in
    let e = c.worked-work.ensures in
    (ends_written g.F.Shelf.sight c.args.words.now (left c.args.input.now) (left new.input) c.args.shelf.now new.shelf _ _ _ _
    c.worked-work.result c.say-status.result c.code.result (written c.args.out.now) (written c.say-status.new.out) c.code.ensures
    c.say-status.ensures.text e.comes e.shows).usage none

pub returns-clause-command : goal.returns-clause-command
returns-clause-command g c is =
    let left = g.Q.Source.left in
    let written = g.K.Sink.written in
    let new = c.worked-work.new in
    let e = c.worked-work.ensures in
    (ends_written g.F.Shelf.sight c.args.words.now (left c.args.input.now) (left new.input) c.args.shelf.now new.shelf _ _ _ _
    c.worked-work.result c.say-status.result c.code.result (written c.args.out.now) (written c.say-status.new.out) c.code.ensures
    c.say-status.ensures.text e.comes e.shows).command is
