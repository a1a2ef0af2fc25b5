use Rattle.std.proofs.Common.{◌<◌, ◌≡◌, length, rules, subst, sym, vec_len}
use Rattle.audit_judge.proofs.Picking.{as_long, no_pick, place_within, some_pick}
use Rattle.audit_judge.proofs.judge.Judge.pick.Goals as goal

pub index-requires : goal.index-requires
index-requires c =
    let n : vec_len c.self.inside.candidates ≡ length c.self.inside.candidates.items = search rules in
    subst (λ k. c.in-Some.at < k) (sym n) (place_within c.args.self.now c.self.inside.known c.self.inside.begun c.self.inside.marker
    c.self.inside.needed
    c.self.inside.candidates.items c.requires.follows.0 c.self.view_is c.requires.follows.1 c.args.task c.in-Some.at
    c.in-Some.attempts.now c.in-Some.ensures.found)

pub least_up-requires : goal.least_up-requires
least_up-requires c = record {
  places = as_long c.args.self.now c.self.inside.known c.self.inside.begun c.self.inside.marker c.self.inside.needed
      c.self.inside.candidates.items c.requires.follows.0 c.self.view_is c.requires.follows.1 c.args.task c.in-Some.at
      c.in-Some.attempts.now c.index.result.now c.in-Some.ensures.found c.index.ensures;
}

pub returns-clause-some : goal.returns-clause-some
returns-clause-some c m f = some_pick c.args.self.now c.self.inside.known c.self.inside.begun c.self.inside.marker c.self.inside.needed
    c.self.inside.candidates.items m c.self.view_is f c.args.task c.in-Some.at
    c.in-Some.attempts.now c.index.result.now c.in-Some.ensures.found c.index.ensures c.least_up.result c.least_up.ensures.least

pub returns-clause-none : goal.returns-clause-none
returns-clause-none c m f = no_pick c.args.self.now c.self.inside.known c.self.inside.begun c.self.inside.marker c.self.inside.needed
    c.self.inside.candidates.items m c.self.view_is f c.args.task c.in-Some.at
    c.in-Some.attempts.now c.index.result.now c.in-Some.ensures.found c.index.ensures c.least_up.result c.least_up.ensures.least
